use Rattle.std.proofs.Common.{rules, ◌≡◌, ap, string_bytes}
use Rattle.flk_top.specs.Certified.{IsCertifiedLamp, IsRefusedLamp}
use Rattle.flk_top.specs.Outcome.{completed}
use Rattle.flk_top.specs.Tables.{tables_text, certified}
use Rattle.flk_top.proofs.TablesLemmas.{refused_reply}
use Rattle.flk_top.proofs.tables.tables_reply.Goals as goal

pub returns-in_ok-text-in-Ok : goal.returns-in_ok-text-in-Ok
returns-in_ok-text-in-Ok c =
    let found : IsCertifiedLamp c.args.lamp c.args.rate c.in-Ok.certified.sections.items = search rules in
    let is : string_bytes c.in_ok-text-in-Ok.text ≡ tables_text c.in-Ok.certified.sections.items = search rules in
    certified c.in-Ok.certified.sections.items found (ap completed is)

pub returns-in-Err-Fault : goal.returns-in-Err-Fault
returns-in-Err-Fault c =
    let is : IsRefusedLamp c.args.lamp c.args.rate c.in-Err-Fault.fault = search rules in
    refused_reply c.args.lamp c.args.rate c.in-Err-Fault.fault c.lamp_reply.result is c.lamp_reply.ensures
