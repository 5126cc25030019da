use Rattle.std.proofs.Common.{rules, ◌≡◌, ◌+◌, ◌≤◌, length, Err, string_bytes}
use Rattle.flk_io.specs.Causes.{TakesAll, TakesFront}
use Rattle.flk_num.specs.declared.stop.Stop.TheVariants.{Fault}
use Rattle.flk_cfg.specs.File.{IsConfig, IsFileAnswer}
use Rattle.flk_cfg.specs.Kinds.{kind_number}
use Rattle.flk_field.specs.declared.kind.Kind.TheVariants.{Length}
use Rattle.flk_cfg.proofs.ReadLaws.{read_is_valid}
use Rattle.flk_top.specs.Configuration.{configuration_limit, IsConfiguration}
use Rattle.flk_top.specs.Faults.{configuration_line}
use Rattle.flk_top.specs.declared.reply.Status.TheVariants.{Refused}
use Rattle.flk_top.proofs.Replies.{too_long_refused, fault_refused}
use Rattle.flk_top.proofs.configuration.read_configuration.Goals as goal
use Rattle.flk_top.proofs.AgreeingFiles.{MayHold-all}

pub returns-in-Ok-read_cfg-clause-valid : goal.returns-in-Ok-read_cfg-clause-valid
returns-in-Ok-read_cfg-clause-valid g c =
    let is : IsConfig c.deref.result.now c.in-Ok-read_cfg.config = search rules in
    read_is_valid c.deref.result.now c.in-Ok-read_cfg.config is

pub returns-in-Ok-read_cfg-clause-configuration : goal.returns-in-Ok-read_cfg-clause-configuration
returns-in-Ok-read_cfg-clause-configuration g c =
    let left = (g.F.Shelf.told c.args.shelf.now).left c.args.name.now in
    let after = (g.F.Shelf.told c.read_all.new.shelf).left c.args.name.now in
    let bytes = c.in-Ok.bytes.items in
    let took : TakesAll left after bytes = search rules in
    let is : IsConfiguration bytes c.in-Ok-read_cfg.config = search rules in
    (bytes, MayHold-all left after bytes took, is)

pub returns-in-Err-TooLong-clause-refusal : goal.returns-in-Err-TooLong-clause-refusal
returns-in-Err-TooLong-clause-refusal g c = λ fine.
    let left = (g.F.Shelf.told c.args.shelf.now).left c.args.name.now in
    let after = (g.F.Shelf.told c.read_all.new.shelf).left c.args.name.now in
    let reply = c.in_ok-too_long_reply-in-Err-TooLong.field-0 in
    let took : TakesFront left after (configuration_limit + 1) = search rules in
    let told : (reply.status ≡ Refused) × (string_bytes reply.text ≡ configuration_line 0 0 (kind_number Length)) = search rules in
    too_long_refused left after reply took told

pub returns-in-Err-Fault-clause-refusal : goal.returns-in-Err-Fault-clause-refusal
returns-in-Err-Fault-clause-refusal g c = λ fine.
    let left = (g.F.Shelf.told c.args.shelf.now).left c.args.name.now in
    let after = (g.F.Shelf.told c.read_all.new.shelf).left c.args.name.now in
    let bytes = c.in-Ok.bytes.items in
    let fault = c.in-Err-Fault.fault in
    let reply = c.in_ok-configuration_reply-in-Err-Fault.field-0 in
    let took : TakesAll left after bytes = search rules in
    let small : length bytes ≤ configuration_limit = search rules in
    let found : IsFileAnswer c.deref.result.now (Err (Fault fault)) = search rules in
    let first : IsFileAnswer bytes (Err (Fault fault)) = rw c.deref.ensures.value at found in
    let told : (reply.status ≡ Refused) × (string_bytes reply.text ≡ configuration_line fault.line fault.field fault.kind) = search rules in
    fault_refused left after bytes fault reply took small first told
