use Rattle.std.proofs.Common.{rules, arith, ◌≡◌, ◌<◌, length, take}
use Rattle.flk_text.specs.Fields.{trimmed}
use Rattle.flk_text.proofs.FieldLemmas.{fields_cut, fields_end}
use Rattle.flk_text.proofs.field_list.cut.Goals as goal

pub returns-then-end-rest : goal.returns-then-end-rest
returns-then-end-rest c =
    let first : c.trimmed-first.result.now ≡ trimmed (take c.position_of-end.result c.args.rest.now) = search rules in
    fields_end c.args.rest.now c.trimmed-first.result.now c.position_of-end.result c.position_of-end.ensures.place c.if-end-rest.true first

pub returns-else-end-rest : goal.returns-else-end-rest
returns-else-end-rest c =
    let first : c.trimmed-first.result.now ≡ trimmed (take c.position_of-end.result c.args.rest.now) = search rules in
    let more : c.position_of-end.result < length c.args.rest.now = omega (arith, c.position_of-end.ensures.within, c.if-end-rest.false) in
    fields_cut c.args.rest.now c.trimmed-first.result.now c.position_of-end.result c.position_of-end.ensures.place more first
