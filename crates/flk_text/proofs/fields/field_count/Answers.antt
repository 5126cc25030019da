use Rattle.std.proofs.Common.{◌≡◌, ap, take, arith}
use Rattle.std.specs.List.{count_by}
use Rattle.std.proofs.lemmas.List.{take_all}
use Rattle.flk_text.specs.Lines.{is_byte}
use Rattle.flk_text.proofs.FieldLemmas.{fields_count}
use Rattle.flk_text.proofs.fields.field_count.Goals as goal

pub returns : goal.returns
returns c =
    let all : take c.loop-each.each-index c.args.line.now ≡ c.args.line.now = take_all c.loop-each.each-index c.args.line.now (omega (arith, c.loop-each-test.false)) in
    omega (arith, c.loop-each.invariant, ap (count_by (is_byte 44)) all, fields_count c.args.line.now)
