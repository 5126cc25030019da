use Rattle.std.proofs.Common.{◌≤ℤ◌, pos, arith, refl, inr, Err}
use Rattle.std.proofs.lemmas.Int.{ints}
use Rattle.flk_text.specs.Decimal.{IsDecimal, IsAnswer}
use Rattle.flk_text.specs.declared.decimals.NumFault.TheVariants.{Range}
use Rattle.flk_field.specs.Sets.{Refuses}
use Rattle.flk_field.proofs.FieldJudges.{decimal_form, not_above}
use Rattle.flk_field.proofs.fields.frequency.Goals as goal

pub returns-in-Ok-2 : goal.returns-in-Ok-2
unfolding Refuses
returns-in-Ok-2 c =
    let v : IsDecimal c.args.field.now c.in-Ok.value.n = c.in-Ok.ensures.answer in
    let low : c.in-Ok.value.n ≤ℤ pos 0 = omega (arith, ints, c.if-value-gt0.false) in
    inr (refl, decimal_form c.args.field.now c.in-Ok.value.n v, not_above c.args.field.now c.in-Ok.value.n v low)

pub returns-in-Err-Range : goal.returns-in-Err-Range
unfolding Refuses
returns-in-Err-Range c =
    let far : IsAnswer c.args.field.now (Err Range) = rw c.in-Err-Range.field-0-is at c.in-Err-Range.ensures.answer in
    inr (refl, far.0, λ y is. far.1 y is.value)
