use Rattle.std.proofs.Common.{◌≢◌, ℤ, refl, inr, rules}
use Rattle.flk_text.specs.Decimal.{IsDecimal, IsForm}
use Rattle.flk_num.specs.declared.rate.Rate.TheVariants.{R2400, R4800}
use Rattle.flk_field.specs.Values.{rate_units}
use Rattle.flk_field.specs.Sets.{Refuses}
use Rattle.flk_field.proofs.FieldJudges.{decimal_form, no_rate}
use Rattle.flk_field.proofs.fields.sampling_rate.Goals as goal

pub returns-in-Ok-3 : goal.returns-in-Ok-3
unfolding Refuses
returns-in-Ok-3 c =
    let v : IsDecimal c.args.field.now c.in-Ok.value.n = c.in-Ok.ensures.answer in
    let low : c.in-Ok.value.n ≢ rate_units R2400 = search rules in
    let high : c.in-Ok.value.n ≢ rate_units R4800 = search rules in
    inr (refl, decimal_form c.args.field.now c.in-Ok.value.n v, no_rate c.args.field.now c.in-Ok.value.n v low high)

pub returns-in-Err-Range : goal.returns-in-Err-Range
unfolding Refuses
returns-in-Err-Range c =
    let far : IsForm c.args.field.now × ((z : ℤ) → IsDecimal c.args.field.now z → ⊥) = search rules in
    inr (refl, far.0, λ rate. far.1 (rate_units rate))
