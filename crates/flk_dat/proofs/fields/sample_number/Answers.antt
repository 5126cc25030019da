use Rattle.std.proofs.Common.{inl, inr, refl, sym, ◌∙◌}
use Rattle.std.proofs.lemmas.Bool.{true≢false}
use Rattle.flk_dat.specs.SampleFields.{Refuses}
use Rattle.flk_dat.proofs.fields.sample_number.Goals as goal

pub returns-in-Err : goal.returns-in-Err
unfolding Refuses
returns-in-Err c = λ field answer. inl (c.in-Err.ensures.value field answer)

pub returns-then-follows : goal.returns-then-follows
returns-then-follows c = λ field answer. (c.in-Ok.ensures.value field answer, c.follows.ensures.0 c.if-follows.true)

pub returns-else-follows : goal.returns-else-follows
unfolding Refuses
returns-else-follows c = λ field answer. inr (refl, c.in-Ok.value, c.in-Ok.ensures.value field answer, λ after. true≢false (sym (c.follows.ensures.1 after) ∙ c.if-follows.false))
