use Rattle.std.proofs.Common.{inl, rules, FitsSigned}
use Rattle.std.specs.Int.{w32}
use Rattle.std.proofs.lemmas.Int.{to_z-of_z}
use Rattle.flk_dat.specs.SampleFields.{Refuses}
use Rattle.flk_dat.proofs.fields.analog_value.Goals as goal

pub returns-in-Ok-2-clause-value : goal.returns-in-Ok-2-clause-value
returns-in-Ok-2-clause-value c = λ field answer.
    let fits : FitsSigned w32 c.in-Ok.value = search rules in
    simp to_z-of_z (c.in-Ok.ensures field answer)

pub returns-in-Err-clause-value : goal.returns-in-Err-clause-value
unfolding Refuses
returns-in-Err-clause-value c = λ field answer. inl (c.in-Err.ensures field answer)
