use Rattle.flk_dat.specs.SampleFields.{Refuses}
use Rattle.flk_dat.proofs.fields.stamp_of.Goals as goal

pub returns-in-Err : goal.returns-in-Err
unfolding Refuses
returns-in-Err c = λ field answer some. (some, c.in-Err.ensures.value field answer)
