use Rattle.flk_top.proofs.MeasureLemmas.{measured_levels}
use Rattle.flk_top.proofs.measure.Measure.levels.Goals as goal

pub returns : goal.returns
returns c = λ recorded h. measured_levels c.args.self.now recorded c.requires h
