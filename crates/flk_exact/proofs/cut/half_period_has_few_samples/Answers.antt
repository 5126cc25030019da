use Rattle.flk_exact.proofs.CutLemmas.{few_samples}
use Rattle.flk_exact.proofs.cut.half_period_has_few_samples.Goals as goal

pub returns : goal.returns
returns c = few_samples
