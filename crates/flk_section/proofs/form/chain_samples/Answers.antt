use Rattle.flk_section.proofs.ChainBound.{samples_are}
use Rattle.flk_section.proofs.form.chain_samples.Goals as goal

pub returns-clause-value : goal.returns-clause-value
returns-clause-value c = samples_are
