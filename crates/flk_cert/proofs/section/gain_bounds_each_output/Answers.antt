use Rattle.flk_cert.specs.Gain.{coefs_of, input_of, rounding_of}
use Rattle.flk_cert.proofs.GainLemmas.{gain_bounds}
use Rattle.flk_cert.proofs.PromiseLemmas.{bounds_each}
use Rattle.flk_cert.proofs.section.gain_bounds_each_output.Goals as goal

pub returns : goal.returns
returns c = λ gain. bounds_each (coefs_of gain) (input_of gain) (rounding_of gain) (gain_bounds gain)
