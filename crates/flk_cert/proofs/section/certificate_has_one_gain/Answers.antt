use Rattle.flk_cert.proofs.GainLemmas.{gain_numbers_unique}
use Rattle.flk_cert.proofs.section.certificate_has_one_gain.Goals as goal

pub returns : goal.returns
returns c = gain_numbers_unique
