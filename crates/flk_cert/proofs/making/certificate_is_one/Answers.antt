use Rattle.flk_cert.proofs.MadeCases.{made_exists}
use Rattle.flk_cert.proofs.MakeLemmas.{IsMade-unique}
use Rattle.flk_cert.proofs.making.certificate_is_one.Goals as goal

pub returns-clause-exists : goal.returns-clause-exists
returns-clause-exists c = made_exists

pub returns-clause-unique : goal.returns-clause-unique
returns-clause-unique c = IsMade-unique
