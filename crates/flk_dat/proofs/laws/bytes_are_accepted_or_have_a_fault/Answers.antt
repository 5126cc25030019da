use Rattle.flk_dat.proofs.FileCases.{accepted_or_first_fault}
use Rattle.flk_dat.proofs.laws.bytes_are_accepted_or_have_a_fault.Goals as goal

pub returns : goal.returns
returns c = accepted_or_first_fault
