use Rattle.flk_dat.proofs.FileLaws.{one_first_fault, one_fault_after}
use Rattle.flk_dat.proofs.laws.bytes_have_one_first_fault.Goals as goal

pub returns : goal.returns
returns c = record { fault = one_first_fault; behind = one_fault_after }
