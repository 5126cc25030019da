use Rattle.flk_dat.proofs.FileLaws.{accepted_or_fault}
use Rattle.flk_dat.proofs.laws.accepted_bytes_have_no_fault.Goals as goal

pub returns : goal.returns
returns c = accepted_or_fault
