use Rattle.flk_dat.proofs.StandingLaws.{no_sure_fault}
use Rattle.flk_dat.proofs.laws.standing_bytes_have_no_sure_fault.Goals as goal

pub returns : goal.returns
returns c = no_sure_fault
