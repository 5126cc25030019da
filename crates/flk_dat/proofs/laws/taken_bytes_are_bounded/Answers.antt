use Rattle.flk_dat.proofs.TakenBytes.{taken_length}
use Rattle.flk_dat.proofs.laws.taken_bytes_are_bounded.Goals as goal

pub returns : goal.returns
returns c = taken_length
