use Rattle.std.proofs.Common.{refl}
use Rattle.flk_dat.proofs.StateLemmas.{stands_new}
use Rattle.flk_dat.proofs.reader.Reader.new.Goals as goal

pub returns-clause-stands : goal.returns-clause-stands
returns-clause-stands c = stands_new _ refl refl c.in_ok-new-2.ensures refl
