use Rattle.flk_dat.proofs.WritableLaws.{records_writable}
use Rattle.flk_dat.proofs.laws.records_of_a_file_can_be_written.Goals as goal

pub returns : goal.returns
returns c = λ l bytes rs k small first lt. records_writable l bytes rs small first k lt
