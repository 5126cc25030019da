use Rattle.flk_dat.proofs.WrittenFiles.{written_file}
use Rattle.flk_dat.proofs.laws.written_records_are_a_file.Goals as goal

pub returns : goal.returns
returns c = written_file
