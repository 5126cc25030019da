use Rattle.flk_dat.proofs.FileLaws.{each_once, file_once}
use Rattle.flk_dat.proofs.laws.bytes_have_one_list_of_records.Goals as goal

pub returns : goal.returns
returns c = record { each = each_once; whole = file_once }
