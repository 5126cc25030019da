use Rattle.flk_cfg.proofs.ReadLaws.{read_is_valid}
use Rattle.flk_cfg.proofs.canonical_laws.values_of_a_file_are_valid.Goals as goal

pub returns : goal.returns
returns c = read_is_valid
