use Rattle.flk_cfg.proofs.LineLaws.{one_first_fault}
use Rattle.flk_cfg.proofs.laws.bytes_have_one_first_fault.Goals as goal

pub returns : goal.returns
returns c = λ bytes line other field place kind sort a b. one_first_fault bytes line other field place kind sort a b
