use Rattle.flk_cfg.proofs.ConfigLaws.{one_config}
use Rattle.flk_cfg.proofs.laws.bytes_have_one_configuration.Goals as goal

pub returns : goal.returns
returns c = λ bytes one other a b. one_config bytes one other a b
