use Rattle.flk_cfg.proofs.ConfigLaws.{config_or_fault}
use Rattle.flk_cfg.proofs.laws.bytes_of_a_configuration_have_no_fault.Goals as goal

pub returns : goal.returns
returns c = λ bytes value line field kind is out. config_or_fault bytes value line field kind is out
