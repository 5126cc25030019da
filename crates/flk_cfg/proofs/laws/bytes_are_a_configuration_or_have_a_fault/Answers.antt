use Rattle.flk_cfg.proofs.ConfigCases.{config_or_first_fault}
use Rattle.flk_cfg.proofs.laws.bytes_are_a_configuration_or_have_a_fault.Goals as goal

pub returns : goal.returns
returns c = config_or_first_fault
