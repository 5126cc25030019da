use Rattle.flk_gen.proofs.AcceptedFiles.{data_accepted}
use Rattle.flk_top.proofs.GeneratedFiles.{configuration_accepted, generated_checked}
use Rattle.flk_top.proofs.laws.generated_files_are_accepted.Goals as goal

pub returns-clause-configuration : goal.returns-clause-configuration
returns-clause-configuration c = configuration_accepted

pub returns-clause-data_file : goal.returns-clause-data_file
returns-clause-data_file c = data_accepted

pub returns-clause-check : goal.returns-clause-check
returns-clause-check c = generated_checked
