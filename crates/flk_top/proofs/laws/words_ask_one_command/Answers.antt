use Rattle.flk_top.proofs.OneCommand.{one_command}
use Rattle.flk_top.proofs.laws.words_ask_one_command.Goals as goal

pub returns : goal.returns
returns c = one_command
