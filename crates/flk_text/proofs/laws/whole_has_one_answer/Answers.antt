use Rattle.flk_text.proofs.DecimalLaws.{one_whole_answer}
use Rattle.flk_text.proofs.laws.whole_has_one_answer.Goals as goal

pub returns : goal.returns
returns c = one_whole_answer
