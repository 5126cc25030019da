use Rattle.flk_top.proofs.OneAnswerLemmas.{one_answer}
use Rattle.flk_top.proofs.laws.answer_is_one.Goals as goal

pub returns : goal.returns
returns c = one_answer
