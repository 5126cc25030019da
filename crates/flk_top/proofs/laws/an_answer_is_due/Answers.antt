use Rattle.flk_top.proofs.AnswerExists.{some_answer}
use Rattle.flk_top.proofs.laws.an_answer_is_due.Goals as goal

pub returns : goal.returns
returns c = some_answer
