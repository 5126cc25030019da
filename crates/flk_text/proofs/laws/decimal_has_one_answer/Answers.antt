use Rattle.flk_text.proofs.DecimalLaws.{one_answer}
use Rattle.flk_text.proofs.laws.decimal_has_one_answer.Goals as goal

pub returns : goal.returns
returns c = one_answer
