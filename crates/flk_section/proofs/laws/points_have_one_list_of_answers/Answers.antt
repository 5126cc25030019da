use Rattle.flk_section.proofs.CascadeLemmas.{answers_exist, answers_unique}
use Rattle.flk_section.proofs.laws.points_have_one_list_of_answers.Goals as goal

pub returns-clause-exists : goal.returns-clause-exists
returns-clause-exists c = answers_exist

pub returns-clause-unique : goal.returns-clause-unique
returns-clause-unique c = answers_unique
