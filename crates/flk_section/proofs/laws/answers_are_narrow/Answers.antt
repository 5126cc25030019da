use Rattle.flk_section.proofs.CascadeLemmas.{answers_narrow}
use Rattle.flk_section.proofs.WidthLemmas.{answers_narrow_by_adaptor}
use Rattle.flk_section.proofs.laws.answers_are_narrow.Goals as goal

pub returns-clause-any : goal.returns-clause-any
returns-clause-any c = answers_narrow

pub returns-clause-adaptor : goal.returns-clause-adaptor
returns-clause-adaptor c = answers_narrow_by_adaptor
