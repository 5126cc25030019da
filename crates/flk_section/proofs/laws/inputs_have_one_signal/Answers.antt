use Rattle.std.specs.Prelude.{true}
use Rattle.flk_section.proofs.CascadeLemmas.{sections_exist, sections_unique}
use Rattle.flk_section.proofs.laws.inputs_have_one_signal.Goals as goal

pub returns-clause-exists : goal.returns-clause-exists
returns-clause-exists c = λ ks xs. sections_exist ks true xs

pub returns-clause-unique : goal.returns-clause-unique
returns-clause-unique c = sections_unique
