use Rattle.flk_result.proofs.FilterLemmas.{filter_unique}
use Rattle.flk_result.proofs.laws.filter_is_one.Goals as goal

pub returns : goal.returns
returns c = filter_unique
