use Rattle.flk_section.proofs.WholeLemmas.{certified_filter}
use Rattle.flk_section.proofs.laws.certified_sections_have_one_filter.Goals as goal

pub returns : goal.returns
returns c = certified_filter
