use Rattle.flk_section.proofs.RadiusLemmas.{last_radius_rises}
use Rattle.flk_section.proofs.laws.greater_radius_gives_no_smaller.Goals as goal

pub returns : goal.returns
returns c = last_radius_rises
