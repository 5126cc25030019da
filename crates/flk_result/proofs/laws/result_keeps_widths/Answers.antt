use Rattle.flk_result.proofs.WidthLemmas.{widths_kept}
use Rattle.flk_result.proofs.laws.result_keeps_widths.Goals as goal

pub returns : goal.returns
returns c = widths_kept
