use Rattle.flk_text.proofs.LineLaws.{line_is_cut, after_line_shorter, no_lf_in_line}
use Rattle.flk_text.proofs.laws.lines_are_the_bytes.Goals as goal

pub returns-clause-bytes : goal.returns-clause-bytes
returns-clause-bytes c = line_is_cut

pub returns-clause-shorter : goal.returns-clause-shorter
returns-clause-shorter c = after_line_shorter

pub returns-clause-no_lf : goal.returns-clause-no_lf
returns-clause-no_lf c = no_lf_in_line
