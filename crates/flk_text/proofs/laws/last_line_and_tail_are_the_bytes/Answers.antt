use Rattle.flk_text.proofs.LineLaws.{last_line_is_cut, no_lf_in_last_line, no_mark_in_last_line}
use Rattle.flk_text.proofs.laws.last_line_and_tail_are_the_bytes.Goals as goal

pub returns-clause-bytes : goal.returns-clause-bytes
returns-clause-bytes c = last_line_is_cut

pub returns-clause-no_lf : goal.returns-clause-no_lf
returns-clause-no_lf c = no_lf_in_last_line

pub returns-clause-no_mark : goal.returns-clause-no_mark
returns-clause-no_mark c = no_mark_in_last_line
