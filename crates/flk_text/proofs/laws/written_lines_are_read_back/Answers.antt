use Rattle.flk_text.proofs.WrittenLaws.{line_of-written, after_line-written, fields_joined}
use Rattle.flk_text.proofs.laws.written_lines_are_read_back.Goals as goal

pub returns-clause-line : goal.returns-clause-line
returns-clause-line c = line_of-written

pub returns-clause-left : goal.returns-clause-left
returns-clause-left c = after_line-written

pub returns-clause-fields : goal.returns-clause-fields
returns-clause-fields c = fields_joined
