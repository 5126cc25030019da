use Rattle.std.proofs.Common.{arith}
use Rattle.std.proofs.lemmas.Fmt.{decimal_digit, first_decimal}
use Rattle.flk_text.proofs.PlainTextLemmas.{plain_text, no_zero_at_end}
use Rattle.flk_text.proofs.laws.plain_text_has_its_value.Goals as goal

pub returns-clause-value : goal.returns-clause-value
returns-clause-value c = plain_text

pub returns-clause-nothing : goal.returns-clause-nothing
returns-clause-nothing c = decimal_digit 0 (omega arith)

pub returns-clause-whole : goal.returns-clause-whole
returns-clause-whole c = first_decimal

pub returns-clause-fraction : goal.returns-clause-fraction
returns-clause-fraction c = no_zero_at_end 24
