use Rattle.flk_text.proofs.WrittenLaws.{decimal_is_field, decimal_lacks_lf}
use Rattle.flk_text.proofs.laws.decimals_are_fields.Goals as goal

pub returns-clause-field : goal.returns-clause-field
returns-clause-field c = decimal_is_field

pub returns-clause-no_lf : goal.returns-clause-no_lf
returns-clause-no_lf c = decimal_lacks_lf
