use Rattle.std.proofs.Common.{arith, length}
use Rattle.flk_text.proofs.PowersOfTen.{ten_grows}
use Rattle.flk_field.proofs.DateJudges.{number_nine}
use Rattle.flk_field.proofs.date.number_of.Goals as goal

pub returns-clause-value : goal.returns-clause-value
returns-clause-value c =
    omega (arith, c.number_up_to.ensures, number_nine c.args.digits.now c.requires.are c.requires.few, ten_grows (length c.args.digits.now) 9 c.requires.few)
