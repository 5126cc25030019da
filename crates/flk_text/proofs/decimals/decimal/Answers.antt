use Rattle.std.proofs.Common.{sym, rules, FitsSigned}
use Rattle.std.specs.Int.{w128}
use Rattle.std.proofs.lemmas.Int.{to_z-of_z}
use Rattle.flk_text.specs.NumeralView.{numeral}
use Rattle.flk_text.proofs.NumeralLemmas.{decimal_syntax, decimal_value, decimal_range}
use Rattle.flk_text.proofs.decimals.decimal.Goals as goal

pub returns-in_default-clause-answer : goal.returns-in_default-clause-answer
returns-in_default-clause-answer c = λ f. decimal_syntax c.args.text.now (sym c.in_default.ensures.value) f.0 f.1

pub returns-in-None-clause-answer : goal.returns-in-None-clause-answer
returns-in-None-clause-answer c = decimal_range c.args.text.now (numeral c.in-Some.parts) (sym c.in-Some.ensures.value) c.in-None.ensures

pub returns-in-Some-units_of-clause-answer : goal.returns-in-Some-units_of-clause-answer
returns-in-Some-units_of-clause-answer c =
    let fits : FitsSigned w128 c.signed.result = search rules in
    simp to_z-of_z (decimal_value c.args.text.now (numeral c.in-Some.parts) c.in-Some-units_of.units _ (sym c.in-Some.ensures.value) c.in-Some-units_of.ensures.0 c.in-Some-units_of.ensures.1 c.signed.ensures.value)
