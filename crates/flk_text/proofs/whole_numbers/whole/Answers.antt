use Rattle.std.proofs.Common.{◌≡◌, sym, arith, rules, FitsSigned}
use Rattle.std.specs.Int.{w64}
use Rattle.std.proofs.lemmas.Int.{to_z-of_z}
use Rattle.flk_text.specs.Numeral.{number_from}
use Rattle.flk_text.specs.WholeNumber.{IsWholeValue}
use Rattle.flk_text.proofs.NumeralLemmas.{whole_found, whole_syntax, whole_range}
use Rattle.flk_text.proofs.whole_numbers.whole.Goals as goal

pub returns-in_default-clause-answer : goal.returns-in_default-clause-answer
returns-in_default-clause-answer c = λ f. whole_syntax c.args.text.now (sym c.in_default.ensures.value) f

pub returns-then-size-gt1000000000000-clause-answer : goal.returns-then-size-gt1000000000000-clause-answer
returns-then-size-gt1000000000000-clause-answer c =
    whole_range c.args.text.now (c.in-Some.minus, c.in-Some.digits.now) (sym c.in-Some.ensures.value) (omega (arith, c.if-size-gt1000000000000.true, c.number_up_to-size.ensures))

pub returns-clause-answer : goal.returns-clause-answer
returns-clause-answer c =
    let fits : FitsSigned w64 c.signed.result = search rules in
    let same : c.number_up_to-size.result ≡ number_from 0 c.in-Some.digits.now = omega (arith, c.if-size-gt1000000000000.false, c.number_up_to-size.ensures) in
    let value : IsWholeValue c.args.text.now c.signed.result = record {
      minus = c.in-Some.minus;
      size = c.number_up_to-size.result;
      spelled = rw same (whole_found c.args.text.now (c.in-Some.minus, c.in-Some.digits.now) (sym c.in-Some.ensures.value));
      most = omega (arith, c.if-size-gt1000000000000.false);
      is = c.signed.ensures.value;
    } in
    simp to_z-of_z value
