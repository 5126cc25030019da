-- What the judges of single fields answer.
use Rattle.std.proofs.Common.{◌≡◌, ◌≢◌, ℕ, List, subst, arith, ℤ, pos, ◌≤ℤ◌}
use Rattle.std.proofs.lemmas.Int.{ints}
use Rattle.flk_num.specs.declared.rate.Rate.{Rate}
use Rattle.flk_num.specs.declared.rate.Rate.TheVariants.{R2400, R4800}
use Rattle.flk_text.specs.Decimal.{IsDecimal, IsForm}
use Rattle.flk_text.specs.WholeNumber.{IsWholeValue, IsWholeForm}
use Rattle.flk_text.proofs.NumeralLemmas.{decimal_once}
use Rattle.flk_text.proofs.DecimalLaws.{whole_once}
use Rattle.flk_field.specs.Values.{IsWholeFrom, IsFrequency, rate_units, IsRate}

pub whole_form : (text : List ℕ) (z : ℤ) → IsWholeValue text z → IsWholeForm text
whole_form text z v = (v.minus, v.size, v.spelled)

-- a whole number outside the set is none of it
pub whole_outside : (least most : ℕ) (text : List ℕ) (z : ℤ) → IsWholeValue text z → ((pos least ≤ℤ z) → (z ≤ℤ pos most) → ⊥) → (n : ℕ) → IsWholeFrom least most text n → ⊥
whole_outside least most text z v out n is =
    let e : pos n ≡ z = whole_once text (pos n) z is.value v in
    let low : pos least ≤ℤ pos n = omega (arith, ints, is.at_least) in
    let high : pos n ≤ℤ pos most = omega (arith, ints, is.at_most) in
    out (subst (λ (x : ℤ). pos least ≤ℤ x) e low) (subst (λ (x : ℤ). x ≤ℤ pos most) e high)

-- a whole number that is too long is none of the set
pub whole_far : (least most : ℕ) (text : List ℕ) → ((z : ℤ) → IsWholeValue text z → ⊥) → (n : ℕ) → IsWholeFrom least most text n → ⊥
whole_far least most text none n is = none (pos n) is.value

pub whole_inside : (least most : ℕ) (text : List ℕ) (z : ℤ) (n : ℕ) → IsWholeValue text z → pos least ≤ℤ z → z ≤ℤ pos most → z ≡ pos n → IsWholeFrom least most text n
whole_inside least most text z n v low high e = record {
  value = subst (IsWholeValue text) e v;
  at_least = omega (arith, ints, low, e);
  at_most = omega (arith, ints, high, e);
}

pub decimal_form : (text : List ℕ) (z : ℤ) → IsDecimal text z → IsForm text
decimal_form text z v = (v.numeral, v.spelled)

pub not_above : (text : List ℕ) (z : ℤ) → IsDecimal text z → z ≤ℤ pos 0 → (y : ℤ) → IsFrequency text y → ⊥
not_above text z v low y is =
    let e : y ≡ z = decimal_once text y z is.value v in
    omega (arith, ints, is.above, low, e)

-- a decimal that is equal to neither rate
pub no_rate : (text : List ℕ) (z : ℤ) → IsDecimal text z → z ≢ rate_units R2400 → z ≢ rate_units R4800 → (rate : Rate) → IsRate text rate → ⊥
no_rate text z v low high R2400 is = low (decimal_once text z (rate_units R2400) v is)
no_rate text z v low high R4800 is = high (decimal_once text z (rate_units R4800) v is)
