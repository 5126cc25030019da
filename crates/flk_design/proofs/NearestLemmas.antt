-- The nearest whole number to a quotient is the quotient and a half, rounded down; so there is one.
use Rattle.std.proofs.Common.{◌≡◌, ℕ, ◌*◌, ◌^◌, ◌<◌, ℤ, pos, negsuc, ◌+ℤ◌, ◌*ℤ◌, arith, zero, suc, lit<}
use Rattle.flk_exact.specs.Fraction.{Fraction, whole}
use Rattle.flk_exact.specs.Rounding.{floor_of, IsFloor}
use Rattle.flk_exact.proofs.WholeLemmas.{atom, nat, plus_is, minus_is, times_is, at_most, from_at_most, below, from_below}
use Rattle.flk_exact.proofs.RoundingLemmas.{IsFloor-floor_of, floor_unique}
use Rattle.std.specs.Int.RustNames.{unsigned_abs}
use Rattle.std.proofs.Math.Nat.{mul-pos}
use Rattle.std.proofs.lemmas.Int.{ints}
use Rattle.flk_design.specs.Nearest.{◌<ℚ◌, IsNearestQuotient}

-- twice 2^32 p, over the product of the denominators of p and q
abbrev scaled : Fraction → ℕ → ℤ
scaled p e = (pos (2 ^ 32) *ℤ p.num) *ℤ pos ((1 * 2) * e)

-- the same of q
abbrev divisor : Fraction → ℕ → ℕ
divisor p d = d * p.den

floor_of_nearest : (p : Fraction) (d e : ℕ) (some : 0 < e) (k : ℤ) → IsNearestQuotient p (record { num = pos d; den = e; positive = some }) k
    → IsFloor (scaled p e +ℤ pos (divisor p d)) (pos (2 * divisor p d)) k
floor_of_nearest p d e some k n = record {
  within = at_most (times_is (atom k) (nat (2 * divisor p d))) (plus_is (atom (scaled p e)) (nat (divisor p d)))
      (omega (arith, from_at_most (times_is (times_is (plus_is (times_is (atom k) (nat 2)) (minus_is (nat 1))) (nat d)) (nat (1 * p.den))) (atom (scaled p e)) n.not_above.cross));
  greatest = below (plus_is (atom (scaled p e)) (nat (divisor p d))) (plus_is (times_is (atom k) (nat (2 * divisor p d))) (nat (2 * divisor p d)))
      (omega (arith, from_below (atom (scaled p e)) (times_is (times_is (plus_is (times_is (atom k) (nat 2)) (nat 1)) (nat d)) (nat (1 * p.den))) n.not_below.cross));
}

nearest_unique-at : (p : Fraction) (num : ℤ) (e : ℕ) (some : 0 < e) (j k : ℤ)
    → IsNearestQuotient p (record { num = num; den = e; positive = some }) j → IsNearestQuotient p (record { num = num; den = e; positive = some }) k → j ≡ k
nearest_unique-at p (pos d) e some j k a b =
    floor_unique (scaled p e +ℤ pos (divisor p d)) (2 * divisor p d) j k (floor_of_nearest p d e some j a) (floor_of_nearest p d e some k b)
nearest_unique-at p (negsuc d) e some j k a b = absurd (omega (arith, ints, a.positive.cross))

pub nearest_unique : (p q : Fraction) (j k : ℤ) → IsNearestQuotient p q j → IsNearestQuotient p q k → j ≡ k
nearest_unique p q j k a b = nearest_unique-at p q.num q.den q.positive j k a b

nearest_of_floor : (p : Fraction) (d e : ℕ) (some : 0 < e) (k : ℤ) → 0 < d → IsFloor (scaled p e +ℤ pos (divisor p d)) (pos (2 * divisor p d)) k
    → IsNearestQuotient p (record { num = pos d; den = e; positive = some }) k
nearest_of_floor p d e some k more f = record {
  positive = record { cross = below (times_is (nat 0) (nat e)) (times_is (nat d) (nat 1)) (omega (arith, more)) };
  not_above = record {
    cross = at_most (times_is (times_is (plus_is (times_is (atom k) (nat 2)) (minus_is (nat 1))) (nat d)) (nat (1 * p.den))) (atom (scaled p e))
        (omega (arith, from_at_most (times_is (atom k) (nat (2 * divisor p d))) (plus_is (atom (scaled p e)) (nat (divisor p d))) f.within));
  };
  not_below = record {
    cross = below (atom (scaled p e)) (times_is (times_is (plus_is (times_is (atom k) (nat 2)) (nat 1)) (nat d)) (nat (1 * p.den)))
        (omega (arith, from_below (plus_is (atom (scaled p e)) (nat (divisor p d))) (plus_is (times_is (atom k) (nat (2 * divisor p d))) (nat (2 * divisor p d))) f.greatest));
  };
}

-- the quotient and a half, rounded down, of a divisor above 0
abbrev pub nearest_of : Fraction → Fraction → ℤ
nearest_of p q = floor_of (scaled p q.den +ℤ pos (divisor p (unsigned_abs q.num))) (pos (2 * divisor p (unsigned_abs q.num)))

nearest_is-at : (p : Fraction) (num : ℤ) (e : ℕ) (some : 0 < e) → whole (pos 0) <ℚ record { num = num; den = e; positive = some }
    → IsNearestQuotient p (record { num = num; den = e; positive = some }) (nearest_of p (record { num = num; den = e; positive = some }))
nearest_is-at p (pos zero) e some more = absurd (omega (arith, ints, more.cross))
nearest_is-at p (pos (suc d)) e some more =
    let a = scaled p e +ℤ pos (divisor p (suc d)) in
    let b = 2 * divisor p (suc d) in
    nearest_of_floor p (suc d) e some (floor_of a (pos b)) (omega arith) (IsFloor-floor_of a b (mul-pos (lit< tt) (mul-pos (omega arith) p.positive)))
nearest_is-at p (negsuc d) e some more = absurd (omega (arith, ints, more.cross))

pub nearest_is : (p q : Fraction) → whole (pos 0) <ℚ q → IsNearestQuotient p q (nearest_of p q)
nearest_is p q more = nearest_is-at p q.num q.den q.positive more

pub nearest_exists : (p q : Fraction) → whole (pos 0) <ℚ q → (k : ℤ) × IsNearestQuotient p q k
nearest_exists p q more = (nearest_of p q, nearest_is p q more)
