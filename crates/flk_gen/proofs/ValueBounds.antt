-- No value is beyond the crest.
use Rattle.std.proofs.Common.{ℕ, zero, suc, ◌+◌, ◌-◌, ◌%◌, ◌/◌, ◌≤◌, Bool, true, false, List, [], ◌∷◌, get_or, ℤ, pos, negsuc, ◌*ℤ◌, arith}
use Rattle.std.specs.Prelude.{ltb, max, neg_ℤ, if◌then◌else◌}
use Rattle.std.specs.Int.RustNames.{unsigned_abs}
use Rattle.std.proofs.lemmas.Int.{ints}
use Rattle.std.proofs.Math.Nat.{mul-le-mul}
use Rattle.flk_exact.specs.Rounding.{IsFloor}
use Rattle.flk_exact.proofs.RoundingLemmas.{IsFloor-floor_of}
use Rattle.flk_gen.specs.Workload.{draw, depth_of, quarter, half_wave, wave, lowered, shift, value}

abbrev greatest : List ℕ → ℕ
greatest [] = 0
greatest (x ∷ xs) = max x (greatest xs)

at_most_greatest : (xs : List ℕ) (k : ℕ) → get_or xs k 0 ≤ greatest xs
at_most_greatest [] k = omega arith
at_most_greatest (x ∷ xs) zero = let first : x ≤ max x (greatest xs) = omega arith in first
at_most_greatest (x ∷ xs) (suc k) = more (get_or xs k 0) (greatest xs) (at_most_greatest xs k)
  where
    more : (y m : ℕ) → y ≤ m → y ≤ max x m
    more y m h = omega (arith, h)

wave_small : (k : ℕ) → unsigned_abs (wave k) ≤ 26022
wave_small k = either (ltb k 24) (half_wave k) (half_wave (k - 24)) (at_most_greatest quarter _) (at_most_greatest quarter _)
  where
    either : (b : Bool) (x y : ℕ) → x ≤ 26022 → y ≤ 26022 → unsigned_abs (if b then pos x else neg_ℤ (pos y)) ≤ 26022
    either true x y p q = p
    either false x zero p q = omega arith
    either false x (suc y) p q = q

floor_small : (v q : ℤ) (m : ℕ) → unsigned_abs v ≤ 26022 → m ≤ 1000 → IsFloor (v *ℤ pos m) (pos 1000) q → unsigned_abs q ≤ 26022
floor_small (pos a) (pos q) m small few f = omega (arith, ints, mul-le-mul small few, f.within)
floor_small (pos a) (negsuc q) m small few f = omega (arith, ints, f.greatest)
floor_small (negsuc a) (pos q) m small few f = omega (arith, ints, f.within)
floor_small (negsuc a) (negsuc q) m small few f = omega (arith, ints, mul-le-mul small few, f.greatest)

-- every value of every channel
pub value-small : (seed c n : ℕ) → unsigned_abs (value seed c n) ≤ 26022
value-small seed c n =
    let v = wave ((n + shift c) % 48) in
    let d = depth_of (draw seed (1 + (n + shift c) / 1200)) c in
    floor_small v (lowered v d) (1000 - d) (wave_small ((n + shift c) % 48)) (omega arith) (IsFloor-floor_of (v *ℤ pos (1000 - d)) 1000 (omega arith))
