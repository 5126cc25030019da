-- The value of a half-period: the sum of squares as natural numbers, and that there is one value.
use Rattle.std.proofs.Common.{◌≡◌, ℕ, ◌+◌, ◌*◌, ◌^◌, ◌<◌, ◌≤◌, List, [], ◌∷◌, ℤ, pos, neg_ℤ, ◌≤ℤ◌, refl, ap, arith, length, sym, ◌∙◌}
use Rattle.std.specs.Prelude.{negsuc}
use Rattle.std.proofs.Math.Nat.{mul-pos}
use Rattle.std.specs.Int.RustNames.{unsigned_abs}
use Rattle.std.proofs.lemmas.Int.{ints}
use Rattle.flk_exact.specs.Fraction.{Fraction}
use Rattle.flk_exact.specs.HalfPeriod.{sum_of_squares, IsReached, IsHalfPeriodValue, AreHalfPeriodValues}
use Rattle.flk_exact.specs.Cut.{half_periods}
use Rattle.flk_exact.proofs.WholeLemmas.{square_is}
use Rattle.flk_exact.proofs.RootLemmas.{greatest_square, square_bounds}
use Rattle.flk_exact.proofs.ListLemmas.{AllZip-exists, AllZip-unique, AllZip-length}
use Rattle.flk_exact.proofs.CutLemmas.{length-half_periods}

-- the sum of the squares is the one natural number over the other
abbrev pub square_den : List Fraction → ℕ
square_den [] = 1
square_den (u ∷ us) = u.den * u.den * square_den us

abbrev pub square_num : List Fraction → ℕ
square_num [] = 0
square_num (u ∷ us) = unsigned_abs u.num * unsigned_abs u.num * square_den us + square_num us * (u.den * u.den)

pub sum_den : (us : List Fraction) → (sum_of_squares us).den ≡ square_den us
sum_den [] = refl
sum_den (u ∷ us) = ap (λ n. u.den * u.den * n) (sum_den us)

pub sum_num : (us : List Fraction) → (sum_of_squares us).num ≡ pos (square_num us)
sum_num [] = refl
sum_num (u ∷ us) = rw (sum_den us, sum_num us, square_is u.num) refl

pub square_den_pos : (us : List Fraction) → 0 < square_den us
square_den_pos [] = omega arith
square_den_pos (u ∷ us) = mul-pos (mul-pos u.positive u.positive) (square_den_pos us)

pub reached_of : (half : ℕ) (w : ℤ) (us : List Fraction) → unsigned_abs w * unsigned_abs w * half * square_den us ≤ 10 ^ 18 * square_num us → IsReached half us w
reached_of half w us h = record { cross = rw (sum_den us, sum_num us, square_is w) (omega (arith, ints)) }

pub of_reached : (half : ℕ) (w : ℤ) (us : List Fraction) → IsReached half us w → unsigned_abs w * unsigned_abs w * half * square_den us ≤ 10 ^ 18 * square_num us
of_reached half w us h = let k = rw (sum_den us, sum_num us, square_is w) at h.cross in omega (arith, ints)

-- a value is not below 0: with a number its negative is reached too
pub value_natural : (half : ℕ) (us : List Fraction) (w : ℤ) → IsHalfPeriodValue half us w → pos 0 ≤ℤ w
value_natural half us (pos n) h = omega (arith, ints)
value_natural half us (negsuc n) h = absurd (omega (arith, ints, h.greatest (neg_ℤ (negsuc n)) (reached_of half (neg_ℤ (negsuc n)) us (of_reached half (negsuc n) us h.reached))))

pub value_exists : (half : ℕ) (us : List Fraction) → 0 < half → (w : ℤ) × IsHalfPeriodValue half us w
value_exists half us some =
    let a = half * square_den us in
    let b = 10 ^ 18 * square_num us in
    let g = greatest_square a b b (λ z h. square_bounds z a b (mul-pos some (square_den_pos us)) h) in (
      pos g.0,
      record {
        reached = reached_of half (pos g.0) us (omega (arith, g.1));
        greatest = λ z h. omega (arith, ints, g.2 (unsigned_abs z) (omega (arith, of_reached half z us h)));
      },
    )

pub value_unique : (half : ℕ) (us : List Fraction) (w z : ℤ) → IsHalfPeriodValue half us w → IsHalfPeriodValue half us z → w ≡ z
value_unique half us w z h k = omega (arith, ints, h.greatest z k.reached, k.greatest w h.reached)

pub values_exist : (half : ℕ) (cuts : List ℕ) (run : List Fraction) → 0 < half → (values : List ℤ) × AreHalfPeriodValues half cuts run values
values_exist half cuts run some = AllZip-exists (IsHalfPeriodValue half) (λ us. value_exists half us some) (half_periods cuts run)

pub values_unique : (half : ℕ) (cuts : List ℕ) (run : List Fraction) (ws zs : List ℤ) → AreHalfPeriodValues half cuts run ws → AreHalfPeriodValues half cuts run zs → ws ≡ zs
values_unique half cuts run ws zs h k = AllZip-unique (IsHalfPeriodValue half) (λ us w z. value_unique half us w z) (half_periods cuts run) ws zs h k

pub values_length : (half : ℕ) (cuts : List ℕ) (run : List Fraction) (values : List ℤ) → AreHalfPeriodValues half cuts run values → length values ≡ length cuts
values_length half cuts run values h = sym (AllZip-length (IsHalfPeriodValue half) (half_periods cuts run) values h) ∙ length-half_periods cuts run
