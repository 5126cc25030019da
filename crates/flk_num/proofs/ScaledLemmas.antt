-- A product of more than 128 bits, divided in pieces, and the quotient with its sign, rounded down and up.
use Rattle.std.proofs.Common.{◌≡◌, ℕ, ◌+◌, ◌*◌, ◌^◌, ◌<◌, ℤ, pos, neg_ℤ, ◌*ℤ◌, ◌≤ℤ◌, ◌<ℤ◌, refl, sym, ap, ◌∙◌, subst, ⊎_elim, arith}
use Rattle.std.specs.Prelude.{negsuc}
use Rattle.std.specs.Int.RustNames.{unsigned_abs}
use Rattle.std.proofs.Math.Nat.{mul-le-mul_right}
use Rattle.std.proofs.lemmas.Bool.{cases_lt}
use Rattle.std.proofs.lemmas.Nat.{mul-lt}
use Rattle.std.proofs.lemmas.Int.{ints, unsigned_abs-mul}
use Rattle.flk_exact.specs.Rounding.{floor_of, ceil_of, IsFloor}
use Rattle.flk_exact.proofs.WholeLemmas.{neg-*ℤ}
use Rattle.flk_exact.proofs.RoundingLemmas.{IsFloor-floor_of}

-- a quotient is below what its product allows
pub quotient_below : (q r den a h : ℕ) → q * den + r ≡ a → a < h * den → q < h
quotient_below q r den a h e less =
    ⊎_elim (λ below. below) (λ high. absurd (omega (arith, mul-le-mul_right den high))) (cases_lt q h)

-- the pieces of a product, put together
pub small_parts : (m num den hq hr aq ar bq br cq cr eq er : ℕ) → hq * 4294967296 + hr ≡ num → aq * den + ar ≡ m * hq → bq * den + br ≡ ar * 4294967296 → cq * den + cr ≡ m * hr → eq * den + er ≡ br + cr
    → (aq * 4294967296 + bq + cq + eq) * den + er ≡ m * num
small_parts m num den hq hr aq ar bq br cq cr eq er h a b c e = omega (arith, ap (λ n. m * n) h)

-- and their sum is small
pub small_total : (m num den hq hr aq ar bq br cq cr eq er : ℕ) → hq * 4294967296 + hr ≡ num → aq * den + ar ≡ m * hq → bq * den + br ≡ ar * 4294967296 → cq * den + cr ≡ m * hr → eq * den + er ≡ br + cr
    → m < den → num < 2 ^ 64 → hr < 4294967296 → ar < den → br < den → cr < den → aq * 4294967296 + bq + cq + eq < 2 ^ 65
small_total m num den hq hr aq ar bq br cq cr eq er h a b c e small num_small hr_small ar_small br_small cr_small =
    omega (
      arith,
      quotient_below aq ar den (m * hq) 4294967296 a (omega (arith, mul-lt m hq den 4294967296 small (omega arith))),
      quotient_below bq br den (ar * 4294967296) 4294967296 b (omega arith),
      quotient_below cq cr den (m * hr) 4294967296 c (omega (arith, mul-lt m hr den 4294967296 small hr_small)),
      quotient_below eq er den (br + cr) 2 e (omega arith),
    )

pub whole_parts : (m num den q r p s : ℕ) → q * den + r ≡ m → p * den + s ≡ r * num → (q * num + p) * den + s ≡ m * num
whole_parts m num den q r p s h k = omega (arith, ap (λ n. n * num) h)

-- ---- with their signs

floor_above : (v num den : ℤ) (q r : ℕ) → pos 0 ≤ℤ num → pos 0 <ℤ den → q * unsigned_abs den + r ≡ unsigned_abs v * unsigned_abs num → r < unsigned_abs den → pos 0 ≤ℤ v → IsFloor (v *ℤ num) den (pos q)
floor_above (pos v) (pos n) (pos d) q r h k e less sign = record { within = omega (arith, ints); greatest = omega (arith, ints) }
floor_above (negsuc v) num den q r h k e less sign = absurd (omega (arith, ints))
floor_above (pos v) (negsuc n) den q r h k e less sign = absurd (omega (arith, ints))
floor_above (pos v) (pos n) (negsuc d) q r h k e less sign = absurd (omega (arith, ints))

floor_below : (v num den : ℤ) (q r : ℕ) → pos 0 ≤ℤ num → pos 0 <ℤ den → q * unsigned_abs den + r ≡ unsigned_abs v * unsigned_abs num → v <ℤ pos 0 → r ≡ 0 → IsFloor (v *ℤ num) den (neg_ℤ (pos q))
floor_below (negsuc v) (pos n) (pos d) q r h k e sign z = record { within = omega (arith, ints, neg-*ℤ (pos q) d); greatest = omega (arith, ints, neg-*ℤ (pos q) d) }
floor_below (pos v) num den q r h k e sign z = absurd (omega (arith, ints))
floor_below (negsuc v) (negsuc n) den q r h k e sign z = absurd (omega (arith, ints))
floor_below (negsuc v) (pos n) (negsuc d) q r h k e sign z = absurd (omega (arith, ints))

floor_below_more : (v num den : ℤ) (q r : ℕ) → pos 0 ≤ℤ num → pos 0 <ℤ den → q * unsigned_abs den + r ≡ unsigned_abs v * unsigned_abs num → r < unsigned_abs den → v <ℤ pos 0 → 0 < r → IsFloor (v *ℤ num) den (negsuc q)
floor_below_more (negsuc v) (pos n) (pos d) q r h k e less sign some = record { within = omega (arith, ints); greatest = omega (arith, ints) }
floor_below_more (pos v) num den q r h k e less sign some = absurd (omega (arith, ints))
floor_below_more (negsuc v) (negsuc n) den q r h k e less sign some = absurd (omega (arith, ints))
floor_below_more (negsuc v) (pos n) (negsuc d) q r h k e less sign some = absurd (omega (arith, ints))

pub IsFloor-same : (a b p q : ℤ) → IsFloor a b p → q ≡ p → IsFloor a b q
IsFloor-same a b p q h e = subst (λ (x : ℤ). IsFloor a b x) (sym e) h

-- what the sizes say, in the numbers of the code
pub record Sizes (v num den : ℤ) (m n d q r : ℕ) : Type 0 where
  pub num_low : pos 0 ≤ℤ num
  pub den_low : pos 0 <ℤ den
  pub v_size : m ≡ unsigned_abs v
  pub num_size : n ≡ unsigned_abs num
  pub den_size : d ≡ unsigned_abs den
  pub parts : q * d + r ≡ m * n
  pub rest : r < d

sized : (v num den : ℤ) (m n d q r : ℕ) → Sizes v num den m n d q r → (q * unsigned_abs den + r ≡ unsigned_abs v * unsigned_abs num) × (r < unsigned_abs den)
sized v num den m n d q r h = (rw (← h.v_size, ← h.num_size, ← h.den_size) h.parts, rw (← h.den_size) h.rest)

-- the three ways in which the rounded quotient is made of the quotient of the sizes
pub scaled_above : (v num den z : ℤ) (m n d q r : ℕ) → Sizes v num den m n d q r → pos 0 ≤ℤ v → z ≡ pos q → IsFloor (v *ℤ num) den z
scaled_above v num den z m n d q r h sign same =
    let s = sized v num den m n d q r h in
    IsFloor-same _ _ _ z (floor_above v num den q r h.num_low h.den_low s.0 s.1 sign) same

pub scaled_below : (v num den z : ℤ) (m n d q r : ℕ) → Sizes v num den m n d q r → v <ℤ pos 0 → r ≡ 0 → z ≡ neg_ℤ (pos q) → IsFloor (v *ℤ num) den z
scaled_below v num den z m n d q r h sign none same =
    let s = sized v num den m n d q r h in
    IsFloor-same _ _ _ z (floor_below v num den q r h.num_low h.den_low s.0 sign none) same

pub scaled_below_more : (v num den z : ℤ) (m n d q r : ℕ) → Sizes v num den m n d q r → v <ℤ pos 0 → 0 < r → z ≡ negsuc q → IsFloor (v *ℤ num) den z
scaled_below_more v num den z m n d q r h sign some same =
    let s = sized v num den m n d q r h in
    IsFloor-same _ _ _ z (floor_below_more v num den q r h.num_low h.den_low s.0 s.1 sign some) same

-- a small quotient comes from a small product
small_size : (a q : ℤ) (d h : ℕ) → IsFloor a (pos d) q → unsigned_abs q < h → unsigned_abs a < h * d
small_size a (pos q) d h f less = omega (arith, ints, f.within, f.greatest, mul-le-mul_right {m = q + 1} {n = h} d (omega arith))
small_size a (negsuc q) d h f less = omega (arith, ints, f.within, f.greatest, mul-le-mul_right {m = q + 2} {n = h} d (omega arith))

pub product_small : (v num den : ℤ) (h : ℕ) → pos 0 ≤ℤ num → pos 0 <ℤ den → unsigned_abs (floor_of (v *ℤ num) den) < h → unsigned_abs v * unsigned_abs num < h * unsigned_abs den
product_small v (pos n) (pos d) h low high less =
    let f = IsFloor-floor_of (v *ℤ pos n) d (omega (arith, ints)) in
    omega (arith, small_size (v *ℤ pos n) (floor_of (v *ℤ pos n) (pos d)) d h f less, unsigned_abs-mul v (pos n))
product_small v (negsuc n) den h low high less = absurd (omega (arith, ints))
product_small v (pos n) (negsuc d) h low high less = absurd (omega (arith, ints))

-- ---- rounding up, by rounding the negative down

pub neg_scaled : (v num : ℤ) → pos 0 ≤ℤ num → neg_ℤ v *ℤ num ≡ neg_ℤ (v *ℤ num)
neg_scaled v (pos n) h = neg-*ℤ v n
neg_scaled v (negsuc n) h = absurd (omega (arith, ints))

pub scaled_up : (v num den q z : ℤ) → pos 0 ≤ℤ num → q ≡ floor_of (neg_ℤ v *ℤ num) den → z ≡ neg_ℤ q → z ≡ ceil_of (v *ℤ num) den
scaled_up v num den q z h e f = f ∙ ap neg_ℤ (e ∙ ap (λ x. floor_of x den) (neg_scaled v num h))

pub scaled_up_small : (v num den q : ℤ) (h : ℕ) → pos 0 ≤ℤ num → q ≡ floor_of (neg_ℤ v *ℤ num) den → unsigned_abs (ceil_of (v *ℤ num) den) < h → unsigned_abs q < h
scaled_up_small v num den q h low e less =
    let f : ceil_of (v *ℤ num) den ≡ neg_ℤ q = sym (scaled_up v num den q (neg_ℤ q) low e refl) in
    omega (arith, ints, rw f at less)
