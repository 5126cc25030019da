-- The level keeps the form: three facts of the smoothing without rounding, whose ends are numerators over `2^48 * powers`. Of 2^32 parts the
-- square counts for C and the level before it for K.
use Rattle.std.proofs.Common.{◌≡◌, ℕ, ◌+◌, ◌-◌, ◌*◌, ◌/◌, ◌^◌, ◌<◌, ◌≤◌, List, [], ◌∷◌, pos, ◌+ℤ◌, ◌-ℤ◌, ◌*ℤ◌, ◌≤ℤ◌, refl, arith}
use Rattle.std.specs.List.{All}
use Rattle.std.specs.Int.{div_ceil}
use Rattle.std.specs.Int.RustNames.{unsigned_abs}
use Rattle.std.proofs.Math.Nat.{mul-le-mul_left, mul-le-mul_right}
use Rattle.std.proofs.lemmas.Int.{ints}
use Rattle.std.proofs.lemmas.Grind.{div_ceil_times}
use Rattle.std.proofs.lemmas.List.Elements.{All-nil, All-cons, All-head, All-tail}
use Rattle.flk_exact.specs.Fraction.{Fraction, ◌≤ℚ◌, units}
use Rattle.flk_exact.proofs.WholeLemmas.{natural_is}
use Rattle.flk_num.specs.declared.interval.Interval.{Interval}
use Rattle.flk_num.specs.Square.{least_size, greatest_size}
use Rattle.flk_num.proofs.SizeLemmas.{sizes_apart}
use Rattle.flk_front.specs.declared.point.Point.{Point}
use Rattle.flk_stat.specs.Rounded.{squares_of, scaled_of, level_after, IsLevel, AreLevelIntervals}
use Rattle.flk_stat.specs.Width.{IsSpread, BoundsRadius}
use Rattle.flk_stat.proofs.WidthSteps.{square_form, form_step, drift_low, drift_high, scaled_low, level_form}

abbrev powers : List Point → ℕ
powers [] = 1
powers (w ∷ ws) = 4294967296 * powers ws

abbrev least_level : (K C : ℕ) → List Point → ℕ
least_level K C [] = 0
least_level K C (w ∷ ws) = K * least_level K C ws + C * (310700 * ((squares_of w).lo * powers ws))

abbrev greatest_level : (K C : ℕ) → List Point → ℕ
greatest_level K C [] = 0
greatest_level K C (w ∷ ws) = K * greatest_level K C ws + C * (310700 * ((squares_of w).hi * powers ws))

powers_some : (ws : List Point) → 0 < powers ws
powers_some [] = omega arith
powers_some (w ∷ ws) = let h = powers_some ws in omega (arith, h)

-- ---- the drift of the rounded ends

step_low : (K C p Z L s t q : ℕ) → K + C ≡ 4294967296 → 4294967296 ≤ 2046 * C → Z ≡ s / 65536 * 310700 / 4294967296 → q ≡ (K * p + C * Z) / 4294967296
    → L ≤ (p + 2048) * (281474976710656 * t)
    → K * L + C * (310700 * (s * t)) ≤ (q + 2048) * (281474976710656 * (4294967296 * t))
step_low K C p Z L s t q whole large ez eq old =
    let a : 310700 * s ≤ 281474976710656 * (Z + 2) = rw ez ((scaled_low s).1) in
    let b : 310700 * s * t ≤ 281474976710656 * (Z + 2) * t = mul-le-mul_right t a in
    let r : K * p + C * Z ≤ 4294967296 * q + 4294967296 = rw eq (omega arith) in
    let d = drift_low K C p q Z L (310700 * (s * t)) (281474976710656 * t) whole large old (omega (arith, b)) r in
    omega (arith, d)

ceil_scaled : (s : ℕ) → 281474976710656 * div_ceil (div_ceil s 65536 * 310700) 4294967296 ≤ 310700 * s + 2 * 281474976710656
ceil_scaled s =
    let a = div_ceil_times s 65536 (omega arith) in
    let b = div_ceil_times (div_ceil s 65536 * 310700) 4294967296 (omega arith) in
    omega (arith, a.0, a.1, b.0, b.1)

step_high : (K C p Z H s t q : ℕ) → K + C ≡ 4294967296 → 4294967296 ≤ 2046 * C → Z ≡ div_ceil (div_ceil s 65536 * 310700) 4294967296
    → q ≡ div_ceil (K * p + C * Z) 4294967296
    → p * (281474976710656 * t) ≤ H + 2048 * (281474976710656 * t)
    → q * (281474976710656 * (4294967296 * t)) ≤ K * H + C * (310700 * (s * t)) + 2048 * (281474976710656 * (4294967296 * t))
step_high K C p Z H s t q whole large ez eq old =
    let a : 281474976710656 * Z ≤ 310700 * s + 2 * 281474976710656 = rw ez (ceil_scaled s) in
    let b : 281474976710656 * Z * t ≤ (310700 * s + 2 * 281474976710656) * t = mul-le-mul_right t a in
    let c = div_ceil_times (K * p + C * Z) 4294967296 (omega arith) in
    let r : 4294967296 * q ≤ K * p + C * Z + 4294967296 = rw eq (omega (arith, c.1)) in
    let d = drift_high K C p q Z H (310700 * (s * t)) (281474976710656 * t) whole large old (omega (arith, b)) r in
    omega (arith, d)

-- a number that a sample may count for, over 2^32
record IsNumber (c : ℕ) : Type 0 where
  whole : 2 ^ 32 - c + c ≡ 4294967296
  large : 4294967296 ≤ 2046 * c

low_drift : (c : ℕ) → IsNumber c → (ws : List Point) → least_level (2 ^ 32 - c) c ws ≤ ((level_after c ws).lo + 2048) * (281474976710656 * powers ws)
low_drift c n [] = omega arith
low_drift c n (w ∷ ws) =
    step_low (2 ^ 32 - c) c (level_after c ws).lo (scaled_of (squares_of w)).lo (least_level (2 ^ 32 - c) c ws) (squares_of w).lo (powers ws) (level_after c (w ∷ ws)).lo n.whole n.large refl refl (low_drift c n ws)

high_drift : (c : ℕ) → IsNumber c → (ws : List Point) → (level_after c ws).hi * (281474976710656 * powers ws) ≤ greatest_level (2 ^ 32 - c) c ws + 2048 * (281474976710656 * powers ws)
high_drift c n [] = omega arith
high_drift c n (w ∷ ws) =
    step_high (2 ^ 32 - c) c (level_after c ws).hi (scaled_of (squares_of w)).hi (greatest_level (2 ^ 32 - c) c ws) (squares_of w).hi (powers ws) (level_after c (w ∷ ws)).hi n.whole n.large refl refl (high_drift c n ws)

-- ---- the form of the ends without rounding

-- S over Q is 2^25 * rw - 1; a radius is at most 2^23 times that
abbrev IsNearby : ℕ → ℕ → Point → Type 0
IsNearby Q S w = (k : ℕ) × (w.radius ≡ pos k) × (k * Q ≤ 8388608 * S)

square_near : (Q S a b : ℕ) (w : Point) → IsNearby Q S w
    → a * b * (Q * Q * (squares_of w).hi) ≤ a * (a + b) * (Q * Q * (squares_of w).lo) + b * (a + b) * (16777216 * S * (16777216 * S))
square_near Q S a b w h =
    let lo = w.mid -ℤ w.radius in
    let hi = w.mid +ℤ w.radius in
    let k = h.0 in
    let o : lo ≤ℤ hi = omega (arith, ints, h.1) in
    let e : (hi *ℤ pos 1) ≤ℤ (lo *ℤ pos 1 +ℤ pos (2 * k)) = omega (arith, ints, h.1) in
    let n = sizes_apart lo hi 1 (2 * k) o e in
    let m : Q * greatest_size lo hi ≤ Q * (least_size lo hi + 2 * k) = mul-le-mul_left Q (omega (arith, n)) in
    let f = square_form a b (Q * least_size lo hi) (Q * greatest_size lo hi) (16777216 * S) (omega (arith, m, h.2)) in
    omega (arith, f)

form_kept : (K C Q S a b : ℕ) (ws : List Point) → K + C ≡ 4294967296 → All (IsNearby Q S) ws
    → a * b * (Q * Q * greatest_level K C ws) ≤ a * (a + b) * (Q * Q * least_level K C ws) + b * (a + b) * (310700 * (16777216 * S * (16777216 * S)) * powers ws)
form_kept K C Q S a b [] whole h = omega arith
form_kept K C Q S a b (w ∷ ws) whole h =
    let old = form_kept K C Q S a b ws whole (All-tail (IsNearby Q S) w ws h) in
    let now = square_near Q S a b w (All-head (IsNearby Q S) w ws h) in
    let f = form_step K C a b (Q * Q * least_level K C ws) (Q * Q * greatest_level K C ws) (Q * Q * (squares_of w).lo) (Q * Q * (squares_of w).hi) (16777216 * S) (powers ws) old now in
    let g = rw whole at f in
    omega (arith, g)

-- ---- the form of the rounded ends

level_kept : (c Q S : ℕ) (ws : List Point) → IsNumber c → 0 < Q → All (IsNearby Q S) ws → (a b : ℕ) → 0 < a → 0 < b
    → a * b * (Q * Q * (4 * (level_after c ws).hi)) ≤ a * (a + b) * (Q * Q * (4 * (level_after c ws).lo)) + b * (a + b) * (1242800 * ((S + Q) * (S + Q)))
level_kept c Q S ws n pq near a b pa pb =
    let t = powers ws in
    let pt = powers_some ws in
    level_form (70368744177664 * t) Q S (greatest_level (2 ^ 32 - c) c ws) (least_level (2 ^ 32 - c) c ws) (level_after c ws).hi (level_after c ws).lo (omega (arith, pt)) pq
    (λ x y px py. (let f = form_kept (2 ^ 32 - c) c Q S x y ws n.whole near in omega (arith, f)))
    (let h = high_drift c n ws in omega (arith, h)) (let l = low_drift c n ws in omega (arith, l)) a b pa pb

-- ---- over fractions

pub natural_width : (most : Fraction) → units (pos (2 ^ 24)) ≤ℚ most → pos 0 ≤ℤ most.num
natural_width most h =
    let c = h.cross in omega (arith, ints, c)

pub width_is : (most : Fraction) (P : ℕ) → most.num ≡ pos P → units (pos (2 ^ 24)) ≤ℚ most → most.den ≤ 16777216 * P
width_is most P e h =
    let c = rw e at h.cross in
    omega (arith, ints, c)

nearby : (most : Fraction) (P S : ℕ) → most.num ≡ pos P → S + most.den ≡ 33554432 * P → (w : Point) → BoundsRadius most w → IsNearby most.den S w
nearby most P S e s w h =
    let k = unsigned_abs w.radius in
    let r : w.radius ≡ pos k = natural_is w.radius h.natural in
    let c = rw (e, r) at h.within.cross in
    (k, r, omega (arith, ints, c, s))

all_nearby : (most : Fraction) (P S : ℕ) → most.num ≡ pos P → S + most.den ≡ 33554432 * P → (ws : List Point) → All (BoundsRadius most) ws → All (IsNearby most.den S) ws
all_nearby most P S e s ws h = λ i d less. nearby most P S e s _ (h i d less)

number_is : (c : ℕ) → c ≤ 2 ^ 32 → 2 ^ 32 ≤ 2046 * c → IsNumber c
number_is c high low = record { whole = omega arith; large = omega arith }

pub level_spread : (c : ℕ) (ws : List Point) (v : Interval) (most : Fraction) → c ≤ 2 ^ 32 → 2 ^ 32 ≤ 2046 * c → units (pos (2 ^ 24)) ≤ℚ most → All (BoundsRadius most) ws
    → IsLevel (level_after c ws) v → IsSpread most v
level_spread c ws v most high low h near ends =
    let P = unsigned_abs most.num in
    let e : most.num ≡ pos P = natural_is most.num (natural_width most h) in
    let Q = most.den in
    let some = width_is most P e h in
    let S = 33554432 * P - Q in
    let s : S + Q ≡ 33554432 * P = omega (arith, some) in
    let top = (level_after c ws).hi in
    let foot = (level_after c ws).lo in
    record {
      spread = λ a b pa pb.
          let f = level_kept c Q S ws (number_is c high low) most.positive (all_nearby most P S e s ws near) a b pa pb in
          let g : a * b * (Q * Q * (4 * top)) ≤ a * (a + b) * (Q * Q * (4 * foot)) + b * (a + b) * (1242800 * ((33554432 * P) * (33554432 * P))) = rw s at f in
          record { cross = rw (e, ends.lo, ends.hi) (omega (arith, ints, g)) };
    }

-- all levels of a list of points
pub levels_spread : (c : ℕ) (ws : List Point) (vs : List Interval) (most : Fraction) → c ≤ 2 ^ 32 → 2 ^ 32 ≤ 2046 * c → AreLevelIntervals c ws vs → units (pos (2 ^ 24)) ≤ℚ most
    → All (BoundsRadius most) ws → All (IsSpread most) vs
levels_spread c [] [] most high low ends h near = All-nil (IsSpread most)
levels_spread c [] (v ∷ vs) most high low ends h near = absurd ends
levels_spread c (w ∷ ws) [] most high low ends h near = absurd ends
levels_spread c (w ∷ ws) (v ∷ vs) most high low ends h near =
    All-cons (IsSpread most) v vs (level_spread c (w ∷ ws) v most high low h near ends.0)
    (levels_spread c ws vs most high low ends.1 h (All-tail (BoundsRadius most) w ws near))
