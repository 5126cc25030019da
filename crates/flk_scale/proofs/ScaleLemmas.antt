-- From the quotients of a scale to its interval, its range and its sign.
use Rattle.std.proofs.Common.{◌≡◌, ℕ, ◌+◌, ◌*◌, ◌^◌, ◌<◌, ◌≤◌, Bool, true, false, ℤ, pos, neg_ℤ, ◌+ℤ◌, ◌-ℤ◌, ◌*ℤ◌, ◌≤ℤ◌, ◌<ℤ◌, refl, sym, ⊎_elim, arith}
use Rattle.std.specs.Prelude.{zero, suc, negsuc, IsTrue, ◌↔◌}
use Rattle.std.specs.Int.{is_negative}
use Rattle.std.specs.Int.RustNames.{unsigned_abs}
use Rattle.std.proofs.Math.Nat.{mul-le-mul_right}
use Rattle.std.proofs.lemmas.Bool.{cases_lt, false≢true}
use Rattle.std.proofs.lemmas.Int.{ints, unsigned_abs-mul}
use Rattle.std.proofs.lemmas.Nat.{mul-le}
use Rattle.flk_exact.specs.Rounding.{IsFloor, IsCeil, IsBetween}
use Rattle.flk_scale.specs.Parts.{dividend}
use Rattle.flk_scale.specs.Voltage.{voltage_on_line}
use Rattle.flk_scale.specs.Samples.{AreSamplesBetween}
use Rattle.flk_scale.specs.declared.parts.Parts.{Parts}
use Rattle.flk_scale.specs.declared.samples.Samples.{Samples}
use Rattle.flk_exact.proofs.WholeLemmas.{sum-*ℤ, assoc-*ℤ, scale_≤, cancel_≤, atom, nat, plus_is, minus_is, times_is, same}

-- a rounding stays where the dividend and the divisor are multiplied by one number
IsFloor-times : (a q : ℤ) (d k : ℕ) → 0 < k → IsFloor a (pos d) q → IsFloor (a *ℤ pos k) (pos (d * k)) q
IsFloor-times a q d k some f =
    let product = assoc-*ℤ q d k in
    let next : (a +ℤ pos 1) ≤ℤ (q *ℤ pos d +ℤ pos d) = omega (arith, ints, f.greatest) in
    record {
      within = omega (arith, ints, product, scale_≤ (q *ℤ pos d) a k f.within);
      greatest = omega (arith, ints, product, scale_≤ (a +ℤ pos 1) (q *ℤ pos d +ℤ pos d) k next, sum-*ℤ a (pos 1) k, sum-*ℤ (q *ℤ pos d) (pos d) k);
    }

IsCeil-times : (a q : ℤ) (d k : ℕ) → 0 < k → IsCeil a (pos d) q → IsCeil (a *ℤ pos k) (pos (d * k)) q
IsCeil-times a q d k some f =
    let product = assoc-*ℤ q d k in
    let next : (q *ℤ pos d +ℤ pos 1) ≤ℤ (a +ℤ pos d) = omega (arith, ints, f.least) in
    record {
      within = omega (arith, ints, product, scale_≤ a (q *ℤ pos d) k f.within);
      least = omega (arith, ints, product, scale_≤ (q *ℤ pos d +ℤ pos 1) (a +ℤ pos d) k next, sum-*ℤ (q *ℤ pos d) (pos 1) k, sum-*ℤ a (pos d) k);
    }

-- an end's dividend: so many steps from the start, in units of the divisor and then in microvolts
pub low_dividend : (x a b s l : ℤ) (i u e : ℕ) → pos i ≡ x +ℤ pos (2 ^ 31) → s ≡ a *ℤ pos (2 ^ 48)
    → l *ℤ pos u ≡ ((b -ℤ a *ℤ pos (2 ^ 31)) *ℤ pos u -ℤ pos e) *ℤ pos (2 ^ 48)
    → (pos i *ℤ s +ℤ l) *ℤ pos u ≡ ((x *ℤ a +ℤ b) *ℤ pos u -ℤ pos e) *ℤ pos (2 ^ 48)
low_dividend x a b s l i u e f g h =
    rw (sum-*ℤ (pos i *ℤ s) l u, h, f, g)
    (same
    (plus_is (times_is (times_is (plus_is (atom x) (nat (2 ^ 31))) (times_is (atom a) (nat (2 ^ 48)))) (nat u)) (times_is (plus_is (times_is (plus_is (atom b) (minus_is (times_is (atom a) (nat (2 ^ 31))))) (nat u)) (minus_is (nat e))) (nat (2 ^ 48))))
    (times_is (plus_is (times_is (plus_is (times_is (atom x) (atom a)) (atom b)) (nat u)) (minus_is (nat e))) (nat (2 ^ 48)))
    (omega arith))

pub high_dividend : (x a b s l : ℤ) (i u e : ℕ) → pos i ≡ x +ℤ pos (2 ^ 31) → s ≡ a *ℤ pos (2 ^ 48)
    → l *ℤ pos u ≡ ((b -ℤ a *ℤ pos (2 ^ 31)) *ℤ pos u +ℤ pos e) *ℤ pos (2 ^ 48)
    → (pos i *ℤ s +ℤ l) *ℤ pos u ≡ ((x *ℤ a +ℤ b) *ℤ pos u +ℤ pos e) *ℤ pos (2 ^ 48)
high_dividend x a b s l i u e f g h =
    rw (sum-*ℤ (pos i *ℤ s) l u, h, f, g)
    (same
    (plus_is (times_is (times_is (plus_is (atom x) (nat (2 ^ 31))) (times_is (atom a) (nat (2 ^ 48)))) (nat u)) (times_is (plus_is (times_is (plus_is (atom b) (minus_is (times_is (atom a) (nat (2 ^ 31))))) (nat u)) (nat e)) (nat (2 ^ 48))))
    (times_is (plus_is (times_is (plus_is (times_is (atom x) (atom a)) (atom b)) (nat u)) (nat e)) (nat (2 ^ 48)))
    (omega arith))

-- the start of an end: its dividend in microvolts
pub low_start : (l s : ℤ) (r u e : ℕ) → l ≡ (s -ℤ pos r) *ℤ pos (2 ^ 48) → r * u ≡ e → l *ℤ pos u ≡ (s *ℤ pos u -ℤ pos e) *ℤ pos (2 ^ 48)
low_start l s r u e f g =
    rw (f, ← g)
    (same
    (times_is (times_is (plus_is (atom s) (minus_is (nat r))) (nat (2 ^ 48))) (nat u))
    (times_is (plus_is (times_is (atom s) (nat u)) (minus_is (nat (r * u)))) (nat (2 ^ 48)))
    (omega arith))

pub high_start : (l s : ℤ) (r u e : ℕ) → l ≡ (s +ℤ pos r) *ℤ pos (2 ^ 48) → r * u ≡ e → l *ℤ pos u ≡ (s *ℤ pos u +ℤ pos e) *ℤ pos (2 ^ 48)
high_start l s r u e f g =
    rw (f, ← g)
    (same
    (times_is (times_is (plus_is (atom s) (nat r)) (nat (2 ^ 48))) (nat u))
    (times_is (plus_is (times_is (atom s) (nat u)) (nat (r * u))) (nat (2 ^ 48)))
    (omega arith))

-- ---- a scale as it is made: d is the divisor

pub reach_small : (s t : ℤ) (r : ℕ) → unsigned_abs s < 2 ^ 124 + 2 ^ 123 → r ≤ 10 ^ 25 → t ≡ pos r → unsigned_abs (s +ℤ t) < 2 ^ 127
reach_small s t r small high e = omega (arith, ints)

pub size_made : (f a : ℤ) (m : ℕ) → f ≡ a → unsigned_abs a ≤ m → unsigned_abs f ≤ m
size_made f a m same small = rw same small

pub line_made : (f g a b x : ℤ) (u v : ℕ) → f ≡ a → g ≡ b → u ≡ v → voltage_on_line f g u x ≡ voltage_on_line a b v x
line_made f g a b x u v is_a is_b same = rw (is_a, is_b, same) refl

pub nominal_made : (k d u m : ℕ) → k ≡ d → d * u ≡ m → k * u ≡ m
nominal_made k d u m same e = rw same e

pub low_made : (f g a b s t : ℤ) (p : Parts) (k d r u e : ℕ) → f ≡ a → g ≡ b → k ≡ d → s ≡ b -ℤ a *ℤ pos (2 ^ 31) → t ≡ pos r → r * u ≡ e → dividend p d ≡ (s -ℤ t) *ℤ pos (2 ^ 48)
    → dividend p k *ℤ pos u ≡ ((g -ℤ f *ℤ pos (2 ^ 31)) *ℤ pos u -ℤ pos e) *ℤ pos (2 ^ 48)
low_made f g a b s t p k d r u e is_a is_b same start reach value parts = rw (is_a, is_b, same, ← start) (low_start (dividend p d) s r u e (rw reach at parts) value)

pub high_made : (f g a b s t : ℤ) (p : Parts) (k d r u e : ℕ) → f ≡ a → g ≡ b → k ≡ d → s ≡ b -ℤ a *ℤ pos (2 ^ 31) → t ≡ pos r → r * u ≡ e → dividend p d ≡ (s +ℤ t) *ℤ pos (2 ^ 48)
    → dividend p k *ℤ pos u ≡ ((g -ℤ f *ℤ pos (2 ^ 31)) *ℤ pos u +ℤ pos e) *ℤ pos (2 ^ 48)
high_made f g a b s t p k d r u e is_a is_b same start reach value parts = rw (is_a, is_b, same, ← start) (high_start (dividend p d) s r u e (rw reach at parts) value)

pub within_made : (f g a b low high : ℤ) (s : Samples) (k d : ℕ) → f ≡ a → g ≡ b → k ≡ d → low ≡ neg_ℤ high → high ≡ pos (4 * d) → AreSamplesBetween a b low high s → AreSamplesBetween f g (neg_ℤ (pos (4 * k))) (pos (4 * k)) s
within_made f g a b low high s k d is_a is_b same turned limit are = λ x fits. rw (is_a, is_b, same, ← limit, ← turned) (are x fits)

-- a rounded quotient of the code is the one of the definition
pub down_is : (v w q : ℤ) (d u m : ℕ) → 0 < u → d * u ≡ m → v *ℤ pos u ≡ w → IsFloor v (pos d) q → IsFloor w (pos m) q
down_is v w q d u m some e f floor = rw (← e, ← f) (IsFloor-times v q d u some floor)

pub up_is : (v w q : ℤ) (d u m : ℕ) → 0 < u → d * u ≡ m → v *ℤ pos u ≡ w → IsCeil v (pos d) q → IsCeil w (pos m) q
up_is v w q d u m some e f ceil = rw (← e, ← f) (IsCeil-times v q d u some ceil)

-- the two ends are in order
pub ends_order : (p lo hi : ℤ) (e m : ℕ) → 0 < m → IsFloor ((p -ℤ pos e) *ℤ pos (2 ^ 48)) (pos m) lo → IsCeil ((p +ℤ pos e) *ℤ pos (2 ^ 48)) (pos m) hi → lo ≤ℤ hi
ends_order p lo hi e m some floor ceil = cancel_≤ lo hi m some (omega (arith, ints, floor.within, ceil.within))

-- ---- range and sign

-- within four times the divisor is within four times nominal
pub within_range : (n : ℤ) (d u m : ℕ) → 0 < u → d * u ≡ m → IsBetween (neg_ℤ (pos (4 * d))) (pos (4 * d)) n → ¬ (4 * m < unsigned_abs (n *ℤ pos u))
within_range n d u m some e i over =
    let size : unsigned_abs n ≤ 4 * d = omega (arith, ints, i.above, i.below) in
    absurd (omega (arith, unsigned_abs-mul n (pos u), mul-le-mul_right u size))

pub over_range : (n : ℤ) (d u m : ℕ) → 0 < u → d * u ≡ m → ¬ IsBetween (neg_ℤ (pos (4 * d))) (pos (4 * d)) n → 4 * m < unsigned_abs (n *ℤ pos u)
over_range n d u m some e none =
    ⊎_elim
    (λ less. let next : 4 * d + 1 ≤ unsigned_abs n = omega arith in omega (arith, unsigned_abs-mul n (pos u), mul-le-mul_right u next))
    (λ most. absurd (none record { above = omega (arith, ints); below = omega (arith, ints) }))
    (cases_lt (4 * d) (unsigned_abs n))

-- the sign, as a test
sign_natural : (n : ℤ) → pos 0 ≤ℤ n → is_negative n ≡ false
sign_natural n h = grind (arith, ints)

sign_negative : (n : ℤ) → n <ℤ pos 0 → is_negative n ≡ true
sign_negative n h = grind (arith, ints)

-- the voltage of a sample of 32 bits is above the least
pub sample_size : (x a b : ℤ) → unsigned_abs x ≤ 2 ^ 31 → unsigned_abs a ≤ 10000 * 10 ^ 24 → unsigned_abs b ≤ 10000 * 10 ^ 24 → unsigned_abs (x *ℤ a +ℤ b) ≤ 2 ^ 125
sample_size x a b small factor offset =
    let product : unsigned_abs (x *ℤ a) ≤ 2 ^ 31 * (10000 * 10 ^ 24) = omega (arith, unsigned_abs-mul x a, mul-le _ _ _ _ small factor) in
    omega (arith, ints)

-- a number and its product with a positive one have one sign
pub sign_is : (n : ℤ) (u : ℕ) (b : Bool) → 0 < u → unsigned_abs n ≤ 2 ^ 125 → IsTrue b ↔ IsBetween (neg_ℤ (pos (2 ^ 125))) (neg_ℤ (pos 1)) n → b ≡ is_negative (n *ℤ pos u)
sign_is (pos k) u true some small among = absurd (omega (arith, ints, (among.0 refl).below))
sign_is (pos k) u false some small among = sym (sign_natural (pos k *ℤ pos u) (omega (arith, ints)))
sign_is (negsuc k) zero b some small among = absurd (omega arith)
sign_is (negsuc k) (suc u) true some small among = sym (sign_negative (negsuc k *ℤ pos (suc u)) (omega (arith, ints)))
sign_is (negsuc k) (suc u) false some small among = absurd (false≢true (among.1 record { above = omega (arith, ints); below = omega (arith, ints) }))
