-- The samples that a rising line takes into a range.
use Rattle.std.proofs.Common.{◌≡◌, ℕ, ℤ, pos, neg_ℤ, ◌+ℤ◌, ◌-ℤ◌, ◌*ℤ◌, ◌≤ℤ◌, ◌<ℤ◌, arith}
use Rattle.std.specs.Prelude.{negsuc, ◌↔◌}
use Rattle.std.proofs.lemmas.Int.{ints, by_lt_z}
use Rattle.flk_exact.specs.Rounding.{IsFloor, IsCeil, IsBetween}
use Rattle.flk_exact.proofs.WholeLemmas.{sum-*ℤ, scale_≤, atom, plus_is, minus_is, times_is, same}

low_side : (n : ℕ) (b low first x : ℤ) → IsCeil (low -ℤ b) (pos n) first → (first ≤ℤ x) ↔ (low ≤ℤ (x *ℤ pos n +ℤ b))
low_side n b low first x c = (
  λ h. omega (arith, ints, scale_≤ first x n h, c.within),
  λ h.
      by_lt_z x first
      (λ more. let step : (x +ℤ pos 1) ≤ℤ first = omega (arith, ints) in
      absurd (omega (arith, ints, scale_≤ (x +ℤ pos 1) first n step, sum-*ℤ x (pos 1) n, c.least)))
      (λ within. within),
)

high_side : (n : ℕ) (b high last x : ℤ) → IsFloor (high -ℤ b) (pos n) last → (x ≤ℤ last) ↔ ((x *ℤ pos n +ℤ b) ≤ℤ high)
high_side n b high last x f = (
  λ h. omega (arith, ints, scale_≤ x last n h, f.within),
  λ h.
      by_lt_z last x
      (λ more. let step : (last +ℤ pos 1) ≤ℤ x = omega (arith, ints) in
      absurd (omega (arith, ints, scale_≤ (last +ℤ pos 1) x n step, sum-*ℤ last (pos 1) n, f.greatest)))
      (λ within. within),
)

pub rising_range : (a b low high first last x : ℤ) → pos 0 <ℤ a → IsCeil (low -ℤ b) a first → IsFloor (high -ℤ b) a last → IsBetween first last x ↔ IsBetween low high (x *ℤ a +ℤ b)
rising_range (pos n) b low high first last x some c f =
    let l = low_side n b low first x c in
    let h = high_side n b high last x f in (
      λ i. record { above = l.0 i.above; below = h.0 i.below },
      λ i. record { above = l.1 i.above; below = h.1 i.below },
    )
rising_range (negsuc n) b low high first last x some c f = absurd (omega (arith, ints))

-- the line with all signs turned
pub turned : (a b x : ℤ) → x *ℤ neg_ℤ a +ℤ neg_ℤ b ≡ neg_ℤ (x *ℤ a +ℤ b)
turned a b x = same (plus_is (times_is (atom x) (minus_is (atom a))) (minus_is (atom b))) (minus_is (plus_is (times_is (atom x) (atom a)) (atom b))) (omega arith)

pub turned_range : (a b low high x : ℤ) → IsBetween (neg_ℤ high) (neg_ℤ low) (x *ℤ neg_ℤ a +ℤ neg_ℤ b) ↔ IsBetween low high (x *ℤ a +ℤ b)
turned_range a b low high x =
    let e = turned a b x in (
      λ i. record { above = omega (arith, ints, i.below); below = omega (arith, ints, i.above) },
      λ i. record { above = omega (arith, ints, i.below); below = omega (arith, ints, i.above) },
    )

-- a level line
pub level_range : (a b low high x : ℤ) → a ≡ pos 0 → IsBetween low high b ↔ IsBetween low high (x *ℤ a +ℤ b)
level_range a b low high x none =
    let e : x *ℤ a +ℤ b ≡ b = rw none (omega (arith, ints)) in
    (λ i. rw e i, λ i. rw e at i)

-- ends that are beside the samples as others are have the same samples between them
pub cut_range : (first last lo hi x : ℤ) {B : Type 0} → (first ≤ℤ x) ↔ (lo ≤ℤ x) → (x ≤ℤ last) ↔ (x ≤ℤ hi) → IsBetween lo hi x ↔ B → IsBetween first last x ↔ B
cut_range first last lo hi x f l b = (
  λ i. b.0 (record { above = f.0 i.above; below = l.0 i.below }),
  λ h.
      let i = b.1 h in
      record { above = f.1 i.above; below = l.1 i.below },
)
