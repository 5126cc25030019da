-- Rounded quotients and roots of whole numbers: each as a function, and as the bracket that proofs use.
use Rattle.std.specs.Prelude.{ℤ, pos, neg_ℤ, ◌+ℤ◌, ◌-ℤ◌, ◌*ℤ◌, ◌≤ℤ◌, ◌<ℤ◌}
use Rattle.std.specs.Int.{int_div_euclid}

-- `a / b` rounded down and rounded up, for a positive b
abbrev pub floor_of : ℤ → ℤ → ℤ
floor_of a b = int_div_euclid a b

abbrev pub ceil_of : ℤ → ℤ → ℤ
ceil_of a b = neg_ℤ (int_div_euclid (neg_ℤ a) b)

-- q is the greatest whole number that is at most `a / b`
pub record IsFloor (a b q : ℤ) : Type 0 where
  pub within : (q *ℤ b) ≤ℤ a
  pub greatest : a <ℤ (q *ℤ b +ℤ b)

-- q is the least whole number that is at least `a / b`
pub record IsCeil (a b q : ℤ) : Type 0 where
  pub within : a ≤ℤ (q *ℤ b)
  pub least : (q *ℤ b -ℤ b) <ℤ a

-- w is the greatest whole number whose square is at most v
pub record IsRootFloor (v w : ℤ) : Type 0 where
  pub natural : pos 0 ≤ℤ w
  pub within : (w *ℤ w) ≤ℤ v
  pub greatest : v <ℤ ((w +ℤ pos 1) *ℤ (w +ℤ pos 1))

-- w is the least whole number of 0 or more whose square is at least v
pub record IsRootCeil (v w : ℤ) : Type 0 where
  pub natural : pos 0 ≤ℤ w
  pub within : v ≤ℤ (w *ℤ w)
  pub least : (z : ℤ) → pos 0 ≤ℤ z → v ≤ℤ (z *ℤ z) → w ≤ℤ z

-- w is the least whole number of 0 or more whose cube is at least v
pub record IsCubeRootCeil (v w : ℤ) : Type 0 where
  pub natural : pos 0 ≤ℤ w
  pub within : v ≤ℤ (w *ℤ w *ℤ w)
  pub least : (z : ℤ) → pos 0 ≤ℤ z → v ≤ℤ (z *ℤ z *ℤ z) → w ≤ℤ z

-- z lies between two whole numbers
pub record IsBetween (lo hi z : ℤ) : Type 0 where
  pub above : lo ≤ℤ z
  pub below : z ≤ℤ hi
