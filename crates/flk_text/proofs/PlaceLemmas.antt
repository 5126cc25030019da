-- Where a byte stands first behind bytes among which there is none.
use Rattle.std.proofs.Common.{◌≡◌, ℕ, ◌+◌, ◌≤◌, Bool, List, [], ◌∷◌, ◌++◌, length, arith, inl, inr}
use Rattle.std.specs.List.{position_or_len}
use Rattle.std.proofs.lemmas.Bool.{cases_Bool}

pub place_behind : (p : ℕ → Bool) (xs ys : List ℕ) → length xs ≤ position_or_len p xs → position_or_len p (xs ++ ys) ≡ length xs + position_or_len p ys
place_behind p [] ys none = omega arith
place_behind p (x ∷ xs) ys none =
    elim (cases_Bool (p x)) [
      | inl so ↦ absurd (omega (arith, rw so at none))
      | inr off ↦ rw off (omega (arith, place_behind p xs ys (omega (arith, rw off at none))))
    ]
