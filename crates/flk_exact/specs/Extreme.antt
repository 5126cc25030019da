-- The least and the greatest of a list of whole numbers.
use Rattle.std.specs.Prelude.{List, ℤ, ◌≤ℤ◌}
use Rattle.std.specs.List.{All, Contains}

-- m is among the numbers, and at most each of them
pub record IsLeast (xs : List ℤ) (m : ℤ) : Type 0 where
  pub among : Contains xs m
  pub at_most : All (λ x. m ≤ℤ x) xs

-- m is among the numbers, and at least each of them
pub record IsGreatest (xs : List ℤ) (m : ℤ) : Type 0 where
  pub among : Contains xs m
  pub at_least : All (λ x. x ≤ℤ m) xs
