-- The long-term flicker severity of IEC 61000-4-15 (Plt), in billionths. The rounding up to billionths is the project's own.
use Rattle.std.specs.Prelude.{List, [], ◌∷◌, ℤ, pos, ◌+ℤ◌, ◌*ℤ◌, ◌≤ℤ◌}

abbrev pub sum_of_cubes : List ℤ → ℤ
sum_of_cubes [] = pos 0
sum_of_cubes (z ∷ zs) = z *ℤ z *ℤ z +ℤ sum_of_cubes zs

-- w is the long-term severity of twelve short-term ones: the cube root of the mean of their cubes, rounded up. It is the least whole number
-- of 0 or more with `12 * w^3 >= ` the sum of their cubes.
pub record IsLongTerm (severities : List ℤ) (w : ℤ) : Type 0 where
  pub natural : pos 0 ≤ℤ w
  pub reaches : sum_of_cubes severities ≤ℤ (pos 12 *ℤ (w *ℤ w *ℤ w))
  pub least : (z : ℤ) → pos 0 ≤ℤ z → sum_of_cubes severities ≤ℤ (pos 12 *ℤ (z *ℤ z *ℤ z)) → w ≤ℤ z
