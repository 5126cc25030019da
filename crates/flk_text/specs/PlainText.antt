-- The plain text of a decimal: `-` where it is negative, the whole part, and a point and a fraction where one remains.
use Rattle.std.specs.Prelude.{ℕ, zero, suc, ◌+◌, ◌/◌, ◌%◌, ◌^◌, cond, eqb, List, [], ◌∷◌, ◌++◌, ℤ, pos, negsuc}
use Rattle.std.specs.Fmt.{decimal}

-- f units of 10^-k, below 1, as digits after a point: the first digit, and then those of what remains until nothing
-- remains
unfoldable pub places_below : ℕ → ℕ → List ℕ
places_below zero f = []
places_below (suc k) f = cond (eqb f 0) [] ((48 + f / 10 ^ k) ∷ places_below k (f % 10 ^ k))

-- nothing, or a point and the digits after it, of f units of 10^-24
abbrev pub fraction_text : ℕ → List ℕ
fraction_text f = cond (eqb f 0) [] (46 ∷ places_below 24 f)

-- the plain text of u units of 10^-24; `decimal` is the whole part without leading zeros, `0` where it is 0
abbrev pub plain_size : ℕ → List ℕ
plain_size u = decimal (u / 10 ^ 24) ++ fraction_text (u % 10 ^ 24)

-- the plain text of z units of 10^-24
abbrev pub plain : ℤ → List ℕ
plain (pos u) = plain_size u
plain (negsuc n) = 45 ∷ plain_size (suc n)
