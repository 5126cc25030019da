-- The numbers that the rows of a certificate of a section are judged by. Coefficients are whole numbers over 2^32.
--
-- A section in transposed direct form II has two states: `y = b0*x + s1`, then `s1 = b1*x - a1*y + s2` and
-- `s2 = b2*x - a2*y`. A row (x, y) stands for the form `x*s1 + y*s2` of the errors of the states.
use Rattle.std.specs.Prelude.{ℕ, ◌+◌, ◌*◌, ◌^◌, ℤ, pos, neg_ℤ, ◌+ℤ◌, ◌-ℤ◌, ◌*ℤ◌, ◌≤ℤ◌}
use Rattle.std.specs.Int.RustNames.{unsigned_abs}
use Rattle.flk_cert.specs.declared.coefs.Coefs.{Coefs}

-- how much of the first state's error the form takes up over one sample
abbrev pub fed_back : Coefs → ℤ → ℤ → ℤ
fed_back k x y = neg_ℤ (k.a1 *ℤ x) -ℤ k.a2 *ℤ y

-- how much of the input's error it takes up
abbrev pub input_share : Coefs → ℤ → ℤ → ℕ
input_share k x y = unsigned_abs (x *ℤ (pos (2 ^ 32) *ℤ k.b1 -ℤ k.a1 *ℤ k.b0) +ℤ y *ℤ (pos (2 ^ 32) *ℤ k.b2
    -ℤ k.a2 *ℤ k.b0))

-- how much of the rounding of products, each of which loses less than one unit
abbrev pub rounding_share : Coefs → ℤ → ℤ → ℕ
rounding_share k x y = 2 ^ 32 * unsigned_abs (k.a1 *ℤ x +ℤ k.a2 *ℤ y) + 2 ^ 64 * (unsigned_abs x + unsigned_abs y)

-- 0 or more, and at most so much
pub record IsUpTo (most : ℕ) (z : ℤ) : Type 0 where
  pub low : pos 0 ≤ℤ z
  pub high : z ≤ℤ pos most
