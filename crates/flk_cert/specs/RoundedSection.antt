-- A filter section in direct form II transposed, with each product rounded down. Its values are whole numbers of units,
-- which are 2^-48 each. A list has its newest value first. The form and its rounding are the project's own.
use Rattle.std.specs.Prelude.{◌^◌, Bool, true, false, List, [], ◌∷◌, ℤ, pos, neg_ℤ, ◌+ℤ◌, ◌-ℤ◌, ◌*ℤ◌}
use Rattle.flk_exact.specs.Rounding.{floor_of}
use Rattle.flk_cert.specs.declared.coefs.Coefs.{Coefs}

-- a coefficient times a value, rounded down
abbrev pub product : ℤ → ℤ → ℤ
product k v = floor_of (k *ℤ v) (pos (2 ^ 32))

pub record State : Type 0 where
  pub s1 : ℤ
  pub s2 : ℤ

-- `y = b0 x + s1`
abbrev pub output : Coefs → State → ℤ → ℤ
output k s x = product k.b0 x +ℤ s.s1

-- `s1 = b1 x - a1 y + s2` and `s2 = b2 x - a2 y`
abbrev pub after : Coefs → State → ℤ → State
after k s x = record {
  s1 = product k.b1 x -ℤ product k.a1 (output k s x) +ℤ s.s2;
  s2 = product k.b2 x
      -ℤ product k.a2 (output k s x);
}

-- Both states begin at 0. A section from one begins as if the input had always been 1, which is 2^48 units, with the
-- output 0.
abbrev pub start : Coefs → (from_one : Bool) → State
start k true = record { s1 = neg_ℤ (pos 65536 *ℤ k.b0); s2 = pos 0 }
start k false = record { s1 = pos 0; s2 = pos 0 }

-- the state after the inputs Xs
abbrev pub state : Coefs → (from_one : Bool) → (Xs : List ℤ) → State
state k from_one [] = start k from_one
state k from_one (X ∷ Xs) = after k (state k from_one Xs) X

-- the output for each input
abbrev pub outputs : Coefs → (from_one : Bool) → (Xs : List ℤ) → List ℤ
outputs k from_one [] = []
outputs k from_one (X ∷ Xs) = output k (state k from_one Xs) X ∷ outputs k from_one Xs
