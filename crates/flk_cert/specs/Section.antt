-- A filter section of the second order, exactly: its difference equation over fractions. A list has its newest value
-- first.
use Rattle.std.specs.Prelude.{◌^◌, Bool, true, false, List, [], ◌∷◌, ℤ, pos}
use Rattle.std.proofs.Common.{lit<}
use Rattle.flk_exact.specs.Fraction.{Fraction, ◌≈ℚ◌, ◌+ℚ◌, ◌-ℚ◌, ◌*ℚ◌, whole}
use Rattle.flk_cert.specs.declared.coefs.Coefs.{Coefs}

-- a coefficient is a whole number over 2^32
abbrev pub coefficient : ℤ → Fraction
coefficient k = record { num = k; den = 2 ^ 32; positive = lit< tt }

-- the newest value and the one before it, where d stands before the first sample
abbrev pub newest : {A : Type 0} → A → List A → A
newest d [] = d
newest d (x ∷ xs) = x

abbrev pub second_newest : {A : Type 0} → A → List A → A
second_newest d [] = d
second_newest d (x ∷ xs) = newest d xs

-- Before the first sample the outputs are 0, and the inputs are 0 or, for a section that starts from one, 1.
abbrev pub input_before : (from_one : Bool) → Fraction
input_before true = whole (pos 1)
input_before false = whole (pos 0)

abbrev pub output_before : Fraction
output_before = whole (pos 0)

-- `y_n = b0 x_n + b1 x_(n-1) + b2 x_(n-2) - a1 y_(n-1) - a2 y_(n-2)` for each sample n
abbrev pub IsSection : Coefs → (from_one : Bool) → (xs ys : List Fraction) → Type 0
IsSection k from_one [] [] = Unit {0}
IsSection k from_one [] (y ∷ ys) = ⊥
IsSection k from_one (x ∷ xs) [] = ⊥
IsSection k from_one (x ∷ xs) (y ∷ ys) =
    (y ≈ℚ (coefficient k.b0 *ℚ x +ℚ coefficient k.b1 *ℚ newest (input_before from_one) xs
    +ℚ coefficient k.b2 *ℚ second_newest (input_before from_one) xs
    -ℚ coefficient k.a1 *ℚ newest output_before ys -ℚ coefficient k.a2 *ℚ second_newest output_before ys))
    × IsSection k from_one xs ys

-- The two states of direct form II transposed, after the samples xs with the outputs ys: the next output is
-- `b0 x + s1`, and the next first state `b1 x - a1 y + s2`.
abbrev pub first_state : Coefs → (from_one : Bool) → (xs ys : List Fraction) → Fraction
first_state k from_one xs ys =
    coefficient k.b1 *ℚ newest (input_before from_one) xs
    +ℚ coefficient k.b2 *ℚ second_newest (input_before from_one) xs
    -ℚ coefficient k.a1 *ℚ newest output_before ys -ℚ coefficient k.a2 *ℚ second_newest output_before ys

abbrev pub second_state : Coefs → (from_one : Bool) → (xs ys : List Fraction) → Fraction
second_state k from_one xs ys =
    coefficient k.b2 *ℚ newest (input_before from_one) xs -ℚ coefficient k.a2 *ℚ newest output_before ys
