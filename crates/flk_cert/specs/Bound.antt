-- How far a section with rounded products lies from the exact one. A list has its newest value first, and each part of
-- a run's beginning is a run, so that a bound of the newest value is one of each value.
use Rattle.std.specs.Prelude.{◌≡◌, ◌^◌, Bool, true, false, List, ◌∷◌, ℤ, pos, neg_ℤ, ◌<ℤ◌}
use Rattle.std.specs.List.{AllZip}
use Rattle.flk_exact.specs.Fraction.{Fraction, ◌≤ℚ◌, ◌≈ℚ◌, ◌+ℚ◌, ◌-ℚ◌, ◌*ℚ◌, size, whole, units}
use Rattle.flk_cert.specs.declared.coefs.Coefs.{Coefs}
use Rattle.flk_cert.specs.Section.{coefficient, IsSection, first_state, second_state}
use Rattle.flk_cert.specs.RoundedSection.{state, output, outputs}

-- a section may start from one where its output for the constant input 1 is 0 at once
pub record StartsAtRest (k : Coefs) : Type 0 where
  pub opposite : k.b1 ≡ neg_ℤ k.b0
  pub none : k.b2 ≡ pos 0

abbrev pub MayStart : Coefs → (from_one : Bool) → Type 0
MayStart k true = StartsAtRest k
MayStart k false = Unit {0}

-- x lies within s of X units
pub record IsInputNear (s x : Fraction) (X : ℤ) : Type 0 where
  pub near : size (x -ℚ units X) ≤ℚ s

-- each exact input lies within s of the rounded section's
abbrev pub AllNear : Fraction → List Fraction → List ℤ → Type 0
AllNear s xs Xs = AllZip (IsInputNear s) xs Xs

-- `|y - Y| <= input*s + rounding`, where input is over 2^32 and rounding in units
abbrev pub IsErrorWithin : (input rounding : ℤ) → (s y : Fraction) → ℤ → Type 0
IsErrorWithin input rounding s y Y = size (y -ℚ units Y) ≤ℚ (coefficient input *ℚ s +ℚ units rounding)

-- Whatever the inputs and their number: where each exact input is within s of the rounded section's, the newest outputs
-- are within `input*s + rounding` of each other.
abbrev pub Bounds : Coefs → (input rounding : ℤ) → Type 0
Bounds k input rounding =
    (from_one : Bool) (s x y : Fraction) (xs ys : List Fraction) (X : ℤ) (Xs : List ℤ)
    → MayStart k from_one → whole (pos 0) ≤ℚ s → IsSection k from_one (x ∷ xs) (y ∷ ys) → AllNear s (x ∷ xs) (X ∷ Xs)
    → IsErrorWithin input rounding s y (output k (state k from_one Xs) X)

-- the same of every output
abbrev pub BoundsEach : Coefs → (input rounding : ℤ) → Type 0
BoundsEach k input rounding =
    (from_one : Bool) (s : Fraction) (xs ys : List Fraction) (Xs : List ℤ)
    → MayStart k from_one → whole (pos 0) ≤ℚ s → IsSection k from_one xs ys → AllNear s xs Xs
    → AllZip (IsErrorWithin input rounding s) ys (outputs k from_one Xs)

-- the errors of the two states
abbrev pub first_error : Coefs → (from_one : Bool) → (xs ys : List Fraction) → (Xs : List ℤ) → Fraction
first_error k from_one xs ys Xs = first_state k from_one xs ys -ℚ units (state k from_one Xs).s1

abbrev pub second_error : Coefs → (from_one : Bool) → (xs ys : List Fraction) → (Xs : List ℤ) → Fraction
second_error k from_one xs ys Xs = second_state k from_one xs ys -ℚ units (state k from_one Xs).s2

-- `2^32*|e1| <= g*s + h` for the error e1 of the first state
abbrev pub BoundsFirst : Coefs → (g h : ℤ) → Type 0
BoundsFirst k g h =
    (from_one : Bool) (s : Fraction) (xs ys : List Fraction) (Xs : List ℤ)
    → MayStart k from_one → whole (pos 0) ≤ℚ s → IsSection k from_one xs ys → AllNear s xs Xs
    → size (whole (pos (2 ^ 32)) *ℚ first_error k from_one xs ys Xs) ≤ℚ (whole g *ℚ s +ℚ units h)

-- `|2^32*e2 - a1*e1| <= g*s + h` for the errors of both states, where h is positive
abbrev pub BoundsSecond : Coefs → (g h : ℤ) → Type 0
BoundsSecond k g h =
    (from_one : Bool) (s : Fraction) (xs ys : List Fraction) (Xs : List ℤ)
    → pos 0 <ℤ h → MayStart k from_one → whole (pos 0) ≤ℚ s → IsSection k from_one xs ys → AllNear s xs Xs
    → size (whole (pos (2 ^ 32)) *ℚ second_error k from_one xs ys Xs -ℚ whole k.a1 *ℚ first_error k from_one xs ys Xs)
    ≤ℚ (whole g *ℚ s +ℚ units h)

-- the second state has no error where h is 0, which says that the certificate has one row
abbrev pub KeepsSecond : Coefs → (h : ℤ) → Type 0
KeepsSecond k h =
    (from_one : Bool) (s : Fraction) (xs ys : List Fraction) (Xs : List ℤ)
    → h ≡ pos 0 → MayStart k from_one → whole (pos 0) ≤ℚ s → IsSection k from_one xs ys → AllNear s xs Xs
    → second_error k from_one xs ys Xs ≈ℚ whole (pos 0)
