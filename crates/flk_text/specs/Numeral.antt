-- The text of a decimal: a sign, digits, a fraction and an exponent, one after another.
use Rattle.std.specs.Prelude.{◌≡◌, ℕ, ◌+◌, ◌-◌, ◌*◌, ◌<◌, ◌≤◌, Bool, true, false, cond, ◌&&◌, leb, ◌⊎◌, List, [], ◌∷◌, ◌++◌, length, fold}
use Rattle.std.specs.List.{list_all}

-- `0` to `9`
abbrev pub is_digit : ℕ → Bool
is_digit b = leb 48 b && leb b 57

-- each byte is a digit; there may be none
abbrev pub AreDigits : List ℕ → Type 0
AreDigits ds = list_all is_digit ds ≡ true

-- the number that the digits of n and then these digits write
abbrev pub number_from : ℕ → List ℕ → ℕ
number_from n ds = fold (λ n b. n * 10 + (b - 48)) n ds

-- nothing, a plus, or a minus
abbrev pub IsSign : List ℕ → Bool → Type 0
IsSign sign minus =
    ((sign ≡ []) × (minus ≡ false))
    ⊎ (((sign ≡ 43 ∷ []) × (minus ≡ false)) ⊎ ((sign ≡ 45 ∷ []) × (minus ≡ true)))

-- nothing, or a point and digits
abbrev pub IsFraction : List ℕ → List ℕ → Type 0
IsFraction part ds = ((part ≡ []) × (ds ≡ [])) ⊎ ((part ≡ 46 ∷ ds) × AreDigits ds)

-- `E` or `e`, a sign, and one to three digits; it moves the point right, or left where the sign is a minus, by their
-- number
pub record IsPowerOfTen (part : List ℕ) (right left : ℕ) : Type 0 where
  pub letter : ℕ
  pub sign : List ℕ
  pub minus : Bool
  pub digits : List ℕ
  pub part_is : part ≡ letter ∷ (sign ++ digits)
  pub letter_is : (letter ≡ 69) ⊎ (letter ≡ 101)
  pub sign_is : IsSign sign minus
  pub are : AreDigits digits
  pub some : 0 < length digits
  pub few : length digits ≤ 3
  pub right_is : right ≡ cond minus 0 (number_from 0 digits)
  pub left_is : left ≡ cond minus (number_from 0 digits) 0

-- nothing, or a power of ten
abbrev pub IsExponent : List ℕ → ℕ → ℕ → Type 0
IsExponent part right left = ((part ≡ []) × (right ≡ 0) × (left ≡ 0)) ⊎ IsPowerOfTen part right left

-- what a decimal says: whether it has a minus, its digits before and after the point, and how many places its exponent
-- moves the point to the right and to the left
pub record Numeral : Type 0 where
  pub minus : Bool
  pub whole : List ℕ
  pub fraction : List ℕ
  pub right : ℕ
  pub left : ℕ

-- the text is that of the decimal: a sign, the digits before the point, at most one point with the digits after it, and
-- an exponent; there is at least one digit
pub record IsNumeral (text : List ℕ) (d : Numeral) : Type 0 where
  pub sign : List ℕ
  pub fraction : List ℕ
  pub exponent : List ℕ
  pub text_is : text ≡ sign ++ (d.whole ++ (fraction ++ exponent))
  pub sign_is : IsSign sign d.minus
  pub whole_is : AreDigits d.whole
  pub fraction_is : IsFraction fraction d.fraction
  pub some : 0 < length d.whole + length d.fraction
  pub exponent_is : IsExponent exponent d.right d.left

-- the number that all its digits write, as if there were no point
abbrev pub digits_number : Numeral → ℕ
digits_number d = number_from (number_from 0 d.whole) d.fraction

-- by how many places the point moves left in all: the exponent's, and one for each digit after the point
abbrev pub places_left : Numeral → ℕ
places_left d = d.left + length d.fraction
