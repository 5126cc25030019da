-- The text of a whole number, its value, and what `whole` answers.
use Rattle.std.specs.Prelude.{◌≡◌, ℕ, ◌<◌, ◌≤◌, ◌^◌, Bool, List, ◌++◌, length, ℤ, Result, Ok, Err}
use Rattle.flk_text.specs.Numeral.{AreDigits, IsSign, number_from}
use Rattle.flk_text.specs.Decimal.{signed}
use Rattle.flk_text.specs.declared.decimals.NumFault.{NumFault}
use Rattle.flk_text.specs.declared.decimals.NumFault.TheVariants.{Syntax, Range}

-- a sign, and one or more digits, which write n
pub record IsWhole (text : List ℕ) (minus : Bool) (n : ℕ) : Type 0 where
  pub sign : List ℕ
  pub digits : List ℕ
  pub text_is : text ≡ sign ++ digits
  pub sign_is : IsSign sign minus
  pub are : AreDigits digits
  pub some : 0 < length digits
  pub value : n ≡ number_from 0 digits

-- the text is a whole number, and z is its value, at most 10^12 in size
pub record IsWholeValue (text : List ℕ) (z : ℤ) : Type 0 where
  pub minus : Bool
  pub size : ℕ
  pub spelled : IsWhole text minus size
  pub most : size ≤ 10 ^ 12
  pub is : z ≡ signed minus size

-- the text is of a whole number's form
abbrev pub IsWholeForm : List ℕ → Type 0
IsWholeForm text = (minus : Bool) × (n : ℕ) × IsWhole text minus n

-- the value; Syntax where the text isn't of the form; Range where it is of the form and its value is above 10^12
-- in size
abbrev pub IsWholeAnswer : List ℕ → Result ℤ NumFault → Type 0
IsWholeAnswer text (Ok z) = IsWholeValue text z
IsWholeAnswer text (Err Syntax) = IsWholeForm text → ⊥
IsWholeAnswer text (Err Range) = IsWholeForm text × ((z : ℤ) → IsWholeValue text z → ⊥)
