-- The value of a decimal's text in units of 10^-24, the set of values, and what `decimal` answers.
use Rattle.std.specs.Prelude.{◌≡◌, ◌≢◌, ℕ, ◌+◌, ◌*◌, ◌%◌, ◌^◌, ◌<◌, ◌≤◌, ◌⊎◌, Bool, cond, List, length, ℤ, pos, neg_ℤ, Result, Ok, Err}
use Rattle.flk_text.specs.Numeral.{Numeral, IsNumeral, digits_number}
use Rattle.flk_text.specs.declared.decimals.DecimalValue.{DecimalValue}
use Rattle.flk_text.specs.declared.decimals.NumFault.{NumFault}
use Rattle.flk_text.specs.declared.decimals.NumFault.TheVariants.{Syntax, Range}

-- u units of 10^-24 are the number n with its point moved right and left: u * 10^-24 = n * 10^(right - left)
abbrev pub IsUnits : ℕ → ℕ → ℕ → ℕ → Type 0
IsUnits n right left u = u * 10 ^ left ≡ n * 10 ^ (right + 24)

-- u units of 10^-24 are in the set: they are m * 10^e, where m is 0 or a whole number that 10 doesn't divide, m has at
-- most 18 digits, e is at least -24 (it is `places` - 24), and the value is at most 10^12
pub record IsInSet (u : ℕ) : Type 0 where
  pub m : ℕ
  pub places : ℕ
  pub is : u ≡ m * 10 ^ places
  pub reduced : (m ≡ 0) ⊎ (m % 10 ≢ 0)
  pub digits : m < 10 ^ 18
  pub most : u ≤ 10 ^ 12 * 10 ^ 24

-- the number below 0 where there is a minus
abbrev pub signed : Bool → ℕ → ℤ
signed minus u = cond minus (neg_ℤ (pos u)) (pos u)

-- the text is a decimal, and z units of 10^-24 are its value, which is in the set
pub record IsDecimal (text : List ℕ) (z : ℤ) : Type 0 where
  pub numeral : Numeral
  pub units : ℕ
  pub spelled : IsNumeral text numeral
  pub value : IsUnits (digits_number numeral) numeral.right (numeral.left + length numeral.fraction) units
  pub inside : IsInSet units
  pub signed_is : z ≡ signed numeral.minus units

-- the text is of a decimal's form
abbrev pub IsForm : List ℕ → Type 0
IsForm text = (d : Numeral) × IsNumeral text d

-- the value; Syntax where the text isn't of the form; Range where it is of the form and has no value in the set
abbrev pub IsAnswer : List ℕ → Result DecimalValue NumFault → Type 0
IsAnswer text (Ok d) = IsDecimal text d.n
IsAnswer text (Err Syntax) = IsForm text → ⊥
IsAnswer text (Err Range) = IsForm text × ((z : ℤ) → IsDecimal text z → ⊥)

-- m * 10^(up - down), where 10 doesn't divide m, isn't in the set: m has more than 18 digits, or its exponent is below
-- -24, or the value is above 10^12
abbrev pub IsOutOfRange : ℕ → ℕ → ℕ → Type 0
IsOutOfRange m up down = (10 ^ 18 ≤ m) ⊎ ((up + 24 < down) ⊎ (10 ^ 12 * 10 ^ down < m * 10 ^ up))
