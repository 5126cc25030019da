-- The values of single fields of a configuration: which field writes which value.
use Rattle.std.specs.Prelude.{◌≡◌, ℕ, ◌+◌, ◌≤◌, ◌<ℤ◌, ◌⊎◌, ◌*◌, ◌^◌, Bool, true, cond, not, ◌||◌, eqb, List, [], ◌∷◌, ◌++◌, length, codes, ℤ, pos}
use Rattle.std.specs.List.{list_all}
use Rattle.std.specs.Str.{str_eq_ignore_ascii_case}
use Rattle.flk_num.specs.Rate.{samples_per_second}
use Rattle.flk_num.specs.declared.rate.Rate.{Rate}
use Rattle.flk_text.specs.Decimal.{IsDecimal}
use Rattle.flk_text.specs.WholeNumber.{IsWholeValue}
use Rattle.flk_field.specs.declared.form.Form.{Form}
use Rattle.flk_field.specs.declared.form.Form.TheVariants.{Ascii, Binary}

-- neither a CR nor a byte 1A
abbrev pub is_text_byte : ℕ → Bool
is_text_byte b = not (eqb b 13 || eqb b 26)

-- a text: at most 64 bytes, without CR and 1A; it may be empty
pub record IsText (f : List ℕ) : Type 0 where
  pub few : length f ≤ 64
  pub plain : list_all is_text_byte f ≡ true

-- the field is a text, and this is it
pub record HasText (f text : List ℕ) : Type 0 where
  pub inside : IsText f
  pub is : text ≡ f

-- a whole number from the least to the most, and n is its value
pub record IsWholeFrom (least most : ℕ) (f : List ℕ) (n : ℕ) : Type 0 where
  pub value : IsWholeValue f (pos n)
  pub at_least : least ≤ n
  pub at_most : n ≤ most

-- the field ends in the letter, a capital or a small one, and this is what stands before it
pub record EndsIn (capital : ℕ) (f front : List ℕ) : Type 0 where
  pub letter : ℕ
  pub is : f ≡ front ++ letter ∷ []
  pub letter_is : (letter ≡ capital) ⊎ (letter ≡ capital + 32)

-- a whole number from the least to the most with a letter behind it, and n is the number
pub record IsCounted (capital least most : ℕ) (f : List ℕ) (n : ℕ) : Type 0 where
  pub front : List ℕ
  pub ends : EndsIn capital f front
  pub number : IsWholeFrom least most front n

-- nothing, which stands for 0, or a decimal
abbrev pub IsDecimalOrZero : List ℕ → ℤ → Type 0
IsDecimalOrZero f z = ((f ≡ []) × (z ≡ pos 0)) ⊎ IsDecimal f z

-- a decimal above 0
pub record IsFrequency (f : List ℕ) (z : ℤ) : Type 0 where
  pub value : IsDecimal f z
  pub above : pos 0 <ℤ z

-- a sampling rate in units of 10^-24 of a hertz
abbrev pub rate_units : Rate → ℤ
rate_units rate = pos (samples_per_second rate * 10 ^ 24)

-- a decimal that is equal to the rate
abbrev pub IsRate : List ℕ → Rate → Type 0
IsRate f rate = IsDecimal f (rate_units rate)

-- `P`, `p`, `S` or `s`
pub record IsSide (f : List ℕ) (b : ℕ) : Type 0 where
  pub is : f ≡ b ∷ []
  pub letter : (b ≡ 80) ⊎ ((b ≡ 112) ⊎ ((b ≡ 83) ⊎ (b ≡ 115)))

-- the whole number 0 or 1
abbrev pub IsBit : List ℕ → Bool → Type 0
IsBit f b = IsWholeFrom 0 1 f (cond b 1 0)

-- `ASCII` or `BINARY`, in any case
abbrev pub IsFormWord : List ℕ → Form → Type 0
IsFormWord f Ascii = str_eq_ignore_ascii_case f (codes "ASCII") ≡ true
IsFormWord f Binary = str_eq_ignore_ascii_case f (codes "BINARY") ≡ true
