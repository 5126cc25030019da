-- The numbers of dates and times as they are found from the left. Contracts of private functions cite this file:
-- `Dates` says what a text is.
use Rattle.std.specs.Prelude.{ℕ, ◌+◌, ◌-◌, ◌*◌, ◌^◌, ◌&&◌, leb, ltb, eqb, List, [], ◌∷◌, length, Option, Some, None, if◌then◌else◌}
use Rattle.std.specs.List.{list_all}
use Rattle.flk_text.specs.Numeral.{is_digit, number_from}
use Rattle.flk_text.specs.NumeralParts.{◌>>=◌}

-- one or two digits in front: their number, and what follows
unfoldable pub short_of : List ℕ → Option (ℕ × List ℕ)
short_of [] = None
short_of (a ∷ []) = if is_digit a then Some (number_from 0 (a ∷ []), []) else None
short_of (a ∷ b ∷ rest) =
    if is_digit a
    then (if is_digit b then Some (number_from 0 (a ∷ b ∷ []), rest) else Some (number_from 0 (a ∷ []), b ∷ rest))
    else None

-- two digits in front: their number, and what follows
unfoldable pub two_of : List ℕ → Option (ℕ × List ℕ)
two_of [] = None
two_of (a ∷ []) = None
two_of (a ∷ b ∷ rest) = if is_digit a && is_digit b then Some (number_from 0 (a ∷ b ∷ []), rest) else None

-- what follows the byte in front
unfoldable pub after_of : ℕ → List ℕ → Option (List ℕ)
after_of mark [] = None
after_of mark (b ∷ rest) = if eqb b mark then Some rest else None

-- what the numbers of a date are: day, month, year
pub record DateNumbers : Type 0 where
  pub day : ℕ
  pub month : ℕ
  pub year : ℕ

unfoldable pub date_of : List ℕ → Option DateNumbers
date_of text =
    short_of text >>= λ d. after_of 47 d.1 >>= λ r. short_of r >>= λ m. after_of 47 m.1 >>= λ s. two_of s
    >>= λ c. two_of c.1 >>= λ y.
    if eqb (length y.1) 0 then Some (record { day = d.0; month = m.0; year = c.0 * 100 + y.0 }) else None

-- the nanoseconds of a fraction, which is all of the bytes
unfoldable pub nanos_of : List ℕ → Option ℕ
nanos_of [] = Some 0
nanos_of (b ∷ digits) =
    if eqb b 46
    then (if (list_all is_digit digits && ltb 0 (length digits)) && leb (length digits) 9
    then Some (number_from 0 digits * 10 ^ (9 - length digits)) else None)
    else None

-- what the numbers of a time are
pub record TimeNumbers : Type 0 where
  pub hour : ℕ
  pub minute : ℕ
  pub second : ℕ
  pub nanos : ℕ

unfoldable pub time_of : List ℕ → Option TimeNumbers
time_of text =
    short_of text >>= λ h. after_of 58 h.1 >>= λ r. two_of r >>= λ m. after_of 58 m.1 >>= λ q. two_of q
    >>= λ s. nanos_of s.1 >>= λ n.
    Some (record { hour = h.0; minute = m.0; second = s.0; nanos = n })
