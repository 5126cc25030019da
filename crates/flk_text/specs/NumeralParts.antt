-- The parts of a number's text as they are found from the left. Contracts of private functions cite this file:
-- `Numeral` says what a text is.
use Rattle.std.specs.Prelude.{ℕ, ◌+◌, Bool, true, false, ◌&&◌, ◌||◌, leb, ltb, eqb, List, [], ◌∷◌, length, take, drop, Option, Some, None, if◌then◌else◌}
use Rattle.std.specs.List.{prefix_len}
use Rattle.flk_text.specs.Numeral.{is_digit, number_from, Numeral}

-- a step that may fail, and the steps after it
infixl 10 ◌>>=◌
abbrev pub ◌>>=◌ : {A B : Type 0} → Option A → (A → Option B) → Option B
(Some x) >>= f = f x
None >>= f = None

-- the digits in front
abbrev pub digits_of : List ℕ → List ℕ
digits_of bytes = take (prefix_len is_digit bytes) bytes

-- what follows the digits in front
abbrev pub after_digits : List ℕ → List ℕ
after_digits bytes = drop (prefix_len is_digit bytes) bytes

-- whether a minus stands in front, and what follows the sign
unfoldable pub sign_of : List ℕ → Bool × List ℕ
sign_of [] = (false, [])
sign_of (b ∷ bytes) = if eqb b 45 then (true, bytes) else if eqb b 43 then (false, bytes) else (false, b ∷ bytes)

-- the digits behind a point, and what follows them
unfoldable pub fraction_of : List ℕ → List ℕ × List ℕ
fraction_of [] = ([], [])
fraction_of (b ∷ bytes) = if eqb b 46 then (digits_of bytes, after_digits bytes) else ([], b ∷ bytes)

-- how many places the exponent moves the point right and left, the exponent being all of the bytes
unfoldable pub exponent_of : List ℕ → Option (ℕ × ℕ)
exponent_of [] = Some (0, 0)
exponent_of (b ∷ bytes) =
    let s = sign_of bytes in
    let ds = digits_of s.1 in
    if eqb b 69 || eqb b 101 then
    if (eqb (length (after_digits s.1)) 0 && ltb 0 (length ds)) && leb (length ds) 3
    then Some (if s.0 then (0, number_from 0 ds) else (number_from 0 ds, 0))
    else None
    else None

-- the decimal that the text is of, or None where it isn't of that form
unfoldable pub numeral_of : List ℕ → Option Numeral
numeral_of text =
    let s = sign_of text in
    let f = fraction_of (after_digits s.1) in
    if eqb (length (digits_of s.1) + length f.0) 0 then None
    else exponent_of f.1 >>= λ e.
    Some (record { minus = s.0; whole = digits_of s.1; fraction = f.0; right = e.0; left = e.1 })

-- whether a whole number's text has a minus, and its digits, or None where it isn't of that form
unfoldable pub whole_of : List ℕ → Option (Bool × List ℕ)
whole_of text =
    let s = sign_of text in
    if eqb (length (after_digits s.1)) 0 && ltb 0 (length (digits_of s.1)) then Some (s.0, digits_of s.1) else None
