-- The lines of a file: which bytes the next line and the last line are, and which bytes follow.
use Rattle.std.specs.Prelude.{◌≡◌, ◌⊎◌, ℕ, ◌-◌, Bool, true, cond, not, eqb, List, [], ◌∷◌, length, take, drop, get_or, ◌||◌}
use Rattle.std.specs.List.{before_first, after_first, position_or_len, list_all}

-- whether b is the byte c
abbrev pub is_byte : ℕ → ℕ → Bool
is_byte c b = eqb b c

-- no byte c stands in the bytes
abbrev pub Lacks : ℕ → List ℕ → Type 0
Lacks c bytes = list_all (λ b. not (eqb b c)) bytes ≡ true

-- one CR at the end is dropped
abbrev pub without_cr : List ℕ → List ℕ
without_cr xs = cond (eqb (get_or xs (length xs - 1) 0) 13) (take (length xs - 1) xs) xs

-- the next line: the bytes before the first LF, or all of them where there is none, without one CR at their end
abbrev pub line_of : List ℕ → List ℕ
line_of bytes = without_cr (before_first (is_byte 10) bytes)

-- what follows the next line: the bytes after the first LF, or none where there is none
abbrev pub after_line : List ℕ → List ℕ
after_line bytes = after_first (is_byte 10) bytes

-- the last line of a file ends with an LF or before a byte 1A
abbrev pub ends_last_line : ℕ → Bool
ends_last_line b = eqb b 10 || eqb b 26

-- the last line: the bytes before the first LF or 1A, or all of them where there is neither, without one CR at
-- their end
abbrev pub last_line_of : List ℕ → List ℕ
last_line_of bytes = without_cr (before_first ends_last_line bytes)

-- one LF in front is dropped
abbrev pub without_lf : List ℕ → List ℕ
without_lf [] = []
without_lf (b ∷ bs) = cond (eqb b 10) bs (b ∷ bs)

-- what follows the last line: the bytes after the LF with which it ends, or those from the 1A on before which it ends,
-- or none
abbrev pub tail_of : List ℕ → List ℕ
tail_of bytes = without_lf (drop (position_or_len ends_last_line bytes) bytes)

-- what stands between a line and what follows it: nothing, a CR, an LF, or both
abbrev pub IsLineEnd : List ℕ → Type 0
IsLineEnd end = (end ≡ []) ⊎ ((end ≡ 13 ∷ []) ⊎ ((end ≡ 10 ∷ []) ⊎ (end ≡ 13 ∷ 10 ∷ [])))
