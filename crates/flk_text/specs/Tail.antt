-- The tail: what may follow the last line of a file.
use Rattle.std.specs.Prelude.{◌≡◌, ℕ, ◌≤◌, true, Bool, eqb, List, ◌||◌}
use Rattle.std.specs.List.{list_all, count_by}
use Rattle.flk_text.specs.Lines.{is_byte}

-- a CR, an LF, a space or a byte 1A
abbrev pub is_tail_byte : ℕ → Bool
is_tail_byte b = (eqb b 13 || eqb b 10) || (eqb b 32 || eqb b 26)

-- each byte is a CR, an LF, a space or a 1A, and at most one is a 1A
pub record IsTail (tail : List ℕ) : Type 0 where
  pub bytes : list_all is_tail_byte tail ≡ true
  pub one : count_by (is_byte 26) tail ≤ 1
