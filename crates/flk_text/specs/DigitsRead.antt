-- What the digits read so far stand for: a number of at most 18 digits with zeros behind it, or a longer one. Contracts
-- of private functions cite this file.
use Rattle.std.specs.Prelude.{◌≡◌, ℕ, ◌*◌, ◌^◌, ◌<◌, ◌≤◌, ◌%◌, ◌≢◌, true, false}
use Rattle.flk_text.specs.declared.digits.DigitsRead.{DigitsRead}

-- more than 18 digits are left however many zeros at its end are taken off
abbrev pub IsLong : ℕ → Type 0
IsLong n = (m k : ℕ) → n ≡ m * 10 ^ k → 10 ^ 18 ≤ m

-- the number without the zeros at its end, which has at most 18 digits, and those zeros
pub record IsShort (n significand zeros : ℕ) : Type 0 where
  pub is : n ≡ significand * 10 ^ zeros
  pub few : significand < 10 ^ 18
  pub none : significand ≡ 0 → zeros ≡ 0
  pub last : 0 < significand → significand % 10 ≢ 0

-- the digits read so far write n
pub record StandsFor (s : DigitsRead) (n : ℕ) : Type 0 where
  pub short : s.long ≡ false → IsShort n s.significand s.zeros
  pub long : s.long ≡ true → IsLong n
