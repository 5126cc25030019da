-- A number of billionths as text, with a decimal point.
use Rattle.std.specs.Prelude.{ℕ, ◌-◌, ◌/◌, ◌%◌, ◌^◌, List, ◌++◌, length, replicate, codes}
use Rattle.std.specs.Fmt.{decimal}

-- a number below 10^9 in nine digits
abbrev pub nine_digits : ℕ → List ℕ
nine_digits n = replicate (9 - length (decimal n)) 48 ++ decimal n

-- a number of billionths as its whole part, a point and nine digits
abbrev pub billionths : ℕ → List ℕ
billionths n = decimal (n / 10 ^ 9) ++ codes "." ++ nine_digits (n % 10 ^ 9)

-- an interval of billionths as its two ends
abbrev pub ends_text : ℕ → ℕ → List ℕ
ends_text least greatest = billionths least ++ codes " to " ++ billionths greatest
