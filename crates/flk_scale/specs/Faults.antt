-- The number of each kind of fault of a match.
use Rattle.std.specs.Prelude.{ℕ}
use Rattle.flk_scale.specs.declared.fault.MatchFault.{MatchFault}
use Rattle.flk_scale.specs.declared.fault.MatchFault.TheVariants.{Channel, Unit, Scale, Lamp, TooShort, TooLong}

-- the number that is printed
abbrev pub match_number : MatchFault → ℕ
match_number (Channel asked there) = 1
match_number (Unit channel) = 2
match_number (Scale channel) = 3
match_number (Lamp hertz lf) = 4
match_number (TooShort needed there) = 5
match_number (TooLong limit there) = 6
