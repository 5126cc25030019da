-- The parts of a text, as the program holds them, and the decimal that they say.
use Rattle.flk_text.specs.declared.numeral.NumeralParts.{NumeralParts}
use Rattle.flk_text.specs.Numeral.{Numeral}

-- the decimal of these parts
abbrev pub numeral : NumeralParts → Numeral
numeral s = record { minus = s.minus; whole = s.whole.now; fraction = s.fraction.now; right = s.right; left = s.left }
