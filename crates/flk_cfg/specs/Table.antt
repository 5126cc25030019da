-- The rows of the table of a configuration's lines (IEEE C37.111-1999, clause 5.3). The columns of a row are the fields
-- of a line, from the left.
use Rattle.std.specs.Prelude.{ℕ, ◌+◌, ◌-◌, cond, ltb, List, [], ◌∷◌, get_or}
use Rattle.flk_field.specs.Sets.{Set, Text, Revision, Total, Counted, Position, Decimal, DecimalOrZero, Side, Bit, Frequency, OneRate, SamplingRate, SampleCount, Date, Time, FormWord}

abbrev pub title_row : List Set
title_row = Text ∷ Text ∷ Revision ∷ []

-- 65 is `A` and 68 is `D`
abbrev pub counts_row : List Set
counts_row = Total ∷ Counted 65 1 256 ∷ Counted 68 0 256 ∷ []

abbrev pub analog_row : ℕ → List Set
analog_row position =
    Position position ∷ Text ∷ Text ∷ Text ∷ Text ∷ Decimal ∷ Decimal ∷ DecimalOrZero ∷ Decimal ∷ Decimal ∷ Decimal
    ∷ Decimal ∷ Side ∷ []

abbrev pub digital_row : ℕ → List Set
digital_row position = Position position ∷ Text ∷ Text ∷ Text ∷ Bit ∷ []

-- the lines after those of the channels, up to the one before the last
abbrev pub frequency_row : List Set
frequency_row = Frequency ∷ []

abbrev pub rates_row : List Set
rates_row = OneRate ∷ []

abbrev pub sampling_row : List Set
sampling_row = SamplingRate ∷ SampleCount ∷ []

abbrev pub stamp_row : List Set
stamp_row = Date ∷ Time ∷ []

abbrev pub form_row : List Set
form_row = FormWord ∷ []

-- the last line
abbrev pub last_row : List Set
last_row = Decimal ∷ []

-- these lines in their order
abbrev pub setting_rows : List (List Set)
setting_rows = frequency_row ∷ rates_row ∷ sampling_row ∷ stamp_row ∷ stamp_row ∷ form_row ∷ []

-- how many channels of each kind a file has
pub record ChannelCounts : Type 0 where
  pub analog : ℕ
  pub digital : ℕ

-- the row of the j-th line after the second, from 0, in a file of so many channels
unfoldable pub row : (count : ChannelCounts) → (j : ℕ) → List Set
row count j =
    cond (ltb j count.analog) (analog_row (j + 1))
    (cond (ltb j (count.analog + count.digital)) (digital_row (j - count.analog + 1))
    (get_or setting_rows (j - (count.analog + count.digital)) []))
