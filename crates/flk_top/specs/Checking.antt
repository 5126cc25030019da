-- The number of the first record.
use Rattle.std.specs.Prelude.{◌≡◌, ℕ, ◌<◌, List, length, Option, Some, None}
use Rattle.flk_dat.specs.Records.{DataRecord, record_at}

-- the sample number of the first record, where there is one
abbrev pub IsFirstNumber : Option ℕ → List DataRecord → Type 0
IsFirstNumber None rs = length rs ≡ 0
IsFirstNumber (Some n) rs = (0 < length rs) × (n ≡ (record_at rs 0).number)
