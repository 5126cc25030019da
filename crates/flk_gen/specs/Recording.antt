-- The files of the generated recording: a configuration of three voltages at 50 Hz, and ASCII data of 2400 samples a
-- second (IEEE C37.111-1999, clauses 5 and 6).
use Rattle.std.specs.Prelude.{◌≡◌, ℕ, ◌+◌, ◌*◌, ◌/◌, ◌^◌, ◌≤◌, List, [], ◌∷◌, map, codes, ℤ, pos, neg_ℤ, ◌*ℤ◌, Some}
use Rattle.std.specs.List.{flat_map, range_with_len}
use Rattle.flk_num.specs.declared.rate.Rate.TheVariants.{R2400}
use Rattle.flk_text.specs.declared.decimals.DecimalValue.{DecimalValue}
use Rattle.flk_field.specs.declared.form.Form.TheVariants.{Ascii}
use Rattle.flk_cfg.specs.Canonical.{canonical}
use Rattle.flk_cfg.specs.declared.config.Analog.{Analog}
use Rattle.flk_cfg.specs.declared.config.Config.{Config}
use Rattle.flk_cfg.specs.declared.config.Stamp.{Stamp}
use Rattle.flk_dat.specs.Records.{DataRecord, Rows}
use Rattle.flk_dat.specs.Written.{written_record}
use Rattle.flk_gen.specs.Workload.{values}

-- ---- the configuration

-- a whole number as a decimal, which counts units of 10^-24
abbrev pub whole_decimal : ℤ → DecimalValue
whole_decimal z = record { n = z *ℤ pos (10 ^ 24) }

-- the channel of this name and phase: a voltage in units of 0.0125 V
abbrev pub generated_channel : (id ph : List ℕ) → Analog
generated_channel id ph = record {
  id = id;
  ph = ph;
  ccbm = [];
  uu = codes "V";
  a = record { n = pos (125 * 10 ^ 20) };
  b = whole_decimal (pos 0);
  skew = whole_decimal (pos 0);
  min = whole_decimal (neg_ℤ (pos 99999));
  max = whole_decimal (pos 99999);
  primary = whole_decimal (pos 1);
  secondary = whole_decimal (pos 1);
  ps = 80;
}

-- the first instant of the year 2000
abbrev pub start : Stamp
start = record { year = pos 2000; month = 1; day = 1; hour = 0; minute = 0; second = 0; nanos = 0 }

-- how many records so many seconds have
abbrev pub records_in : (seconds : ℕ) → ℕ
records_in seconds = 2400 * seconds

abbrev pub generated_configuration : (seconds : ℕ) → Config
generated_configuration seconds = record {
  station = codes "GENERATED";
  device = codes "FLK";
  analog = generated_channel (codes "UA") (codes "A") ∷ generated_channel (codes "UB") (codes "B")
      ∷ generated_channel (codes "UC") (codes "C") ∷ [];
  digital = [];
  lf = whole_decimal (pos 50);
  rate = R2400;
  endsamp = records_in seconds;
  first = start;
  trigger = start;
  form = Ascii;
  timemult = whole_decimal (pos 1);
}

-- the configuration is one of these
abbrev pub IsGenerated : Config → Type 0
IsGenerated c = (seconds : ℕ) × (1 ≤ seconds) × (seconds ≤ 8000) × (c ≡ generated_configuration seconds)

-- the bytes of its file
abbrev pub generated_text : (seconds : ℕ) → List ℕ
generated_text seconds = canonical (generated_configuration seconds)

-- ---- the data

-- the record of the sample at a place, counted from 0: its number counts from 1, and its time stamp is in microseconds,
-- rounded down
abbrev pub recorded : (place : ℕ) → List ℤ → DataRecord
recorded place sample =
    record { number = place + 1; stamp = Some (1250 * place / 3); analog = sample; digital = [] }

-- the record of sample n
abbrev pub generated_record : (seed n : ℕ) → DataRecord
generated_record seed n = recorded n (values seed n)

-- the first so many records
abbrev pub generated_records : (seed count : ℕ) → List DataRecord
generated_records seed count = map (generated_record seed) (range_with_len 0 count)

-- the bytes of the first so many records
unfoldable pub generated_lines : (seed count : ℕ) → List ℕ
generated_lines seed count = flat_map (written_record Ascii) (generated_records seed count)

-- the bytes of the data file
abbrev pub generated_data : (seed seconds : ℕ) → List ℕ
generated_data seed seconds = generated_lines seed (records_in seconds)

-- ---- a block of one record

-- the block has room for one record of the recording
pub record IsOneRow (b : Rows) : Type 0 where
  pub analog : b.analog ≡ 3
  pub digital : b.digital ≡ 0
  pub room : b.room ≡ 1
