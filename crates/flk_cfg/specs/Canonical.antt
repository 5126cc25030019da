-- The canonical text of a configuration: the fields of its lines, with a comma between two fields and CR LF behind each
-- line. The lines and their fields are those of the table (IEEE C37.111-1999, clause 5.3).
use Rattle.std.specs.Prelude.{ℕ, zero, suc, ◌+◌, ◌/◌, ◌%◌, ◌^◌, cond, eqb, List, [], ◌∷◌, ◌++◌, length, codes, unsigned_abs, ◌≡◌, Result, Ok, Err}
use Rattle.std.specs.Fmt.{decimal}
use Rattle.flk_text.specs.Fields.{joined_fields}
use Rattle.flk_text.specs.PlainText.{plain}
use Rattle.flk_cfg.specs.declared.config.Analog.{Analog}
use Rattle.flk_cfg.specs.declared.config.Digital.{Digital}
use Rattle.flk_cfg.specs.declared.config.Config.{Config}
use Rattle.flk_field.specs.declared.form.Form.{Form}
use Rattle.flk_field.specs.declared.form.Form.TheVariants.{Ascii, Binary}
use Rattle.flk_cfg.specs.declared.config.Stamp.{Stamp}
use Rattle.flk_cfg.specs.declared.kind.CfgFault.{CfgFault}
use Rattle.flk_num.specs.declared.rate.Rate.{Rate}
use Rattle.flk_num.specs.declared.rate.Rate.TheVariants.{R2400, R4800}
use Rattle.flk_num.specs.declared.stop.Stop.{Stop}
use Rattle.flk_num.specs.declared.stop.Stop.TheVariants as stop

-- n, which is below 10^places, in so many digits: the first digit, and then those of what remains
unfoldable pub padded : (places n : ℕ) → List ℕ
padded zero n = []
padded (suc k) n = (48 + n / 10 ^ k) ∷ padded k (n % 10 ^ k)

-- `dd/mm/yyyy`
abbrev pub date_text : Stamp → List ℕ
date_text s = padded 2 s.day ++ 47 ∷ (padded 2 s.month ++ 47 ∷ padded 4 (unsigned_abs s.year))

-- the digits of a fraction of a second: six where they hold the nanoseconds, and else nine
abbrev pub second_digits : ℕ → List ℕ
second_digits nanos = cond (eqb (nanos % 1000) 0) (padded 6 (nanos / 1000)) (padded 9 nanos)

-- `hh:mm:ss.ffffff`
abbrev pub time_text : Stamp → List ℕ
time_text s = padded 2 s.hour ++ 58 ∷ (padded 2 s.minute ++ 58 ∷ (padded 2 s.second ++ 46 ∷ second_digits s.nanos))

-- `ASCII` or `BINARY`
abbrev pub form_text : Form → List ℕ
form_text Ascii = codes "ASCII"
form_text Binary = codes "BINARY"

-- `2400` or `4800`
abbrev pub rate_text : Rate → List ℕ
rate_text R2400 = codes "2400"
rate_text R4800 = codes "4800"

-- ---- the fields of each line

-- station_name, rec_dev_id, rev_year
abbrev pub title_fields : Config → List (List ℕ)
title_fields c = c.station ∷ c.device ∷ codes "1999" ∷ []

-- TT, ##A, ##D
abbrev pub counts_fields : (analog digital : ℕ) → List (List ℕ)
counts_fields analog digital =
    decimal (analog + digital) ∷ (decimal analog ++ codes "A") ∷ (decimal digital ++ codes "D") ∷ []

-- An, ch_id, ph, ccbm, uu, a, b, skew, min, max, primary, secondary, PS
abbrev pub analog_fields : (position : ℕ) → Analog → List (List ℕ)
analog_fields position c =
    decimal position
    ∷ c.id ∷ c.ph ∷ c.ccbm ∷ c.uu
    ∷ plain c.a.n ∷ plain c.b.n ∷ plain c.skew.n ∷ plain c.min.n ∷ plain c.max.n ∷ plain c.primary.n
    ∷ plain c.secondary.n
    ∷ (c.ps ∷ []) ∷ []

-- Dn, ch_id, ph, ccbm, y
abbrev pub digital_fields : (position : ℕ) → Digital → List (List ℕ)
digital_fields position c = decimal position ∷ c.id ∷ c.ph ∷ c.ccbm ∷ decimal (cond c.normal 1 0) ∷ []

-- the channels' lines in their order, from a position on
abbrev pub analog_lines : (position : ℕ) → List Analog → List (List (List ℕ))
analog_lines position [] = []
analog_lines position (c ∷ cs) = analog_fields position c ∷ analog_lines (position + 1) cs

abbrev pub digital_lines : (position : ℕ) → List Digital → List (List (List ℕ))
digital_lines position [] = []
digital_lines position (c ∷ cs) = digital_fields position c ∷ digital_lines (position + 1) cs

-- date, time
abbrev pub stamp_fields : Stamp → List (List ℕ)
stamp_fields s = date_text s ∷ time_text s ∷ []

-- lf; nrates; samp and endsamp; the first sample's date and time; those of the trigger; ft; timemult
abbrev pub setting_lines : Config → List (List (List ℕ))
setting_lines c =
    (plain c.lf.n ∷ [])
    ∷ (codes "1" ∷ [])
    ∷ (rate_text c.rate ∷ decimal c.endsamp ∷ [])
    ∷ stamp_fields c.first
    ∷ stamp_fields c.trigger
    ∷ (form_text c.form ∷ [])
    ∷ (plain c.timemult.n ∷ [])
    ∷ []

-- all lines
abbrev pub all_lines : Config → List (List (List ℕ))
all_lines c =
    title_fields c
    ∷ counts_fields (length c.analog) (length c.digital)
    ∷ (analog_lines 1 c.analog ++ (digital_lines 1 c.digital ++ setting_lines c))

-- ---- the text

-- the fields of a line, and CR LF behind them
abbrev pub line_text : List (List ℕ) → List ℕ
line_text parts = joined_fields parts ++ codes "\r\n"

-- the lines one after another
abbrev pub lines_text : List (List (List ℕ)) → List ℕ
lines_text [] = []
lines_text (parts ∷ rest) = line_text parts ++ lines_text rest

-- the text of a configuration
unfoldable pub canonical : Config → List ℕ
canonical c = lines_text (all_lines c)

-- the answer is this configuration, or memory was short
abbrev pub IsReadBack : Config → Result Config (Stop CfgFault) → Type 0
IsReadBack c (Ok d) = d ≡ c
IsReadBack c (Err (stop.Fault f)) = ⊥
IsReadBack c (Err stop.OutOfMemory) = Unit {0}
