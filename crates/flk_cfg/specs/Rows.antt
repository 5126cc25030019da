-- The rows of the table with the values of their columns: which fields of a line write which values. Faults of the
-- first two lines, which have rules of their own, are here too.
use Rattle.std.specs.Prelude.{◌≡◌, ◌≢◌, ℕ, ◌+◌, ◌-◌, ◌^◌, ◌⊎◌, List, length, codes, ℤ}
use Rattle.flk_num.specs.declared.rate.Rate.{Rate}
use Rattle.flk_text.specs.Decimal.{IsDecimal}
use Rattle.flk_field.specs.Dates.{IsDateOf, IsTimeOf}
use Rattle.flk_field.specs.Values.{HasText, IsWholeFrom, IsCounted, IsDecimalOrZero, IsFrequency, IsRate, IsSide, IsBit, IsFormWord}
use Rattle.flk_field.specs.Sets.{at, LineFault}
use Rattle.flk_cfg.specs.Table.{title_row, counts_row}
use Rattle.flk_cfg.specs.declared.config.Analog.{Analog}
use Rattle.flk_cfg.specs.declared.config.Digital.{Digital}
use Rattle.flk_field.specs.declared.form.Form.{Form}
use Rattle.flk_cfg.specs.declared.config.Stamp.{Stamp}
use Rattle.flk_field.specs.declared.kind.Kind.{Kind}
use Rattle.flk_field.specs.declared.kind.Kind.TheVariants as kinds

-- the first line: station_name, rec_dev_id, rev_year
pub record IsTitle (fields : List (List ℕ)) (station device : List ℕ) : Type 0 where
  pub count : length fields ≡ 3
  pub station_is : HasText (at fields 1) station
  pub device_is : HasText (at fields 2) device
  pub revision : at fields 3 ≡ codes "1999"

-- a first line of two fields has no revision year, and that is its fault; else the row's fault is the line's
abbrev pub TitleFault : List (List ℕ) → (place : ℕ) → Kind → Type 0
TitleFault fields place kind =
    ((length fields ≡ 2) × (place ≡ 3) × (kind ≡ kinds.Revision))
    ⊎ ((length fields ≢ 2) × LineFault title_row fields place kind)

-- the fields of the second line, TT, ##A and ##D, are in their sets
pub record AreCounts (fields : List (List ℕ)) (total analog digital : ℕ) : Type 0 where
  pub count : length fields ≡ 3
  pub total_is : IsWholeFrom 1 512 (at fields 1) total
  pub analog_is : IsCounted 65 1 256 (at fields 2) analog
  pub digital_is : IsCounted 68 0 256 (at fields 3) digital

-- the second line: the first field is the sum of the two counts
abbrev pub IsCounts : List (List ℕ) → (analog digital : ℕ) → Type 0
IsCounts fields analog digital = AreCounts fields (analog + digital) analog digital

-- the row's fault comes first, and then a wrong sum
abbrev pub CountsFault : List (List ℕ) → (place : ℕ) → Kind → Type 0
CountsFault fields place kind =
    LineFault counts_row fields place kind
    ⊎ ((total : ℕ) × (analog : ℕ) × (digital : ℕ) × AreCounts fields total analog digital × (total ≢ analog + digital)
    × (place ≡ 1) × (kind ≡ kinds.Range))

-- the line of an analog channel: An, ch_id, ph, ccbm, uu, a, b, skew, min, max, primary, secondary, PS
pub record IsAnalog (position : ℕ) (fields : List (List ℕ)) (c : Analog) : Type 0 where
  pub count : length fields ≡ 13
  pub position_is : IsWholeFrom position position (at fields 1) position
  pub id_is : HasText (at fields 2) c.id
  pub ph_is : HasText (at fields 3) c.ph
  pub ccbm_is : HasText (at fields 4) c.ccbm
  pub uu_is : HasText (at fields 5) c.uu
  pub a_is : IsDecimal (at fields 6) c.a.n
  pub b_is : IsDecimal (at fields 7) c.b.n
  pub skew_is : IsDecimalOrZero (at fields 8) c.skew.n
  pub min_is : IsDecimal (at fields 9) c.min.n
  pub max_is : IsDecimal (at fields 10) c.max.n
  pub primary_is : IsDecimal (at fields 11) c.primary.n
  pub secondary_is : IsDecimal (at fields 12) c.secondary.n
  pub ps_is : IsSide (at fields 13) c.ps

-- the line of a digital channel: Dn, ch_id, ph, ccbm, y
pub record IsDigital (position : ℕ) (fields : List (List ℕ)) (c : Digital) : Type 0 where
  pub count : length fields ≡ 5
  pub position_is : IsWholeFrom position position (at fields 1) position
  pub id_is : HasText (at fields 2) c.id
  pub ph_is : HasText (at fields 3) c.ph
  pub ccbm_is : HasText (at fields 4) c.ccbm
  pub normal_is : IsBit (at fields 5) c.normal

-- lf
pub record IsLineFrequency (fields : List (List ℕ)) (z : ℤ) : Type 0 where
  pub count : length fields ≡ 1
  pub value : IsFrequency (at fields 1) z

-- nrates
pub record IsOneRate (fields : List (List ℕ)) : Type 0 where
  pub count : length fields ≡ 1
  pub one : IsWholeFrom 1 1 (at fields 1) 1

-- samp, endsamp
pub record IsSampling (fields : List (List ℕ)) (rate : Rate) (endsamp : ℕ) : Type 0 where
  pub count : length fields ≡ 2
  pub rate_is : IsRate (at fields 1) rate
  pub samples : IsWholeFrom 1 (2 ^ 32 - 1) (at fields 2) endsamp

-- date, time
pub record IsStamp (fields : List (List ℕ)) (s : Stamp) : Type 0 where
  pub count : length fields ≡ 2
  pub date : IsDateOf (at fields 1) s.year s.month s.day
  pub time : IsTimeOf (at fields 2) s.hour s.minute s.second s.nanos

-- ft
pub record IsFileType (fields : List (List ℕ)) (form : Form) : Type 0 where
  pub count : length fields ≡ 1
  pub word : IsFormWord (at fields 1) form

-- timemult
pub record IsMultiplier (fields : List (List ℕ)) (z : ℤ) : Type 0 where
  pub count : length fields ≡ 1
  pub value : IsDecimal (at fields 1) z
