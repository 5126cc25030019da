-- The configurations that a file can write: what each of their values may be.
use Rattle.std.specs.Prelude.{◌≡◌, ◌≢◌, ℕ, ◌-◌, ◌≤◌, ◌<ℤ◌, ◌≤ℤ◌, ◌⊎◌, ◌||◌, Bool, true, not, eqb, List, length, slice_index_or, All, ℤ, pos, unsigned_abs}
use Rattle.std.specs.List.{list_all}
use Rattle.jiff.specs.Words.{IsDate}
use Rattle.flk_text.specs.Decimal.{IsInSet}
use Rattle.flk_cfg.specs.declared.config.Analog.{Analog}
use Rattle.flk_cfg.specs.declared.config.Digital.{Digital}
use Rattle.flk_cfg.specs.declared.config.Config.{Config}
use Rattle.flk_cfg.specs.declared.config.Stamp.{Stamp}

-- no comma, CR, LF or byte 1A
abbrev pub is_name_byte : ℕ → Bool
is_name_byte b = not ((eqb b 44 || eqb b 13) || (eqb b 10 || eqb b 26))

-- a text that a field can be: at most 64 bytes, without comma, CR, LF and 1A, and without a space at either end; it may
-- be empty
pub record IsName (text : List ℕ) : Type 0 where
  pub few : length text ≤ 64
  pub bytes : list_all is_name_byte text ≡ true
  pub front : slice_index_or text 0 0 ≢ 32
  pub back : slice_index_or text (length text - 1) 0 ≢ 32

-- z units of 10^-24 are in the set of decimals
abbrev pub IsValue : ℤ → Type 0
IsValue z = IsInSet (unsigned_abs z)

-- `P`, `p`, `S` or `s`
abbrev pub IsSideLetter : ℕ → Type 0
IsSideLetter b = (b ≡ 80) ⊎ ((b ≡ 112) ⊎ ((b ≡ 83) ⊎ (b ≡ 115)))

-- a date of the proleptic Gregorian calendar from year 1 on, and a time of a day
pub record IsValidStamp (s : Stamp) : Type 0 where
  pub from : pos 1 ≤ℤ s.year
  pub civil : IsDate s.year (pos s.month) (pos s.day)
  pub hour : s.hour ≤ 23
  pub minute : s.minute ≤ 59
  pub second : s.second ≤ 59
  pub nanos : s.nanos ≤ 999999999

-- an analog channel whose texts and numbers are in their sets
pub record IsValidAnalog (c : Analog) : Type 0 where
  pub id : IsName c.id
  pub ph : IsName c.ph
  pub ccbm : IsName c.ccbm
  pub uu : IsName c.uu
  pub a : IsValue c.a.n
  pub b : IsValue c.b.n
  pub skew : IsValue c.skew.n
  pub min : IsValue c.min.n
  pub max : IsValue c.max.n
  pub primary : IsValue c.primary.n
  pub secondary : IsValue c.secondary.n
  pub ps : IsSideLetter c.ps

-- a digital channel whose texts are in their sets
pub record IsValidDigital (c : Digital) : Type 0 where
  pub id : IsName c.id
  pub ph : IsName c.ph
  pub ccbm : IsName c.ccbm

-- a configuration that a file can write
pub record IsValid (c : Config) : Type 0 where
  pub station : IsName c.station
  pub device : IsName c.device
  pub analog_some : 1 ≤ length c.analog
  pub analog_most : length c.analog ≤ 256
  pub analog : All IsValidAnalog c.analog
  pub digital_most : length c.digital ≤ 256
  pub digital : All IsValidDigital c.digital
  pub lf : IsValue c.lf.n
  pub lf_above : pos 0 <ℤ c.lf.n
  pub endsamp_some : 1 ≤ c.endsamp
  pub endsamp_most : c.endsamp ≤ 4294967295
  pub first : IsValidStamp c.first
  pub trigger : IsValidStamp c.trigger
  pub timemult : IsValue c.timemult.n
