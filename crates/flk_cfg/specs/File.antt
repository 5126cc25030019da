-- The configuration file: which bytes write which configuration, and the first fault of bytes that write none.
use Rattle.std.specs.Prelude.{◌≡◌, ℕ, ◌+◌, ◌<◌, ◌⊎◌, List, length, slice_index_or, Result, Ok, Err}
use Rattle.flk_text.specs.Tail.{IsTail}
use Rattle.flk_num.specs.declared.stop.Stop.{Stop}
use Rattle.flk_num.specs.declared.stop.Stop.TheVariants as stop
use Rattle.flk_field.specs.Kinds.{kind_number}
use Rattle.flk_field.specs.Sets.{LineFault, IsGoodLine}
use Rattle.flk_cfg.specs.Table.{ChannelCounts, row, title_row, last_row}
use Rattle.flk_cfg.specs.Rows.{IsTitle, TitleFault, IsCounts, CountsFault, IsAnalog, IsDigital, IsLineFrequency, IsOneRate, IsSampling, IsStamp, IsFileType, IsMultiplier}
use Rattle.flk_cfg.specs.Places.{HasLine, HasLastLine, FaultAt, LastFaultAt, tail_at}
use Rattle.flk_cfg.specs.declared.config.Analog.{Analog}
use Rattle.flk_cfg.specs.declared.config.Digital.{Digital}
use Rattle.flk_cfg.specs.declared.config.Config.{Config}
use Rattle.flk_field.specs.declared.kind.Kind.{Kind}
use Rattle.flk_field.specs.declared.kind.Kind.TheVariants as kinds
use Rattle.flk_cfg.specs.declared.kind.CfgFault.{CfgFault}

-- the lines after the first k are those of the analog channels, in this order
abbrev pub AreAnalogs : List ℕ → ℕ → List Analog → Type 0
AreAnalogs bytes k channels =
    (i : ℕ) → (none : Analog) → i < length channels
    → HasLine bytes (k + i) (λ parts. IsAnalog (i + 1) parts (slice_index_or channels i none))

-- the lines after the first k are those of the digital channels, in this order
abbrev pub AreDigitals : List ℕ → ℕ → List Digital → Type 0
AreDigitals bytes k channels =
    (i : ℕ) → (none : Digital) → i < length channels
    → HasLine bytes (k + i) (λ parts. IsDigital (i + 1) parts (slice_index_or channels i none))

-- the lines after the first k are those that follow the channels, and the last one has a tail behind it
pub record AreSettings (bytes : List ℕ) (k : ℕ) (c : Config) : Type 0 where
  pub frequency : HasLine bytes k (λ parts. IsLineFrequency parts c.lf.n)
  pub rates : HasLine bytes (k + 1) IsOneRate
  pub sampling : HasLine bytes (k + 2) (λ parts. IsSampling parts c.rate c.endsamp)
  pub first : HasLine bytes (k + 3) (λ parts. IsStamp parts c.first)
  pub trigger : HasLine bytes (k + 4) (λ parts. IsStamp parts c.trigger)
  pub file_type : HasLine bytes (k + 5) (λ parts. IsFileType parts c.form)
  pub last : HasLastLine bytes (k + 6) (λ parts. IsMultiplier parts c.timemult.n)
  pub tail : IsTail (tail_at bytes (k + 6))

-- the bytes write the configuration
pub record IsConfig (bytes : List ℕ) (c : Config) : Type 0 where
  pub title : HasLine bytes 0 (λ parts. IsTitle parts c.station c.device)
  pub counts : HasLine bytes 1 (λ parts. IsCounts parts (length c.analog) (length c.digital))
  pub analogs : AreAnalogs bytes 2 c.analog
  pub digitals : AreDigitals bytes (2 + length c.analog) c.digital
  pub settings : AreSettings bytes (2 + length c.analog + length c.digital) c

-- ---- the first fault, line by line

-- the j-th line after the second is there and good
abbrev pub IsGoodAt : (bytes : List ℕ) → ChannelCounts → (j : ℕ) → Type 0
IsGoodAt bytes count j = HasLine bytes (2 + j) (IsGoodLine (row count j))

-- of the lines after the second, up to the one before the last, the first that isn't there or isn't good is the j-th
pub record FirstFaultAt (bytes : List ℕ) (count : ChannelCounts) (j field : ℕ) (kind : Kind) : Type 0 where
  pub within : j < count.analog + count.digital + 6
  pub before : (i : ℕ) → i < j → IsGoodAt bytes count i
  pub here : FaultAt bytes (2 + j) (LineFault (row count j)) field kind

-- what follows the last line is no tail
abbrev pub TailFault : (bytes : List ℕ) → (k line field : ℕ) → Kind → Type 0
TailFault bytes k line field kind =
    (line ≡ k + 2) × (field ≡ 0) × (kind ≡ kinds.Length) × (IsTail (tail_at bytes k) → ⊥)

-- the first fault lies in the last line, which follows the first k, or that line is good, and the fault lies behind it
abbrev pub FaultFromLast : (bytes : List ℕ) → (k line field : ℕ) → Kind → Type 0
FaultFromLast bytes k line field kind =
    ((line ≡ k + 1) × LastFaultAt bytes k (LineFault last_row) field kind)
    ⊎ (HasLastLine bytes k (IsGoodLine last_row) × TailFault bytes k line field kind)

-- the first fault lies in a line after the second, up to the one before the last, or these are good, and it lies from
-- the last on
abbrev pub FaultFromThird : (bytes : List ℕ) → ChannelCounts → (line field : ℕ) → Kind → Type 0
FaultFromThird bytes count line field kind =
    ((j : ℕ) × (line ≡ j + 3) × FirstFaultAt bytes count j field kind)
    ⊎ (((i : ℕ) → i < count.analog + count.digital + 6 → IsGoodAt bytes count i)
    × FaultFromLast bytes (2 + count.analog + count.digital + 6) line field kind)

-- the first fault lies in the second line, or that line gives the counts of channels, and the fault lies from the
-- third on
abbrev pub FaultFromSecond : (bytes : List ℕ) → (line field : ℕ) → Kind → Type 0
FaultFromSecond bytes line field kind =
    ((line ≡ 2) × FaultAt bytes 1 CountsFault field kind)
    ⊎ ((count : ChannelCounts) × HasLine bytes 1 (λ parts. IsCounts parts count.analog count.digital)
    × FaultFromThird bytes count line field kind)

-- the first line that isn't there or isn't good, by its number from 1, its first faulty field, and the kind of the
-- fault: it lies in the first line, or that line is good, and the fault lies from the second on
abbrev pub IsFirstFault : (bytes : List ℕ) → (line field : ℕ) → Kind → Type 0
IsFirstFault bytes line field kind =
    ((line ≡ 1) × FaultAt bytes 0 TitleFault field kind)
    ⊎ (HasLine bytes 0 (IsGoodLine title_row) × FaultFromSecond bytes line field kind)

-- the configuration, or the first fault with the number of its kind; want of memory says nothing
abbrev pub IsFileAnswer : List ℕ → Result Config (Stop CfgFault) → Type 0
IsFileAnswer bytes (Ok c) = IsConfig bytes c
IsFileAnswer bytes (Err (stop.Fault f)) =
    (kind : Kind) × (f.kind ≡ kind_number kind) × IsFirstFault bytes f.line f.field kind
IsFileAnswer bytes (Err stop.OutOfMemory) = Unit {0}
