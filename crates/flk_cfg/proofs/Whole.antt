-- The parts of the answer for the whole file.
use Rattle.std.proofs.Common.{◌≡◌, ℕ, zero, suc, ◌+◌, ◌-◌, ◌<◌, ◌≤◌, List, [], length, sym, ap, subst, ◌∙◌, arith, inl, inr, pos, false}
use Rattle.std.proofs.lemmas.Bool.{cases_lt}
use Rattle.flk_field.specs.Sets.{Set, IsGoodLine, LineFault}
use Rattle.flk_cfg.specs.Table.{ChannelCounts, row, analog_row, digital_row}
use Rattle.flk_cfg.specs.Rows.{IsTitle, IsCounts}
use Rattle.flk_cfg.specs.Places.{HasLine, FaultAt}
use Rattle.flk_cfg.specs.File.{AreAnalogs, AreDigitals, AreSettings, IsConfig, IsGoodAt, FaultFromThird}
use Rattle.flk_cfg.specs.Reading.{AreGood, FirstOf}
use Rattle.flk_cfg.specs.SettingParts.{setting_at, AreSettingLines}
use Rattle.flk_field.specs.declared.kind.Fault.{Fault}
use Rattle.flk_cfg.specs.declared.config.Analog.{Analog}
use Rattle.flk_cfg.specs.declared.config.Digital.{Digital}
use Rattle.flk_cfg.specs.declared.config.Config.{Config}
use Rattle.flk_cfg.specs.declared.settings.Settings.{Settings}
use Rattle.flk_cfg.proofs.Rows.{good_analog, good_digital, good_frequency, good_rates, good_sampling, good_stamp, good_form, row_analog}

pub no_analog : Analog
no_analog = record {
  id = [];
  ph = [];
  ccbm = [];
  uu = [];
  a = record { n = pos 0 };
  b = record { n = pos 0 };
  skew = record { n = pos 0 };
  min = record { n = pos 0 };
  max = record { n = pos 0 };
  primary = record { n = pos 0 };
  secondary = record { n = pos 0 };
  ps = 0;
}

pub no_digital : Digital
no_digital = record { id = []; ph = []; ccbm = []; normal = false }

pub good_analogs : (bytes : List ℕ) (k n : ℕ) (cs : List Analog) → length cs ≡ n → AreAnalogs bytes k cs → AreGood (λ i. analog_row (i + 1)) bytes k n
good_analogs bytes k n cs len are = λ i lt.
    let h = are i no_analog (omega (arith, lt, len)) in
    (h.0, h.1, good_analog (i + 1) h.0 _ h.2)

pub good_digitals : (bytes : List ℕ) (k n : ℕ) (cs : List Digital) → length cs ≡ n → AreDigitals bytes k cs → AreGood (λ i. digital_row (i + 1)) bytes k n
good_digitals bytes k n cs len are = λ i lt.
    let h = are i no_digital (omega (arith, lt, len)) in
    (h.0, h.1, good_digital (i + 1) h.0 _ h.2)

pub good_settings : (bytes : List ℕ) (k : ℕ) (s : Settings) (i : ℕ) → AreSettingLines bytes k s → i < 6 → HasLine bytes (k + i) (IsGoodLine (setting_at i))
good_settings bytes k s zero are lt =
    let same : k ≡ k + 0 = omega arith in
    let h = are.frequency in
    subst (λ (n : ℕ). HasLine bytes n (IsGoodLine (setting_at 0))) same (h.0, h.1, good_frequency h.0 s.lf.n h.2)
good_settings bytes k s (suc zero) are lt = (are.rates.0, are.rates.1, good_rates are.rates.0 are.rates.2)
good_settings bytes k s (suc (suc zero)) are lt = (are.sampling.0, are.sampling.1, good_sampling are.sampling.0 s.rate s.endsamp are.sampling.2)
good_settings bytes k s (suc (suc (suc zero))) are lt = (are.first.0, are.first.1, good_stamp are.first.0 s.first are.first.2)
good_settings bytes k s (suc (suc (suc (suc zero)))) are lt = (are.trigger.0, are.trigger.1, good_stamp are.trigger.0 s.trigger are.trigger.2)
good_settings bytes k s (suc (suc (suc (suc (suc zero))))) are lt = (are.file_type.0, are.file_type.1, good_form are.file_type.0 s.form are.file_type.2)
good_settings bytes k s (suc (suc (suc (suc (suc (suc i)))))) are lt = absurd (omega (arith, lt))

-- the lines from the third on are good, so many of them
abbrev pub GoodThird : List ℕ → ChannelCounts → ℕ → Type 0
GoodThird bytes count n = (i : ℕ) → i < n → IsGoodAt bytes count i

pub good_none : (bytes : List ℕ) (count : ChannelCounts) → GoodThird bytes count 0
good_none bytes count = λ i lt. absurd (omega (arith, lt))

good_row : (bytes : List ℕ) (count : ChannelCounts) (n i : ℕ) (sets : List Set) → row count (n + i) ≡ sets → HasLine bytes (2 + n + i) (IsGoodLine sets) → IsGoodAt bytes count (n + i)
good_row bytes count n i sets e h =
    let same : 2 + n + i ≡ 2 + (n + i) = omega arith in
    let moved : HasLine bytes (2 + (n + i)) (IsGoodLine sets) = subst (λ (m : ℕ). HasLine bytes m (IsGoodLine sets)) same h in
    subst (λ (r : List Set). HasLine bytes (2 + (n + i)) (IsGoodLine r)) (sym e) moved

-- a run that is good goes on
pub good_run : (bytes : List ℕ) (count : ChannelCounts) (n m : ℕ) (rows : ℕ → List Set) → GoodThird bytes count n → ((i : ℕ) → i < m → row count (n + i) ≡ rows i) → AreGood rows bytes (2 + n) m → GoodThird bytes count (n + m)
good_run bytes count n m rows good same run = λ j lt.
    elim (cases_lt j n) [
      | inl less ↦ good j less
      | inr past ↦
          let i = j - n in
          let e : n + (j - n) ≡ j = omega (arith, past) in
          let within : j - n < m = omega (arith, lt, past) in
          subst (IsGoodAt bytes count) e (good_row bytes count n (j - n) (rows (j - n)) (same (j - n) within) (run (j - n) within))
    ]

-- the first fault of a run behind good lines is the file's
pub third_fault : (bytes : List ℕ) (count : ChannelCounts) (n m : ℕ) (rows : ℕ → List Set) (f : Fault) → GoodThird bytes count n → ((i : ℕ) → i < m → row count (n + i) ≡ rows i) → n + m ≤ count.analog + count.digital + 6
    → FirstOf rows m bytes (2 + n) f → FaultFromThird bytes count f.line f.field f.kind
third_fault bytes count n m rows f good same few out =
    let moved : 2 + n + out.i ≡ 2 + (n + out.i) = omega arith in
    let here : FaultAt bytes (2 + (n + out.i)) (LineFault (rows out.i)) f.field f.kind = subst (λ (k : ℕ). FaultAt bytes k (LineFault (rows out.i)) f.field f.kind) moved out.here in
    inl (
      n + out.i,
      omega (arith, out.line),
      record {
        within = omega (arith, out.within, few);
        before = good_run bytes count n out.i rows good (λ i lt. same i (omega (arith, lt, out.within))) out.before;
        here = subst (λ (r : List Set). FaultAt bytes (2 + (n + out.i)) (LineFault r) f.field f.kind) (sym (same out.i out.within)) here;
      },
    )

pub rows_analog : (count : ChannelCounts) (i : ℕ) → i < count.analog → row count (0 + i) ≡ analog_row (i + 1)
rows_analog count i lt =
    let e : 0 + i ≡ i = omega arith in
    ap (row count) e ∙ row_analog count i lt

-- ---- the whole

pub whole_config : (bytes : List ℕ) (c : Config) (count : ChannelCounts) → HasLine bytes 0 (λ parts. IsTitle parts c.station c.device) → HasLine bytes 1 (λ parts. IsCounts parts count.analog count.digital)
    → (length c.analog ≡ count.analog) × AreAnalogs bytes 2 c.analog → (length c.digital ≡ count.digital) × AreDigitals bytes (2 + count.analog) c.digital → AreSettings bytes (2 + count.analog + count.digital) c → IsConfig bytes c
whole_config bytes c count title counts analog digital settings =
    let a : count.analog ≡ length c.analog = sym analog.0 in
    let d : count.digital ≡ length c.digital = sym digital.0 in
    let counts1 : HasLine bytes 1 (λ parts. IsCounts parts (length c.analog) count.digital) = subst (λ (n : ℕ). HasLine bytes 1 (λ parts. IsCounts parts n count.digital)) a counts in
    let settings1 : AreSettings bytes (2 + length c.analog + count.digital) c = subst (λ (n : ℕ). AreSettings bytes (2 + n + count.digital) c) a settings in
    record {
      title = title;
      counts = subst (λ (n : ℕ). HasLine bytes 1 (λ parts. IsCounts parts (length c.analog) n)) d counts1;
      analogs = analog.1;
      digitals = subst (λ (n : ℕ). AreDigitals bytes (2 + n) c.digital) a digital.1;
      settings = subst (λ (n : ℕ). AreSettings bytes (2 + length c.analog + n) c) d settings1;
    }
