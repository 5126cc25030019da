-- Lines with their values are good lines of their rows, and the rows of a file by their place.
use Rattle.std.proofs.Common.{◌≡◌, ℕ, ◌+◌, ◌-◌, ◌<◌, List, [], get_or, true, false, ltb, refl, arith, ℤ}
use Rattle.std.proofs.lemmas.Bool.{lt-ltb, le-ltb}
use Rattle.flk_num.specs.declared.rate.Rate.{Rate}
use Rattle.flk_field.specs.Sets.{IsIn, IsGoodLine}
use Rattle.flk_cfg.specs.Table.{ChannelCounts, row, title_row, counts_row, analog_row, digital_row, frequency_row, rates_row, sampling_row, stamp_row, form_row, last_row, setting_rows}
use Rattle.flk_cfg.specs.Rows.{IsTitle, AreCounts, IsAnalog, IsDigital, IsLineFrequency, IsOneRate, IsSampling, IsStamp, IsFileType, IsMultiplier}
use Rattle.flk_cfg.specs.declared.config.Analog.{Analog}
use Rattle.flk_cfg.specs.declared.config.Digital.{Digital}
use Rattle.flk_cfg.specs.declared.config.Stamp.{Stamp}
use Rattle.flk_field.specs.declared.form.Form.{Form}

pub good_title : (fs : List (List ℕ)) (s d : List ℕ) → IsTitle fs s d → IsGoodLine title_row fs
unfolding IsIn
good_title fs s d t = (t.count, (t.station_is.inside, (t.device_is.inside, (t.revision, tt))))

pub good_counts : (fs : List (List ℕ)) (total a d : ℕ) → AreCounts fs total a d → IsGoodLine counts_row fs
unfolding IsIn
good_counts fs total a d c = (c.count, ((total, c.total_is), ((a, c.analog_is), ((d, c.digital_is), tt))))

pub good_analog : (position : ℕ) (fs : List (List ℕ)) (c : Analog) → IsAnalog position fs c → IsGoodLine (analog_row position) fs
unfolding IsIn
good_analog position fs c h = (
  h.count,
  (
    (position, h.position_is),
    (
      h.id_is.inside,
      (
        h.ph_is.inside,
        (
          h.ccbm_is.inside,
          (
            h.uu_is.inside,
            (
              (c.a.n, h.a_is),
              (
                (c.b.n, h.b_is),
                ((c.skew.n, h.skew_is), ((c.min.n, h.min_is), ((c.max.n, h.max_is), ((c.primary.n, h.primary_is), ((c.secondary.n, h.secondary_is), ((c.ps, h.ps_is), tt)))))),
              ),
            ),
          ),
        ),
      ),
    ),
  ),
)

pub good_digital : (position : ℕ) (fs : List (List ℕ)) (c : Digital) → IsDigital position fs c → IsGoodLine (digital_row position) fs
unfolding IsIn
good_digital position fs c h = (h.count, ((position, h.position_is), (h.id_is.inside, (h.ph_is.inside, (h.ccbm_is.inside, ((c.normal, h.normal_is), tt))))))

pub good_frequency : (fs : List (List ℕ)) (z : ℤ) → IsLineFrequency fs z → IsGoodLine frequency_row fs
unfolding IsIn
good_frequency fs z h = (h.count, ((z, h.value), tt))

pub good_rates : (fs : List (List ℕ)) → IsOneRate fs → IsGoodLine rates_row fs
unfolding IsIn
good_rates fs h = (h.count, ((1, h.one), tt))

pub good_sampling : (fs : List (List ℕ)) (rate : Rate) (n : ℕ) → IsSampling fs rate n → IsGoodLine sampling_row fs
unfolding IsIn
good_sampling fs rate n h = (h.count, ((rate, h.rate_is), ((n, h.samples), tt)))

pub good_stamp : (fs : List (List ℕ)) (s : Stamp) → IsStamp fs s → IsGoodLine stamp_row fs
unfolding IsIn
good_stamp fs s h = (h.count, ((s.year, s.month, s.day, h.date), ((s.hour, s.minute, s.second, s.nanos, h.time), tt)))

pub good_form : (fs : List (List ℕ)) (form : Form) → IsFileType fs form → IsGoodLine form_row fs
unfolding IsIn
good_form fs form h = (h.count, ((form, h.word), tt))

pub good_multiplier : (fs : List (List ℕ)) (z : ℤ) → IsMultiplier fs z → IsGoodLine last_row fs
unfolding IsIn
good_multiplier fs z h = (h.count, ((z, h.value), tt))

-- ---- the rows by their place

pub row_analog : (count : ChannelCounts) (j : ℕ) → j < count.analog → row count j ≡ analog_row (j + 1)
unfolding row
row_analog count j lt =
    let t : ltb j count.analog ≡ true = lt-ltb j count.analog lt in
    rw t refl

pub row_digital : (count : ChannelCounts) (i : ℕ) → i < count.digital → row count (count.analog + i) ≡ digital_row (i + 1)
unfolding row
row_digital count i lt =
    let off : ltb (count.analog + i) count.analog ≡ false = le-ltb (count.analog + i) count.analog (omega arith) in
    let on : ltb (count.analog + i) (count.analog + count.digital) ≡ true = lt-ltb (count.analog + i) (count.analog + count.digital) (omega (arith, lt)) in
    let same : count.analog + i - count.analog + 1 ≡ i + 1 = omega arith in
    rw (off, on, same) refl

pub row_setting : (count : ChannelCounts) (i : ℕ) → row count (count.analog + count.digital + i) ≡ get_or setting_rows i []
unfolding row
row_setting count i =
    let off : ltb (count.analog + count.digital + i) count.analog ≡ false = le-ltb (count.analog + count.digital + i) count.analog (omega arith) in
    let off2 : ltb (count.analog + count.digital + i) (count.analog + count.digital) ≡ false = le-ltb (count.analog + count.digital + i) (count.analog + count.digital) (omega arith) in
    let same : count.analog + count.digital + i - (count.analog + count.digital) ≡ i = omega arith in
    rw (off, off2, same) refl
