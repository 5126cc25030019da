-- What the quantities of a channel depend on beside its samples.
use Rattle.std.specs.Prelude.{ℕ, ◌+◌, ◌*◌, ◌<◌, ◌≤◌, List, slice_range}
use Rattle.flk_num.specs.declared.lamp.Lamp.{Lamp}
use Rattle.flk_num.specs.declared.rate.Rate.{Rate}
use Rattle.flk_num.specs.Lamp.{window_of}
use Rattle.flk_num.specs.Rate.{half_at}
use Rattle.flk_section.specs.Filter.{FilterNumbers}
use Rattle.flk_result.specs.declared.result.Setup.{Setup}

-- The lamp and the rate; the numbers of the lamp's weighting filter at that rate; the nominal voltage in millivolts and
-- the declared uncertainty in microvolts; the samples of the run-in and of an interval; and how many intervals are
-- judged.
pub record Conditions : Type 0 where
  pub lamp : Lamp
  pub rate : Rate
  pub filter : FilterNumbers
  pub nominal : ℕ
  pub uncertainty : ℕ
  pub run_in : ℕ
  pub interval : ℕ
  pub count : ℕ

-- those of a phase that is made for this, with the numbers of a filter, the nominal voltage in millivolts and the
-- uncertainty in microvolts
abbrev pub conditions_for : Setup → FilterNumbers → (nominal uncertainty : ℕ) → Conditions
conditions_for s filter nominal uncertainty = record {
  lamp = s.lamp;
  rate = s.rate;
  filter = filter;
  nominal = nominal;
  uncertainty = uncertainty;
  run_in = s.run_in;
  interval = s.interval;
  count = s.count;
}

-- half a nominal period in samples
abbrev pub half_in : Conditions → ℕ
half_in c = half_at c.lamp c.rate

-- the half-periods of one second
abbrev pub window_in : Conditions → ℕ
window_in c = window_of c.lamp

-- The items of interval i, from 0, of a list with one item for each sample, in the order of time: so many samples are
-- before the first interval, and so many make an interval.
abbrev pub interval_items : {A : Type 0} → (run_in interval i : ℕ) → List A → List A
interval_items run_in interval i xs = slice_range xs (run_in + i * interval) (run_in + (i + 1) * interval)

-- those under these conditions
abbrev pub of_interval : {A : Type 0} → Conditions → ℕ → List A → List A
of_interval c i xs = interval_items c.run_in c.interval i xs

-- so many samples are enough for the intervals that are judged
abbrev pub AreEnough : Conditions → ℕ → Type 0
AreEnough c n = c.run_in + c.count * c.interval ≤ n

-- From one to twelve intervals are judged, and an interval has a sample. The nominal voltage is above 0.
pub record AreSensible (c : Conditions) : Type 0 where
  pub interval : 0 < c.interval
  pub some : 0 < c.count
  pub few : c.count ≤ 12
  pub nominal : 0 < c.nominal
