-- The quantities of one exact run of a channel: in fractions, with no rounding but that of the stated whole billionths.
-- Lists are in the order of time; the filters' relations have the newest value first.
use Rattle.std.specs.Prelude.{◌≡◌, ℕ, ◌<◌, List, length, map, reverse, slice_index_or, Option, Some, None, ℤ, pos}
use Rattle.flk_exact.specs.Fraction.{Fraction}
use Rattle.flk_exact.specs.Cut.{AreCuts}
use Rattle.flk_exact.specs.HalfPeriod.{AreHalfPeriodValues}
use Rattle.flk_num.specs.declared.lamp.Lamp.{Lamp}
use Rattle.flk_num.specs.declared.rate.Rate.{Rate}
use Rattle.flk_num.specs.Rate.{sampling_interval, adaptor_exponent, smoothing_number}
use Rattle.flk_scale.specs.Voltage.{is_below_zero}
use Rattle.flk_change.specs.Changes.{Dc, Dmax, Tmax, IsOfValues}
use Rattle.flk_front.specs.Adaptor.{IsAdapted}
use Rattle.flk_design.specs.Lamp.{constants_of}
use Rattle.flk_section.specs.Cascade.{IsWeightedSignal}
use Rattle.flk_stat.specs.Smoothing.{AreLevels}
use Rattle.flk_stat.specs.Severity.{IsSeverity}
use Rattle.flk_stat.specs.LongTerm.{IsLongTerm}
use Rattle.flk_result.specs.Conditions.{Conditions, half_in, window_in, of_interval}

-- dc and dmax in billionths of nominal; Tmax in half-periods; and in billionths one Pst for each interval that is
-- judged, and Plt where twelve are
pub record RunQuantities : Type 0 where
  pub dc : ℤ
  pub dmax : ℤ
  pub tmax : ℤ
  pub severities : List ℤ
  pub long_term : Option ℤ

-- The smoothed levels of a run, one for each sample: the flickermeter of IEC 61000-4-15 up to its block 4.
pub record AreSmoothedLevels (lamp : Lamp) (rate : Rate) (run levels : List Fraction) : Type 0 where
  pub means : List Fraction
  pub outputs : List Fraction
  pub signal : List Fraction
  pub adapted : IsAdapted (adaptor_exponent rate) (reverse run) means outputs
  pub weighted : IsWeightedSignal (sampling_interval rate) (constants_of lamp) outputs signal
  pub smoothed : AreLevels (smoothing_number rate) signal (reverse levels)

-- Plt stands exactly where twelve intervals are judged
abbrev pub IsLongTermOfTwelve : (count : ℕ) → List ℤ → Option ℤ → Type 0
IsLongTermOfTwelve count severities None = count < 12
IsLongTermOfTwelve count severities (Some w) = (count ≡ 12) × IsLongTerm severities w

-- The quantities of a run, where these voltages were recorded. (The cut into half-periods reads the recorded ones.)
pub record AreQuantities (c : Conditions) (recorded run : List Fraction) (q : RunQuantities) : Type 0 where
  pub cuts : List ℕ
  pub values : List ℤ
  pub levels : List Fraction
  pub are_cuts : AreCuts (half_in c) (map is_below_zero recorded) cuts
  pub are_values : AreHalfPeriodValues (half_in c) cuts run values
  pub dc_is : IsOfValues Dc (window_in c) values q.dc
  pub dmax_is : IsOfValues Dmax (window_in c) values q.dmax
  pub tmax_is : IsOfValues Tmax (window_in c) values q.tmax
  pub are_levels : AreSmoothedLevels c.lamp c.rate run levels
  pub count_is : length q.severities ≡ c.count
  pub severities_are : (i : ℕ) → i < c.count
      → IsSeverity (of_interval c i levels) (slice_index_or q.severities i (pos 0))
  pub long_term_is : IsLongTermOfTwelve c.count q.severities q.long_term
