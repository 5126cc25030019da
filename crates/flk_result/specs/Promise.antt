-- What a result promises of every exact run.
use Rattle.std.specs.Prelude.{◌≡◌, ◌*◌, List}
use Rattle.flk_exact.specs.Fraction.{Fraction}
use Rattle.flk_exact.specs.Run.{IsAdmittedRun}
use Rattle.flk_num.specs.Rate.{sampling_interval}
use Rattle.flk_cert.specs.declared.gain.Gain.{Gain}
use Rattle.flk_design.specs.Lamp.{constants_of}
use Rattle.flk_design.specs.Design.{IsDesign}
use Rattle.flk_section.specs.declared.whole.Whole.{Whole}
use Rattle.flk_section.specs.Whole.{numbers_of, IsWholeOf, AreCertified}
use Rattle.flk_result.specs.declared.result.PhaseResult.{PhaseResult}
use Rattle.flk_result.specs.Conditions.{Conditions}
use Rattle.flk_result.specs.RunQuantities.{RunQuantities, AreQuantities}
use Rattle.flk_result.specs.PhaseResult.{AreHeld}
use Rattle.flk_result.specs.Digits.{IsPhaseResult}

-- the filter is the design of the lamp at the rate, with the bound of a cascade that was checked
pub record IsFilterOf (c : Conditions) (w : Whole) : Type 0 where
  pub numbers : numbers_of w ≡ c.filter
  pub design : IsDesign (sampling_interval c.rate) (constants_of c.lamp) c.filter.coefs

-- Its bound is that of the certificates that are made for the design's sections. So the lamp and the rate alone
-- decide it.
pub record IsCertifiedFilterOf (c : Conditions) (w : Whole) : Type 0 where
  pub filter : IsFilterOf c w
  pub gains : List Gain
  pub certified : AreCertified c.filter.coefs gains
  pub whole : IsWholeOf gains w

-- each exact run whose voltages lie within the uncertainty of the recorded ones has its quantities within the intervals
abbrev pub HoldsEveryRun : Conditions → List Fraction → PhaseResult → Type 0
HoldsEveryRun c recorded r =
    (run : List Fraction) (q : RunQuantities) → IsAdmittedRun (1000 * c.nominal) c.uncertainty recorded run
    → AreQuantities c recorded run q → AreHeld r q

-- The result has the digits of the recorded voltages, and holds every run.
pub record KeepsPromise (c : Conditions) (recorded : List Fraction) (r : PhaseResult) : Type 0 where
  pub result : IsPhaseResult c recorded r
  pub holds : HoldsEveryRun c recorded r
