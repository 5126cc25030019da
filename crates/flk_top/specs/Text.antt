-- The lines of the commands `levels` and `check`.
use Rattle.std.specs.Prelude.{ℕ, List, ◌++◌, length, Option, Some, None, codes}
use Rattle.std.specs.Int.RustNames.{unsigned_abs}
use Rattle.std.specs.Fmt.{decimal}
use Rattle.flk_text.specs.Billionths.{ends_text}
use Rattle.flk_num.specs.declared.interval.Interval.{Interval}
use Rattle.flk_cfg.specs.declared.config.Config.{Config}
use Rattle.flk_cfg.specs.Canonical.{form_text}
use Rattle.flk_top.specs.declared.measure.Levels.{Levels}
use Rattle.flk_top.specs.declared.measure.Extremes.{Extremes}

-- an interval of natural numbers of billionths
abbrev pub interval_text : Interval → List ℕ
interval_text v = ends_text (unsigned_abs v.lo) (unsigned_abs v.hi)

abbrev pub extremes_text : Option Extremes → List ℕ
extremes_text None = codes "least none\ngreatest none\n"
extremes_text (Some e) =
    codes "least " ++ (interval_text e.least ++ (codes "\ngreatest " ++ (interval_text e.greatest ++ codes "\n")))

-- (Appended from the right, as a format is.)
abbrev pub levels_text : ℕ → Levels → List ℕ
levels_text channel levels =
    codes "levels channel " ++ (decimal channel ++ (codes "\nhalf-periods " ++ (decimal levels.count
    ++ (codes "\n" ++ extremes_text levels.extremes))))

-- (`first` is the sample number of the first record.)
abbrev pub check_text : Config → (first : ℕ) → List ℕ
check_text c first =
    codes "check\nanalog " ++ (decimal (length c.analog) ++ (codes " digital " ++ (decimal (length c.digital)
    ++ (codes "\nrecords " ++ (decimal c.endsamp ++ (codes "\nfirst " ++ (decimal first
    ++ (codes "\nform " ++ (form_text c.form ++ codes "\n")))))))))
