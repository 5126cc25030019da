-- What a sample does to the flickermeter of a channel: first to the adaptor, and then to what is behind it.
use Rattle.std.proofs.Common.{◌≡◌, List, [], ◌∷◌, ◌++◌, subst, sym, append_assoc}
use Rattle.flk_num.specs.declared.interval.Interval.{Interval}
use Rattle.flk_num.specs.declared.rate.Rate.{Rate}
use Rattle.flk_num.specs.Rate.{adaptor_exponent, smoothing_number}
use Rattle.flk_front.specs.declared.point.Point.{Point}
use Rattle.flk_front.specs.declared.front.Front.{Front}
use Rattle.flk_front.specs.Front.{Stands as FrontStands}
use Rattle.flk_front.specs.Rounded.{newest_output, IsPoint, ArePoints}
use Rattle.flk_section.specs.declared.cascade.Cascade.{Cascade}
use Rattle.flk_section.specs.declared.whole.Whole.{Whole}
use Rattle.flk_section.specs.Whole.{numbers_of}
use Rattle.flk_section.specs.Answer.{CascadeStands, IsAnswer, AreAnswers}
use Rattle.flk_stat.specs.declared.smooth.Smooth.{Smooth}
use Rattle.flk_stat.specs.Smooth.{Stands as SmoothStands}
use Rattle.flk_stat.specs.Rounded.{level_after, IsLevel, AreLevelIntervals}
use Rattle.flk_phase.specs.declared.meter.Meter.{Meter}
use Rattle.flk_phase.specs.Meter.{rate_of, whole_of, StandsAhead}

moved_points : (e to : Rate) (vs : List Interval) (ps : List Point) → to ≡ e → ArePoints (adaptor_exponent e) vs ps → ArePoints (adaptor_exponent to) vs ps
moved_points e to vs ps same h = rw same h

moved_answers : (w to : Whole) (ps qs : List Point) → to ≡ w → AreAnswers (numbers_of w) ps qs → AreAnswers (numbers_of to) ps qs
moved_answers w to ps qs same h = subst (λ (v : Whole). AreAnswers (numbers_of v) ps qs) (sym same) h

moved_levels : (e to : Rate) (qs : List Point) (ls : List Interval) → to ≡ e → AreLevelIntervals (smoothing_number e) qs ls → AreLevelIntervals (smoothing_number to) qs ls
moved_levels e to qs ls same h = rw same h

-- one sample more came as far as the adaptor
pub stands_adapted : (old new : Meter) (voltages levels : List Interval) (waiting : List Point) (v : Interval) (p : Point) → rate_of new ≡ rate_of old → whole_of new ≡ whole_of old
    → new.cascade ≡ old.cascade → new.smooth ≡ old.smooth
    → ((vs : List Interval) → FrontStands old.front vs → FrontStands new.front (v ∷ vs))
    → ((vs : List Interval) → FrontStands old.front vs → IsPoint (newest_output (adaptor_exponent (rate_of old)) vs v) p)
    → StandsAhead old voltages waiting levels → StandsAhead new (v ∷ voltages) (p ∷ waiting) levels
stands_adapted old new voltages levels waiting v p rate whole cascade smooth front point h =
    let points : ArePoints (adaptor_exponent (rate_of old)) (v ∷ voltages) (p ∷ (waiting ++ h.points)) = (point voltages h.front, h.are_points) in
    record {
      points = h.points;
      answers = h.answers;
      front = front voltages h.front;
      are_points = moved_points (rate_of old) (rate_of new) (v ∷ voltages) (p ∷ (waiting ++ h.points)) rate points;
      cascade = subst (λ (c : Cascade). CascadeStands c h.points) (sym cascade) h.cascade;
      are_answers = moved_answers (whole_of old) (whole_of new) h.points h.answers whole h.are_answers;
      smooth = subst (λ (s : Smooth). SmoothStands s h.answers) (sym smooth) h.smooth;
      are_levels = moved_levels (rate_of old) (rate_of new) h.answers levels rate h.are_levels;
    }

-- the oldest point that waits came through the weighting filter and the smoothing
pub stands_weighed : (old new : Meter) (voltages levels : List Interval) (waiting : List Point) (p q : Point) (level : Interval) → rate_of new ≡ rate_of old → whole_of new ≡ whole_of old
    → new.front ≡ old.front
    → ((ps : List Point) → CascadeStands old.cascade ps → CascadeStands new.cascade (p ∷ ps))
    → ((ps : List Point) → CascadeStands old.cascade ps → IsAnswer (numbers_of (whole_of old)) ps p q)
    → ((qs : List Point) → SmoothStands old.smooth qs → SmoothStands new.smooth (q ∷ qs))
    → ((qs : List Point) → SmoothStands old.smooth qs → IsLevel (level_after (smoothing_number (rate_of old)) (q ∷ qs)) level)
    → StandsAhead old voltages (waiting ++ p ∷ []) levels → StandsAhead new voltages waiting (level ∷ levels)
stands_weighed old new voltages levels waiting p q level rate whole front cascade answer smooth after h =
    let points : ArePoints (adaptor_exponent (rate_of old)) voltages (waiting ++ (p ∷ h.points)) =
    subst (λ (ps : List Point). ArePoints (adaptor_exponent (rate_of old)) voltages ps) (append_assoc waiting (p ∷ []) h.points) h.are_points in
    let answers : AreAnswers (numbers_of (whole_of old)) (p ∷ h.points) (q ∷ h.answers) = (answer h.points h.cascade, h.are_answers) in
    let those : AreLevelIntervals (smoothing_number (rate_of old)) (q ∷ h.answers) (level ∷ levels) = (after h.answers h.smooth, h.are_levels) in
    record {
      points = p ∷ h.points;
      answers = q ∷ h.answers;
      front = subst (λ (f : Front). FrontStands f voltages) (sym front) h.front;
      are_points = moved_points (rate_of old) (rate_of new) voltages (waiting ++ (p ∷ h.points)) rate points;
      cascade = cascade h.points h.cascade;
      are_answers = moved_answers (whole_of old) (whole_of new) (p ∷ h.points) (q ∷ h.answers) whole answers;
      smooth = smooth h.answers h.smooth;
      are_levels = moved_levels (rate_of old) (rate_of new) (q ∷ h.answers) (level ∷ levels) rate those;
    }
