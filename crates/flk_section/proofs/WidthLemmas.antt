-- How wide the answers are where the points are the adaptor's.
use Rattle.std.proofs.Common.{ℕ, ◌+◌, ◌/◌, ◌≤◌, List, [], ◌∷◌, arith}
use Rattle.std.proofs.Math.IntN.{pos}
use Rattle.std.specs.Prelude.{◌≤ℤ◌}
use Rattle.std.specs.List.{All}
use Rattle.std.proofs.lemmas.Int.{ints}
use Rattle.std.proofs.lemmas.List.Elements.{All-nil, All-head}
use Rattle.flk_exact.proofs.WholeLemmas.{≤ℤ_trans}
use Rattle.flk_exact.specs.Fraction.{Fraction, ◌≤ℚ◌, units}
use Rattle.flk_num.specs.declared.interval.Interval.{Interval}
use Rattle.flk_front.specs.declared.ends.Ends.{Ends}
use Rattle.flk_front.specs.declared.point.Point.{Point}
use Rattle.flk_front.specs.Adaptor.{IsAdapted}
use Rattle.flk_front.specs.Rounded.{newest_output, IsPoint, ArePoints}
use Rattle.flk_front.specs.Width.{AreClose, CoversOutput}
use Rattle.flk_front.proofs.RunLemmas.{output_ordered, points_are_narrow}
use Rattle.flk_section.specs.declared.whole.Whole.{Whole}
use Rattle.flk_section.specs.Radius.{units_above}
use Rattle.flk_section.specs.Filter.{last_radius}
use Rattle.flk_section.specs.Whole.{numbers_of}
use Rattle.flk_section.specs.Answer.{AreAnswers}
use Rattle.flk_section.proofs.RadiusLemmas.{within_units_above}
use Rattle.flk_section.proofs.CascadeLemmas.{answers_narrow}

point_natural : (ends : Ends) (p : Point) → ends.lo ≤ ends.hi → IsPoint ends p → pos 0 ≤ℤ p.radius
point_natural ends p order point =
    let below : (ends.lo + ends.hi) / 2 ≤ ends.hi = omega arith in
    omega (arith, ints, point.mid, point.radius, below)

-- a bound of the adaptor's points is not below 0, where there is a point
above_natural : (e : ℕ) (v : Interval) (vs : List Interval) (p : Point) (ps : List Point) (width : Fraction) → ArePoints e (v ∷ vs) (p ∷ ps) → All (λ z. units z.radius ≤ℚ width) (p ∷ ps)
    → pos 0 ≤ℤ units_above width
above_natural e v vs p ps width points small =
    let natural = point_natural (newest_output e vs v) p (output_ordered e vs v) points.0 in
    let within = within_units_above p.radius width (All-head (λ (z : Point). units z.radius ≤ℚ width) p ps small) in
    ≤ℤ_trans natural within

narrow_by : (e : ℕ) (vs : List Interval) (w : Whole) (ps qs : List Point) (width : Fraction) → ArePoints e vs ps → All (λ p. units p.radius ≤ℚ width) ps → AreAnswers (numbers_of w) ps qs
    → All (λ q. q.radius ≤ℤ last_radius (numbers_of w) (units_above width)) qs
narrow_by e vs w [] [] width points small answers = All-nil (λ (q : Point). q.radius ≤ℤ last_radius (numbers_of w) (units_above width))
narrow_by e vs w [] (q ∷ qs) width points small answers = absurd answers
narrow_by e [] w (p ∷ ps) qs width points small answers = absurd points
narrow_by e (v ∷ vs) w (p ∷ ps) qs width points small answers =
    answers_narrow w (p ∷ ps) qs (units_above width) (above_natural e v vs p ps width points small) answers (λ k d within. within_units_above _ width (small k d within))

pub answers_narrow_by_adaptor : (e : ℕ) (vs : List Interval) (us means ys : List Fraction) (w : Whole) (ps qs : List Point) (delta a r width : Fraction) → 16 ≤ e → e ≤ 17
    → IsAdapted e us means ys → AreClose delta a r vs us means → CoversOutput delta a r width → ArePoints e vs ps → AreAnswers (numbers_of w) ps qs
    → All (λ q. q.radius ≤ℤ last_radius (numbers_of w) (units_above width)) qs
answers_narrow_by_adaptor e vs us means ys w ps qs delta a r width low high adapted close covers points answers =
    narrow_by e vs w ps qs width points (points_are_narrow e vs us means ys ps delta a r width low high adapted close covers points) answers
