-- What the state of a cascade stands for, and the points that it answers.
use Rattle.std.specs.Prelude.{◌≡◌, true, List, [], ◌∷◌}
use Rattle.flk_front.specs.declared.point.Point.{Point}
use Rattle.flk_section.specs.declared.cascade.Cascade.{Cascade}
use Rattle.flk_section.specs.declared.whole.Whole.{Whole}
use Rattle.flk_section.specs.Points.{mids, greatest_radius}
use Rattle.flk_section.specs.Filter.{FilterNumbers, last_radius}
use Rattle.flk_section.specs.RoundedCascade.{last_output}
use Rattle.flk_section.specs.Row.{StandInRow}

-- the bound that it was made with
abbrev pub whole_in : Cascade → Whole
whole_in c = c.whole

-- The state stands for these points, newest first: the sections for their middles, and the greatest radius is kept.
pub record CascadeStands (c : Cascade) (ps : List Point) : Type 0 where
  pub sections : StandInRow true c.sections (mids ps)
  pub greatest : c.greatest ≡ greatest_radius ps

-- The answer q to the point p after the points ps: the last output for its middle, and the last radius that follows
-- from the greatest radius so far.
pub record IsAnswer (f : FilterNumbers) (ps : List Point) (p q : Point) : Type 0 where
  pub mid : q.mid ≡ last_output f.coefs true (mids ps) p.mid
  pub radius : q.radius ≡ last_radius f (greatest_radius (p ∷ ps))

-- one answer for each point
abbrev pub AreAnswers : FilterNumbers → List Point → List Point → Type 0
AreAnswers f [] [] = Unit {0}
AreAnswers f (p ∷ ps) (q ∷ qs) = IsAnswer f ps p q × AreAnswers f ps qs
AreAnswers f _ _ = ⊥
