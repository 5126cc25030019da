-- What is known of the sections of a cascade, which some points reached.
use Rattle.std.proofs.Common.{◌≡◌, ◌^◌, ◌<◌, length, Bool, true, List, [], ◌∷◌, map, get_or, sym, ap, subst, ◌∙◌, arith}
use Rattle.std.proofs.Math.IntN.{ℤ, pos, ℤ_set}
use Rattle.std.proofs.Math.Dec.{T_prop}
use Rattle.std.proofs.Math.Logic.{∥∥₁_elim, ∥∥₁_map, ∥∥₁_map₂}
use Rattle.std.specs.Prelude.{◌≤ℤ◌, ◌<ℤ◌}
use Rattle.std.specs.Int.{int_max}
use Rattle.std.specs.List.{All}
use Rattle.std.proofs.lemmas.Int.{ints}
use Rattle.std.proofs.lemmas.List.Elements.{All-nil, All-cons, All-head, All-tail}
use Rattle.flk_cert.specs.declared.coefs.Coefs.{Coefs}
use Rattle.flk_cert.specs.declared.gain.Gain.{Gain}
use Rattle.flk_cert.specs.Gain.{coefs_of, input_of, gain_numbers}
use Rattle.flk_front.specs.declared.point.Point.{Point}
use Rattle.flk_section.specs.declared.row_section.RowSection.{RowSection}
use Rattle.flk_section.specs.RoundedCascade.{last_output}
use Rattle.flk_section.specs.Points.{greatest_point, IsPointInRange, mids, greatest_radius}
use Rattle.flk_section.specs.declared.whole.Whole.{Whole}
use Rattle.flk_section.specs.Radius.{radius_by, radius_after, radii, FirstStartsAtRest, FitsCascade}
use Rattle.flk_section.specs.Chain.{first_input_in, first_rounding_in}
use Rattle.flk_section.specs.Filter.{last_radius}
use Rattle.flk_section.specs.Whole.{numbers_of}
use Rattle.flk_section.specs.Kept.{IsNearRest}
use Rattle.flk_section.specs.RowSection.{gain_of}
use Rattle.flk_section.specs.declared.kind.SectionKind.{SectionKind}
use Rattle.flk_section.specs.declared.kind.SectionKind.TheVariants.{HighPass, LowPass, BandPass, LeadAndLag, Lag, Any}
use Rattle.flk_section.specs.Kinds.{IsOfKind, kind_at, AreOfDesign}
use Rattle.flk_section.specs.Row.{StandInRow, AreReady, AreReached}
use Rattle.flk_section.specs.declared.cascade.Cascade.{Cascade}
use Rattle.flk_section.specs.Answer.{CascadeStands, IsAnswer}
use Rattle.flk_section.proofs.RadiusLemmas.{radii_below}

-- a middle of the adaptor's range
mid_near : (p : Point) → IsPointInRange p → IsNearRest true (pos greatest_point) p.mid
mid_near p h = let low = h.mid_low in let high = h.mid_high in record { near = omega (arith, ints, low, high) }

all_mids_near : (ps : List Point) → All IsPointInRange ps → All (IsNearRest true (pos greatest_point)) (mids ps)
all_mids_near [] h = All-nil (IsNearRest true (pos greatest_point))
all_mids_near (p ∷ ps) h =
    All-cons (IsNearRest true (pos greatest_point)) p.mid (mids ps) (mid_near p (All-head IsPointInRange p ps h)) (all_mids_near ps (All-tail IsPointInRange p ps h))

pub reached_ready : (gains : List Gain) (ss : List RowSection) (p : Point) → IsPointInRange p → ∥ AreReached gains ss ∥₁ → ∥ AreReady ss p.mid ∥₁
reached_ready gains ss p range reached =
    ∥∥₁_map reached
    (λ (a : AreReached gains ss).
    let fits : FitsCascade (map gain_of ss) = subst FitsCascade (sym a.gains_are) a.fits in
    let ready : AreReady ss p.mid = record {
      from_one = true;
      r = pos greatest_point;
      inputs = mids a.points;
      natural = omega (arith, ints);
      small = omega (arith, ints);
      near = all_mids_near (p ∷ a.points) (All-cons IsPointInRange p a.points range a.ranges);
      stand = a.stand;
      radii = fits.radii;
    } in
    ready)

pub reached_more : (gains : List Gain) (ss ts : List RowSection) (p : Point) → IsPointInRange p → map gain_of ts ≡ map gain_of ss
    → ((from_one : Bool) (Xs : List ℤ) → StandInRow from_one ss Xs → StandInRow from_one ts (p.mid ∷ Xs)) → ∥ AreReached gains ss ∥₁ → ∥ AreReached gains ts ∥₁
reached_more gains ss ts p range same stand reached =
    ∥∥₁_map reached
    (λ (a : AreReached gains ss).
    let made : AreReached gains ts = record {
      gains_are = same ∙ a.gains_are;
      points = p ∷ a.points;
      ranges = All-cons IsPointInRange p a.points range a.ranges;
      stand = stand true (mids a.points) a.stand;
      fits = a.fits;
    } in
    made)

-- ---- the kinds of the sections

kind_holds : (kind : SectionKind) (k : Coefs) → ∥ IsOfKind kind k ∥₁ → IsOfKind kind k
kind_holds HighPass k h = (∥∥₁_elim h (ℤ_set _ _) (λ e. e.0), ∥∥₁_elim h (ℤ_set _ _) (λ e. e.1), ∥∥₁_elim h (ℤ_set _ _) (λ e. e.2))
kind_holds LowPass k h = (∥∥₁_elim h (ℤ_set _ _) (λ e. e.0), ∥∥₁_elim h (ℤ_set _ _) (λ e. e.1))
kind_holds BandPass k h = (∥∥₁_elim h (ℤ_set _ _) (λ e. e.0), ∥∥₁_elim h (ℤ_set _ _) (λ e. e.1))
kind_holds LeadAndLag k h = (∥∥₁_elim h (ℤ_set _ _) (λ e. e.0), ∥∥₁_elim h (ℤ_set _ _) (λ e. e.1))
kind_holds Lag k h = (∥∥₁_elim h (ℤ_set _ _) (λ e. e.0), ∥∥₁_elim h (ℤ_set _ _) (λ e. e.1), ∥∥₁_elim h (ℤ_set _ _) (λ e. e.2))
kind_holds Any k h = tt

-- the sections have the kinds of their gains
pub reached_design : (gains : List Gain) (ss : List RowSection) → ∥ AreReached gains ss ∥₁ → ∥ AreOfDesign gains ∥₁ → AreOfDesign (map gain_of ss)
reached_design gains ss reached design = λ i within d.
    kind_holds (kind_at i) (coefs_of (get_or (map gain_of ss) i d))
    (∥∥₁_map₂ reached design (λ (a : AreReached gains ss) (all : AreOfDesign gains). subst AreOfDesign (sym a.gains_are) all i within d))

-- ---- what fits is known of the bound of a whole cascade

pub whole_inputs : (w : Whole) → All (λ g. input_of g <ℤ pos (2 ^ 36)) w.gains
whole_inputs w = λ k d within. record { lt = ∥∥₁_elim w.fits (T_prop _) (λ (fits : FitsCascade w.gains). (fits.inputs k d within).lt) }

pub whole_radii : (w : Whole) (r : ℤ) → r ≤ℤ pos greatest_point → All (λ z. z <ℤ pos (2 ^ 60)) (radii w.gains r)
whole_radii w r low =
    λ k d within. record { lt = ∥∥₁_elim w.fits (T_prop _) (λ (fits : FitsCascade w.gains). (radii_below w.gains r (pos greatest_point) low fits.radii k d within).lt) }

-- the first section may start from one
start_of : (gains : List Gain) → ∥ FitsCascade gains ∥₁ → FirstStartsAtRest gains
start_of [] fits = tt
start_of (g ∷ gs) fits = record {
  opposite = ∥∥₁_elim fits (ℤ_set _ _) (λ (f : FitsCascade (g ∷ gs)). f.start.opposite);
  none = ∥∥₁_elim fits (ℤ_set _ _) (λ (f : FitsCascade (g ∷ gs)). f.start.none);
}

pub whole_start : (w : Whole) → FirstStartsAtRest w.gains
whole_start w = start_of w.gains w.fits

pub reached_first : (w : Whole) (ss : List RowSection) → map gain_of ss ≡ w.gains → StandInRow true ss [] → ∥ AreReached w.gains ss ∥₁
reached_first w ss same stand =
    ∥∥₁_map w.fits
    (λ (fits : FitsCascade w.gains).
    let made : AreReached w.gains ss = record { gains_are = same; points = []; ranges = All-nil IsPointInRange; stand = stand; fits = fits } in
    made)

pub first_small : (gains : List Gain) (r : ℤ) → 0 < length gains → All (λ z. z <ℤ pos (2 ^ 60)) (radii gains r)
    → radius_by (first_input_in (map gain_numbers gains)) (first_rounding_in (map gain_numbers gains)) r <ℤ pos (2 ^ 60)
first_small [] r some h = absurd (omega (arith, some))
first_small (g ∷ gs) r some h = All-head (λ z. z <ℤ pos (2 ^ 60)) (radius_after g r) (radii gs (radius_after g r)) h

pub first_radius_small : (w : Whole) (r : ℤ) → r ≤ℤ pos greatest_point
    → radius_by (first_input_in (map gain_numbers w.gains)) (first_rounding_in (map gain_numbers w.gains)) r <ℤ pos (2 ^ 60)
first_radius_small w r low = first_small w.gains r w.some (whole_radii w r low)

-- ---- the answer

-- what one point makes of a cascade: its answer, from the sections before it and the kept radius k
pub answer_of : (old k : Cascade) (ps : List Point) (p : Point) (Y : ℤ) → CascadeStands old ps → k.whole ≡ old.whole → k.sections ≡ old.sections → k.greatest ≡ int_max p.radius old.greatest
    → ((from_one : Bool) (Xs : List ℤ) → StandInRow from_one k.sections Xs → Y ≡ last_output (map coefs_of (map gain_of k.sections)) from_one Xs p.mid)
    → IsAnswer (numbers_of old.whole) ps p (record { mid = Y; radius = k.radius })
answer_of old k ps p Y stands same_whole same greatest output =
    let stand : StandInRow true k.sections (mids ps) = subst (λ (ss : List RowSection). StandInRow true ss (mids ps)) (sym same) stands.sections in
    let newest : Y ≡ last_output (map coefs_of (map gain_of old.sections)) true (mids ps) p.mid =
    subst (λ (ss : List RowSection). Y ≡ last_output (map coefs_of (map gain_of ss)) true (mids ps) p.mid) same (output true (mids ps) stand) in
    let by_gains : Y ≡ last_output (map coefs_of old.whole.gains) true (mids ps) p.mid =
    ∥∥₁_elim old.reached (ℤ_set _ _)
    (λ (a : AreReached old.whole.gains old.sections). subst (λ (gs : List Gain). Y ≡ last_output (map coefs_of gs) true (mids ps) p.mid) a.gains_are newest) in
    let most : k.greatest ≡ greatest_radius (p ∷ ps) = greatest ∙ ap (λ (z : ℤ). int_max p.radius z) stands.greatest in
    let last : k.radius ≡ last_radius (numbers_of old.whole) k.greatest = subst (λ (w : Whole). k.radius ≡ last_radius (numbers_of w) k.greatest) same_whole k.follows in
    record { mid = by_gains; radius = last ∙ ap (λ (z : ℤ). last_radius (numbers_of old.whole) z) most }
