-- From section to section: the last output lies within the last radius of the rounded one.
use Rattle.std.proofs.Math.Logic.{∥∥₁_elim}
use Rattle.std.proofs.Math.Dec.{T_prop}
use Rattle.std.proofs.Common.{◌≡◌, ◌<◌, Bool, true, false, List, [], ◌∷◌, map, length, drop, refl, sym, subst, ◌∙◌, arith}
use Rattle.std.proofs.Math.IntN.{ℤ, pos}
use Rattle.std.specs.Prelude.{◌≤ℤ◌}
use Rattle.std.specs.List.{All, AllZip}
use Rattle.std.proofs.lemmas.Int.{ints}
use Rattle.std.proofs.lemmas.List.Elements.{All-nil, All-cons, All-head, All-tail}
use Rattle.flk_exact.specs.Fraction.{Fraction, ◌≤ℚ◌, ◌≈ℚ◌, units}
use Rattle.flk_exact.proofs.FractionLemmas.{≤ℚ-trans}
use Rattle.flk_cert.specs.declared.coefs.Coefs.{Coefs}
use Rattle.flk_cert.specs.declared.gain.Gain.{Gain}
use Rattle.flk_cert.specs.Gain.{coefs_of, gain_numbers}
use Rattle.flk_cert.specs.Section.{IsSection}
use Rattle.flk_cert.specs.Bound.{IsInputNear, AllNear}
use Rattle.flk_cert.proofs.SectionLemmas.{outputs_exist, outputs_alike, all_alike}
use Rattle.flk_design.specs.Lamp.{LampConstants}
use Rattle.flk_design.specs.Design.{IsDesign}
use Rattle.flk_design.proofs.DesignLemmas.{design_unique}
use Rattle.flk_front.specs.declared.point.Point.{Point}
use Rattle.flk_front.specs.Front.{IsWithin}
use Rattle.flk_front.proofs.AdaptorLaws.{point_same}
use Rattle.flk_section.specs.Cascade.{AreSections, IsCascade, IsWeightedSignal}
use Rattle.flk_section.specs.RoundedCascade.{last_output}
use Rattle.flk_section.specs.Points.{mids, greatest_radius}
use Rattle.flk_section.specs.declared.whole.Whole.{Whole}
use Rattle.flk_section.specs.Radius.{radius_by, radius_after, FirstStartsAtRest, FitsCascade}
use Rattle.flk_section.specs.Filter.{FilterNumbers, last_radius}
use Rattle.flk_section.specs.Chain.{BoundsChain, first_input_in, first_rounding_in}
use Rattle.flk_section.specs.Whole.{numbers_of}
use Rattle.flk_section.specs.Answer.{IsAnswer, AreAnswers}
use Rattle.flk_section.proofs.SectionLemmas.{section_near, radius_covers, radius_natural, natural_units}
use Rattle.flk_section.proofs.RadiusLemmas.{greatest_natural, below_greatest, greatest_below, last_radius_rises}

-- ---- the first section by its own gain, and the others by their bound in a row

units_rise : (r s : ℤ) → r ≤ℤ s → units r ≤ℚ units s
units_rise r s h = record { cross = omega (arith, ints) }

-- the others, from the first one's outputs zs on
chain_near : (ks : List Coefs) (i t r : ℤ) (y : Fraction) (zs ys : List Fraction) (Y : ℤ) (Ys : List ℤ) → BoundsChain ks i t → pos 0 ≤ℤ r
    → AreSections ks false zs (y ∷ ys) → AllNear (units r) zs (Y ∷ Ys) → IsInputNear (units (radius_by i t r)) y (last_output ks false Ys Y)
chain_near ks i t r y [] ys Y Ys bounds natural run near = absurd near
chain_near ks i t r y (z ∷ zs) ys Y Ys bounds natural run near =
    let within = bounds (units r) z y zs ys Y Ys (natural_units r natural) run near in
    record { near = ≤ℚ-trans _ _ _ within (radius_covers i t r) }

-- the numbers of a cascade with these gains and this bound
abbrev numbers_by : List Gain → (i t : ℤ) → FilterNumbers
numbers_by gains i t = record {
  coefs = map coefs_of gains;
  first_input = first_input_in (map gain_numbers gains);
  first_rounding = first_rounding_in (map gain_numbers gains);
  chain_input = i;
  chain_rounding = t;
}

last_near : (gains : List Gain) (i t r : ℤ) (xs : List Fraction) (y : Fraction) (ys : List Fraction) (X : ℤ) (Xs : List ℤ) → 0 < length gains → FirstStartsAtRest gains
    → BoundsChain (drop 1 (map coefs_of gains)) i t → pos 0 ≤ℤ r → IsCascade (map coefs_of gains) xs (y ∷ ys) → AllNear (units r) xs (X ∷ Xs)
    → IsInputNear (units (last_radius (numbers_by gains i t) r)) y (last_output (map coefs_of gains) true Xs X)
last_near [] i t r xs y ys X Xs some start bounds natural run near = absurd (omega (arith, some))
last_near (g ∷ gs) i t r xs y ys X Xs some start bounds natural run near =
    let first = section_near g true r xs run.0 (X ∷ Xs) start natural run.1 near in
    chain_near (map coefs_of gs) i t (radius_after g r) y run.0 ys _ _ bounds (radius_natural g r natural) run.2 first

-- ---- points

pub points_near : (r : ℤ) (ps : List Point) (xs : List Fraction) → All (λ p. p.radius ≤ℤ r) ps → AllZip IsWithin ps xs → AllNear (units r) xs (mids ps)
points_near r [] [] small h = tt
points_near r [] (x ∷ xs) small h = absurd h
points_near r (p ∷ ps) [] small h = absurd h
points_near r (p ∷ ps) (x ∷ xs) small h =
    let within = h.0.within in
    (record { near = ≤ℚ-trans _ _ _ within (units_rise p.radius r (All-head (λ z. z.radius ≤ℤ r) p ps small)) }, points_near r ps xs (All-tail (λ z. z.radius ≤ℤ r) p ps small) h.1)

holds_by : (gains : List Gain) (i t : ℤ) (ps : List Point) (p q : Point) (xs ys : List Fraction) (y : Fraction) → 0 < length gains → FirstStartsAtRest gains
    → BoundsChain (drop 1 (map coefs_of gains)) i t → IsAnswer (numbers_by gains i t) ps p q → AllZip IsWithin (p ∷ ps) xs → IsCascade (map coefs_of gains) xs (y ∷ ys) → IsWithin q y
holds_by gains i t ps p q xs ys y some start bounds answer inside run =
    let ks : List Coefs = map coefs_of gains in
    let r : ℤ = greatest_radius (p ∷ ps) in
    let near = points_near r (p ∷ ps) xs (below_greatest (p ∷ ps) r (omega (arith, ints))) inside in
    let newest = last_near gains i t r xs y ys p.mid (mids ps) some start bounds (greatest_natural (p ∷ ps)) run near in
    let own = subst (λ (z : ℤ). IsInputNear (units z) y (last_output ks true (mids ps) p.mid)) (sym answer.radius) newest in
    let at = subst (λ (z : ℤ). IsInputNear (units q.radius) y z) (sym answer.mid) own in
    record { within = at.near }

-- the exact output lies in the answer
pub answer_holds : (w : Whole) (ps : List Point) (p q : Point) (xs ys : List Fraction) (y : Fraction) → IsAnswer (numbers_of w) ps p q → AllZip IsWithin (p ∷ ps) xs
    → IsCascade (numbers_of w).coefs xs (y ∷ ys) → IsWithin q y
answer_holds w ps p q xs ys y answer inside run = record {
  within = record {
    cross = record {
      le =
          ∥∥₁_elim w.fits (T_prop _)
          (λ (fits : FitsCascade w.gains). (holds_by w.gains w.input w.rounding ps p q xs ys y w.some fits.start w.bounds answer inside run).within.cross.le);
    };
  };
}

-- with the coefficients of a design the weighted signal is the output
signal_is : (T : Fraction) (c : LampConstants) (ks : List Coefs) (xs ws : List Fraction) → IsDesign T c ks → IsWeightedSignal T c xs ws → IsCascade ks xs ws
signal_is T c ks xs ws design signal = subst (λ (js : List Coefs). IsCascade js xs ws) (design_unique T c signal.0 ks signal.1 design) signal.2

pub answer_holds_signal : (w : Whole) (ps : List Point) (p q : Point) (T : Fraction) (c : LampConstants) (xs ws : List Fraction) (y : Fraction) → IsAnswer (numbers_of w) ps p q
    → AllZip IsWithin (p ∷ ps) xs → IsDesign T c (numbers_of w).coefs → IsWeightedSignal T c xs (y ∷ ws) → IsWithin q y
answer_holds_signal w ps p q T c xs ws y answer inside design signal = answer_holds w ps p q xs ws y answer inside (signal_is T c (numbers_of w).coefs xs (y ∷ ws) design signal)

pub answer_is_narrow : (w : Whole) (ps : List Point) (p q : Point) (r : ℤ) → pos 0 ≤ℤ r → IsAnswer (numbers_of w) ps p q → All (λ z. z.radius ≤ℤ r) (p ∷ ps)
    → q.radius ≤ℤ last_radius (numbers_of w) r
answer_is_narrow w ps p q r natural answer small =
    subst (λ (z : ℤ). z ≤ℤ last_radius (numbers_of w) r) (sym answer.radius) (last_radius_rises w (greatest_radius (p ∷ ps)) r (greatest_below (p ∷ ps) r natural small))

-- ---- whole lists

-- a run has as many outputs as inputs, and what it began with is a run
abbrev Begins : List Coefs → Bool → List Fraction → List Fraction → Type 0
Begins ks from_one [] [] = Unit {0}
Begins ks from_one [] (y ∷ ys) = ⊥
Begins ks from_one (x ∷ xs) [] = ⊥
Begins ks from_one (x ∷ xs) (y ∷ ys) = AreSections ks from_one xs ys

begins_same : (from_one : Bool) (xs : List Fraction) → Begins [] from_one xs xs
begins_same from_one [] = tt
begins_same from_one (x ∷ xs) = refl

begins_through : (k : Coefs) (ks : List Coefs) (from_one : Bool) (xs zs ys : List Fraction) → IsSection k from_one xs zs → Begins ks false zs ys → Begins (k ∷ ks) from_one xs ys
begins_through k ks from_one [] [] [] first others = tt
begins_through k ks from_one [] [] (y ∷ ys) first others = absurd others
begins_through k ks from_one [] (z ∷ zs) ys first others = absurd first
begins_through k ks from_one (x ∷ xs) [] ys first others = absurd first
begins_through k ks from_one (x ∷ xs) (z ∷ zs) [] first others = absurd others
begins_through k ks from_one (x ∷ xs) (z ∷ zs) (y ∷ ys) first others = (zs, first.1, others)

begins : (ks : List Coefs) (from_one : Bool) (xs ys : List Fraction) → AreSections ks from_one xs ys → Begins ks from_one xs ys
begins [] from_one xs ys run = subst (λ (zs : List Fraction). Begins [] from_one xs zs) run (begins_same from_one xs)
begins (k ∷ ks) from_one xs ys run = begins_through k ks from_one xs run.0 ys run.1 (begins ks false run.0 ys run.2)

answers_hold_begun : (w : Whole) (ps qs : List Point) (xs ys : List Fraction) → AreAnswers (numbers_of w) ps qs → AllZip IsWithin ps xs
    → IsCascade (numbers_of w).coefs xs ys → Begins (numbers_of w).coefs true xs ys → AllZip IsWithin qs ys
answers_hold_begun w [] [] [] [] answers inside run begun = tt
answers_hold_begun w [] [] [] (y ∷ ys) answers inside run begun = absurd begun
answers_hold_begun w [] [] (x ∷ xs) ys answers inside run begun = absurd inside
answers_hold_begun w [] (q ∷ qs) xs ys answers inside run begun = absurd answers
answers_hold_begun w (p ∷ ps) [] xs ys answers inside run begun = absurd answers
answers_hold_begun w (p ∷ ps) (q ∷ qs) [] ys answers inside run begun = absurd inside
answers_hold_begun w (p ∷ ps) (q ∷ qs) (x ∷ xs) [] answers inside run begun = absurd begun
answers_hold_begun w (p ∷ ps) (q ∷ qs) (x ∷ xs) (y ∷ ys) answers inside run begun = (
  answer_holds w ps p q (x ∷ xs) ys y answers.0 inside run,
  answers_hold_begun w ps qs xs ys answers.1 inside.1 begun (begins (numbers_of w).coefs true xs ys begun),
)

pub answers_hold : (w : Whole) (ps qs : List Point) (xs ys : List Fraction) → AreAnswers (numbers_of w) ps qs → AllZip IsWithin ps xs
    → IsCascade (numbers_of w).coefs xs ys → AllZip IsWithin qs ys
answers_hold w ps qs xs ys answers inside run = answers_hold_begun w ps qs xs ys answers inside run (begins (numbers_of w).coefs true xs ys run)

pub answers_hold_signal : (w : Whole) (ps qs : List Point) (T : Fraction) (c : LampConstants) (xs ws : List Fraction) → AreAnswers (numbers_of w) ps qs
    → AllZip IsWithin ps xs → IsDesign T c (numbers_of w).coefs → IsWeightedSignal T c xs ws → AllZip IsWithin qs ws
answers_hold_signal w ps qs T c xs ws answers inside design signal = answers_hold w ps qs xs ws answers inside (signal_is T c (numbers_of w).coefs xs ws design signal)

pub answers_narrow : (w : Whole) (ps qs : List Point) (r : ℤ) → pos 0 ≤ℤ r → AreAnswers (numbers_of w) ps qs → All (λ p. p.radius ≤ℤ r) ps
    → All (λ q. q.radius ≤ℤ last_radius (numbers_of w) r) qs
answers_narrow w [] [] r natural answers small = All-nil (λ (q : Point). q.radius ≤ℤ last_radius (numbers_of w) r)
answers_narrow w [] (q ∷ qs) r natural answers small = absurd answers
answers_narrow w (p ∷ ps) [] r natural answers small = absurd answers
answers_narrow w (p ∷ ps) (q ∷ qs) r natural answers small =
    All-cons (λ (z : Point). z.radius ≤ℤ last_radius (numbers_of w) r) q qs (answer_is_narrow w ps p q r natural answers.0 small)
    (answers_narrow w ps qs r natural answers.1 (All-tail (λ z. z.radius ≤ℤ r) p ps small))

-- ---- there is one list

pub sections_exist : (ks : List Coefs) (from_one : Bool) (xs : List Fraction) → (ys : List Fraction) × AreSections ks from_one xs ys
sections_exist [] from_one xs = (xs, refl)
sections_exist (k ∷ ks) from_one xs =
    let first = outputs_exist k from_one xs in
    let others = sections_exist ks false first.0 in
    (others.0, (first.0, first.1, others.1))

pub sections_alike : (ks : List Coefs) (from_one : Bool) (xs us ys zs : List Fraction) → AllZip (λ x u. x ≈ℚ u) xs us → AreSections ks from_one xs ys → AreSections ks from_one us zs
    → AllZip (λ y z. y ≈ℚ z) ys zs
sections_alike [] from_one xs us ys zs e h j =
    subst (λ (vs : List Fraction). AllZip (λ y z. y ≈ℚ z) vs zs) h (subst (λ (vs : List Fraction). AllZip (λ y z. y ≈ℚ z) xs vs) j e)
sections_alike (k ∷ ks) from_one xs us ys zs e h j = sections_alike ks false h.0 j.0 ys zs (outputs_alike k from_one xs us h.0 j.0 e h.1 j.1) h.2 j.2

pub sections_unique : (ks : List Coefs) (xs ys zs : List Fraction) → IsCascade ks xs ys → IsCascade ks xs zs → AllZip (λ y z. y ≈ℚ z) ys zs
sections_unique ks xs ys zs h j = sections_alike ks true xs xs ys zs (all_alike xs) h j

pub answers_exist : (f : FilterNumbers) (ps : List Point) → (qs : List Point) × AreAnswers f ps qs
answers_exist f [] = ([], tt)
answers_exist f (p ∷ ps) =
    let rest = answers_exist f ps in
    let q : Point = record { mid = last_output f.coefs true (mids ps) p.mid; radius = last_radius f (greatest_radius (p ∷ ps)) } in
    (q ∷ rest.0, (record { mid = refl; radius = refl }, rest.1))

pub answers_unique : (f : FilterNumbers) (ps qs rs : List Point) → AreAnswers f ps qs → AreAnswers f ps rs → qs ≡ rs
answers_unique f [] [] [] h j = refl
answers_unique f [] [] (r ∷ rs) h j = absurd j
answers_unique f [] (q ∷ qs) rs h j = absurd h
answers_unique f (p ∷ ps) [] rs h j = absurd h
answers_unique f (p ∷ ps) (q ∷ qs) [] h j = absurd j
answers_unique f (p ∷ ps) (q ∷ qs) (r ∷ rs) h j =
    let first : q ≡ r = point_same q r (h.0.mid ∙ sym j.0.mid) (h.0.radius ∙ sym j.0.radius) in
    let rest = answers_unique f ps qs rs h.1 j.1 in
    cc
