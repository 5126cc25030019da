-- A greater radius before a section never gives a smaller one behind it.
use Rattle.std.proofs.Common.{◌≡◌, ℕ, ◌+◌, ◌^◌, ◌<◌, suc, List, [], ◌∷◌, length, map, drop, get_or, refl, sym, ap, subst, ◌∙◌, add-one, arith}
use Rattle.std.proofs.Math.IntN.{ℤ, pos, ◌*ℤ◌}
use Rattle.std.specs.Prelude.{◌↔◌, ◌≤ℤ◌, ◌<ℤ◌}
use Rattle.std.specs.Int.RustNames.{unsigned_abs}
use Rattle.std.specs.List.{All}
use Rattle.std.proofs.Math.Seq.{drop-cons}
use Rattle.std.proofs.lemmas.Int.{ints, int_max_is}
use Rattle.std.proofs.lemmas.List.Elements.{All-nil, All-cons, All-head, All-tail}
use Rattle.flk_exact.specs.Fraction.{Fraction, ◌≤ℚ◌, units}
use Rattle.flk_exact.specs.Rounding.{ceil_of, IsCeil}
use Rattle.flk_exact.proofs.WholeLemmas.{natural_is, scale_≤, cancel_≤}
use Rattle.flk_exact.proofs.RoundingLemmas.{IsCeil-at}
use Rattle.flk_cert.specs.declared.gain.Gain.{Gain}
use Rattle.flk_cert.specs.Gain.{input_of, rounding_of, gain_numbers}
use Rattle.flk_cert.proofs.GainLemmas.{gain_input_natural, gain_rounding_natural}
use Rattle.flk_front.specs.declared.point.Point.{Point}
use Rattle.flk_section.specs.declared.whole.Whole.{Whole}
use Rattle.flk_section.specs.Points.{greatest_point, greatest_radius}
use Rattle.flk_section.specs.Radius.{radius_by, radius_after, radii, units_above}
use Rattle.flk_section.specs.Filter.{last_radius}
use Rattle.flk_section.specs.Chain.{first_input_in, first_rounding_in}
use Rattle.flk_section.specs.Whole.{numbers_of}
use Rattle.flk_section.proofs.SectionLemmas.{radius_by_natural}

radius_ceil : (i r : ℤ) → IsCeil (r *ℤ i) (pos (2 ^ 32)) (ceil_of (r *ℤ i) (pos (2 ^ 32)))
radius_ceil i r = IsCeil-at (r *ℤ i) (pos (2 ^ 32)) (ceil_of (r *ℤ i) (pos (2 ^ 32))) (omega (arith, ints)) refl

times_natural : (r s i : ℤ) → pos 0 ≤ℤ i → r ≤ℤ s → (r *ℤ i) ≤ℤ (s *ℤ i)
times_natural r s i natural h =
    let e : i ≡ pos (unsigned_abs i) = natural_is i natural in
    let a : r *ℤ i ≡ r *ℤ pos (unsigned_abs i) = ap (λ (z : ℤ). r *ℤ z) e in
    let b : s *ℤ i ≡ s *ℤ pos (unsigned_abs i) = ap (λ (z : ℤ). s *ℤ z) e in
    omega (arith, ints, a, b, scale_≤ r s (unsigned_abs i) h)

pub radius_by_rises : (i t r s : ℤ) → pos 0 ≤ℤ i → r ≤ℤ s → radius_by i t r ≤ℤ radius_by i t s
radius_by_rises i t r s natural h =
    let low = (radius_ceil i r).least in
    let high = (radius_ceil i s).within in
    omega (arith, ints, low, high, times_natural r s i natural h)

pub radius_rises : (g : Gain) (r s : ℤ) → r ≤ℤ s → radius_after g r ≤ℤ radius_after g s
radius_rises g r s h = radius_by_rises (input_of g) (rounding_of g) r s (gain_input_natural g) h

-- ---- the radius behind the last section

first_input_natural : (gains : List Gain) → pos 0 ≤ℤ first_input_in (map gain_numbers gains)
first_input_natural [] = omega (arith, ints)
first_input_natural (g ∷ gs) = gain_input_natural g

first_rounding_natural : (gains : List Gain) → pos 0 ≤ℤ first_rounding_in (map gain_numbers gains)
first_rounding_natural [] = omega (arith, ints)
first_rounding_natural (g ∷ gs) = gain_rounding_natural g

pub last_radius_rises : (w : Whole) (r s : ℤ) → r ≤ℤ s → last_radius (numbers_of w) r ≤ℤ last_radius (numbers_of w) s
last_radius_rises w r s h =
    radius_by_rises w.input w.rounding _ _ w.input_natural
    (radius_by_rises (first_input_in (map gain_numbers w.gains)) (first_rounding_in (map gain_numbers w.gains)) r s (first_input_natural w.gains) h)

pub last_radius_natural : (w : Whole) (r : ℤ) → pos 0 ≤ℤ r → pos 0 ≤ℤ last_radius (numbers_of w) r
last_radius_natural w r h =
    radius_by_natural w.input w.rounding _ w.input_natural w.rounding_natural
    (radius_by_natural (first_input_in (map gain_numbers w.gains)) (first_rounding_in (map gain_numbers w.gains)) r (first_input_natural w.gains) (first_rounding_natural w.gains) h)

pub last_radius_small : (w : Whole) (r : ℤ) → r ≤ℤ pos greatest_point → last_radius (numbers_of w) r <ℤ pos (2 ^ 60)
last_radius_small w r h =
    let rises = last_radius_rises w r (pos greatest_point) h in
    let small = w.radius_small in
    omega (arith, ints, rises, small)

-- ---- radii that stay small

-- each input gain is below 2^36, and each radius from r on below 2^60
abbrev pub StaySmall : List Gain → ℤ → Type 0
StaySmall gs r = All (λ g. input_of g <ℤ pos (2 ^ 36)) gs × All (λ z. z <ℤ pos (2 ^ 60)) (radii gs r)

pub small_none : (r : ℤ) → StaySmall [] r
small_none r = (All-nil (λ (g : Gain). input_of g <ℤ pos (2 ^ 36)), All-nil (λ (z : ℤ). z <ℤ pos (2 ^ 60)))

pub small_input : (g : Gain) (gs : List Gain) (r : ℤ) → StaySmall (g ∷ gs) r → input_of g <ℤ pos (2 ^ 36)
small_input g gs r h = All-head (λ f. input_of f <ℤ pos (2 ^ 36)) g gs h.0

pub small_radius : (g : Gain) (gs : List Gain) (r : ℤ) → StaySmall (g ∷ gs) r → radius_after g r <ℤ pos (2 ^ 60)
small_radius g gs r h = All-head (λ z. z <ℤ pos (2 ^ 60)) (radius_after g r) (radii gs (radius_after g r)) h.1

pub small_rest : (g : Gain) (gs : List Gain) (r : ℤ) → StaySmall (g ∷ gs) r → StaySmall gs (radius_after g r)
small_rest g gs r h = (
  All-tail (λ f. input_of f <ℤ pos (2 ^ 36)) g gs h.0,
  All-tail (λ z. z <ℤ pos (2 ^ 60)) (radius_after g r) (radii gs (radius_after g r)) h.1,
)

pub small_more : (g : Gain) (gs : List Gain) (r : ℤ) → input_of g <ℤ pos (2 ^ 36) → radius_after g r <ℤ pos (2 ^ 60) → StaySmall gs (radius_after g r) → StaySmall (g ∷ gs) r
small_more g gs r input small h = (
  All-cons (λ f. input_of f <ℤ pos (2 ^ 36)) g gs input h.0,
  All-cons (λ z. z <ℤ pos (2 ^ 60)) (radius_after g r) (radii gs (radius_after g r)) small h.1,
)

-- from a smaller radius on the radii are no greater
pub radii_below : (gs : List Gain) (r s : ℤ) → r ≤ℤ s → All (λ z. z <ℤ pos (2 ^ 60)) (radii gs s) → All (λ z. z <ℤ pos (2 ^ 60)) (radii gs r)
radii_below [] r s h small = All-nil (λ z. z <ℤ pos (2 ^ 60))
radii_below (g ∷ gs) r s h small =
    let rises = radius_rises g r s h in
    let head = All-head (λ z. z <ℤ pos (2 ^ 60)) (radius_after g s) (radii gs (radius_after g s)) small in
    let tail = All-tail (λ z. z <ℤ pos (2 ^ 60)) (radius_after g s) (radii gs (radius_after g s)) small in
    All-cons (λ z. z <ℤ pos (2 ^ 60)) (radius_after g r) (radii gs (radius_after g r)) (omega (arith, ints, rises, head)) (radii_below gs (radius_after g r) (radius_after g s) rises tail)

-- what is left of a list begins with its item at the index
pub left_split : {A : Type 0} (xs : List A) (i : ℕ) (x : A) → i < length xs → x ≡ get_or xs i x → drop i xs ≡ x ∷ drop (i + 1) xs
left_split {A} xs i x within e = rw add-one (drop-cons xs i x within ∙ ap (λ (y : A). y ∷ drop (suc i) xs) (sym e))

-- what is left of a list decides it, from the radius t behind its first gain on
pub left_decides : (g : Gain) (gs all : List Gain) (r s t : ℤ) → t ≡ radius_after g r → input_of g <ℤ pos (2 ^ 36) → t <ℤ pos (2 ^ 60)
    → StaySmall (g ∷ gs) r ↔ StaySmall all s → StaySmall gs t ↔ StaySmall all s
left_decides g gs all r s t e input small h =
    let same : StaySmall gs (radius_after g r) ↔ StaySmall all s =
    (λ i. h.0 (small_more g gs r input (subst (λ (z : ℤ). z <ℤ pos (2 ^ 60)) e small) i), λ i. small_rest g gs r (h.1 i)) in
    subst (λ (z : ℤ). StaySmall gs z ↔ StaySmall all s) (sym e) same

pub not_left : (g : Gain) (gs all : List Gain) (r s t : ℤ) → t ≡ radius_after g r → pos (2 ^ 60) ≤ℤ t → StaySmall (g ∷ gs) r ↔ StaySmall all s → ¬ StaySmall all s
not_left g gs all r s t e large h i =
    let small = small_radius g gs r (h.1 i) in
    omega (arith, ints, small, large, e)

-- ---- the greatest radius of points

pub greatest_natural : (ps : List Point) → pos 0 ≤ℤ greatest_radius ps
greatest_natural [] = omega (arith, ints)
greatest_natural (p ∷ ps) = omega (arith, ints, greatest_natural ps, int_max_is p.radius (greatest_radius ps))

pub below_greatest : (ps : List Point) (r : ℤ) → greatest_radius ps ≤ℤ r → All (λ p. p.radius ≤ℤ r) ps
below_greatest [] r h = All-nil (λ p. p.radius ≤ℤ r)
below_greatest (p ∷ ps) r h =
    let m = int_max_is p.radius (greatest_radius ps) in
    let own : p.radius ≤ℤ r = omega (arith, ints, h, m) in
    let others : greatest_radius ps ≤ℤ r = omega (arith, ints, h, m) in
    All-cons (λ (z : Point). z.radius ≤ℤ r) p ps own (below_greatest ps r others)

pub greatest_below : (ps : List Point) (r : ℤ) → pos 0 ≤ℤ r → All (λ p. p.radius ≤ℤ r) ps → greatest_radius ps ≤ℤ r
greatest_below [] r natural h = natural
greatest_below (p ∷ ps) r natural h =
    let own : p.radius ≤ℤ r = All-head (λ z. z.radius ≤ℤ r) p ps h in
    omega (arith, ints, own, greatest_below ps r natural (All-tail (λ z. z.radius ≤ℤ r) p ps h), int_max_is p.radius (greatest_radius ps))

-- ---- a bound that is a fraction

pub within_units_above : (r : ℤ) (w : Fraction) → units r ≤ℚ w → r ≤ℤ units_above w
within_units_above r w h =
    let c : ℤ = units_above w in
    let some : pos 0 <ℤ pos w.den = (let s = w.positive in omega (arith, ints, s)) in
    let up : (pos (2 ^ 48) *ℤ w.num) ≤ℤ (c *ℤ pos w.den) = (IsCeil-at (pos (2 ^ 48) *ℤ w.num) (pos w.den) c some refl).within in
    let least = h.cross in
    cancel_≤ r c w.den w.positive (omega (arith, ints, up, least))
