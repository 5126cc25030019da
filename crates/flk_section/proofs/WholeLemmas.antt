-- What the bound of a whole cascade keeps, and that certificates decide its numbers.
use Rattle.std.proofs.Common.{◌≡◌, ◌<◌, length, slice_index_or, List, [], ◌∷◌, map, drop, refl, sym, ap, subst, ◌∙◌, arith}
use Rattle.std.proofs.Math.IntN.{ℤ, pos}
use Rattle.std.specs.Prelude.{◌^◌, ◌≤ℤ◌, ◌<ℤ◌}
use Rattle.flk_cert.specs.declared.coefs.Coefs.{Coefs}
use Rattle.flk_cert.specs.declared.certificate.CertRow.{CertRow}
use Rattle.flk_cert.specs.declared.gain.Gain.{Gain}
use Rattle.flk_cert.specs.Gain.{coefs_of, input_of, rounding_of, GainNumbers, gain_numbers, IsGainOf}
use Rattle.flk_cert.proofs.MakeLemmas.{IsMade-unique}
use Rattle.flk_cert.proofs.GainLemmas.{gain_numbers_unique}
use Rattle.flk_section.specs.declared.whole.Whole.{Whole}
use Rattle.flk_section.specs.Points.{greatest_point}
use Rattle.flk_section.specs.Radius.{radius_by}
use Rattle.std.proofs.lemmas.Int.{ints}
use Rattle.std.proofs.lemmas.List.{drop-map}
use Rattle.flk_section.specs.declared.chain.ChainBound.{ChainBound}
use Rattle.flk_section.specs.OwnBounds.{first_bound, AreSmallBounds}
use Rattle.flk_section.specs.Forms.{no_form, StaySmallNumbers}
use Rattle.flk_section.specs.Owned.{IsChainBound}
use Rattle.flk_section.proofs.ChainBound.{chain_bounded}
use Rattle.flk_section.specs.Filter.{FilterNumbers, last_radius}
use Rattle.flk_section.specs.Chain.{BoundsChain, chain_samples, chain_input, chain_rounding, filter_numbers, first_input_in, first_rounding_in, HasChainBound}
use Rattle.flk_section.specs.Whole.{numbers_of, IsWholeOf, IsCertified, AreCertified}

pub whole_bounds : (w : Whole) → BoundsChain (drop 1 (numbers_of w).coefs) (numbers_of w).chain_input (numbers_of w).chain_rounding
whole_bounds w = w.bounds

pub whole_input : (w : Whole) → (pos 0 ≤ℤ (numbers_of w).chain_input) × ((numbers_of w).chain_input <ℤ pos (2 ^ 36))
whole_input w = (w.input_natural, w.input_small)

pub whole_rounding : (w : Whole) → (pos 0 ≤ℤ (numbers_of w).chain_rounding) × ((numbers_of w).chain_rounding <ℤ pos (2 ^ 40))
whole_rounding w = (w.rounding_natural, w.rounding_small)

pub whole_radius : (w : Whole) → last_radius (numbers_of w) (pos greatest_point) <ℤ pos (2 ^ 60)
whole_radius w = w.radius_small

-- ---- the first gain

pub record IsFirstGain (gains : List Gain) (d : Gain) : Type 0 where
  pub input : input_of (slice_index_or gains 0 d) ≡ first_input_in (map gain_numbers gains)
  pub rounding : rounding_of (slice_index_or gains 0 d) ≡ first_rounding_in (map gain_numbers gains)

pub first_gain : (gains : List Gain) (d : Gain) → 0 < length gains → IsFirstGain gains d
first_gain [] d h = absurd (omega (arith, h))
first_gain (g ∷ gs) d h = record { input = refl; rounding = refl }

pub first_of_by : (gains : List Gain) (d e : Gain) (r i t y : ℤ) → 0 < length gains → i ≡ input_of (slice_index_or gains 0 d) → t ≡ rounding_of (slice_index_or gains 0 e) → y ≡ radius_by i t r
    → y ≡ radius_by (first_input_in (map gain_numbers gains)) (first_rounding_in (map gain_numbers gains)) r
first_of_by gains d e r i t y some ei et ey =
    let one = first_gain gains d some in
    let two = first_gain gains e some in
    ey ∙ ap (λ (z : ℤ). radius_by z t r) (ei ∙ one.input) ∙ ap (λ (z : ℤ). radius_by (first_input_in (map gain_numbers gains)) z r) (et ∙ two.rounding)

-- the radius behind the first section, by what the code reads of the first gain
pub first_by : (w : Whole) (d e : Gain) (r i t y : ℤ) → i ≡ input_of (slice_index_or w.gains 0 d) → t ≡ rounding_of (slice_index_or w.gains 0 e) → y ≡ radius_by i t r
    → y ≡ radius_by (first_input_in (map gain_numbers w.gains)) (first_rounding_in (map gain_numbers w.gains)) r
first_by w d e r i t y ei et ey = first_of_by w.gains d e r i t y w.some ei et ey

-- ---- the rule for the gains of a cascade

abbrev filter_from : List Coefs → ℤ → ℤ → ℤ → ℤ → FilterNumbers
filter_from ks a b i t = record { coefs = ks; first_input = a; first_rounding = b; chain_input = i; chain_rounding = t }

numbers_behind : (gains later : List Gain) → later ≡ drop 1 gains → map gain_numbers later ≡ drop 1 (map gain_numbers gains)
numbers_behind gains later e = ap (λ (gs : List Gain). map gain_numbers gs) e ∙ sym (drop-map gain_numbers 1 gains)

abbrev Limited : List GainNumbers → Type 0
Limited G = AreSmallBounds first_bound G × StaySmallNumbers (pos (2 ^ 32)) G (no_form G) chain_samples

pub not_limited : (gains later : List Gain) → later ≡ drop 1 gains → ¬ Limited (map gain_numbers later) → ¬ HasChainBound (map gain_numbers gains)
not_limited gains later e never h = never (subst Limited (sym (numbers_behind gains later e)) (h.bounds, h.numbers))

-- the two numbers are those of the rule
pub record IsRule (gains : List Gain) (i t : ℤ) : Type 0 where
  pub input : i ≡ chain_input (drop 1 (map gain_numbers gains))
  pub rounding : t ≡ chain_rounding (drop 1 (map gain_numbers gains))

pub rule_of : (gains later : List Gain) (b : ChainBound) → later ≡ drop 1 gains → IsChainBound (map gain_numbers later) b → IsRule gains b.input b.rounding
rule_of gains later b e h = record {
  input = h.input ∙ ap chain_input (numbers_behind gains later e);
  rounding = h.rounding ∙ ap chain_rounding (numbers_behind gains later e);
}

pub rule_at : (gains : List Gain) (j u i t : ℤ) → j ≡ i → u ≡ t → IsRule gains i t → IsRule gains j u
rule_at gains j u i t ej eu rule = record { input = ej ∙ rule.input; rounding = eu ∙ rule.rounding }

pub large_input : (gains : List Gain) (i t : ℤ) → IsRule gains i t → pos (2 ^ 36) ≤ℤ i → ¬ HasChainBound (map gain_numbers gains)
large_input gains i t rule large h =
    let small = h.input in
    let e = rule.input in
    omega (arith, ints, small, e, large)

pub large_rounding : (gains : List Gain) (i t : ℤ) → IsRule gains i t → pos (2 ^ 40) ≤ℤ t → ¬ HasChainBound (map gain_numbers gains)
large_rounding gains i t rule large h =
    let small = h.rounding in
    let e = rule.rounding in
    omega (arith, ints, small, e, large)

pub radius_is : (gains : List Gain) (i t f y : ℤ) → IsRule gains i t
    → f ≡ radius_by (first_input_in (map gain_numbers gains)) (first_rounding_in (map gain_numbers gains)) (pos greatest_point) → y ≡ radius_by i t f
    → y ≡ last_radius (filter_numbers (map gain_numbers gains)) (pos greatest_point)
radius_is gains i t f y rule ef ey =
    ey ∙ ap (λ (z : ℤ). radius_by z t f) rule.input ∙ ap (λ (z : ℤ). radius_by (chain_input (drop 1 (map gain_numbers gains))) z f) rule.rounding
    ∙ ap (λ (z : ℤ). radius_by (chain_input (drop 1 (map gain_numbers gains))) (chain_rounding (drop 1 (map gain_numbers gains))) z) ef

pub large_radius : (gains : List Gain) (y : ℤ) → y ≡ last_radius (filter_numbers (map gain_numbers gains)) (pos greatest_point) → pos (2 ^ 60) ≤ℤ y → ¬ HasChainBound (map gain_numbers gains)
large_radius gains y e large h =
    let small = h.radius in
    omega (arith, ints, small, e, large)

pub has_bound : (gains later : List Gain) (i t y : ℤ) → later ≡ drop 1 gains → Limited (map gain_numbers later) → IsRule gains i t → i <ℤ pos (2 ^ 36) → t <ℤ pos (2 ^ 40)
    → y ≡ last_radius (filter_numbers (map gain_numbers gains)) (pos greatest_point) → y <ℤ pos (2 ^ 60) → HasChainBound (map gain_numbers gains)
has_bound gains later i t y e limited rule si st ey sy =
    let at = subst Limited (numbers_behind gains later e) limited in
    record {
      bounds = at.0;
      numbers = at.1;
      input = subst (λ (z : ℤ). z <ℤ pos (2 ^ 36)) rule.input si;
      rounding = subst (λ (z : ℤ). z <ℤ pos (2 ^ 40)) rule.rounding st;
      radius = subst (λ (z : ℤ). z <ℤ pos (2 ^ 60)) ey sy;
    }

-- the promise
pub rule_bounds : (gains : List Gain) (i t : ℤ) → IsRule gains i t → BoundsChain (drop 1 (map coefs_of gains)) i t
rule_bounds gains i t rule =
    let G : drop 1 (map gain_numbers gains) ≡ map gain_numbers (drop 1 gains) = drop-map gain_numbers 1 gains in
    let K : map coefs_of (drop 1 gains) ≡ drop 1 (map coefs_of gains) = sym (drop-map coefs_of 1 gains) in
    let ei : chain_input (map gain_numbers (drop 1 gains)) ≡ i = sym (rule.input ∙ ap chain_input G) in
    let et : chain_rounding (map gain_numbers (drop 1 gains)) ≡ t = sym (rule.rounding ∙ ap chain_rounding G) in
    subst (λ (ks : List Coefs). BoundsChain ks i t) K
    (subst (λ (z : ℤ). BoundsChain (map coefs_of (drop 1 gains)) i z) et
    (subst (λ (z : ℤ). BoundsChain (map coefs_of (drop 1 gains)) z (chain_rounding (map gain_numbers (drop 1 gains)))) ei (chain_bounded (drop 1 gains))))

coefs_same : (gs : List Gain) → map coefs_of gs ≡ map (λ (g : GainNumbers). g.coefs) (map gain_numbers gs)
coefs_same [] = refl
coefs_same (g ∷ gs) = ap (λ (ks : List Coefs). coefs_of g ∷ ks) (coefs_same gs)

filter_same : (ks js : List Coefs) (a b i i' t t' : ℤ) → ks ≡ js → i ≡ i' → t ≡ t' → filter_from ks a b i t ≡ filter_from js a b i' t'
filter_same ks js a b i i' t t' e f g = rw (e, f, g) refl

pub numbers_are : (gains : List Gain) (i t : ℤ) → IsRule gains i t
    → filter_from (map coefs_of gains) (first_input_in (map gain_numbers gains)) (first_rounding_in (map gain_numbers gains)) i t ≡ filter_numbers (map gain_numbers gains)
numbers_are gains i t rule = filter_same (map coefs_of gains) _ _ _ i _ t _ (coefs_same gains) rule.input rule.rounding

-- ---- certificates

certified_same : (k : Coefs) (g h : Gain) → IsCertified k g → IsCertified k h → gain_numbers g ≡ gain_numbers h
certified_same k g h i j =
    let rows = IsMade-unique k i.rows j.rows i.made j.made in
    gain_numbers_unique k j.rows g h (subst (λ (rs : List CertRow). IsGainOf k rs g) rows i.gain) j.gain

numbers_same : (ks : List Coefs) (gs hs : List Gain) → AreCertified ks gs → AreCertified ks hs → map gain_numbers gs ≡ map gain_numbers hs
numbers_same [] [] [] i j = refl
numbers_same [] [] (h ∷ hs) i j = absurd j
numbers_same [] (g ∷ gs) hs i j = absurd i
numbers_same (k ∷ ks) [] hs i j = absurd i
numbers_same (k ∷ ks) (g ∷ gs) [] i j = absurd j
numbers_same (k ∷ ks) (g ∷ gs) (h ∷ hs) i j =
    let first = certified_same k g h i.0 j.0 in
    let rest = numbers_same ks gs hs i.1 j.1 in
    cc

pub certified_filter : (ks : List Coefs) (gs hs : List Gain) (w v : Whole) → AreCertified ks gs → AreCertified ks hs → IsWholeOf gs w → IsWholeOf hs v → numbers_of w ≡ numbers_of v
certified_filter ks gs hs w v i j a b = a.numbers ∙ ap filter_numbers (numbers_same ks gs hs i j) ∙ sym b.numbers
