-- Forms followed back, as the code does it: section by section, and sample by sample.
use Rattle.std.proofs.Common.{◌≡◌, ℕ, zero, suc, ◌+◌, ◌-◌, ◌*◌, ◌^◌, ◌<◌, ◌≤◌, ◌↔◌, List, [], ◌∷◌, length, map, drop, set, get_or, replicate, refl, sym, ap, subst, ◌∙◌, arith}
use Rattle.std.proofs.Math.IntN.{ℤ, pos}
use Rattle.std.specs.Prelude.{if◌then◌else◌, Bool, true, false}
use Rattle.std.specs.List.{All}
use Rattle.std.specs.Int.RustNames.{unsigned_abs}
use Rattle.std.proofs.lemmas.List.{drop-set, drop_all, length-set, get_or_default}
use Rattle.std.proofs.lemmas.List.Elements.{All-set, All-replicate}
use Rattle.flk_cert.specs.declared.gain.Gain.{Gain}
use Rattle.flk_cert.specs.Gain.{GainNumbers, gain_numbers}
use Rattle.flk_section.specs.declared.form.FormPart.{FormPart}
use Rattle.flk_section.specs.declared.form.SectionBack.{SectionBack}
use Rattle.flk_section.specs.declared.form.SampleBack.{SampleBack}
use Rattle.flk_section.specs.OwnBounds.{has_one_row}
use Rattle.flk_section.specs.Forms.{number_at_output, number_at_input, part_before, weight_of, form_before, share_of, AreSmallNumbers, weights, shares, form_behind, StaySmallNumbers, no_form}
use Rattle.flk_section.specs.Followed.{IsSmallPart, IsSectionBack, IsSampleBack, IsFollowed}
use Rattle.flk_section.proofs.RadiusLemmas.{left_split}

-- ---- places of a list

pub before_one : (n : ℕ) → 0 < n → n - 1 + 1 ≡ n
before_one n h = omega (arith, h)

pub gain_at : (gs : List Gain) (i : ℕ) (g : Gain) → i < length gs → g ≡ get_or gs i g → drop i gs ≡ g ∷ drop (i + 1) gs
gain_at gs i g h e = left_split gs i g h e

pub part_at : (fs : List FormPart) (i : ℕ) (d : FormPart) → i < length fs → drop i fs ≡ get_or fs i d ∷ drop (i + 1) fs
part_at fs i d h = left_split fs i (get_or fs i d) h (get_or_default fs i d (get_or fs i d) h)

-- ---- one section

-- the numbers of one more section are small
abbrev pub IsSmallSection : GainNumbers → ℤ → FormPart → Type 0
IsSmallSection g w f = (unsigned_abs (number_at_output g w f) < 2 ^ 60) × (unsigned_abs (number_at_input g (number_at_output g w f) f) < 2 ^ 60)

pub section_small : (g : GainNumbers) (z : ℤ) (f : FormPart) (out number : ℤ) → out ≡ number_at_output g z f → number ≡ number_at_input g out f
    → unsigned_abs out < 2 ^ 60 → unsigned_abs number < 2 ^ 60 → IsSmallSection g z f
section_small g z f out number eo en so sn = (
  subst (λ (y : ℤ). unsigned_abs y < 2 ^ 60) eo so,
  subst (λ (y : ℤ). unsigned_abs y < 2 ^ 60) (en ∙ ap (λ (y : ℤ). number_at_input g y f) eo) sn,
)

small_if : (one : Bool) (u : ℤ) → unsigned_abs u < 2 ^ 60 → unsigned_abs (if one then pos 0 else u) < 2 ^ 60
small_if true u h = omega arith
small_if false u h = h

pub section_back_is : (g : GainNumbers) (z : ℤ) (f : FormPart) (out number : ℤ) (part : FormPart) (a b c : ℕ) → out ≡ number_at_output g z f → number ≡ number_at_input g out f
    → unsigned_abs out < 2 ^ 60 → unsigned_abs number < 2 ^ 60 → part ≡ part_before g out f → IsSmallPart f → a ≡ unsigned_abs out → b ≡ unsigned_abs f.u → c ≡ unsigned_abs f.v
    → IsSectionBack g z f (record { part = part; number = number; share = a + b + c })
section_back_is g z f out number part a b c eo en so sn ep small ea eb ec =
    let u = small.u in
    let v = small.v in
    let before : IsSmallPart (part_before g out f) = record { u = so; v = small_if (has_one_row g) f.u small.u } in
    let size : unsigned_abs out ≡ unsigned_abs (number_at_output g z f) = ap unsigned_abs eo in
    record {
      part = ep ∙ ap (λ (y : ℤ). part_before g y f) eo;
      number = en ∙ ap (λ (y : ℤ). number_at_input g y f) eo;
      share = omega (arith, ea, eb, ec, size);
      small_part = subst IsSmallPart (sym ep) before;
      small_number = sn;
      small_share = omega (arith, ea, eb, ec, so, u, v);
    }

-- ---- one sample: the sections from i on are done, with the new form, the weight w and the share t

pub record IsBack (z : ℤ) (gs : List Gain) (fs before : List FormPart) (i : ℕ) (w : ℤ) (t : ℕ) : Type 0 where
  pub few : i ≤ 6
  pub count : length before ≡ 6
  pub form : drop i before ≡ form_before z (map gain_numbers (drop i gs)) (drop i fs)
  pub weight : w ≡ weight_of z (map gain_numbers (drop i gs)) (drop i fs)
  pub share : t ≡ share_of z (map gain_numbers (drop i gs)) (drop i fs)
  pub numbers : AreSmallNumbers z (map gain_numbers (drop i gs)) (drop i fs)
  pub small_form : All IsSmallPart before
  pub small_weight : unsigned_abs w < 2 ^ 60
  pub small_share : t ≤ (6 - i) * (3 * 2 ^ 60)

pub back_start : (z : ℤ) (gs : List Gain) (fs : List FormPart) → length gs ≡ 6 → length fs ≡ 6 → All IsSmallPart fs → unsigned_abs z < 2 ^ 60 → IsBack z gs fs fs 6 z 0
back_start z gs fs lg lf small low =
    let eg : drop 6 gs ≡ [] = drop_all 6 gs (omega (arith, lg)) in
    let ef : drop 6 fs ≡ [] = drop_all 6 fs (omega (arith, lf)) in
    let at : (hs : List Gain) → [] ≡ hs → IsBack z gs fs fs 6 z 0 = λ hs e. record {
      few = omega arith;
      count = lf;
      form = ef ∙ ap (λ (ks : List Gain). form_before z (map gain_numbers ks) (drop 6 fs)) (sym eg);
      weight = ap (λ (ks : List Gain). weight_of z (map gain_numbers ks) (drop 6 fs)) (sym eg);
      share = ap (λ (ks : List Gain). share_of z (map gain_numbers ks) (drop 6 fs)) (sym eg);
      numbers = subst (λ (ks : List Gain). AreSmallNumbers z (map gain_numbers ks) (drop 6 fs)) (sym eg) tt;
      small_form = small;
      small_weight = low;
      small_share = omega arith;
    } in
    at [] refl

pub back_step : (z : ℤ) (gs : List Gain) (fs before : List FormPart) (i : ℕ) (w : ℤ) (t : ℕ) (g : Gain) (f : FormPart) (s : SectionBack)
    → drop i gs ≡ g ∷ drop (i + 1) gs → drop i fs ≡ f ∷ drop (i + 1) fs → i < 6 → IsBack z gs fs before (i + 1) w t
    → IsSmallSection (gain_numbers g) w f → IsSectionBack (gain_numbers g) w f s → IsBack z gs fs (set before i s.part) i s.number (t + s.share)
back_step z gs fs before i w t g f s eg ef less back small section =
    let G = map gain_numbers (drop (i + 1) gs) in
    let F = drop (i + 1) fs in
    let w' = weight_of z G F in
    let e = back.weight in
    let tail : drop i (set before i s.part) ≡ s.part ∷ drop (i + 1) before = drop-set before i s.part (omega (arith, less, back.count)) in
    let part : s.part ∷ drop (i + 1) before ≡ form_before z (gain_numbers g ∷ G) (f ∷ F) =
    ap (λ (ps : List FormPart). s.part ∷ ps) back.form ∙ ap (λ (p : FormPart). p ∷ form_before z G F) (subst (λ (y : ℤ). IsSectionBack (gain_numbers g) y f s) e section).part in
    let at = subst (λ (y : ℤ). IsSectionBack (gain_numbers g) y f s) e section in
    let few_small = subst (λ (y : ℤ). IsSmallSection (gain_numbers g) y f) e small in
    let both : (hs : List Gain) (qs : List FormPart) → g ∷ drop (i + 1) gs ≡ hs → f ∷ F ≡ qs
    → (form_before z (gain_numbers g ∷ G) (f ∷ F) ≡ form_before z (map gain_numbers hs) qs) × (weight_of z (gain_numbers g ∷ G) (f ∷ F) ≡ weight_of z (map gain_numbers hs) qs)
    × (share_of z (gain_numbers g ∷ G) (f ∷ F) ≡ share_of z (map gain_numbers hs) qs) × AreSmallNumbers z (map gain_numbers hs) qs =
    λ hs qs d h. subst (λ (ks : List Gain). (form_before z (gain_numbers g ∷ G) (f ∷ F) ≡ form_before z (map gain_numbers ks) qs) × (weight_of z (gain_numbers g ∷ G) (f ∷ F) ≡ weight_of z (map gain_numbers ks) qs)
    × (share_of z (gain_numbers g ∷ G) (f ∷ F) ≡ share_of z (map gain_numbers ks) qs) × AreSmallNumbers z (map gain_numbers ks) qs) d
    (subst (λ (ps : List FormPart). (form_before z (gain_numbers g ∷ G) (f ∷ F) ≡ form_before z (gain_numbers g ∷ G) ps) × (weight_of z (gain_numbers g ∷ G) (f ∷ F) ≡ weight_of z (gain_numbers g ∷ G) ps)
    × (share_of z (gain_numbers g ∷ G) (f ∷ F) ≡ share_of z (gain_numbers g ∷ G) ps) × AreSmallNumbers z (gain_numbers g ∷ G) ps) h
    (refl, refl, refl, (few_small.0, few_small.1, back.numbers))) in
    let all = both (drop i gs) (drop i fs) (sym eg) (sym ef) in
    let se = at.share in
    let be = back.share in
    let sum : t + s.share ≡ share_of z (gain_numbers g ∷ G) (f ∷ F) = omega (arith, se, be) in
    let old_small = back.small_share in
    let new_small = section.small_share in
    record {
      few = omega (arith, less);
      count = length-set before i s.part ∙ back.count;
      form = tail ∙ part ∙ all.0;
      weight = at.number ∙ all.1;
      share = sum ∙ all.2;
      numbers = all.3;
      small_form = All-set IsSmallPart before i s.part section.small_part back.small_form;
      small_weight = section.small_number;
      small_share = omega (arith, old_small, new_small, less);
    }

pub back_end : (z : ℤ) (gs : List Gain) (fs before : List FormPart) (w : ℤ) (t : ℕ) → IsBack z gs fs before 0 w t
    → IsSampleBack z (map gain_numbers gs) fs (record { form = before; weight = w; share = t })
back_end z gs fs before w t b =
    let small = b.small_share in
    record { form = b.form; weight = b.weight; share = b.share; small_form = b.small_form; small_weight = b.small_weight; small_share = omega (arith, small) }

-- where all numbers are small, so are those of the sections from i on
numbers_behind : (z : ℤ) (gs : List Gain) (fs : List FormPart) (i : ℕ) → length gs ≡ length fs → AreSmallNumbers z (map gain_numbers gs) fs → AreSmallNumbers z (map gain_numbers (drop i gs)) (drop i fs)
numbers_behind z gs fs zero len h = h
numbers_behind z [] fs (suc i) len h = tt
numbers_behind z (g ∷ gs) [] (suc i) len h = absurd (omega (arith, len))
numbers_behind z (g ∷ gs) (f ∷ fs) (suc i) len h = numbers_behind z gs fs i (omega (arith, len)) h.2

pub not_back : (z : ℤ) (gs : List Gain) (fs before : List FormPart) (i : ℕ) (w : ℤ) (t : ℕ) (g : Gain) (f : FormPart)
    → drop i gs ≡ g ∷ drop (i + 1) gs → drop i fs ≡ f ∷ drop (i + 1) fs → length gs ≡ length fs → IsBack z gs fs before (i + 1) w t
    → ¬ IsSmallSection (gain_numbers g) w f → ¬ AreSmallNumbers z (map gain_numbers gs) fs
not_back z gs fs before i w t g f eg ef len back large small =
    let here = subst (λ (ks : List Gain). AreSmallNumbers z (map gain_numbers ks) (drop i fs)) eg (numbers_behind z gs fs i len small) in
    let at = subst (λ (ps : List FormPart). AreSmallNumbers z (gain_numbers g ∷ map gain_numbers (drop (i + 1) gs)) ps) ef here in
    large (subst (λ (y : ℤ). IsSmallSection (gain_numbers g) y f) (sym back.weight) (at.0, at.1))

-- ---- all samples: n of them are left, from the form fs and the number z on, with the sums w and t so far

pub record IsFollowing (gs : List GainNumbers) (fs all : List FormPart) (z one : ℤ) (n N w t : ℕ) : Type 0 where
  pub count : length fs ≡ 6
  pub few : n ≤ N
  pub form : form_behind one gs all N ≡ form_behind z gs fs n
  pub weights : weights one gs all N ≡ w + weights z gs fs n
  pub shares : shares one gs all N ≡ t + shares z gs fs n
  pub numbers : StaySmallNumbers one gs all N ↔ StaySmallNumbers z gs fs n
  pub small_form : All IsSmallPart fs
  pub small_z : unsigned_abs z < 2 ^ 60
  pub small_weights : w ≤ (N - n) * 2 ^ 60
  pub small_shares : t ≤ (N - n) * (18 * 2 ^ 60)

pub following_start : (gs : List GainNumbers) (all : List FormPart) (one : ℤ) (N : ℕ) → length all ≡ 6 → All IsSmallPart all → unsigned_abs one < 2 ^ 60 → IsFollowing gs all all one one N N 0 0
following_start gs all one N len small low = record {
  count = len;
  few = omega arith;
  form = refl;
  weights = omega arith;
  shares = omega arith;
  numbers = (λ h. h, λ h. h);
  small_form = small;
  small_z = low;
  small_weights = omega arith;
  small_shares = omega arith;
}

-- the same with one more sample named
following_at : (gs : List GainNumbers) (fs all : List FormPart) (z one : ℤ) (n N w t m : ℕ) → n ≡ suc m → IsFollowing gs fs all z one n N w t → IsFollowing gs fs all z one (suc m) N w t
following_at gs fs all z one n N w t m e h = subst (λ (k : ℕ). IsFollowing gs fs all z one k N w t) e h

pub following_step : (gs : List GainNumbers) (fs all : List FormPart) (z one : ℤ) (n N w t m : ℕ) (s : SampleBack) → length s.form ≡ 6 → n ≡ suc m → IsFollowing gs fs all z one n N w t
    → AreSmallNumbers z gs fs → IsSampleBack z gs fs s → IsFollowing gs s.form all (pos 0) one m N (w + unsigned_abs s.weight) (t + s.share)
following_step gs fs all z one n N w t m s len e before small sample =
    let h = following_at gs fs all z one n N w t m e before in
    let next = form_before z gs fs in
    let made : (ps : List FormPart) → next ≡ ps → (form_behind one gs all N ≡ form_behind (pos 0) gs ps m) × (weights one gs all N ≡ w + (unsigned_abs (weight_of z gs fs) + weights (pos 0) gs ps m))
    × (shares one gs all N ≡ t + (share_of z gs fs + shares (pos 0) gs ps m)) × (StaySmallNumbers one gs all N ↔ (AreSmallNumbers z gs fs × StaySmallNumbers (pos 0) gs ps m)) =
    λ ps d. subst (λ (qs : List FormPart). (form_behind one gs all N ≡ form_behind (pos 0) gs qs m) × (weights one gs all N ≡ w + (unsigned_abs (weight_of z gs fs) + weights (pos 0) gs qs m))
    × (shares one gs all N ≡ t + (share_of z gs fs + shares (pos 0) gs qs m)) × (StaySmallNumbers one gs all N ↔ (AreSmallNumbers z gs fs × StaySmallNumbers (pos 0) gs qs m))) d
    (h.form, h.weights, h.shares, h.numbers) in
    let at = made s.form (sym sample.form) in
    let ew : unsigned_abs s.weight ≡ unsigned_abs (weight_of z gs fs) = ap unsigned_abs sample.weight in
    let es = sample.share in
    let aw = at.1 in
    let shared = at.2 in
    let few = h.few in
    let sw = h.small_weights in
    let ss = h.small_shares in
    let nw = sample.small_weight in
    let ns = sample.small_share in
    record {
      count = len;
      few = omega (arith, few);
      form = at.0;
      weights = omega (arith, aw, ew);
      shares = omega (arith, shared, es);
      numbers = (λ i. (at.3.0 i).1, λ i. at.3.1 (small, i));
      small_form = sample.small_form;
      small_z = omega arith;
      small_weights = omega (arith, sw, nw, few);
      small_shares = omega (arith, ss, ns, few);
    }

pub not_following : (gs : List GainNumbers) (fs all : List FormPart) (z one : ℤ) (n N w t m : ℕ) → n ≡ suc m → IsFollowing gs fs all z one n N w t → ¬ AreSmallNumbers z gs fs → ¬ StaySmallNumbers one gs all N
not_following gs fs all z one n N w t m e before large small = large ((following_at gs fs all z one n N w t m e before).numbers.0 small).0

pub following_end : (gs : List GainNumbers) (fs all : List FormPart) (z one : ℤ) (n N w t : ℕ) → n ≡ 0 → IsFollowing gs fs all z one n N w t
    → StaySmallNumbers one gs all N × IsFollowed one gs all N (record { form = fs; weights = w; shares = t })
following_end gs fs all z one n N w t e before =
    let h = subst (λ (k : ℕ). IsFollowing gs fs all z one k N w t) e before in
    let ew = h.weights in
    let es = h.shares in
    let sw = h.small_weights in
    let ss = h.small_shares in (
      h.numbers.1 tt,
      record { form = sym h.form; weights = omega (arith, ew); shares = omega (arith, es); small_form = h.small_form; small_weights = omega (arith, sw); small_shares = omega (arith, ss) },
    )

-- the form with no number, as the code begins with it
no_form_is : (gs : List GainNumbers) → no_form gs ≡ replicate (length gs) (record { u = pos 0; v = pos 0 })
no_form_is [] = refl
no_form_is (g ∷ gs) = ap (λ (fs : List FormPart). record { u = pos 0; v = pos 0 } ∷ fs) (no_form_is gs)

count_same : (gs : List Gain) → length (map gain_numbers gs) ≡ length gs
count_same [] = refl
count_same (g ∷ gs) = ap suc (count_same gs)

pub no_form_of_six : (gs : List Gain) → length gs ≡ 6 → replicate 6 (record { u = pos 0; v = pos 0 }) ≡ no_form (map gain_numbers gs)
no_form_of_six gs len =
    let made : ℕ → List FormPart = λ n. replicate n (record { u = pos 0; v = pos 0 }) in
    ap made (sym len ∙ sym (count_same gs)) ∙ sym (no_form_is (map gain_numbers gs))

none_small : IsSmallPart (record { u = pos 0; v = pos 0 })
none_small = record { u = omega arith; v = omega arith }

pub following_begin : (gs : List Gain) (N n : ℕ) → length gs ≡ 6 → n ≡ N
    → IsFollowing (map gain_numbers gs) (replicate 6 (record { u = pos 0; v = pos 0 })) (no_form (map gain_numbers gs)) (pos (2 ^ 32)) (pos (2 ^ 32)) n N 0 0
following_begin gs N n len e =
    let all = no_form_of_six gs len in
    let start = following_start (map gain_numbers gs) (replicate 6 (record { u = pos 0; v = pos 0 })) (pos (2 ^ 32)) N refl (All-replicate IsSmallPart 6 (record { u = pos 0; v = pos 0 }) none_small) (omega arith) in
    subst (λ (m : ℕ). IsFollowing (map gain_numbers gs) (replicate 6 (record { u = pos 0; v = pos 0 })) (no_form (map gain_numbers gs)) (pos (2 ^ 32)) (pos (2 ^ 32)) m N 0 0) (sym e)
    (subst (λ (fs : List FormPart). IsFollowing (map gain_numbers gs) (replicate 6 (record { u = pos 0; v = pos 0 })) fs (pos (2 ^ 32)) (pos (2 ^ 32)) N N 0 0) all start)

pub one_left : (N i : ℕ) → i < N → N - i ≡ suc (N - (i + 1))
one_left N i h = omega (arith, h)
