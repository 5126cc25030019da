-- Sections in a row, one sample of one section after the other.
use Rattle.std.proofs.Common.{◌≡◌, ℕ, zero, suc, ◌+◌, ◌^◌, ◌<◌, Bool, false, List, [], ◌∷◌, length, map, get_or, set, drop, refl, sym, ap, subst, ◌∙◌, arith}
use Rattle.std.proofs.Math.IntN.{ℤ, pos}
use Rattle.std.proofs.Math.ListN.{get_or-map}
use Rattle.std.proofs.Math.Logic.{∥∥₁_elim, ∥∥₁_map}
use Rattle.std.specs.Prelude.{◌<ℤ◌}
use Rattle.std.specs.Coded.{le_prop}
use Rattle.std.specs.Int.RustNames.{unsigned_abs}
use Rattle.std.specs.List.{All}
use Rattle.std.proofs.lemmas.List.{drop_all}
use Rattle.std.proofs.lemmas.List.Elements.{All-head, All-tail}
use Rattle.flk_cert.specs.declared.coefs.Coefs.{Coefs}
use Rattle.flk_cert.specs.declared.gain.Gain.{Gain}
use Rattle.flk_cert.specs.Gain.{coefs_of}
use Rattle.flk_cert.specs.RoundedSection.{state, output, outputs}
use Rattle.flk_section.specs.declared.row_section.RowSection.{RowSection}
use Rattle.flk_section.specs.RoundedCascade.{last_output}
use Rattle.flk_section.specs.Radius.{radius_after, radii}
use Rattle.flk_section.specs.Kept.{IsNearRest}
use Rattle.flk_section.specs.RowSection.{gain_of, coefs_in, starts_from_one, SectionStands, IsCalm}
use Rattle.flk_section.specs.declared.kind.SectionKind.{SectionKind}
use Rattle.flk_section.specs.Kinds.{IsOfKind, IsKindAt}
use Rattle.flk_section.specs.Row.{StandInRow, Midway, AreReady}
use Rattle.flk_section.proofs.SectionLemmas.{outputs_near_rest, radius_natural}
use Rattle.flk_section.proofs.NarrowLemmas.{section_may_start, near_small}
use Rattle.flk_section.proofs.RadiusLemmas.{left_split}

-- the section s becomes t by the input X, with the output Y
pub record IsStepped (s t : RowSection) (X Y : ℤ) : Type 0 where
  pub gain : gain_of t ≡ gain_of s
  pub start : starts_from_one t ≡ starts_from_one s
  pub stands : (Xs : List ℤ) → SectionStands s Xs → SectionStands t (X ∷ Xs)
  pub output : (Xs : List ℤ) → SectionStands s Xs → Y ≡ output (coefs_in s) (state (coefs_in s) (starts_from_one s) Xs) X

midway_first : (from_one : Bool) (s t : RowSection) (ss : List RowSection) (X : ℤ) (Xs : List ℤ) (Y Z : ℤ) → IsStepped s t Y Z → Midway 0 from_one (s ∷ ss) X Xs Y → Midway 1 from_one (t ∷ ss) X Xs Z
midway_first from_one s t ss X Xs Y Z step (same, (start, stands, others)) =
    let k : coefs_in t ≡ coefs_in s = ap coefs_of step.gain in
    let here : SectionStands t (X ∷ Xs) = subst (λ (z : ℤ). SectionStands t (z ∷ Xs)) same (step.stands Xs stands) in
    let value : Z ≡ output (coefs_in s) (state (coefs_in s) (starts_from_one s) Xs) X = subst (λ (z : ℤ). Z ≡ output (coefs_in s) (state (coefs_in s) (starts_from_one s) Xs) z) same (step.output Xs stands) in
    let from : Z ≡ output (coefs_in s) (state (coefs_in s) from_one Xs) X = subst (λ (b : Bool). Z ≡ output (coefs_in s) (state (coefs_in s) b Xs) X) start value in (
      step.start ∙ start,
      here,
      (
        subst (λ (c : Coefs). Z ≡ output c (state c from_one Xs) X) (sym k) from,
        subst (λ (c : Coefs). StandInRow false ss (outputs c from_one Xs)) (sym k) others,
      ),
    )

pub midway_next : (i : ℕ) (from_one : Bool) (ss : List RowSection) (d t : RowSection) (X : ℤ) (Xs : List ℤ) (Y Z : ℤ) → i < length ss → IsStepped (get_or ss i d) t Y Z
    → Midway i from_one ss X Xs Y → Midway (suc i) from_one (set ss i t) X Xs Z
midway_next i from_one [] d t X Xs Y Z within step h = absurd (omega arith)
midway_next zero from_one (s ∷ ss) d t X Xs Y Z within step h = midway_first from_one s t ss X Xs Y Z step h
midway_next (suc i) from_one (s ∷ ss) d t X Xs Y Z within step h =
    (h.0, h.1, midway_next i false ss d t (output (coefs_in s) (state (coefs_in s) from_one Xs) X) (outputs (coefs_in s) from_one Xs) Y Z (omega arith) step h.2)

pub midway_start : (from_one : Bool) (ss : List RowSection) (X : ℤ) (Xs : List ℤ) → StandInRow from_one ss Xs → Midway 0 from_one ss X Xs X
midway_start from_one ss X Xs h = (refl, h)

pub midway_end : (from_one : Bool) (ss : List RowSection) (X : ℤ) (Xs : List ℤ) (Y : ℤ) → Midway (length ss) from_one ss X Xs Y
    → StandInRow from_one ss (X ∷ Xs) × (Y ≡ last_output (map coefs_of (map gain_of ss)) from_one Xs X)
midway_end from_one [] X Xs Y h = (tt, h.0)
midway_end from_one (s ∷ ss) X Xs Y h =
    let rest = midway_end false ss (output (coefs_in s) (state (coefs_in s) from_one Xs) X) (outputs (coefs_in s) from_one Xs) Y h.2 in
    ((h.0, h.1, rest.0), rest.1)

-- the gains stay
pub gains_kept : (i : ℕ) (ss : List RowSection) (d t : RowSection) → gain_of t ≡ gain_of (get_or ss i d) → i < length ss → map gain_of (set ss i t) ≡ map gain_of ss
gains_kept i [] d t e within = absurd (omega arith)
gains_kept zero (s ∷ ss) d t e within = ap (λ (g : Gain). g ∷ map gain_of ss) e
gains_kept (suc i) (s ∷ ss) d t e within = ap (λ (gs : List Gain). gain_of s ∷ gs) (gains_kept i ss d t e (omega arith))

-- ---- ranges

-- the outputs of the first section are the inputs of the others
outputs_ready : (s t : RowSection) (ss : List RowSection) (X Y : ℤ) → IsStepped s t X Y → (a : AreReady (s ∷ ss) X)
    → All (IsNearRest false (radius_after (gain_of s) a.r)) (Y ∷ outputs (coefs_in s) a.from_one a.inputs)
outputs_ready s t ss X Y step a =
    let k : Coefs = coefs_in s in
    let r : ℤ = radius_after (gain_of s) a.r in
    let near = outputs_near_rest (gain_of s) a.from_one a.r (X ∷ a.inputs) (section_may_start s a.from_one a.stand.0) a.natural a.near in
    let value : Y ≡ output k (state k a.from_one a.inputs) X = subst (λ (b : Bool). Y ≡ output k (state k b a.inputs) X) a.stand.0 (step.output a.inputs a.stand.1) in
    subst (λ (z : ℤ). All (IsNearRest false r) (z ∷ outputs k a.from_one a.inputs)) (sym value) near

next_ready : (s t : RowSection) (ss : List RowSection) (X Y : ℤ) → IsStepped s t X Y → AreReady (s ∷ ss) X → AreReady ss Y
next_ready s t ss X Y step a =
    record {
      from_one = false;
      r = radius_after (gain_of s) a.r;
      inputs = outputs (coefs_in s) a.from_one a.inputs;
      natural = radius_natural (gain_of s) a.r a.natural;
      small = All-head (λ z. z <ℤ pos (2 ^ 60)) (radius_after (gain_of s) a.r) (radii (map gain_of ss) (radius_after (gain_of s) a.r)) a.radii;
      near = outputs_ready s t ss X Y step a;
      stand = a.stand.2;
      radii = All-tail (λ z. z <ℤ pos (2 ^ 60)) (radius_after (gain_of s) a.r) (radii (map gain_of ss) (radius_after (gain_of s) a.r)) a.radii;
    }

-- ---- of the sections that the code holds

pub ready_calm : (s : RowSection) (ss : List RowSection) (X : ℤ) → ∥ AreReady (s ∷ ss) X ∥₁ → ∥ IsCalm s X ∥₁
ready_calm s ss X r =
    ∥∥₁_map r
    (λ (a : AreReady (s ∷ ss) X).
    let calm : IsCalm s X = record {
      r = a.r;
      inputs = a.inputs;
      natural = a.natural;
      small = a.small;
      near = subst (λ (b : Bool). All (IsNearRest b a.r) (X ∷ a.inputs)) (sym a.stand.0) a.near;
      stands = a.stand.1;
      radius = All-head (λ z. z <ℤ pos (2 ^ 60)) (radius_after (gain_of s) a.r) (radii (map gain_of ss) (radius_after (gain_of s) a.r)) a.radii;
    } in
    calm)

pub ready_small : (s t : RowSection) (ss : List RowSection) (X Y : ℤ) → IsStepped s t X Y → ∥ AreReady (s ∷ ss) X ∥₁ → unsigned_abs Y < 2 ^ 60
ready_small s t ss X Y step r =
    ∥∥₁_elim r le_prop
    (λ (a : AreReady (s ∷ ss) X).
    let r = radius_after (gain_of s) a.r in
    near_small r Y (All-head (IsNearRest false r) Y (outputs (coefs_in s) a.from_one a.inputs) (outputs_ready s t ss X Y step a))
    (All-head (λ z. z <ℤ pos (2 ^ 60)) r (radii (map gain_of ss) r) a.radii))

pub ready_next : (s t : RowSection) (ss : List RowSection) (X Y : ℤ) → IsStepped s t X Y → ∥ AreReady (s ∷ ss) X ∥₁ → ∥ AreReady ss Y ∥₁
ready_next s t ss X Y step r = ∥∥₁_map r (λ (a : AreReady (s ∷ ss) X). next_ready s t ss X Y step a)

-- the sections from i on, the first of which is s
pub ready_from : (ss : List RowSection) (i : ℕ) (s : RowSection) (X : ℤ) → i < length ss → s ≡ get_or ss i s → ∥ AreReady (drop i ss) X ∥₁ → ∥ AreReady (s ∷ drop (i + 1) ss) X ∥₁
ready_from ss i s X within e h = subst (λ (zs : List RowSection). ∥ AreReady zs X ∥₁) (left_split ss i s within e) h

-- the section at i is of the kind
pub kind_from : (kind : SectionKind) (ss : List RowSection) (i : ℕ) (s : RowSection) → IsKindAt i kind (map gain_of ss) → IsOfKind kind (coefs_in (get_or ss i s))
kind_from kind ss i s h = subst (λ (g : Gain). IsOfKind kind (coefs_of g)) (get_or-map gain_of ss i s) (h (gain_of s))

-- ---- the sections of the gains

pub seven : (gains : List Gain) (a b c d e f g : Gain) → length gains ≡ 7 → a ≡ get_or gains 0 a → b ≡ get_or gains 1 b → c ≡ get_or gains 2 c → d ≡ get_or gains 3 d
    → e ≡ get_or gains 4 e → f ≡ get_or gains 5 f → g ≡ get_or gains 6 g → a ∷ b ∷ c ∷ d ∷ e ∷ f ∷ g ∷ [] ≡ gains
seven gains a b c d e f g h i0 i1 i2 i3 i4 i5 i6 =
    let s0 : gains ≡ a ∷ drop 1 gains = left_split gains 0 a (omega arith) i0 in
    let s1 : drop 1 gains ≡ b ∷ drop 2 gains = left_split gains 1 b (omega arith) i1 in
    let s2 : drop 2 gains ≡ c ∷ drop 3 gains = left_split gains 2 c (omega arith) i2 in
    let s3 : drop 3 gains ≡ d ∷ drop 4 gains = left_split gains 3 d (omega arith) i3 in
    let s4 : drop 4 gains ≡ e ∷ drop 5 gains = left_split gains 4 e (omega arith) i4 in
    let s5 : drop 5 gains ≡ f ∷ drop 6 gains = left_split gains 5 f (omega arith) i5 in
    let s6 : drop 6 gains ≡ g ∷ drop 7 gains = left_split gains 6 g (omega arith) i6 in
    let none : drop 7 gains ≡ [] = drop_all 7 gains (omega arith) in
    cc
