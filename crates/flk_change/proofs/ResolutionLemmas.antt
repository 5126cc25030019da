-- Resolutions: flags have one, flags without doubt have no other, and one window may be taken otherwise where its flag allows it.
use Rattle.std.proofs.Common.{◌≡◌, inl, inr, ℕ, zero, suc, ◌+◌, ◌<◌, ◌≤◌, Bool, true, false, cond, List, [], ◌∷◌, length, set, get_or, refl, sym, ap, subst, ◌∙◌, arith, add-one, length-set, get_or-set_same, get_or-set_other}
use Rattle.std.proofs.lemmas.Bool.{false≢true, cases_eq}
use Rattle.std.proofs.lemmas.List.{get_or_default}
use Rattle.std.proofs.lemmas.List.Sums.{sum_by-cons}
use Rattle.flk_exact.proofs.ListLemmas.{AllZip-length, AllZip-get_or, AllZip-from_get_or, AllZip-exists}
use Rattle.flk_change.specs.declared.flag.Flag.{Flag}
use Rattle.flk_change.specs.declared.flag.Flag.TheVariants.{Early, Sure, Not, Doubtful}
use Rattle.flk_change.specs.Resolutions.{Resolves, AreResolved, is_doubtful, doubtful_count}
use Rattle.flk_change.specs.Pass.{MayResolve}

choice_exists : (f : Flag) → (b : Bool) × Resolves f b
choice_exists Early = (false, refl)
choice_exists Sure = (true, refl)
choice_exists Not = (false, refl)
choice_exists Doubtful = (true, tt)

pub resolution_exists : (flags : List Flag) → (bs : List Bool) × AreResolved flags bs
resolution_exists flags = AllZip-exists Resolves choice_exists flags

same_choice : (f : Flag) (b c : Bool) → is_doubtful f ≡ false → Resolves f b → Resolves f c → b ≡ c
same_choice Early b c certain h k = h ∙ sym k
same_choice Sure b c certain h k = h ∙ sym k
same_choice Not b c certain h k = h ∙ sym k
same_choice Doubtful b c certain h k = absurd (false≢true (sym certain))

no_doubt : (f : Flag) → cond {A = ℕ} (is_doubtful f) 1 0 ≡ 0 → is_doubtful f ≡ false
no_doubt Early e = refl
no_doubt Sure e = refl
no_doubt Not e = refl
no_doubt Doubtful e = absurd (omega (arith, e))

certain_head : (f : Flag) (fs : List Flag) → doubtful_count (f ∷ fs) ≡ 0 → (is_doubtful f ≡ false) × (doubtful_count fs ≡ 0)
certain_head f fs none =
    let count = sum_by-cons (λ g. cond {A = ℕ} (is_doubtful g) 1 0) f fs in
    (no_doubt f (omega (arith, none, count)), omega (arith, none, count))

-- without Doubtful flags there is one resolution
pub one_resolution : (flags : List Flag) (bs cs : List Bool) → doubtful_count flags ≡ 0 → AreResolved flags bs → AreResolved flags cs → bs ≡ cs
one_resolution [] [] [] none h k = refl
one_resolution [] (b ∷ bs) cs none h k = absurd h
one_resolution [] [] (c ∷ cs) none h k = absurd k
one_resolution (f ∷ fs) [] cs none h k = absurd h
one_resolution (f ∷ fs) (b ∷ bs) [] none h k = absurd k
one_resolution (f ∷ fs) (b ∷ bs) (c ∷ cs) none h k =
    let certain = certain_head f fs none in
    ap (λ (d : Bool). d ∷ bs) (same_choice f b c certain.0 h.0 k.0) ∙ ap (λ (ds : List Bool). c ∷ ds) (one_resolution fs bs cs certain.1 h.1 k.1)

-- ---- the choice at one window

-- what the flag allows
pub choice_at : (flags : List Flag) (bs : List Bool) (n : ℕ) → n < length flags → AreResolved flags bs → Resolves (get_or flags n Early) (get_or bs n false)
choice_at flags bs n there h = AllZip-get_or Resolves flags bs n Early false h there

-- another choice at window n
pub changed : (flags : List Flag) (bs : List Bool) (n : ℕ) (b : Bool) → MayResolve flags n b → AreResolved flags bs → AreResolved flags (set bs n b)
changed flags bs n b may h =
    let long = AllZip-length Resolves flags bs h in
    AllZip-from_get_or Resolves flags (set bs n b) (long ∙ sym (length-set bs n b))
    (λ i d e there. elim (cases_eq i n) [
      | inl here ↦ (
          let flag : get_or flags n Early ≡ get_or flags i d = ap (λ (k : ℕ). get_or flags k Early) (sym here) ∙ get_or_default flags i Early d there in
          let bit : b ≡ get_or (set bs n b) i e = sym (ap (λ (k : ℕ). get_or (set bs n b) k e) here ∙ get_or-set_same bs n b e (omega (arith, may.0, long))) in
          subst (λ (c : Bool). Resolves (get_or flags i d) c) bit (subst (λ (f : Flag). Resolves f b) flag may.1))
      | inr other ↦ subst (Resolves (get_or flags i d)) (sym (get_or-set_other bs n i b e other)) (AllZip-get_or Resolves flags bs i d e h there)
    ])

pub new_choice : (bs : List Bool) (n : ℕ) (b : Bool) → n < length bs → get_or (false ∷ set bs n b) (n + 1) false ≡ b
new_choice bs n b there = rw add-one (get_or-set_same bs n b false there)

pub old_choices : (bs : List Bool) (n i : ℕ) (b : Bool) → i ≤ n → get_or (false ∷ set bs n b) i false ≡ get_or (false ∷ bs) i false
old_choices bs n zero b low = refl
old_choices bs n (suc i) b low = get_or-set_other bs n i b false (λ e. omega (arith, low, e))
