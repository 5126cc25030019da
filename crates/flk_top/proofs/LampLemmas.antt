-- A lamp is certified at a rate, or there is one reason why it isn't; and what is told of it follows from its sections' coefficients.
use Rattle.std.proofs.Common.{◌≡◌, ◌⊎◌, ℕ, zero, suc, ◌+◌, ◌<◌, List, [], ◌∷◌, ◌++◌, length, take, get_or, map, refl, sym, ap, subst, ◌∙◌, arith, pos, ◌^◌, ◌<ℤ◌, ℤ, inl, inr}
use Rattle.std.specs.List.{All, AllZip}
use Rattle.std.proofs.lemmas.List.{take_more}
use Rattle.std.proofs.lemmas.List.Elements.{All-nil, All-cons, All-head, All-tail}
use Rattle.flk_exact.proofs.ListLemmas.{AllZip-push, AllZip-joined}
use Rattle.flk_num.specs.Rate.{sampling_interval}
use Rattle.flk_num.specs.declared.lamp.Lamp.{Lamp}
use Rattle.flk_num.specs.declared.rate.Rate.{Rate}
use Rattle.flk_cert.specs.declared.coefs.Coefs.{Coefs}
use Rattle.flk_cert.specs.declared.certificate.CertRow.{CertRow}
use Rattle.flk_cert.specs.declared.gain.Gain.{Gain}
use Rattle.flk_cert.specs.Bound.{StartsAtRest}
use Rattle.flk_cert.specs.Certificate.{FitsSection}
use Rattle.flk_cert.specs.Gain.{input_of, GainNumbers, gain_numbers, IsGainOf}
use Rattle.flk_cert.proofs.MakeLemmas.{IsMade-unique}
use Rattle.flk_cert.proofs.GainLemmas.{gain_numbers_unique}
use Rattle.flk_cert.proofs.MadeCases.{made_exists}
use Rattle.flk_cert.proofs.FitCases.{fit_cases, gain_exists}
use Rattle.flk_design.specs.Lamp.{constants_of}
use Rattle.flk_design.proofs.DesignCases.{design_exists}
use Rattle.flk_design.proofs.DesignLemmas.{design_unique}
use Rattle.flk_section.specs.Points.{greatest_point}
use Rattle.flk_section.specs.Radius.{radius_by, radius_after, radii, FirstStartsAtRest}
use Rattle.flk_section.specs.Chain.{HasChainBound}
use Rattle.flk_top.specs.Certified.{IsCertifiedSection, IsRefused, IsFirstRefused, gains_in, IsBounded, IsCertifiedLamp, FailsAt, IsRefusedLamp}
use Rattle.flk_top.specs.declared.certified.CertifiedSection.{CertifiedSection}
use Rattle.flk_top.specs.declared.certified.LampFault.{LampFault}
use Rattle.flk_top.specs.declared.certified.LampFault.TheVariants.{Section, Cascade}
use Rattle.flk_top.proofs.BoundCases.{bounded_cases}

-- ---- one section

-- a section whose certificate is accepted is not refused: one certificate is made for it
not_refused : (k : Coefs) (s : CertifiedSection) → IsCertifiedSection k s → ¬ IsRefused k
not_refused k s h other =
    let P : List CertRow → Type 0 = λ rows. FitsSection k rows in
    other.fails (subst P (IsMade-unique k h.certificate.rows other.rows h.certificate.made other.made) h.fits)

-- one gain's numbers and one count of rows
pub record AreAlike (s t : CertifiedSection) : Type 0 where
  pub numbers : gain_numbers s.gain ≡ gain_numbers t.gain
  pub rows : s.rows ≡ t.rows

accepted_alike : (k : Coefs) (s t : CertifiedSection) → IsCertifiedSection k s → IsCertifiedSection k t → AreAlike s t
accepted_alike k s t h j =
    let a = h.certificate in
    let b = j.certificate in
    let same = IsMade-unique k a.rows b.rows a.made b.made in
    record {
      numbers = gain_numbers_unique k b.rows s.gain t.gain (subst (λ (rs : List CertRow). IsGainOf k rs s.gain) same a.gain) b.gain;
      rows = h.count ∙ ap (λ (rs : List CertRow). length rs) same ∙ sym j.count;
    }

-- ---- the sections of a lamp

all_alike : (ks : List Coefs) (ss ts : List CertifiedSection) → AllZip IsCertifiedSection ks ss → AllZip IsCertifiedSection ks ts → AllZip AreAlike ss ts
all_alike ks ss ts h j = AllZip-joined IsCertifiedSection IsCertifiedSection AreAlike accepted_alike ks ss ts h j

pub numbers_alike : (ss ts : List CertifiedSection) → AllZip AreAlike ss ts → map gain_numbers (gains_in ss) ≡ map gain_numbers (gains_in ts)
numbers_alike [] [] h = refl
numbers_alike [] (t ∷ ts) h = absurd h
numbers_alike (s ∷ ss) [] h = absurd h
numbers_alike (s ∷ ss) (t ∷ ts) h =
    ap (λ (n : GainNumbers). n ∷ map gain_numbers (gains_in ss)) h.0.numbers ∙ ap (λ (ns : List GainNumbers). gain_numbers t.gain ∷ ns) (numbers_alike ss ts h.1)

abbrev HasSmallInput : Gain → Type 0
HasSmallInput g = input_of g <ℤ pos (2 ^ 36)

inputs_alike : (ss ts : List CertifiedSection) → AllZip AreAlike ss ts → All HasSmallInput (gains_in ss) → All HasSmallInput (gains_in ts)
inputs_alike [] [] h small = All-nil HasSmallInput
inputs_alike [] (t ∷ ts) h small = absurd h
inputs_alike (s ∷ ss) [] h small = absurd h
inputs_alike (s ∷ ss) (t ∷ ts) h small =
    All-cons HasSmallInput t.gain (gains_in ts)
    (subst (λ (z : ℤ). z <ℤ pos (2 ^ 36)) (ap (λ (n : GainNumbers). n.input) h.0.numbers) (All-head HasSmallInput s.gain (gains_in ss) small))
    (inputs_alike ss ts h.1 (All-tail HasSmallInput s.gain (gains_in ss) small))

start_alike : (ss ts : List CertifiedSection) → AllZip AreAlike ss ts → FirstStartsAtRest (gains_in ss) → FirstStartsAtRest (gains_in ts)
start_alike [] [] h start = tt
start_alike [] (t ∷ ts) h start = absurd h
start_alike (s ∷ ss) [] h start = absurd h
start_alike (s ∷ ss) (t ∷ ts) h start = subst (λ (k : Coefs). StartsAtRest k) (ap (λ (n : GainNumbers). n.coefs) h.0.numbers) start

radii_alike : (ss ts : List CertifiedSection) (r : ℤ) → AllZip AreAlike ss ts → radii (gains_in ss) r ≡ radii (gains_in ts) r
radii_alike [] [] r h = refl
radii_alike [] (t ∷ ts) r h = absurd h
radii_alike (s ∷ ss) [] r h = absurd h
radii_alike (s ∷ ss) (t ∷ ts) r h =
    let one : radius_after s.gain r ≡ radius_after t.gain r = ap (λ (n : GainNumbers). radius_by n.input n.rounding r) h.0.numbers in
    ap (λ (z : ℤ). z ∷ radii (gains_in ss) z) one ∙ ap (λ (rs : List ℤ). radius_after t.gain r ∷ rs) (radii_alike ss ts (radius_after t.gain r) h.1)

bounded_alike : (ss ts : List CertifiedSection) → AllZip AreAlike ss ts → IsBounded (gains_in ss) → IsBounded (gains_in ts)
bounded_alike ss ts h b = record {
  fits = record {
    inputs = inputs_alike ss ts h b.fits.inputs;
    start = start_alike ss ts h b.fits.start;
    radii = subst (λ (rs : List ℤ). All (λ r. r <ℤ pos (2 ^ 60)) rs) (radii_alike ss ts (pos greatest_point) h) b.fits.radii;
  };
  bound = subst (λ (ns : List GainNumbers). HasChainBound ns) (numbers_alike ss ts h) b.bound;
}

-- the sections that are accepted, one after the other
pub accepted_more : (ks : List Coefs) (i : ℕ) (k : Coefs) (ss : List CertifiedSection) (s : CertifiedSection) (new : List CertifiedSection)
    → i < length ks → k ≡ get_or ks i k → AllZip IsCertifiedSection (take i ks) ss → IsCertifiedSection k s → new ≡ ss ++ s ∷ [] → AllZip IsCertifiedSection (take (i + 1) ks) new
accepted_more ks i k ss s new there is all one pushed =
    let step : take (i + 1) ks ≡ take i ks ++ k ∷ [] = take_more ks i k there ∙ ap (λ (x : Coefs). take i ks ++ x ∷ []) (sym is) in
    rw (step, pushed) (AllZip-push IsCertifiedSection (take i ks) ss k s all one)

-- ---- one reason

-- where those before it are accepted, a section that is refused is the first
pub first_refused : (ks : List Coefs) (i : ℕ) (k : Coefs) (ss : List CertifiedSection) → i < length ks → k ≡ get_or ks i k
    → AllZip IsCertifiedSection (take i ks) ss → IsRefused k → IsFirstRefused ks i
first_refused [] i k ss there is h fails = absurd (omega (arith, there))
first_refused (j ∷ ks) zero k ss there is h fails = subst (λ (x : Coefs). IsRefused x) is fails
first_refused (j ∷ ks) (suc i) k [] there is h fails = absurd h
first_refused (j ∷ ks) (suc i) k (s ∷ ss) there is h fails = (not_refused j s h.0, first_refused ks i k ss (omega (arith, there)) is h.1 fails)

refused_unique : (ks : List Coefs) (i j : ℕ) → IsFirstRefused ks i → IsFirstRefused ks j → i ≡ j
refused_unique [] i j h g = absurd h
refused_unique (k ∷ ks) zero zero h g = refl
refused_unique (k ∷ ks) zero (suc j) h g = absurd (g.0 h)
refused_unique (k ∷ ks) (suc i) zero h g = absurd (h.0 g)
refused_unique (k ∷ ks) (suc i) (suc j) h g = ap suc (refused_unique ks i j h.1 g.1)

never_refused : (ks : List Coefs) (ss : List CertifiedSection) (i : ℕ) → AllZip IsCertifiedSection ks ss → IsFirstRefused ks i → ⊥
never_refused [] ss i h g = g
never_refused (k ∷ ks) [] i h g = absurd h
never_refused (k ∷ ks) (s ∷ ss) zero h g = not_refused k s h.0 g
never_refused (k ∷ ks) (s ∷ ss) (suc i) h g = never_refused ks ss i h.1 g.1

one_reason : (ks : List Coefs) (f g : LampFault) → FailsAt ks f → FailsAt ks g → f ≡ g
one_reason ks (Section m) (Section n) h j = ap Section (h.1 ∙ ap (λ i. i + 1) (refused_unique ks h.0 j.0 h.2 j.2) ∙ sym j.1)
one_reason ks (Section m) Cascade h j = absurd (never_refused ks j.0 h.0 j.1 h.2)
one_reason ks Cascade (Section n) h j = absurd (never_refused ks h.0 j.0 h.1 j.2)
one_reason ks Cascade Cascade h j = refl

-- sections that are accepted and bounded have none
no_reason : (ks : List Coefs) (ss : List CertifiedSection) (f : LampFault) → AllZip IsCertifiedSection ks ss → IsBounded (gains_in ss) → FailsAt ks f → ⊥
no_reason ks ss (Section n) h bounded g = never_refused ks ss g.0 h g.2
no_reason ks ss Cascade h bounded g = g.2 (bounded_alike ss g.0 (all_alike ks ss g.0 h g.1) bounded)

-- ---- one lamp

pub lamp_alike : (lamp : Lamp) (rate : Rate) (ss ts : List CertifiedSection) → IsCertifiedLamp lamp rate ss → IsCertifiedLamp lamp rate ts → AllZip AreAlike ss ts
lamp_alike lamp rate ss ts h j =
    let same = design_unique (sampling_interval rate) (constants_of lamp) h.sections j.sections h.design j.design in
    all_alike j.sections ss ts (subst (λ (ks : List Coefs). AllZip IsCertifiedSection ks ss) same h.accepted) j.accepted

pub lamp_has_one_reason : (lamp : Lamp) (rate : Rate) (f g : LampFault) → IsRefusedLamp lamp rate f → IsRefusedLamp lamp rate g → f ≡ g
lamp_has_one_reason lamp rate f g h j =
    let same = design_unique (sampling_interval rate) (constants_of lamp) h.sections j.sections h.design j.design in
    one_reason j.sections f g (subst (λ (ks : List Coefs). FailsAt ks f) same h.fails) j.fails

pub certified_is_not_refused : (lamp : Lamp) (rate : Rate) (ss : List CertifiedSection) (f : LampFault) → IsCertifiedLamp lamp rate ss → IsRefusedLamp lamp rate f → ⊥
certified_is_not_refused lamp rate ss f h j =
    let same = design_unique (sampling_interval rate) (constants_of lamp) j.sections h.sections j.design h.design in
    no_reason h.sections ss f h.accepted h.bounded (subst (λ (ks : List Coefs). FailsAt ks f) same j.fails)

-- ---- some answer

section_cases : (k : Coefs) → ((s : CertifiedSection) × IsCertifiedSection k s) ⊎ IsRefused k
section_cases k =
    let made = made_exists k in
    elim (fit_cases k made.0) [
      | inr fails ↦ inr (record { rows = made.0; made = made.1; fails = fails })
      | inl fits ↦
          let gain = gain_exists k made.0 fits in
          inl (
            record { gain = gain.0; rows = length made.0 },
            record { certificate = record { rows = made.0; made = made.1; gain = gain.1 }; fits = fits; count = refl },
          )
    ]

sections_cases : (ks : List Coefs) → ((ss : List CertifiedSection) × AllZip IsCertifiedSection ks ss) ⊎ ((i : ℕ) × IsFirstRefused ks i)
sections_cases [] = inl ([], tt)
sections_cases (k ∷ ks) =
    elim (section_cases k) [
      | inr fails ↦ inr (0, fails)
      | inl one ↦ elim (sections_cases ks) [
        | inl rest ↦ inl (one.0 ∷ rest.0, (one.1, rest.1))
        | inr later ↦ inr (suc later.0, (not_refused k one.0 one.1, later.1))
      ]
    ]

pub certified_cases : (lamp : Lamp) (rate : Rate)
    → ((ss : List CertifiedSection) × IsCertifiedLamp lamp rate ss) ⊎ ((fault : LampFault) × IsRefusedLamp lamp rate fault)
certified_cases lamp rate =
    let design = design_exists lamp rate in
    elim (sections_cases design.0) [
      | inr first ↦ inr (Section (first.0 + 1), record { sections = design.0; design = design.1; fails = (first.0, refl, first.1) })
      | inl all ↦ elim (bounded_cases (gains_in all.0)) [
        | inl bounded ↦ inl (all.0, record { sections = design.0; design = design.1; accepted = all.1; bounded = bounded })
        | inr never ↦ inr (Cascade, record { sections = design.0; design = design.1; fails = (all.0, all.1, never) })
      ]
    ]
