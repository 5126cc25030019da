-- The lines of a run, one after another.
use Rattle.std.proofs.Common.{◌≡◌, ℕ, ◌+◌, ◌<◌, List, [], ◌∷◌, ◌++◌, length, sym, ap, subst, ◌∙◌, arith, inl, inr, Result, length-append, get_or}
use Rattle.std.specs.Prelude.{slice_index_or}
use Rattle.std.specs.Result.{MatchResult, IsErrAnd}
use Rattle.std.proofs.lemmas.Result.{err_from_is_err_and}
use Rattle.std.proofs.lemmas.Bool.{cases_lt}
use Rattle.std.proofs.lemmas.List.{get_or_append_left}
use Rattle.std.proofs.Math.Seq.{get_or-append_seam}
use Rattle.flk_num.specs.declared.stop.Stop.{Stop}
use Rattle.flk_num.specs.declared.stop.Stop.TheVariants as stop
use Rattle.flk_field.specs.Sets.{Set, IsGoodLine, LineFault}
use Rattle.flk_cfg.specs.Rows.{IsAnalog, IsDigital}
use Rattle.flk_cfg.specs.Places.{HasLine, FaultAt}
use Rattle.flk_cfg.specs.File.{AreAnalogs, AreDigitals}
use Rattle.flk_cfg.specs.Reading.{StandsAt, FirstOf, Progress}
use Rattle.flk_cfg.specs.declared.reader.Reader.{Reader}
use Rattle.flk_field.specs.declared.kind.Fault.{Fault}
use Rattle.flk_cfg.specs.declared.config.Analog.{Analog}
use Rattle.flk_cfg.specs.declared.config.Digital.{Digital}

pub progress_start : (rows : ℕ → List Set) (bytes : List ℕ) (k : ℕ) (r : Reader) → StandsAt r bytes k → Progress rows bytes k 0 r
progress_start rows bytes k r s =
    let same : k ≡ k + 0 = omega arith in
    record { stands = subst (λ (n : ℕ). StandsAt r bytes n) same s; good = λ i lt. absurd (omega (arith, lt)) }

pub progress_step : (rows : ℕ → List Set) (bytes : List ℕ) (k i : ℕ) (r t : Reader) → Progress rows bytes k i r → ((b : List ℕ) (j : ℕ) → StandsAt r b j → StandsAt t b (j + 1))
    → HasLine bytes (k + i) (IsGoodLine (rows i)) → Progress rows bytes k (i + 1) t
progress_step rows bytes k i r t p step line =
    let same : k + i + 1 ≡ k + (i + 1) = omega arith in
    record {
      stands = subst (λ (n : ℕ). StandsAt t bytes n) same (step bytes (k + i) p.stands);
      good = λ j lt.
          elim (cases_lt j i) [
            | inl less ↦ p.good j less
            | inr last ↦
                let e : i ≡ j = omega (arith, last, lt) in
                subst (λ (n : ℕ). HasLine bytes (k + n) (IsGoodLine (rows n))) e line
          ];
    }

pub progress_fault : (rows : ℕ → List Set) (count : ℕ) (bytes : List ℕ) (k i : ℕ) (r : Reader) (f : Fault) → i < count → Progress rows bytes k i r
    → (f.line ≡ k + i + 1) × FaultAt bytes (k + i) (LineFault (rows i)) f.field f.kind → FirstOf rows count bytes k f
progress_fault rows count bytes k i r f lt p out = record { i = i; within = lt; line = out.0; before = p.good; here = out.1 }

pub line_weaker : (bytes : List ℕ) (k : ℕ) (P Q : List (List ℕ) → Type 0) → HasLine bytes k P → ((parts : List (List ℕ)) → P parts → Q parts) → HasLine bytes k Q
line_weaker bytes k P Q h f = (h.0, h.1, f h.0 h.2)

-- ---- the channels

pub analogs_more : (bytes : List ℕ) (k i : ℕ) (sofar : List Analog) (c : Analog) → length sofar ≡ i → AreAnalogs bytes k sofar → HasLine bytes (k + i) (λ parts. IsAnalog (i + 1) parts c)
    → AreAnalogs bytes k (sofar ++ c ∷ [])
analogs_more bytes k i sofar c len old line = λ j d lt.
    elim (cases_lt j i) [
      | inl less ↦
          let x = old j d (omega (arith, less, len)) in
          let e : slice_index_or (sofar ++ c ∷ []) j d ≡ slice_index_or sofar j d = get_or_append_left sofar (c ∷ []) d j (omega (arith, less, len)) in
          (x.0, x.1, subst (IsAnalog (j + 1) x.0) (sym e) x.2)
      | inr last ↦
          let same : length sofar ≡ j = omega (arith, last, lt, len, length-append sofar (c ∷ [])) in
          let e : slice_index_or (sofar ++ c ∷ []) j d ≡ c = ap (λ (n : ℕ). get_or (sofar ++ c ∷ []) n d) (sym same) ∙ get_or-append_seam sofar c [] d in
          let here : HasLine bytes (k + j) (λ parts. IsAnalog (j + 1) parts c) = subst (λ (n : ℕ). HasLine bytes (k + n) (λ parts. IsAnalog (n + 1) parts c)) (sym len ∙ same) line in
          (here.0, here.1, subst (IsAnalog (j + 1) here.0) (sym e) here.2)
    ]

pub digitals_more : (bytes : List ℕ) (k i : ℕ) (sofar : List Digital) (c : Digital) → length sofar ≡ i → AreDigitals bytes k sofar → HasLine bytes (k + i) (λ parts. IsDigital (i + 1) parts c)
    → AreDigitals bytes k (sofar ++ c ∷ [])
digitals_more bytes k i sofar c len old line = λ j d lt.
    elim (cases_lt j i) [
      | inl less ↦
          let x = old j d (omega (arith, less, len)) in
          let e : slice_index_or (sofar ++ c ∷ []) j d ≡ slice_index_or sofar j d = get_or_append_left sofar (c ∷ []) d j (omega (arith, less, len)) in
          (x.0, x.1, subst (IsDigital (j + 1) x.0) (sym e) x.2)
      | inr last ↦
          let same : length sofar ≡ j = omega (arith, last, lt, len, length-append sofar (c ∷ [])) in
          let e : slice_index_or (sofar ++ c ∷ []) j d ≡ c = ap (λ (n : ℕ). get_or (sofar ++ c ∷ []) n d) (sym same) ∙ get_or-append_seam sofar c [] d in
          let here : HasLine bytes (k + j) (λ parts. IsDigital (j + 1) parts c) = subst (λ (n : ℕ). HasLine bytes (k + n) (λ parts. IsDigital (n + 1) parts c)) (sym len ∙ same) line in
          (here.0, here.1, subst (IsDigital (j + 1) here.0) (sym e) here.2)
    ]
