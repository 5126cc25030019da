-- The first fault of a certificate: there is at most one, and none where the certificate fits.
use Rattle.std.proofs.Common.{◌≡◌, ℕ, zero, suc, ◌<◌, ◌≤◌, List, length, refl, sym, ap, subst, ◌∙◌, arith, ⊎_elim, inl, inr, Result, Ok, Err, IsErrOf, ◌↔◌}
use Rattle.std.proofs.lemmas.Bool.{cases_lt}
use Rattle.flk_exact.proofs.WholeLemmas.{neither_less}
use Rattle.flk_cert.specs.declared.certificate.CertRow.{CertRow}
use Rattle.flk_cert.specs.declared.coefs.Coefs.{Coefs}
use Rattle.flk_cert.specs.declared.fault.Cause.{Cause}
use Rattle.flk_cert.specs.declared.fault.Cause.TheVariants.{Shape, Contraction, Identity, Input, Rounding}
use Rattle.flk_cert.specs.declared.fault.CertFault.{CertFault}
use Rattle.flk_cert.specs.Cause.{cause_number}
use Rattle.flk_cert.specs.Certificate.{HasIdentity, CoversInput, Meets, FitsSection, pass, IsEarlier, IsFirstUnmet}
use Rattle.flk_cert.specs.Judged.{IsJudged, AllAreMet, IsFirstOnRow}

pub fits_has_no_fault : (k : Coefs) (rows : List CertRow) (cause : Cause) (i : ℕ) → FitsSection k rows → IsFirstUnmet k rows cause i → ⊥
fits_has_no_fault k rows cause i fits f = f.fails (fits cause i)

-- of two that fail none is earlier
not_earlier : (k : Coefs) (rows : List CertRow) (c d : Cause) (i j : ℕ) → IsFirstUnmet k rows c i → IsFirstUnmet k rows d j → IsEarlier c i d j → ⊥
not_earlier k rows c d i j f g e = f.fails (g.first c i e)

earlier_pass : (c d : Cause) (i j : ℕ) → pass c < pass d → IsEarlier c i d j
earlier_pass c d i j h = record { is = inl h }

earlier_row : (c d : Cause) (i j : ℕ) → pass c ≡ pass d → i < j → IsEarlier c i d j
earlier_row c d i j p h = record { is = inr (p, inl h) }

earlier_number : (c d : Cause) (i j : ℕ) → pass c ≡ pass d → i ≡ j → cause_number c < cause_number d → IsEarlier c i d j
earlier_number c d i j p e h = record { is = inr (p, inr (e, h)) }

pub first_fault_unique : (k : Coefs) (rows : List CertRow) (c d : Cause) (i j : ℕ) → IsFirstUnmet k rows c i → IsFirstUnmet k rows d j → (i ≡ j) × (cause_number c ≡ cause_number d)
first_fault_unique k rows c d i j f g =
    let p : pass c ≡ pass d =
    neither_less (pass c) (pass d) (λ l. not_earlier k rows c d i j f g (earlier_pass c d i j l)) (λ l. not_earlier k rows d c j i g f (earlier_pass d c j i l)) in
    let e : i ≡ j =
    neither_less i j (λ l. not_earlier k rows c d i j f g (earlier_row c d i j p l)) (λ l. not_earlier k rows d c j i g f (earlier_row d c j i (sym p) l)) in (
      e,
      neither_less (cause_number c) (cause_number d)
          (λ l. not_earlier k rows c d i j f g (earlier_number c d i j p e l))
          (λ l. not_earlier k rows d c j i g f (earlier_number d c j i (sym p) (sym e) l)),
    )

-- ---- which fault is the first

-- a condition that is asked earlier in the same pass
strictly : (c d : Cause) (j i : ℕ) → pass d ≤ pass c → cause_number d ≤ cause_number c → IsEarlier c j d i → j < i
strictly c d j i p n e =
    ⊎_elim (λ (l : pass c < pass d). absurd (omega (arith, l, p))) (λ r. ⊎_elim (λ l. l) (λ q. absurd (omega (arith, q.1, n))) r.1) e.is

weakly : (c d : Cause) (j i : ℕ) → pass d ≤ pass c → IsEarlier c j d i → j ≤ i
weakly c d j i p e =
    ⊎_elim (λ (l : pass c < pass d). absurd (omega (arith, l, p))) (λ r. ⊎_elim (λ l. omega (arith, l)) (λ q. omega (arith, q.0)) r.1) e.is

-- row by row
until : (P : ℕ → Type 0) (i j : ℕ) → ((n : ℕ) → n < i → P n) → P i → j ≤ i → P j
until P i j before here le = ⊎_elim (λ l. before j l) (λ m. let e : i ≡ j = omega (arith, m, le) in subst P e here) (cases_lt j i)

before_identity : (k : Coefs) (rows : List CertRow) (i : ℕ) → IsJudged k rows → ((j : ℕ) → j < i → AllAreMet k rows j) → (other : Cause) (j : ℕ) → IsEarlier other j Identity i → Meets k rows other j
before_identity k rows i j0 before Shape j e = j0.shape j
before_identity k rows i j0 before Contraction j e = λ last. j0.contraction
before_identity k rows i j0 before Identity j e = λ w. (before j (strictly Identity Identity j i (omega arith) (omega arith) e)).identity
before_identity k rows i j0 before Input j e = λ w. (before j (strictly Input Identity j i (omega arith) (omega arith) e)).input
before_identity k rows i j0 before Rounding j e = λ w. (before j (strictly Rounding Identity j i (omega arith) (omega arith) e)).rounding

before_input : (k : Coefs) (rows : List CertRow) (i : ℕ) → IsJudged k rows → ((j : ℕ) → j < i → AllAreMet k rows j) → HasIdentity k rows i
    → (other : Cause) (j : ℕ) → IsEarlier other j Input i → Meets k rows other j
before_input k rows i j0 before id Shape j e = j0.shape j
before_input k rows i j0 before id Contraction j e = λ last. j0.contraction
before_input k rows i j0 before id Identity j e = λ w. until (HasIdentity k rows) i j (λ n l. (before n l).identity) id (weakly Identity Input j i (omega arith) e)
before_input k rows i j0 before id Input j e = λ w. (before j (strictly Input Input j i (omega arith) (omega arith) e)).input
before_input k rows i j0 before id Rounding j e = λ w. (before j (strictly Rounding Input j i (omega arith) (omega arith) e)).rounding

before_rounding : (k : Coefs) (rows : List CertRow) (i : ℕ) → IsJudged k rows → ((j : ℕ) → j < i → AllAreMet k rows j) → HasIdentity k rows i → CoversInput k rows i
    → (other : Cause) (j : ℕ) → IsEarlier other j Rounding i → Meets k rows other j
before_rounding k rows i j0 before id inp Shape j e = j0.shape j
before_rounding k rows i j0 before id inp Contraction j e = λ last. j0.contraction
before_rounding k rows i j0 before id inp Identity j e = λ w. until (HasIdentity k rows) i j (λ n l. (before n l).identity) id (weakly Identity Rounding j i (omega arith) e)
before_rounding k rows i j0 before id inp Input j e = λ w. until (CoversInput k rows) i j (λ n l. (before n l).input) inp (weakly Input Rounding j i (omega arith) e)
before_rounding k rows i j0 before id inp Rounding j e = λ w. (before j (strictly Rounding Rounding j i (omega arith) (omega arith) e)).rounding

pub row_fault : (k : Coefs) (rows : List CertRow) (cause : Cause) (i : ℕ) → IsJudged k rows → i < length rows → ((j : ℕ) → j < i → AllAreMet k rows j) → IsFirstOnRow k rows cause i
    → IsFirstUnmet k rows cause i
row_fault k rows Shape i j0 within before f = absurd f
row_fault k rows Contraction i j0 within before f = absurd f
row_fault k rows Identity i j0 within before f = record { fails = λ m. f (m within); first = before_identity k rows i j0 before }
row_fault k rows Input i j0 within before f = record { fails = λ m. f.1 (m within); first = before_input k rows i j0 before f.0 }
row_fault k rows Rounding i j0 within before f = record { fails = λ m. f.2 (m within); first = before_rounding k rows i j0 before f.0 f.1 }

pub all_fit : (k : Coefs) (rows : List CertRow) → IsJudged k rows → ((j : ℕ) → j < length rows → AllAreMet k rows j) → FitsSection k rows
all_fit k rows j0 met Shape i = j0.shape i
all_fit k rows j0 met Contraction i = λ last. j0.contraction
all_fit k rows j0 met Identity i = λ w. (met i w).identity
all_fit k rows j0 met Input i = λ w. (met i w).input
all_fit k rows j0 met Rounding i = λ w. (met i w).rounding

-- ---- a cause is known by its number

abbrev cause_of : ℕ → Cause
cause_of zero = Rounding
cause_of (suc zero) = Shape
cause_of (suc (suc zero)) = Contraction
cause_of (suc (suc (suc zero))) = Identity
cause_of (suc (suc (suc (suc zero)))) = Input
cause_of (suc (suc (suc (suc (suc n))))) = Rounding

cause_of-number : (cause : Cause) → cause_of (cause_number cause) ≡ cause
cause_of-number Shape = refl
cause_of-number Contraction = refl
cause_of-number Identity = refl
cause_of-number Input = refl
cause_of-number Rounding = refl

pub same_cause : (c d : Cause) → cause_number c ≡ cause_number d → c ≡ d
same_cause c d e = sym (cause_of-number c) ∙ ap cause_of e ∙ cause_of-number d

-- ---- the answer of the checker

abbrev fault_in : {T : Type 0} → Result T CertFault → CertFault
fault_in (Ok t) = record { row = 0; kind = 0 }
fault_in (Err f) = f

abbrev refused : {T : Type 0} → ℕ → ℕ → Result T CertFault
refused row kind = Err (record { row = row; kind = kind })

-- an answer that names the first fault names no other
pub answer_is_first : {T : Type 0} (k : Coefs) (rows : List CertRow) (given : Cause) (place number : ℕ) → number ≡ cause_number given → IsFirstUnmet k rows given place
    → (cause : Cause) (row : ℕ) → IsErrOf {T = T} {E = CertFault} (Err (record { row = place; kind = number })) (record { row = row; kind = cause_number cause }) ↔ IsFirstUnmet k rows cause row
answer_is_first {T} k rows given place number e first cause row = (
  λ same.
      let fault = ap (λ (r : Result T CertFault). fault_in r) same in
      let kind : number ≡ cause_number cause = ap (λ (f : CertFault). f.kind) fault in
      let at_row : place ≡ row = ap (λ (f : CertFault). f.row) fault in
      let of_cause = subst (λ (d : Cause). IsFirstUnmet k rows d place) (same_cause given cause (sym e ∙ kind)) first in
      subst (λ (n : ℕ). IsFirstUnmet k rows cause n) at_row of_cause,
  λ other.
      let same = first_fault_unique k rows given cause place row first other in
      let kind : number ≡ cause_number cause = e ∙ same.1 in
      ap (λ (n : ℕ). refused {T = T} n number) same.0 ∙ ap (λ (n : ℕ). refused {T = T} row n) kind,
)
