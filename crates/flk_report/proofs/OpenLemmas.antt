-- The lower and the upper ends of a result are quantities that it holds.
use Rattle.std.proofs.Common.{◌≡◌, ℕ, zero, suc, ◌<◌, ◌≤◌, List, [], ◌∷◌, ◌++◌, length, map, take, Option, Some, None, refl, sym, ap, ◌∙◌, subst, arith, ⊎_elim, ℤ, pos, ◌<ℤ◌, ◌≤ℤ◌}
use Rattle.std.specs.Prelude.{slice_index_or}
use Rattle.std.specs.List.{All, AllZip}
use Rattle.std.proofs.lemmas.Int.{ints}
use Rattle.std.proofs.lemmas.List.{map-append, length-map, length-take-le}
use Rattle.std.proofs.lemmas.List.Elements.{All-nil, All-cons, All-head, All-tail, All-map}
use Rattle.flk_exact.specs.Rounding.{IsBetween}
use Rattle.flk_num.specs.declared.interval.Interval.{Interval}
use Rattle.flk_job.specs.declared.job.Job.{Job}
use Rattle.flk_result.specs.declared.result.PhaseResult.{PhaseResult}
use Rattle.flk_result.specs.PhaseResult.{zero_interval, IsProper, AreHeld, LongTermIsHeld}
use Rattle.flk_result.specs.RunQuantities.{RunQuantities}
use Rattle.flk_report.specs.Limits.{JudgedLine, JudgedQuantity, judged_by, quantity_by, pst_limit, judged_changes, judged_long_term, long_term_quantities, judged_lines, judged_quantities}
use Rattle.flk_report.specs.Verdict.{verdict_of, IsVerdict, HasOne, SomeLineIs, IsOverall, all_judged_lines, all_judged_quantities, overall_of, RunPasses, RunFails}
use Rattle.flk_report.specs.declared.verdict.Verdict.{Verdict}
use Rattle.flk_report.specs.declared.verdict.Verdict.TheVariants.{Pass, Fail, Undecided}
use Rattle.flk_report.proofs.OneLemmas.{one_here, one_later, none_of_none, one_either}
use Rattle.flk_report.proofs.VerdictLemmas.{verdict_is, overall_is}

-- a choice of one quantity in each interval
record IsChoice (end : Interval → ℤ) : Type 0 where
  inside : (v : Interval) → IsBetween v.lo v.hi (end v)

abbrev low_end : Interval → ℤ
low_end v = v.lo

abbrev high_end : Interval → ℤ
high_end v = v.hi

low_is : IsChoice low_end
low_is = record { inside = λ v. let o = v.ordered in record { above = omega (arith, ints); below = o } }

high_is : IsChoice high_end
high_is = record { inside = λ v. let o = v.ordered in record { above = o; below = omega (arith, ints) } }

-- ---- the chosen quantities of a result

abbrev chosen_long_term : (Interval → ℤ) → Option Interval → Option ℤ
chosen_long_term end None = None
chosen_long_term end (Some v) = Some (end v)

abbrev chosen : (Interval → ℤ) → PhaseResult → RunQuantities
chosen end r = record {
  dc = end r.changes.dc;
  dmax = end r.changes.dmax;
  tmax = end r.changes.t;
  severities = map end (take r.count r.pst);
  long_term = chosen_long_term end r.plt;
}

chosen_between : (end : Interval → ℤ) → IsChoice end → (n : ℕ) (vs : List Interval) (i : ℕ) → i < n → n ≤ length vs
    → IsBetween (slice_index_or vs i zero_interval).lo (slice_index_or vs i zero_interval).hi (slice_index_or (map end (take n vs)) i (pos 0))
chosen_between end choice zero vs i low few = absurd (omega arith)
chosen_between end choice (suc n) [] i low few = absurd (omega arith)
chosen_between end choice (suc n) (v ∷ vs) zero low few = choice.inside v
chosen_between end choice (suc n) (v ∷ vs) (suc i) low few = chosen_between end choice n vs i (omega (arith, low)) (omega (arith, few))

long_term_held : (end : Interval → ℤ) → IsChoice end → (plt : Option Interval) → LongTermIsHeld plt (chosen_long_term end plt)
long_term_held end choice None = tt
long_term_held end choice (Some v) = choice.inside v

chosen_held : (end : Interval → ℤ) → IsChoice end → (r : PhaseResult) → r.count ≤ 12 → AreHeld r (chosen end r)
chosen_held end choice r few =
    let within : r.count ≤ length r.pst = let twelve = r.twelve in omega (arith, twelve, few) in
    record {
      dc = choice.inside r.changes.dc;
      dmax = choice.inside r.changes.dmax;
      tmax = choice.inside r.changes.t;
      count = length-map (take r.count r.pst) end ∙ length-take-le r.count r.pst within;
      severities = λ i low. chosen_between end choice r.count r.pst i low within;
      long_term = long_term_held end choice r.plt;
    }

all_held : (end : Interval → ℤ) → IsChoice end → (rs : List PhaseResult) → All IsProper rs → AllZip AreHeld rs (map (chosen end) rs)
all_held end choice [] proper = tt
all_held end choice (r ∷ rs) proper =
    (chosen_held end choice r (All-head IsProper r rs proper).few, all_held end choice rs (All-tail IsProper r rs proper))

-- ---- they stand at the result's lines

abbrev on_line : (Interval → ℤ) → JudgedLine → JudgedQuantity
on_line end l = quantity_by l.limit (end l.interval)

on_severities : (end : Interval → ℤ) (vs : List Interval) → map (quantity_by pst_limit) (map end vs) ≡ map (on_line end) (map (judged_by pst_limit) vs)
on_severities end [] = refl
on_severities end (v ∷ vs) = ap (λ x. quantity_by pst_limit (end v) ∷ x) (on_severities end vs)

on_long_term : (end : Interval → ℤ) (plt : Option Interval) → long_term_quantities (chosen_long_term end plt) ≡ map (on_line end) (judged_long_term plt)
on_long_term end None = refl
on_long_term end (Some v) = refl

on_channel : (end : Interval → ℤ) (j : Job) (r : PhaseResult) → judged_quantities j (chosen end r) ≡ map (on_line end) (judged_lines j r)
on_channel end j r =
    let f = on_line end in
    let severities = map (judged_by pst_limit) (take r.count r.pst) in
    let changes = judged_changes j r.changes in
    let rest = ap (λ x. x ++ long_term_quantities (chosen_long_term end r.plt)) (on_severities end (take r.count r.pst)) ∙ ap (λ x. map f severities ++ x) (on_long_term end r.plt)
    ∙ sym (map-append f severities (judged_long_term r.plt)) in
    ap (λ x. map f changes ++ x) rest ∙ sym (map-append f changes (severities ++ judged_long_term r.plt))

on_all : (end : Interval → ℤ) (j : Job) (rs : List PhaseResult) → all_judged_quantities j (map (chosen end) rs) ≡ map (on_line end) (all_judged_lines j rs)
on_all end j [] = refl
on_all end j (r ∷ rs) =
    let f = on_line end in
    ap (λ x. x ++ all_judged_quantities j (map (chosen end) rs)) (on_channel end j r) ∙ ap (λ x. map f (judged_lines j r) ++ x) (on_all end j rs) ∙ sym (map-append f (judged_lines j r) (all_judged_lines j rs))

-- ---- what they say

not_above : (a : Verdict) (l : JudgedLine) → IsVerdict a l.interval l.limit → (IsVerdict Fail l.interval l.limit → ⊥) → l.interval.lo ≤ℤ l.limit
not_above Pass l is other = let o = l.interval.ordered in omega (arith, ints, o, is)
not_above Fail l is other = absurd (other is)
not_above Undecided l is other = is.0

lows_pass : (lines : List JudgedLine) → (SomeLineIs Fail lines → ⊥) → All (λ (l : JudgedLine). l.interval.lo ≤ℤ l.limit) lines
lows_pass [] none = All-nil (λ (l : JudgedLine). l.interval.lo ≤ℤ l.limit)
lows_pass (l ∷ lines) none =
    let P : JudgedLine → Type 0 = λ l. IsVerdict Fail l.interval l.limit in
    All-cons (λ (l : JudgedLine). l.interval.lo ≤ℤ l.limit) l lines
    (not_above (verdict_of l.interval l.limit) l (verdict_is l.interval l.limit) (λ fails. none (one_here P l lines fails)))
    (lows_pass lines (λ one. none (one_later P l lines one)))

high_fails : (lines : List JudgedLine) → SomeLineIs Undecided lines → HasOne (λ (z : JudgedQuantity). z.limit <ℤ z.value) (map (on_line high_end) lines)
high_fails [] one = absurd (none_of_none (λ (l : JudgedLine). IsVerdict Undecided l.interval l.limit) one)
high_fails (l ∷ lines) one =
    let P : JudgedQuantity → Type 0 = λ z. z.limit <ℤ z.value in
    ⊎_elim (λ here. one_here P (on_line high_end l) (map (on_line high_end) lines) here.1)
    (λ later. one_later P (on_line high_end l) (map (on_line high_end) lines) (high_fails lines later))
    (one_either (λ (l : JudgedLine). IsVerdict Undecided l.interval l.limit) l lines one)

undecided_is : (j : Job) (rs : List PhaseResult) → overall_of j rs ≡ Undecided → IsOverall Undecided (all_judged_lines j rs)
undecided_is j rs is =
    let P : Verdict → Type 0 = λ v. IsOverall v (all_judged_lines j rs) in
    subst P is (overall_is (all_judged_lines j rs))

pub some_pass : (j : Job) (rs : List PhaseResult) → All IsProper rs → overall_of j rs ≡ Undecided → (qs : List RunQuantities) × AllZip AreHeld rs qs × RunPasses j qs
some_pass j rs proper is =
    let P : List JudgedQuantity → Type 0 = λ zs. All (λ (z : JudgedQuantity). z.value ≤ℤ z.limit) zs in
    let pass = All-map (λ (z : JudgedQuantity). z.value ≤ℤ z.limit) (on_line low_end) (all_judged_lines j rs) (lows_pass (all_judged_lines j rs) (undecided_is j rs is).0) in
    (map (chosen low_end) rs, all_held low_end low_is rs proper, subst P (sym (on_all low_end j rs)) pass)

pub some_fail : (j : Job) (rs : List PhaseResult) → All IsProper rs → overall_of j rs ≡ Undecided → (qs : List RunQuantities) × AllZip AreHeld rs qs × RunFails j qs
some_fail j rs proper is =
    let P : List JudgedQuantity → Type 0 = λ zs. HasOne (λ (z : JudgedQuantity). z.limit <ℤ z.value) zs in
    (map (chosen high_end) rs, all_held high_end high_is rs proper, subst P (sym (on_all high_end j rs)) (high_fails (all_judged_lines j rs) (undecided_is j rs is).1))
