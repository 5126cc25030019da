-- What the verdicts on a result's lines say of quantities that the result holds.
use Rattle.std.proofs.Common.{◌≡◌, ℕ, zero, suc, ◌<◌, List, [], ◌∷◌, ◌++◌, length, map, take, Option, Some, None, arith, ⊎_elim, ℤ, pos, ◌<ℤ◌, ◌≤ℤ◌}
use Rattle.std.specs.Prelude.{slice_index_or}
use Rattle.std.specs.List.{All, AllZip}
use Rattle.std.proofs.lemmas.Int.{ints}
use Rattle.std.proofs.lemmas.List.Elements.{All-nil, All-cons, All-head, All-tail, All-append}
use Rattle.flk_exact.specs.Rounding.{IsBetween}
use Rattle.flk_num.specs.declared.interval.Interval.{Interval}
use Rattle.flk_job.specs.declared.job.Job.{Job}
use Rattle.flk_result.specs.declared.result.PhaseResult.{PhaseResult}
use Rattle.flk_result.specs.PhaseResult.{zero_interval, AreHeld, LongTermIsHeld}
use Rattle.flk_result.specs.RunQuantities.{RunQuantities}
use Rattle.flk_report.specs.Limits.{JudgedLine, JudgedQuantity, judged_by, quantity_by, dc_limit, dmax_limit, tmax_limit, pst_limit, plt_limit, judged_long_term, long_term_quantities, judged_lines, judged_quantities}
use Rattle.flk_report.specs.Verdict.{IsVerdict, HasOne, IsOverall, all_judged_lines, all_judged_quantities, overall_of, IsOverallVerdictOn}
use Rattle.flk_report.specs.declared.verdict.Verdict.{Verdict}
use Rattle.flk_report.specs.declared.verdict.Verdict.TheVariants.{Pass, Fail, Undecided}
use Rattle.flk_report.proofs.OneLemmas.{one_here, one_later, none_of_none, one_either, one_left, one_right, one_side, all_left, all_right}
use Rattle.flk_report.proofs.VerdictLemmas.{overall_is}

abbrev LinePasses : JudgedLine → Type 0
LinePasses l = IsVerdict Pass l.interval l.limit

abbrev LineFails : JudgedLine → Type 0
LineFails l = IsVerdict Fail l.interval l.limit

abbrev IsWithin : JudgedQuantity → Type 0
IsWithin z = z.value ≤ℤ z.limit

abbrev IsAbove : JudgedQuantity → Type 0
IsAbove z = z.limit <ℤ z.value

-- where all lines pass all quantities do, and where one fails one does
record Speak (lines : List JudgedLine) (zs : List JudgedQuantity) : Type 0 where
  pass : All LinePasses lines → All IsWithin zs
  fail : HasOne LineFails lines → HasOne IsAbove zs

speak_nil : Speak [] []
speak_nil = record { pass = λ h. All-nil IsWithin; fail = λ h. absurd (none_of_none LineFails h) }

speak_cons : (v : Interval) (limit z : ℤ) (lines : List JudgedLine) (zs : List JudgedQuantity) → IsBetween v.lo v.hi z → Speak lines zs → Speak (judged_by limit v ∷ lines) (quantity_by limit z ∷ zs)
speak_cons v limit z lines zs held rest =
    let below = held.below in
    let above = held.above in
    record {
      pass = λ h.
          let first : v.hi ≤ℤ limit = All-head LinePasses (judged_by limit v) lines h in
          All-cons IsWithin (quantity_by limit z) zs (omega (arith, ints, below, first)) (rest.pass (All-tail LinePasses (judged_by limit v) lines h));
      fail = λ h.
          ⊎_elim (λ here. let first : limit <ℤ v.lo = here in one_here IsAbove (quantity_by limit z) zs (omega (arith, ints, above, first)))
          (λ later. one_later IsAbove (quantity_by limit z) zs (rest.fail later))
          (one_either LineFails (judged_by limit v) lines h);
    }

-- a further quantity that is within its limit
speak_more : (limit z : ℤ) (lines : List JudgedLine) (zs : List JudgedQuantity) → z ≤ℤ limit → Speak lines zs → Speak lines (quantity_by limit z ∷ zs)
speak_more limit z lines zs within rest = record {
  pass = λ h. All-cons IsWithin (quantity_by limit z) zs within (rest.pass h);
  fail = λ h. one_later IsAbove (quantity_by limit z) zs (rest.fail h);
}

speak_append : (lines more : List JudgedLine) (zs ys : List JudgedQuantity) → Speak lines zs → Speak more ys → Speak (lines ++ more) (zs ++ ys)
speak_append lines more zs ys front back = record {
  pass = λ h. All-append IsWithin zs ys (front.pass (all_left LinePasses lines more h)) (back.pass (all_right LinePasses lines more h));
  fail = λ h. ⊎_elim (λ one. one_left IsAbove zs ys (front.fail one)) (λ one. one_right IsAbove zs ys (back.fail one)) (one_side LineFails lines more h);
}

-- severities beside no intervals, each of which is 0
speak_none : (zs : List ℤ) → ((i : ℕ) → i < length zs → IsBetween (pos 0) (pos 0) (slice_index_or zs i (pos 0))) → Speak [] (map (quantity_by pst_limit) zs)
speak_none [] held = speak_nil
speak_none (z ∷ zs) held =
    let first = (held 0 (omega arith)).below in
    speak_more pst_limit z [] (map (quantity_by pst_limit) zs) (omega (arith, ints, first)) (speak_none zs (λ i low. held (suc i) (omega (arith, low))))

-- the severities of so many intervals; beyond those that the result has stand intervals of 0
speak_severities : (count : ℕ) (vs : List Interval) (zs : List ℤ) → length zs ≡ count
    → ((i : ℕ) → i < count → IsBetween (slice_index_or vs i zero_interval).lo (slice_index_or vs i zero_interval).hi (slice_index_or zs i (pos 0)))
    → Speak (map (judged_by pst_limit) (take count vs)) (map (quantity_by pst_limit) zs)
speak_severities zero vs [] same held = speak_nil
speak_severities zero vs (z ∷ zs) same held = absurd (omega arith)
speak_severities (suc n) vs [] same held = absurd (omega arith)
speak_severities (suc n) [] (z ∷ zs) same held = speak_none (z ∷ zs) (λ i low. held i (omega (arith, low, same)))
speak_severities (suc n) (v ∷ vs) (z ∷ zs) same held =
    speak_cons v pst_limit z (map (judged_by pst_limit) (take n vs)) (map (quantity_by pst_limit) zs) (held 0 (omega arith))
    (speak_severities n vs zs (omega (arith, same)) (λ i low. held (suc i) (omega (arith, low))))

speak_long_term : (plt : Option Interval) (w : Option ℤ) → LongTermIsHeld plt w → Speak (judged_long_term plt) (long_term_quantities w)
speak_long_term None None held = speak_nil
speak_long_term None (Some w) held = absurd held
speak_long_term (Some v) None held = absurd held
speak_long_term (Some v) (Some w) held = speak_cons v plt_limit w [] [] held speak_nil

speak_channel : (j : Job) (r : PhaseResult) (q : RunQuantities) → AreHeld r q → Speak (judged_lines j r) (judged_quantities j q)
speak_channel j r q held =
    let last = speak_long_term r.plt q.long_term held.long_term in
    let severities = speak_severities r.count r.pst q.severities held.count held.severities in
    let lines = map (judged_by pst_limit) (take r.count r.pst) ++ judged_long_term r.plt in
    let zs = map (quantity_by pst_limit) q.severities ++ long_term_quantities q.long_term in
    let rest : Speak lines zs
    = speak_append (map (judged_by pst_limit) (take r.count r.pst)) (judged_long_term r.plt) (map (quantity_by pst_limit) q.severities) (long_term_quantities q.long_term) severities last in
    let t = speak_cons r.changes.t (tmax_limit j.lamp) q.tmax lines zs held.tmax rest in
    let dmax = speak_cons r.changes.dmax (dmax_limit j) q.dmax _ _ held.dmax t in
    speak_cons r.changes.dc dc_limit q.dc _ _ held.dc dmax

speak_all : (j : Job) (rs : List PhaseResult) (qs : List RunQuantities) → AllZip AreHeld rs qs → Speak (all_judged_lines j rs) (all_judged_quantities j qs)
speak_all j [] [] held = speak_nil
speak_all j [] (q ∷ qs) held = absurd held
speak_all j (r ∷ rs) [] held = absurd held
speak_all j (r ∷ rs) (q ∷ qs) held =
    speak_append (judged_lines j r) (all_judged_lines j rs) (judged_quantities j q) (all_judged_quantities j qs) (speak_channel j r q held.0) (speak_all j rs qs held.1)

says : (verdict : Verdict) (j : Job) (rs : List PhaseResult) (qs : List RunQuantities) → IsOverall verdict (all_judged_lines j rs) → Speak (all_judged_lines j rs) (all_judged_quantities j qs)
    → IsOverallVerdictOn verdict j qs
says Pass j rs qs is speak = speak.pass is
says Fail j rs qs is speak = speak.fail is
says Undecided j rs qs is speak = tt

-- the overall verdict is that of each run whose quantities the results hold
pub every_run : (j : Job) (rs : List PhaseResult) (qs : List RunQuantities) → AllZip AreHeld rs qs → IsOverallVerdictOn (overall_of j rs) j qs
every_run j rs qs held = says (overall_of j rs) j rs qs (overall_is (all_judged_lines j rs)) (speak_all j rs qs held)
