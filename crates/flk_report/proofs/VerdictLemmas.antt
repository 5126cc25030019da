-- Verdicts on one line and on all lines.
use Rattle.std.proofs.Common.{◌≡◌, Option, Some, ℕ, ◌+◌, ◌<◌, ◌≤◌, length, drop, get_or, List, [], ◌∷◌, ◌++◌, map, refl, sym, ap, ◌∙◌, subst, arith, ⊎_elim, ◌↔◌, ℤ}
use Rattle.std.proofs.lemmas.Int.{ints}
use Rattle.std.proofs.lemmas.List.{map-append, drop_more, drop_all}
use Rattle.std.proofs.lemmas.List.Elements.{All-nil, All-cons, All-head, All-tail}
use Rattle.flk_num.specs.declared.interval.Interval.{Interval}
use Rattle.flk_job.specs.declared.job.Job.{Job}
use Rattle.flk_result.specs.declared.result.PhaseResult.{PhaseResult}
use Rattle.flk_report.specs.Limits.{JudgedLine, plt_limit, judged_long_term, judged_lines}
use Rattle.flk_report.specs.Verdict.{verdict_of, IsVerdict, line_verdict, worse, worst, AllLinesPass, SomeLineIs, IsOverall, all_judged_lines, overall_of}
use Rattle.flk_report.specs.declared.verdict.Verdict.{Verdict}
use Rattle.flk_report.specs.declared.verdict.Verdict.TheVariants.{Pass, Fail, Undecided}
use Rattle.flk_report.proofs.OneLemmas.{one_here, one_later, none_of_none, one_either}

-- ---- the worse of two

pub worse_pass : (v : Verdict) → worse v Pass ≡ v
worse_pass Pass = refl
worse_pass Fail = refl
worse_pass Undecided = refl

pub worse_assoc : (u v w : Verdict) → worse (worse u v) w ≡ worse u (worse v w)
worse_assoc Pass v w = refl
worse_assoc Fail v w = refl
worse_assoc Undecided Pass w = refl
worse_assoc Undecided Fail w = refl
worse_assoc Undecided Undecided Pass = refl
worse_assoc Undecided Undecided Fail = refl
worse_assoc Undecided Undecided Undecided = refl

pub worst_append : (us vs : List Verdict) → worst (us ++ vs) ≡ worse (worst us) (worst vs)
worst_append [] vs = refl
worst_append (u ∷ us) vs = ap (worse u) (worst_append us vs) ∙ sym (worse_assoc u (worst us) (worst vs))

-- ---- one line

pub verdict_is : (v : Interval) (limit : ℤ) → IsVerdict (verdict_of v limit) v limit
verdict_is v limit = grind (arith, ints)

pub verdict_unique : (a b : Verdict) (v : Interval) (limit : ℤ) → IsVerdict a v limit → IsVerdict b v limit → a ≡ b
verdict_unique Pass Pass v limit h g = refl
verdict_unique Pass Fail v limit h g = let o = v.ordered in absurd (omega (arith, ints, h, g, o))
verdict_unique Pass Undecided v limit h g = absurd (omega (arith, ints, h, g.1))
verdict_unique Fail Pass v limit h g = let o = v.ordered in absurd (omega (arith, ints, h, g, o))
verdict_unique Fail Fail v limit h g = refl
verdict_unique Fail Undecided v limit h g = absurd (omega (arith, ints, h, g.0))
verdict_unique Undecided Pass v limit h g = absurd (omega (arith, ints, h.1, g))
verdict_unique Undecided Fail v limit h g = absurd (omega (arith, ints, h.0, g))
verdict_unique Undecided Undecided v limit h g = refl

-- ---- all lines

-- where all lines pass, none has another verdict
none_other : (b : Verdict) (lines : List JudgedLine) → (Pass ≡ b → ⊥) → AllLinesPass lines → SomeLineIs b lines → ⊥
none_other b [] other all one = none_of_none (λ l. IsVerdict b l.interval l.limit) one
none_other b (l ∷ lines) other all one =
    let P : JudgedLine → Type 0 = λ l. IsVerdict b l.interval l.limit in
    let Q : JudgedLine → Type 0 = λ l. IsVerdict Pass l.interval l.limit in
    ⊎_elim (λ here. other (verdict_unique Pass b l.interval l.limit (All-head Q l lines all) here)) (λ later. none_other b lines other (All-tail Q l lines all) later) (one_either P l lines one)

-- where the first doesn't fail and none of the others does, none does
none_fails : (a : Verdict) (l : JudgedLine) (lines : List JudgedLine) → (a ≡ Fail → ⊥) → IsVerdict a l.interval l.limit → (SomeLineIs Fail lines → ⊥) → SomeLineIs Fail (l ∷ lines) → ⊥
none_fails a l lines other is rest one =
    let P : JudgedLine → Type 0 = λ l. IsVerdict Fail l.interval l.limit in
    ⊎_elim (λ here. other (verdict_unique a Fail l.interval l.limit is here)) rest (one_either P l lines one)

overall_step : (a b : Verdict) (l : JudgedLine) (lines : List JudgedLine) → IsVerdict a l.interval l.limit → IsOverall b lines → IsOverall (worse a b) (l ∷ lines)
overall_step Pass Pass l lines here rest = All-cons (λ (l : JudgedLine). IsVerdict Pass l.interval l.limit) l lines here rest
overall_step Pass Fail l lines here rest = one_later (λ (l : JudgedLine). IsVerdict Fail l.interval l.limit) l lines rest
overall_step Pass Undecided l lines here rest =
    (none_fails Pass l lines (λ e. cc e) here rest.0, one_later (λ (l : JudgedLine). IsVerdict Undecided l.interval l.limit) l lines rest.1)
overall_step Fail b l lines here rest = one_here (λ (l : JudgedLine). IsVerdict Fail l.interval l.limit) l lines here
overall_step Undecided Pass l lines here rest =
    (none_fails Undecided l lines (λ e. cc e) here (none_other Fail lines (λ e. cc e) rest), one_here (λ (l : JudgedLine). IsVerdict Undecided l.interval l.limit) l lines here)
overall_step Undecided Fail l lines here rest = one_later (λ (l : JudgedLine). IsVerdict Fail l.interval l.limit) l lines rest
overall_step Undecided Undecided l lines here rest =
    (none_fails Undecided l lines (λ e. cc e) here rest.0, one_here (λ (l : JudgedLine). IsVerdict Undecided l.interval l.limit) l lines here)

pub overall_is : (lines : List JudgedLine) → IsOverall (worst (map line_verdict lines)) lines
overall_is [] = All-nil (λ (l : JudgedLine). IsVerdict Pass l.interval l.limit)
overall_is (l ∷ lines) = overall_step (line_verdict l) (worst (map line_verdict lines)) l lines (verdict_is l.interval l.limit) (overall_is lines)

pub overall_unique : (a b : Verdict) (lines : List JudgedLine) → IsOverall a lines → IsOverall b lines → a ≡ b
overall_unique Pass Pass lines h g = refl
overall_unique Pass Fail lines h g = absurd (none_other Fail lines (λ e. cc e) h g)
overall_unique Pass Undecided lines h g = absurd (none_other Undecided lines (λ e. cc e) h g.1)
overall_unique Fail Pass lines h g = absurd (none_other Fail lines (λ e. cc e) g h)
overall_unique Fail Fail lines h g = refl
overall_unique Fail Undecided lines h g = absurd (g.0 h)
overall_unique Undecided Pass lines h g = absurd (none_other Undecided lines (λ e. cc e) g h.1)
overall_unique Undecided Fail lines h g = absurd (h.0 g)
overall_unique Undecided Undecided lines h g = refl

-- the verdict is given exactly then
pub overall_exactly : (a v : Verdict) (lines : List JudgedLine) → v ≡ worst (map line_verdict lines) → (v ≡ a) ↔ IsOverall a lines
overall_exactly a v lines is =
    let P : Verdict → Type 0 = λ w. IsOverall w lines in
    let here : IsOverall v lines = subst P (sym is) (overall_is lines) in
    (λ e. subst P e here, λ h. overall_unique v a lines here h)

-- ---- in parts

pub worst_lines : (lines more : List JudgedLine) → worst (map line_verdict (lines ++ more)) ≡ worse (worst (map line_verdict lines)) (worst (map line_verdict more))
worst_lines lines more = ap worst (map-append line_verdict lines more) ∙ worst_append (map line_verdict lines) (map line_verdict more)

-- the verdict on three parts, of which the first two are joined first
pub worst_of_three : (lines more last : List JudgedLine) (a b d : Verdict) → a ≡ worst (map line_verdict lines) → b ≡ worst (map line_verdict more) → d ≡ worst (map line_verdict last)
    → worse (worse a b) d ≡ worst (map line_verdict (lines ++ (more ++ last)))
worst_of_three lines more last a b d p q r =
    let inner = worst_lines more last in
    worse_assoc a b d ∙ ap (λ v. worse v (worse b d)) p ∙ ap (λ v. worse (worst (map line_verdict lines)) (worse v d)) q
    ∙ ap (λ v. worse (worst (map line_verdict lines)) (worse (worst (map line_verdict more)) v)) r
    ∙ ap (λ v. worse (worst (map line_verdict lines)) v) (sym inner) ∙ sym (worst_lines lines (more ++ last))

pub of_long_term : (plt : Option Interval) (v : Interval) (d : Verdict) → plt ≡ Some v → d ≡ verdict_of v plt_limit → d ≡ worst (map line_verdict (judged_long_term plt))
of_long_term plt v d there is = is ∙ sym (worse_pass (verdict_of v plt_limit)) ∙ sym (ap (λ o. worst (map line_verdict (judged_long_term o))) there)

-- ---- channel by channel

pub overall_more : (j : Job) (rs : List PhaseResult) (i : ℕ) (r : PhaseResult) (before here now : Verdict) → i < length rs → r ≡ get_or rs i r → here ≡ worst (map line_verdict (judged_lines j r))
    → now ≡ worse before here → worse before (overall_of j (drop i rs)) ≡ overall_of j rs → worse now (overall_of j (drop (i + 1) rs)) ≡ overall_of j rs
overall_more j rs i r before here now there is here_is now_is old =
    let rest = overall_of j (drop (i + 1) rs) in
    let step : drop i rs ≡ r ∷ drop (i + 1) rs = drop_more rs i r there ∙ ap (λ x. x ∷ drop (i + 1) rs) (sym is) in
    let first : overall_of j (drop i rs) ≡ worse here rest
    = ap (overall_of j) step ∙ worst_lines (judged_lines j r) (all_judged_lines j (drop (i + 1) rs)) ∙ ap (λ v. worse v rest) (sym here_is) in
    ap (λ v. worse v rest) now_is ∙ worse_assoc before here rest ∙ ap (worse before) (sym first) ∙ old

pub overall_all : (j : Job) (rs : List PhaseResult) (i : ℕ) (v : Verdict) → length rs ≤ i → worse v (overall_of j (drop i rs)) ≡ overall_of j rs → v ≡ overall_of j rs
overall_all j rs i v end old =
    let none : overall_of j (drop i rs) ≡ Pass = ap (overall_of j) (drop_all i rs end) in
    sym (worse_pass v) ∙ ap (worse v) (sym none) ∙ old
