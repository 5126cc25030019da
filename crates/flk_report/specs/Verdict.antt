-- What an interval says of every quantity that it holds, against a limit, and what all judged lines of a report say of
-- every exact run.
use Rattle.std.specs.Prelude.{List, [], ◌∷◌, map, if◌then◌else◌, codes, ℕ, ℤ, ◌<ℤ◌, ◌≤ℤ◌, int_lt, int_le}
use Rattle.std.specs.List.{All, Contains, flat_map}
use Rattle.flk_num.specs.declared.interval.Interval.{Interval}
use Rattle.flk_job.specs.declared.job.Job.{Job}
use Rattle.flk_result.specs.declared.result.PhaseResult.{PhaseResult}
use Rattle.flk_result.specs.RunQuantities.{RunQuantities}
use Rattle.flk_report.specs.Limits.{JudgedLine, judged_lines, JudgedQuantity, judged_quantities}
use Rattle.flk_report.specs.declared.verdict.Verdict.{Verdict}
use Rattle.flk_report.specs.declared.verdict.Verdict.TheVariants.{Pass, Fail, Undecided}

-- Pass where the whole interval is at most the limit, Fail where it is wholly above, and else Undecided
abbrev pub verdict_of : Interval → ℤ → Verdict
verdict_of v limit = if int_le v.hi limit then Pass else (if int_lt limit v.lo then Fail else Undecided)

-- exactly when each verdict is given on an interval
abbrev pub IsVerdict : Verdict → Interval → (limit : ℤ) → Type 0
IsVerdict Pass v limit = v.hi ≤ℤ limit
IsVerdict Fail v limit = limit <ℤ v.lo
IsVerdict Undecided v limit = (v.lo ≤ℤ limit) × (limit <ℤ v.hi)

-- what a verdict says of an exact quantity
abbrev pub IsVerdictOn : Verdict → (limit z : ℤ) → Type 0
IsVerdictOn Pass limit z = z ≤ℤ limit
IsVerdictOn Fail limit z = limit <ℤ z
IsVerdictOn Undecided limit z = Unit {0}

abbrev pub verdict_name : Verdict → List ℕ
verdict_name Pass = codes "pass"
verdict_name Fail = codes "fail"
verdict_name Undecided = codes "undecided"

-- one of the items has the property
pub record HasOne {A : Type 0} (P : A → Type 0) (xs : List A) : Type 0 where
  pub item : A
  pub among : Contains xs item
  pub holds : P item

-- ---- all lines together

abbrev pub line_verdict : JudgedLine → Verdict
line_verdict l = verdict_of l.interval l.limit

-- Fail where either is, else Undecided where either is, else Pass
abbrev pub worse : Verdict → Verdict → Verdict
worse Fail v = Fail
worse Undecided Fail = Fail
worse Undecided v = Undecided
worse Pass v = v

abbrev pub worst : List Verdict → Verdict
worst [] = Pass
worst (v ∷ vs) = worse v (worst vs)

-- the judged lines of all channels
abbrev pub all_judged_lines : Job → List PhaseResult → List JudgedLine
all_judged_lines j rs = flat_map (judged_lines j) rs

-- the verdict on all of them
abbrev pub overall_of : Job → List PhaseResult → Verdict
overall_of j rs = worst (map line_verdict (all_judged_lines j rs))

-- each of the lines passes
abbrev pub AllLinesPass : List JudgedLine → Type 0
AllLinesPass lines = All (λ (l : JudgedLine). IsVerdict Pass l.interval l.limit) lines

-- one of the lines has this verdict
abbrev pub SomeLineIs : Verdict → List JudgedLine → Type 0
SomeLineIs verdict lines = HasOne (λ (l : JudgedLine). IsVerdict verdict l.interval l.limit) lines

-- Exactly when each overall verdict is given: where all lines pass; where one fails; and where none fails and one is
-- undecided.
abbrev pub IsOverall : Verdict → List JudgedLine → Type 0
IsOverall Pass lines = AllLinesPass lines
IsOverall Fail lines = SomeLineIs Fail lines
IsOverall Undecided lines = (¬ SomeLineIs Fail lines) × SomeLineIs Undecided lines

-- ---- the verdict on an exact run of all selected channels

-- the judged quantities of all channels
abbrev pub all_judged_quantities : Job → List RunQuantities → List JudgedQuantity
all_judged_quantities j qs = flat_map (judged_quantities j) qs

-- each of its quantities is at most its limit
abbrev pub RunPasses : Job → List RunQuantities → Type 0
RunPasses j qs = All (λ (z : JudgedQuantity). z.value ≤ℤ z.limit) (all_judged_quantities j qs)

-- one of its quantities is above its limit
abbrev pub RunFails : Job → List RunQuantities → Type 0
RunFails j qs = HasOne (λ (z : JudgedQuantity). z.limit <ℤ z.value) (all_judged_quantities j qs)

-- what the overall verdict says of an exact run
abbrev pub IsOverallVerdictOn : Verdict → Job → List RunQuantities → Type 0
IsOverallVerdictOn Pass j qs = RunPasses j qs
IsOverallVerdictOn Fail j qs = RunFails j qs
IsOverallVerdictOn Undecided j qs = Unit {0}
