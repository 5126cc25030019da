use Rattle.std.proofs.Common.{rules, arith, ℤ, pos, ◌≤ℤ◌, List, [], sym, subst}
use Rattle.std.specs.List.Sorted.{IsPermutation}
use Rattle.std.proofs.lemmas.List.Sorted.{IsPermutation-refl, IsPermutation-sym, All-permutation}
use Rattle.flk_num.specs.Interval.{lows, highs}
use Rattle.flk_stat.specs.Severity.{IsSeverityOfEnds}
use Rattle.flk_stat.specs.ListOfEnds.{ends_of}
use Rattle.flk_stat.proofs.EndLemmas.{natural_ends}
use Rattle.flk_stat.proofs.LevelLemmas.{severity_unsorted, severity_between}
use Rattle.flk_stat.proofs.SeverityWidth.{severity_narrow}
use Rattle.flk_stat.proofs.levels.Levels.end.Goals as goal

pub returns-clause-added : goal.returns-clause-added
returns-clause-added c = λ n ls added.
    let e = c.severities_of-severities.ensures in
    record {
      size = added.size;
      count = omega (arith, added.size);
      lows = subst (λ (zs : List ℤ). IsPermutation [] zs) (sym e.lows_empty) (IsPermutation-refl []);
      highs = subst (λ (zs : List ℤ). IsPermutation [] zs) (sym e.highs_empty) (IsPermutation-refl []);
    }

pub returns-clause-severity : goal.returns-clause-severity
returns-clause-severity c = λ n ls added.
    let s = c.args.self.now in
    let lo : ℤ = c.severities_of-severities.result.lo in
    let hi : ℤ = c.severities_of-severities.result.hi in
    let low : IsSeverityOfEnds (ends_of s.lows) lo = search rules in
    let high : IsSeverityOfEnds (ends_of s.highs) hi = search rules in
    (severity_unsorted (lows ls) (ends_of s.lows) lo added.lows low, severity_unsorted (highs ls) (ends_of s.highs) hi added.highs high)

pub returns-clause-holds : goal.returns-clause-holds
returns-clause-holds c = λ n ls ps w added held severity.
    let s = c.args.self.now in
    let lo : ℤ = c.severities_of-severities.result.lo in
    let hi : ℤ = c.severities_of-severities.result.hi in
    let low : IsSeverityOfEnds (ends_of s.lows) lo = search rules in
    let high : IsSeverityOfEnds (ends_of s.highs) hi = search rules in
    severity_between ls ps lo hi w held (severity_unsorted (lows ls) (ends_of s.lows) lo added.lows low) (severity_unsorted (highs ls) (ends_of s.highs) hi added.highs high) severity

pub returns-clause-narrow : goal.returns-clause-narrow
returns-clause-narrow c = λ n ls rw added least spread.
    let s = c.args.self.now in
    let lo : ℤ = c.severities_of-severities.result.lo in
    let hi : ℤ = c.severities_of-severities.result.hi in
    let low : IsSeverityOfEnds (ends_of s.lows) lo = search rules in
    let high : IsSeverityOfEnds (ends_of s.highs) hi = search rules in
    let natural =
    All-permutation (λ z. pos 0 ≤ℤ z) (ends_of s.lows) (lows ls) (IsPermutation-sym (lows ls) (ends_of s.lows) added.lows)
    (natural_ends s.lows.narrow.items s.lows.wide.items s.lows.wide_ends) in
    severity_narrow ls rw lo hi least natural spread
    (severity_unsorted (lows ls) (ends_of s.lows) lo added.lows low) (severity_unsorted (highs ls) (ends_of s.highs) hi added.highs high)
