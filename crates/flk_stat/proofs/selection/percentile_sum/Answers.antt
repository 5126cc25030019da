use Rattle.std.proofs.Common.{rules, arith, ◌≡◌, ℕ, Bool, true, List, length, map, ℤ, pos, FitsSigned}
use Rattle.std.specs.Bool.{◌==◌}
use Rattle.std.specs.Int.{w128}
use Rattle.std.proofs.lemmas.Bool.Decides.{nat_tests}
use Rattle.std.proofs.lemmas.Int.{to_z-of_z}
use Rattle.flk_stat.specs.Ranked.{together, IsRankedSum, IsSumOfPercentiles}
use Rattle.flk_stat.proofs.SelectionLemmas.{narrow_sum, sum_unsorted}
use Rattle.flk_stat.proofs.selection.percentile_sum.Goals as goal

empty : (n : ℕ) (b : Bool) → b ≡ (n == 0) → b ≡ true → n ≡ 0
empty n b is held = grind (arith, nat_tests)

pub returns-then-narrow-clause-sum : goal.returns-then-narrow-clause-sum
returns-then-narrow-clause-sum c =
    let narrow : List ℕ = c.args.narrow.now in
    let wide : List ℤ = c.args.wide.now in
    let few : List ℕ = c.thinned-few.result.1.now in
    let z : ℤ = c.selected_sum.result in
    let fits : FitsSigned w128 z = search rules in
    let none = empty (length wide) c.is_empty.result c.is_empty.ensures c.if-is_empty.true in
    let sum : IsRankedSum c.thinned-few.result.0 (map pos few) z = search rules in
    rw (to_z-of_z w128 z fits) (narrow_sum narrow wide z none (c.thinned-few.ensures.sum z sum))

pub returns-clause-sum : goal.returns-clause-sum
returns-clause-sum c =
    let all : List ℤ = together c.args.narrow.now c.args.wide.now in
    let sorted : List ℤ = together c.sort.new.narrow c.sort.new.wide in
    let z : ℤ = c.rising_sum.result in
    let fits : FitsSigned w128 z = search rules in
    let sum : IsSumOfPercentiles sorted z = search rules in
    rw (to_z-of_z w128 z fits) (sum_unsorted all sorted z c.sort.ensures.same sum)
