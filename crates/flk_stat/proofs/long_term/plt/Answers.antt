use Rattle.std.proofs.Common.{rules, arith, ◌≡◌, ℤ, pos, ◌+ℤ◌, ◌*ℤ◌, List, ap, sym, ◌∙◌, ◌+◌, ◌≤◌, ◌≤ℤ◌, get_or, to_z, FitsSigned}
use Rattle.std.specs.Int.{w128}
use Rattle.std.specs.List.{fold}
use Rattle.std.proofs.lemmas.Int.{ints, to_z-of_z}
use Rattle.std.proofs.lemmas.List.{take_all}
use Rattle.std.proofs.lemmas.List.Sums.{fold_more}
use Rattle.flk_exact.specs.Rounding.{IsCeil, IsCubeRootCeil}
use Rattle.flk_stat.specs.LongTerm.{sum_of_cubes}
use Rattle.flk_stat.proofs.LongTermLemmas.{long_term_is, long_term_high, cubes_folded, sum_from_zero}
use Rattle.flk_stat.proofs.long_term.plt.Goals as goal

pub returns-clause-severity : goal.returns-clause-severity
returns-clause-severity c =
    let values : List ℤ = c.args.values.now in
    let sum : ℤ = to_z w128 c.loop-v.sum-bits in
    let w : ℤ = c.cube_root_ceil.result in
    let fits : FitsSigned w128 w = search rules in
    let whole = take_all c.loop-v.v-index values c.loop-v-test.false in
    let is : sum ≡ sum_of_cubes values =
    sum_from_zero sum (sum_of_cubes values) (c.loop-v.invariant.sum ∙ ap (λ (xs : List ℤ). fold (λ (s v : ℤ). s +ℤ v *ℤ v *ℤ v) (pos 0) xs) whole ∙ cubes_folded (pos 0) values) in
    let ceil : IsCeil sum (pos 12) c.ceil_div.result = search rules in
    let root : IsCubeRootCeil c.ceil_div.result w = search rules in
    rw (to_z-of_z w128 w fits) (long_term_is values sum c.ceil_div.result w is ceil root)

pub returns-clause-high : goal.returns-clause-high
returns-clause-high c =
    let values : List ℤ = c.args.values.now in
    let sum : ℤ = to_z w128 c.loop-v.sum-bits in
    let w : ℤ = c.cube_root_ceil.result in
    let fits : FitsSigned w128 w = search rules in
    let whole = take_all c.loop-v.v-index values c.loop-v-test.false in
    let is : sum ≡ sum_of_cubes values =
    sum_from_zero sum (sum_of_cubes values) (c.loop-v.invariant.sum ∙ ap (λ (xs : List ℤ). fold (λ (s v : ℤ). s +ℤ v *ℤ v *ℤ v) (pos 0) xs) whole ∙ cubes_folded (pos 0) values) in
    let ceil : IsCeil sum (pos 12) c.ceil_div.result = search rules in
    let root : IsCubeRootCeil c.ceil_div.result w = search rules in
    let few : c.loop-v.v-index ≤ 12 = search rules in
    let high : sum ≤ℤ pos 12000000000000000000000000000000000000 = omega (arith, ints, c.loop-v.invariant.high, few) in
    rw (to_z-of_z w128 w fits) (long_term_high values sum w is high (long_term_is values sum c.ceil_div.result w is ceil root))

pub loop-v-preserved : goal.loop-v-preserved
loop-v-preserved c =
    let values : List ℤ = c.args.values.now in
    let i = c.loop-v.v-index in
    let z : ℤ = get_or values i (pos 0) in
    let sum : ℤ = to_z w128 c.loop-v.sum-bits in
    let cube : ℤ = c.cube-sum.result in
    let value : cube ≡ z *ℤ z *ℤ z = search rules in
    let low : pos 0 ≤ℤ cube = search rules in
    let high : cube ≤ℤ pos 1000000000000000000000000000000000000 = search rules in
    let fits : FitsSigned w128 cube = omega (arith, ints, low, high) in
    let inv = c.loop-v.invariant in
    let few : i + 1 ≤ 12 = omega (arith, c.requires.count, c.loop-v-test.true) in
    let next : FitsSigned w128 (sum +ℤ cube) = omega (arith, ints, inv.low, inv.high, low, high, few) in
    let more = fold_more (λ (s v : ℤ). s +ℤ v *ℤ v *ℤ v) (pos 0) values i (pos 0) c.loop-v-test.true in
    rw (to_z-of_z w128 cube fits, to_z-of_z w128 (sum +ℤ cube) next) (record {
      sum = ap (λ (t : ℤ). sum +ℤ t) value ∙ ap (λ (t : ℤ). t +ℤ z *ℤ z *ℤ z) inv.sum ∙ sym more;
      low = omega (arith, ints, inv.low, low);
      high = omega (arith, ints, inv.high, high);
    })
