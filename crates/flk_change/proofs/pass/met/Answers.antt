use Rattle.std.proofs.Common.{refl, ap, ◌∙◌, ◌+◌, ◌≤◌, ℤ, pos, List, length, take_all, arith, subst}
use Rattle.flk_exact.specs.Rounding.{floor_of}
use Rattle.flk_change.specs.declared.pass.Pass.{Pass}
use Rattle.flk_change.specs.Pass.{AreHulls, HasNext, closed_number}
use Rattle.flk_change.proofs.SumLemmas.{sums_small}
use Rattle.flk_change.proofs.PassesLemmas.{Among, hulls_one, hulls_more, pass_at, passed_next}
use Rattle.flk_change.proofs.pass.met.Goals as goal

pub level_of-level-requires-clause-low : goal.level_of-level-requires-clause-low
level_of-level-requires-clause-low c = (sums_small c.args.window (c.args.i + 1) c.args.halves.now c.args.sums c.requires.in_range c.requires.sums).low

pub level_of-level-requires-clause-ordered : goal.level_of-level-requires-clause-ordered
level_of-level-requires-clause-ordered c = (sums_small c.args.window (c.args.i + 1) c.args.halves.now c.args.sums c.requires.in_range c.requires.sums).ordered

pub level_of-level-requires-clause-high : goal.level_of-level-requires-clause-high
level_of-level-requires-clause-high c = (sums_small c.args.window (c.args.i + 1) c.args.halves.now c.args.sums c.requires.in_range c.requires.sums).high

pub loop-k-init : goal.loop-k-init
loop-k-init c =
    let window = c.args.window in
    let halves = c.args.halves.now in
    let passes = c.args.passes.now in
    let i = c.args.i in
    let p = c.index-passes-0.result in
    record {
      some = omega arith;
      hulls = λ flags may h. hulls_one window halves (HasNext flags i) (closed_number window (length halves) (i + 1)) passes p c.with_closed-outcome.result c.requires.any c.index-passes-0.is
          (c.with_closed-outcome.ensures flags may (pass_at window halves flags i passes 0 p h c.requires.any c.index-passes-0.is));
    }

pub loop-k-preserved : goal.loop-k-preserved
loop-k-preserved c =
    let window = c.args.window in
    let halves = c.args.halves.now in
    let passes = c.args.passes.now in
    let i = c.args.i in
    let k = c.loop-k.k in
    let p = c.index-passes-k.result in
    let there = c.loop-k-test.true in
    let e = c.joined-outcome.ensures in
    record {
      some = omega arith;
      hulls = λ flags may h. hulls_more window halves (HasNext flags i) (closed_number window (length halves) (i + 1)) passes k p c.loop-k.outcome c.with_closed.result c.joined-outcome.result there c.index-passes-k.is
          record { dc_low = e.dc_low; dc_high = e.dc_high; dmax_low = e.dmax_low; dmax_high = e.dmax_high; t_low = e.t_low; t_high = e.t_high }
          (c.loop-k.invariant.hulls flags may h)
          (c.with_closed.ensures flags may (pass_at window halves flags i passes k p h there c.index-passes-k.is));
    }

pub returns-clause-passed : goal.returns-clause-passed
returns-clause-passed c = λ flags may h.
    let window = c.args.window in
    let halves = c.args.halves.now in
    let passes = c.args.passes.now in
    let i = c.args.i in
    let all : length passes ≤ c.loop-k.k = omega (arith, c.loop-k-test.false) in
    passed_next window halves flags i passes _ h refl
    (c.level_of-level.ensures.low ∙ ap (λ (z : ℤ). floor_of z (pos window)) c.requires.sums.low)
    (c.level_of-level.ensures.high ∙ ap (λ (z : ℤ). floor_of z (pos window)) c.requires.sums.high)
    c.level_of-level.ensures.in_range
    (subst (λ (ps : List Pass). AreHulls window halves (Among (HasNext flags i) ps) (closed_number window (length halves) (i + 1)) c.loop-k.outcome) (take_all c.loop-k.k passes all) (c.loop-k.invariant.hulls flags may h))
