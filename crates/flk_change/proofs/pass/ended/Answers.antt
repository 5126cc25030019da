use Rattle.std.proofs.Common.{◌≤◌, List, length, take_all, arith, subst}
use Rattle.flk_change.specs.declared.pass.Pass.{Pass}
use Rattle.flk_change.specs.Resolutions.{AreResolved}
use Rattle.flk_change.specs.Pass.{AreHulls, HasLast, all_number}
use Rattle.flk_change.proofs.PassesLemmas.{Among, hulls_same, hulls_one, hulls_more, pass_at}
use Rattle.flk_change.proofs.pass.ended.Goals as goal

pub loop-k-init : goal.loop-k-init
loop-k-init c =
    let halves = c.args.halves.now in
    let n = length halves in
    let passes = c.args.passes.now in
    let p = c.index-passes-0.result in
    record {
      some = omega arith;
      hulls = λ window flags h. hulls_one window halves (HasLast flags n) (all_number window n) passes p c.with_open-outcome.result c.requires.any c.index-passes-0.is
          (c.with_open-outcome.ensures window flags (pass_at window halves flags n passes 0 p h c.requires.any c.index-passes-0.is));
    }

pub loop-k-preserved : goal.loop-k-preserved
loop-k-preserved c =
    let halves = c.args.halves.now in
    let n = length halves in
    let passes = c.args.passes.now in
    let k = c.loop-k.k in
    let p = c.index-passes-k.result in
    let there = c.loop-k-test.true in
    let e = c.joined-outcome.ensures in
    record {
      some = omega arith;
      hulls = λ window flags h. hulls_more window halves (HasLast flags n) (all_number window n) passes k p c.loop-k.outcome c.with_open.result c.joined-outcome.result there c.index-passes-k.is
          record { dc_low = e.dc_low; dc_high = e.dc_high; dmax_low = e.dmax_low; dmax_high = e.dmax_high; t_low = e.t_low; t_high = e.t_high }
          (c.loop-k.invariant.hulls window flags h)
          (c.with_open.ensures window flags (pass_at window halves flags n passes k p h there c.index-passes-k.is));
    }

pub returns : goal.returns
returns c = λ window flags h.
    let halves = c.args.halves.now in
    let n = length halves in
    let passes = c.args.passes.now in
    let all : length passes ≤ c.loop-k.k = omega (arith, c.loop-k-test.false) in
    hulls_same window halves (Among (HasLast flags n) passes) (AreResolved flags) (all_number window n) c.loop-k.outcome
    (λ b (p, here, (is, t)). is)
    (λ b is. let there = h.cover b is in (there.0, there.1, (is, there.2)))
    (subst (λ (ps : List Pass). AreHulls window halves (Among (HasLast flags n) ps) (all_number window n) c.loop-k.outcome) (take_all c.loop-k.k passes all) (c.loop-k.invariant.hulls window flags h))
