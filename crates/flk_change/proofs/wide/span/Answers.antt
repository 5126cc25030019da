use Rattle.std.proofs.Common.{refl}
use Rattle.flk_change.proofs.ExtremeLemmas.{span_low, span_high}
use Rattle.flk_change.proofs.wide.span.Goals as goal

pub returns-clause-low : goal.returns-clause-low
returns-clause-low c =
    span_low c.args.halves.now c.loop-v.v-index c.loop-v.all.lo c.index-halves-0.result.lo c.index-halves-0.result c.loop-v-test.false c.loop-v.invariant.least refl c.index-halves-0.is c.requires

pub returns-clause-high : goal.returns-clause-high
returns-clause-high c =
    span_high c.args.halves.now c.loop-v.v-index c.loop-v.all.hi c.index-halves-0.result.hi c.index-halves-0.result c.loop-v-test.false c.loop-v.invariant.greatest refl c.index-halves-0.is c.requires
