use Rattle.std.proofs.Common.{arith}
use Rattle.std.proofs.lemmas.Int.{ints}
use Rattle.flk_change.proofs.SumLemmas.{sums_small, sums_grow, sums_move, range_at}
use Rattle.flk_change.proofs.level.slid.Goals as goal

pub overflow_add-low : goal.overflow_add-low
overflow_add-low c =
    let small = sums_small c.args.window c.args.i c.args.halves.now c.args.sums c.requires.in_range c.requires.sums in
    let v = range_at c.args.halves.now c.args.i c.index-halves-i.result c.requires.in_range c.requires.within c.index-halves-i.is in
    omega (arith, ints, small.low, small.ordered, small.high, v.low, v.high, c.index-halves-i.result.ordered)

pub overflow_add-high : goal.overflow_add-high
overflow_add-high c =
    let small = sums_small c.args.window c.args.i c.args.halves.now c.args.sums c.requires.in_range c.requires.sums in
    let v = range_at c.args.halves.now c.args.i c.index-halves-i.result c.requires.in_range c.requires.within c.index-halves-i.is in
    omega (arith, ints, small.low, small.ordered, small.high, v.low, v.high, c.index-halves-i.result.ordered)

pub returns-then-i-window : goal.returns-then-i-window
returns-then-i-window c =
    let small = sums_small c.args.window c.args.i c.args.halves.now c.args.sums c.requires.in_range c.requires.sums in
    let v = range_at c.args.halves.now c.args.i c.index-halves-i.result c.requires.in_range c.requires.within c.index-halves-i.is in
    sums_grow c.args.window c.args.i c.args.halves.now c.args.sums _ c.index-halves-i.result c.requires.within c.if-i-window.true c.requires.sums c.index-halves-i.is
    (omega (arith, ints, small.low, small.ordered, small.high, v.low, v.high, c.index-halves-i.result.ordered))
    (omega (arith, ints, small.low, small.ordered, small.high, v.low, v.high, c.index-halves-i.result.ordered))

pub overflow_sub-result : goal.overflow_sub-result
overflow_sub-result c =
    let small = sums_small c.args.window c.args.i c.args.halves.now c.args.sums c.requires.in_range c.requires.sums in
    let v = range_at c.args.halves.now c.args.i c.index-halves-i.result c.requires.in_range c.requires.within c.index-halves-i.is in
    let w = range_at c.args.halves.now _ c.index-halves-i-2.result c.requires.in_range (omega arith) c.index-halves-i-2.is in
    omega (arith, ints, small.low, small.ordered, small.high, v.low, v.high, c.index-halves-i.result.ordered, w.low, w.high, c.index-halves-i-2.result.ordered)

pub overflow_sub-result-2 : goal.overflow_sub-result-2
overflow_sub-result-2 c =
    let small = sums_small c.args.window c.args.i c.args.halves.now c.args.sums c.requires.in_range c.requires.sums in
    let v = range_at c.args.halves.now c.args.i c.index-halves-i.result c.requires.in_range c.requires.within c.index-halves-i.is in
    let w = range_at c.args.halves.now _ c.index-halves-i-2.result c.requires.in_range (omega arith) c.index-halves-i-2.is in
    omega (arith, ints, small.low, small.ordered, small.high, v.low, v.high, c.index-halves-i.result.ordered, w.low, w.high, c.index-halves-i-2.result.ordered)

pub returns : goal.returns
returns c =
    let small = sums_small c.args.window c.args.i c.args.halves.now c.args.sums c.requires.in_range c.requires.sums in
    let v = range_at c.args.halves.now c.args.i c.index-halves-i.result c.requires.in_range c.requires.within c.index-halves-i.is in
    let w = range_at c.args.halves.now _ c.index-halves-i-2.result c.requires.in_range (omega arith) c.index-halves-i-2.is in
    sums_move c.args.window c.args.i c.args.halves.now c.args.sums _ c.index-halves-i.result c.index-halves-i-2.result c.requires.within c.requires.some c.if-i-window.false c.requires.sums c.index-halves-i.is c.index-halves-i-2.is
    (omega (arith, ints, small.low, small.ordered, small.high, v.low, v.high, c.index-halves-i.result.ordered, w.low, w.high, c.index-halves-i-2.result.ordered))
    (omega (arith, ints, small.low, small.ordered, small.high, v.low, v.high, c.index-halves-i.result.ordered, w.low, w.high, c.index-halves-i-2.result.ordered))
