use Rattle.std.proofs.Common.{arith, refl, ◌≡◌, ◌+◌, ◌*◌, ◌^◌, ◌<◌, ◌≤◌}
use Rattle.std.proofs.lemmas.Bool.{false≢true}
use Rattle.flk_num.specs.Square.{least_size, greatest_size}
use Rattle.flk_half.proofs.CutterLemmas.{continues, ends_half_period, holds_every_run, keeps_width}
use Rattle.flk_half.proofs.EnclosureLemmas.{IsValueAt-natural, value_small}
use Rattle.flk_half.proofs.cutter.Cutter.push.Goals as goal

pub returns-then-ends-clause-some : goal.returns-then-ends-clause-some
returns-then-ends-clause-some c =
    ends_half_period c.args.self.now _ c.args.negative c.args.voltage _ c.args.self.now.half_low refl refl refl c.exact_squares-squares.ensures.least c.exact_squares-squares.ensures.greatest (c.if-ends.ensures.0 refl) c.interval-ended.ensures.low c.interval-ended.ensures.high

pub returns-clause-none : goal.returns-clause-none
returns-clause-none c =
    let s = c.args.self.now in
    let v = c.args.voltage in
    let squares = c.exact_squares-squares in
    let least : s.least + squares.result.least ≡ s.least + least_size v.lo v.hi * least_size v.lo v.hi = omega (arith, squares.ensures.least) in
    let greatest : s.greatest + squares.result.greatest ≡ s.greatest + greatest_size v.lo v.hi * greatest_size v.lo v.hi = omega (arith, squares.ensures.greatest) in
    continues s _ c.args.negative v refl refl refl least greatest (λ ends. false≢true (c.if-ends.ensures.1 ends))

pub returns-then-ends-clause-holds : goal.returns-then-ends-clause-holds
returns-then-ends-clause-holds c =
    holds_every_run c.args.self.now c.interval-ended.result c.interval-ended.ensures.low c.interval-ended.ensures.high

pub returns-then-ends-clause-narrow : goal.returns-then-ends-clause-narrow
returns-then-ends-clause-narrow c =
    keeps_width c.args.self.now c.interval-ended.result c.args.self.now.half_low c.args.self.now.few c.interval-ended.ensures.low c.interval-ended.ensures.high

pub returns-then-ends-clause-range : goal.returns-then-ends-clause-range
returns-then-ends-clause-range c =
    let k = c.args.self.now in
    let some : 0 < k.half = omega (arith, k.half_low) in
    record {
      low = IsValueAt-natural k.half k.least _ c.interval-ended.ensures.low;
      high = value_small k.half k.greatest k.since _ some k.few k.small c.interval-ended.ensures.high;
    }

-- the greatest square of a voltage

pub invariant_of-self-clause-small : goal.invariant_of-self-clause-small
invariant_of-self-clause-small c =
    let greatest : c.exact_squares-squares.result.greatest ≤ 5 * 2 ^ 48 * (5 * 2 ^ 48) = c.exact_squares-squares.ensures.small (5 * 2 ^ 48) c.requires.low c.requires.high in
    omega (arith, greatest)

pub overflow_add-self-3 : goal.overflow_add-self-3
overflow_add-self-3 c =
    let k = c.args.self.now in
    let greatest : c.exact_squares-squares.result.greatest ≤ 5 * 2 ^ 48 * (5 * 2 ^ 48) = c.exact_squares-squares.ensures.small (5 * 2 ^ 48) c.requires.low c.requires.high in
    omega (arith, greatest, k.small, k.few, k.half_high)

pub invariant_of-self-2-clause-small : goal.invariant_of-self-2-clause-small
invariant_of-self-2-clause-small c =
    let k = c.args.self.now in
    let greatest : c.exact_squares-squares.result.greatest ≤ 5 * 2 ^ 48 * (5 * 2 ^ 48) = c.exact_squares-squares.ensures.small (5 * 2 ^ 48) c.requires.low c.requires.high in
    omega (arith, greatest, k.small)
