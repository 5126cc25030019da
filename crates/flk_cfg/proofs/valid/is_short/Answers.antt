use Rattle.std.proofs.Common.{◌≡◌, ◌≢◌, ◌%◌, arith}
use Rattle.flk_cfg.proofs.ValidLemmas.{tenth_front, tenth_long, long_here}
use Rattle.flk_cfg.proofs.valid.is_short.Goals as goal

pub returns-then-left-ne0-clause-long : goal.returns-then-left-ne0-clause-long
returns-then-left-ne0-clause-long c =
    let some : c.loop-left.left % 10 ≢ 0 = λ none. omega (arith, none, c.if-left-ne0.true) in
    λ off. c.loop-left.invariant.long (long_here c.loop-left.left some (omega (arith, c.loop-left-test.true)))

pub loop-left-preserved : goal.loop-left-preserved
loop-left-preserved c =
    let left = c.loop-left.left in
    let none : left % 10 ≡ 0 = omega (arith, c.if-left-ne0.false) in
    record {
      front = tenth_front c.args.number left none c.loop-left.invariant.front;
      long = λ long. c.loop-left.invariant.long (tenth_long left none long);
    }
