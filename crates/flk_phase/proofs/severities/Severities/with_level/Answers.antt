use Rattle.std.proofs.Common.{arith}
use Rattle.flk_phase.proofs.severities.Severities.with_level.Goals as goal

pub returns-clause-some : goal.returns-clause-some
returns-clause-some c =
    let level = c.args.level in
    record {
      room = omega (arith, c.add.ensures.room, c.room.ensures, c.if-room-gt0.false);
      added = λ n levels h. c.end.ensures.added n _ (c.add.ensures.added n levels h);
      severity = λ n levels h. let is = c.end.ensures.severity n _ (c.add.ensures.added n levels h) in record { low = is.0; high = is.1 };
      judgeable = record { low = c.end.ensures.low; high = c.end.ensures.high };
    }
