use Rattle.std.proofs.Common.{◌-◌, length}
use Rattle.flk_cert.specs.Making.{IsBegun}
use Rattle.flk_cert.proofs.making.plain_rows.Given as goal

abbrev pub invariant-loop-next : goal.invariant-loop-next
invariant-loop-next l = IsBegun l.k l.rows.items l.form l.taken

abbrev pub decreases-loop-next : goal.decreases-loop-next
decreases-loop-next l = 4095 - length l.rows.items
