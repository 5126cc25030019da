use Rattle.std.proofs.Common.{◌≡◌, ◌+◌, ◌≤◌, ◌^◌, take}
use Rattle.std.specs.Prelude.{sum_by}
use Rattle.std.specs.Int.RustNames.{unsigned_abs}
use Rattle.flk_cert.proofs.shape.take_up_a_quarter.Given as goal

abbrev pub invariant-loop-row : goal.invariant-loop-row
invariant-loop-row l = record {
  sum : l.sum ≡ sum_by (λ r. unsigned_abs r.c + unsigned_abs r.d) (take l.row-index l.rows);
  small : l.sum ≤ 2 ^ 62;
}
