use Rattle.std.proofs.Common.{ℕ, ◌<◌}
use Rattle.flk_cert.specs.Judged.{AllAreMet}
use Rattle.flk_cert.proofs.checker.first_row_fault.Given as goal

abbrev pub invariant-loop-row : goal.invariant-loop-row
invariant-loop-row l = (j : ℕ) → j < l.row → AllAreMet l.k l.rows j
