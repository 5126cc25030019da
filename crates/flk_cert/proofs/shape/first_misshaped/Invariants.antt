use Rattle.std.proofs.Common.{ℕ, ◌<◌}
use Rattle.flk_cert.specs.Certificate.{HasShape}
use Rattle.flk_cert.proofs.shape.first_misshaped.Given as goal

abbrev pub invariant-loop-i : goal.invariant-loop-i
invariant-loop-i l = (j : ℕ) → j < l.i → HasShape l.k l.rows j
