-- The gains so far are those of the sections.
use Rattle.std.proofs.Common.{◌≡◌, length, map, take}
use Rattle.flk_cert.specs.Gain.{coefs_of}
use Rattle.flk_phase.proofs.tests.gains_of.Given as goal

abbrev pub invariant-loop-i : goal.invariant-loop-i
invariant-loop-i l = record {
  seven : length l.gains ≡ 7;
  same : take l.i l.sections ≡ map coefs_of (take l.i l.gains);
}
