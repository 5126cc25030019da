use Rattle.std.proofs.Common.{◌↔◌, ◌^◌, drop, pos, ◌≤ℤ◌, ◌<ℤ◌}
use Rattle.flk_section.specs.Points.{greatest_point}
use Rattle.flk_section.proofs.RadiusLemmas.{StaySmall}
use Rattle.flk_section.proofs.radius.stay_small.Given as goal

abbrev pub invariant-loop-gain : goal.invariant-loop-gain
invariant-loop-gain l = record {
  natural : pos 0 ≤ℤ l.radius;
  small : l.radius <ℤ pos (2 ^ 60);
  left : StaySmall (drop l.gain-index l.gains) l.radius ↔ StaySmall l.gains (pos greatest_point);
}
