use Rattle.std.proofs.Common.{◌^◌, pos, ◌<ℤ◌}
use Rattle.flk_cert.specs.Gain.{input_of}
use Rattle.flk_section.specs.Section.{gain_of}
use Rattle.flk_section.proofs.tests.high_pass_at_rest.Given as goal

abbrev pub invariant-loop : goal.invariant-loop
invariant-loop g l = input_of (gain_of l.section) <ℤ pos (2 ^ 36)
