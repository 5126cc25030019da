use Rattle.std.proofs.Common.{◌≡◌, ◌+◌, ◌++◌, drop}
use Rattle.flk_cfg.specs.Canonical.{analog_lines, lines_text}
use Rattle.flk_cfg.proofs.push.push_analogs.Given as goal

abbrev pub invariant-loop-channel : goal.invariant-loop-channel
invariant-loop-channel l = record {
  position : l.position ≡ l.channel-index + 1;
  text : l.out.items ++ lines_text (analog_lines l.position (drop l.channel-index l.channels)) ≡ l.fn.out.items ++ lines_text (analog_lines 1 l.channels);
}
