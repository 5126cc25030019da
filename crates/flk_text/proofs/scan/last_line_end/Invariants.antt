use Rattle.std.proofs.Common.{◌≡◌, ◌+◌, drop}
use Rattle.std.specs.List.{position_or_len}
use Rattle.flk_text.specs.Lines.{ends_last_line}
use Rattle.flk_text.proofs.scan.last_line_end.Given as goal

abbrev pub invariant-loop-each : goal.invariant-loop-each
invariant-loop-each l = record {
  place : l.count ≡ l.each-index;
  left : l.count + position_or_len ends_last_line (drop l.each-index l.bytes) ≡ position_or_len ends_last_line l.bytes;
}
