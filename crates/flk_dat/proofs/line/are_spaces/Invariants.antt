use Rattle.std.proofs.Common.{◌≡◌, drop}
use Rattle.std.specs.List.{list_all}
use Rattle.flk_text.specs.Lines.{is_byte}
use Rattle.flk_dat.proofs.line.are_spaces.Given as goal

abbrev pub invariant-loop-byte : goal.invariant-loop-byte
invariant-loop-byte l = list_all (is_byte 32) (drop l.byte-index l.bytes) ≡ list_all (is_byte 32) l.bytes
