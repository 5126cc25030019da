use Rattle.std.proofs.Common.{◌≡◌, drop}
use Rattle.std.specs.List.{list_all}
use Rattle.flk_field.specs.Values.{is_text_byte as text_byte}
use Rattle.flk_field.proofs.fields.are_text_bytes.Given as goal

abbrev pub invariant-loop-byte : goal.invariant-loop-byte
invariant-loop-byte l = list_all text_byte (drop l.byte-index l.bytes) ≡ list_all text_byte l.bytes
