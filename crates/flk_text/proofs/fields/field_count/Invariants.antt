use Rattle.std.proofs.Common.{◌≡◌, take}
use Rattle.std.specs.List.{count_by}
use Rattle.flk_text.specs.Lines.{is_byte}
use Rattle.flk_text.proofs.fields.field_count.Given as goal

abbrev pub invariant-loop-each : goal.invariant-loop-each
invariant-loop-each l = l.count ≡ count_by (is_byte 44) (take l.each-index l.line)
