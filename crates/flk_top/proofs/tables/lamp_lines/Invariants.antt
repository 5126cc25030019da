use Rattle.std.proofs.Common.{string_bytes}
use Rattle.flk_top.proofs.TablesLemmas.{AreLinesTo}
use Rattle.flk_top.proofs.tables.lamp_lines.Given as goal

abbrev pub invariant-loop-i : goal.invariant-loop-i
invariant-loop-i l = AreLinesTo l.certified.sections.items l.i (string_bytes l.text)
