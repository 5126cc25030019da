use Rattle.std.proofs.Common.{take}
use Rattle.flk_io.specs.Files.{NoFile}
use Rattle.flk_io.proofs.memory_files.find.Given as goal

abbrev pub invariant-loop-i : goal.invariant-loop-i
invariant-loop-i l = NoFile (take l.i l.files) l.name
