use Rattle.std.proofs.Common.{map, take, Contains}
use Rattle.flk_io.specs.OpenFiles.{name_of}
use Rattle.flk_io.proofs.open_files.place.Given as goal

abbrev pub invariant-loop-i : goal.invariant-loop-i
invariant-loop-i l = ¬ Contains (take l.i (map name_of l.files)) l.name
