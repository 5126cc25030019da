use Rattle.std.proofs.Common.{◌≡◌}
use Rattle.flk_dat.specs.Records.{selected_of}
use Rattle.flk_dat.proofs.channels.flags.Given as goal

abbrev pub invariant-loop-i : goal.invariant-loop-i
invariant-loop-i l = l.flags.items ≡ selected_of l.i l.numbers
