use Rattle.std.proofs.Common.{◌≡◌, take}
use Rattle.std.specs.List.{All}
use Rattle.flk_num.specs.Values.{IsHalfPeriodRange}
use Rattle.flk_change.specs.Steady.{Stands, AreFlags, taken}
use Rattle.flk_change.proofs.tests.judged.Given as goal

-- the state stands for the half-periods so far, which have these flags
abbrev pub invariant-loop-half : goal.invariant-loop-half
invariant-loop-half l = record {
  taken : taken l.steady ≡ l.half-index;
  stands : Stands l.steady l.fn.window (take l.half-index l.halves);
  flags : AreFlags l.fn.window (take l.half-index l.halves) l.flags.items;
  range : All IsHalfPeriodRange (take l.half-index l.halves);
}
