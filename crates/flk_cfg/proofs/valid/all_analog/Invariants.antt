use Rattle.std.proofs.Common.{take}
use Rattle.std.specs.Prelude.{All}
use Rattle.flk_cfg.specs.Valid.{IsValidAnalog}
use Rattle.flk_cfg.proofs.valid.all_analog.Given as goal

abbrev pub invariant-loop-channel : goal.invariant-loop-channel
invariant-loop-channel l = All IsValidAnalog (take l.channel-index l.channels)
