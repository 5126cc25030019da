use Rattle.std.proofs.Common.{take}
use Rattle.std.specs.Prelude.{All}
use Rattle.flk_cfg.specs.Valid.{IsValidDigital}
use Rattle.flk_cfg.proofs.valid.all_digital.Given as goal

abbrev pub invariant-loop-channel : goal.invariant-loop-channel
invariant-loop-channel l = All IsValidDigital (take l.channel-index l.channels)
