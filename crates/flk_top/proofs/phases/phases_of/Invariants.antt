use Rattle.std.proofs.Common.{take}
use Rattle.std.specs.List.{AllZip}
use Rattle.flk_section.specs.Whole.{numbers_of}
use Rattle.flk_top.proofs.PhasesLemmas.{IsNewPhase}
use Rattle.flk_top.proofs.phases.phases_of.Given as goal

abbrev pub invariant-loop-channel : goal.invariant-loop-channel
invariant-loop-channel l = AllZip (IsNewPhase l.job l.config (numbers_of l.whole)) (take l.channel-index l.job.channels) l.phases.items
