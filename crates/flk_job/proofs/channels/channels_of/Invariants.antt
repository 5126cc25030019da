use Rattle.flk_job.proofs.ChannelLemmas.{AreSoFar}
use Rattle.flk_job.proofs.channels.channels_of.Given as goal

abbrev pub invariant-loop-number : goal.invariant-loop-number
invariant-loop-number l = AreSoFar l.numbers l.number-index l.channels
