use Rattle.std.proofs.Common.{ℕ, ◌<◌}
use Rattle.std.specs.Prelude.{slice_index_or}
use Rattle.flk_scale.specs.Matching.{CanBeMeasured}
use Rattle.flk_job.proofs.matching.match_channels.Given as goal

-- the channels so far can be measured
abbrev pub invariant-loop-channel : goal.invariant-loop-channel
invariant-loop-channel l = (i none : ℕ) → i < l.channel-index → CanBeMeasured l.config (slice_index_or l.job.channels i none)
