use Rattle.std.proofs.Common.{rules, get_or}
use Rattle.flk_scale.specs.Matching.{CanBeMeasured}
use Rattle.flk_job.proofs.MatchLemmas.{one_more}
use Rattle.flk_job.proofs.matching.match_channels.Goals as goal

pub loop-channel-preserved : goal.loop-channel-preserved
loop-channel-preserved c =
    let new : CanBeMeasured c.args.config.now (get_or c.args.job.now.channels c.loop-channel.channel-index 0) = search rules in
    let old = c.loop-channel.invariant in
    one_more c.args.config.now c.args.job.now.channels c.loop-channel.channel-index old (search rules) new
