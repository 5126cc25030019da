use Rattle.std.proofs.Common.{refl, subst, rules}
use Rattle.flk_cfg.specs.declared.config.Analog.{Analog}
use Rattle.flk_scale.specs.Channel.{IsChannel, IsFrequencyOf}
use Rattle.flk_scale.specs.Matching.{CanBeMeasured}
use Rattle.flk_scale.specs.Scale.{HasScale, IsScaleOf}
use Rattle.flk_scale.proofs.MatchingLemmas.{one_channel}
use Rattle.flk_top.proofs.matching.match_levels.Goals as goal

pub returns-in-Ok-match_lamp-clause-matched : goal.returns-in-Ok-match_lamp-clause-matched
returns-in-Ok-match_lamp-clause-matched c =
    let config = c.args.config.now in
    let channel = c.args.channel in
    let can : CanBeMeasured config channel = search rules in
    let scaled : (a : Analog) × IsChannel config channel a × IsScaleOf a c.args.supply.now c.in-Ok.scale = search rules in
    let lamp : IsFrequencyOf c.in-Ok-match_lamp.lamp config.lf.n = search rules in
    let same = one_channel config channel can.0 scaled.0 can.1 scaled.1 in
    (scaled.0, record { there = scaled.1; scale = subst HasScale same can.2; frequency = lamp }, scaled.2, refl)
