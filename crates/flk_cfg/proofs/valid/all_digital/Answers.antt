use Rattle.std.proofs.Common.{◌≡◌, ◌≤◌, get_or, length, rules, arith, refl, sym, subst}
use Rattle.std.specs.Prelude.{All}
use Rattle.std.proofs.lemmas.List.{take_all}
use Rattle.std.proofs.lemmas.List.Elements.{All-more}
use Rattle.flk_cfg.specs.Valid.{IsValidDigital}
use Rattle.flk_cfg.proofs.valid.all_digital.Goals as goal

pub loop-channel-preserved : goal.loop-channel-preserved
loop-channel-preserved c =
    let i = c.loop-channel.channel-index in
    let item = c.channel-item.result in
    let valid : IsValidDigital item = search rules in
    let at : get_or c.args.channels.now i item ≡ item = search rules in
    All-more IsValidDigital c.args.channels.now i item c.loop-channel-test.true c.loop-channel.invariant (subst IsValidDigital (sym at) valid)

pub returns : goal.returns
returns c =
    let end : length c.args.channels.now ≤ c.loop-channel.channel-index = omega (arith, c.loop-channel-test.false) in
    (λ so. subst (All IsValidDigital) (take_all c.loop-channel.channel-index c.args.channels.now end) c.loop-channel.invariant, λ all. refl)
