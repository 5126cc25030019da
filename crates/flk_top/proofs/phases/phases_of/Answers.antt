use Rattle.std.proofs.Common.{rules, sym, ap, ◌∙◌, ◌≡◌, ◌<◌, ◌++◌, ◌∷◌, ◌-◌, [], ℕ, List, take, length, get_or, subst, arith}
use Rattle.std.specs.List.{AllZip}
use Rattle.std.proofs.lemmas.List.{get_or_default, take_all}
use Rattle.flk_num.specs.Rate.{sampling_interval}
use Rattle.flk_scale.specs.Channel.{IsChannel}
use Rattle.flk_scale.specs.Matching.{CanBeMeasured}
use Rattle.flk_scale.proofs.MatchingLemmas.{measured_has_no_fault}
use Rattle.flk_design.specs.Lamp.{constants_of}
use Rattle.flk_design.specs.Design.{IsDesign}
use Rattle.flk_section.specs.Whole.{numbers_of}
use Rattle.flk_result.specs.declared.result.Setup.{Setup}
use Rattle.flk_phase.specs.Phase.{IsMadeFor}
use Rattle.flk_top.proofs.PhasesLemmas.{IsNewPhase, new_phase, new_more, new_worked}
use Rattle.flk_top.proofs.phases.phases_of.Goals as goal

pub unreachable-requires : goal.unreachable-requires
unreachable-requires c =
    let i = c.loop-channel.channel-index in
    let same = c.as_slice-channel-items.ensures in
    let there : i < length c.args.job.now.channels = omega (arith, c.loop-channel-test.true, ap (λ (xs : List ℕ). length xs) same) in
    let can = subst (λ (xs : List ℕ). CanBeMeasured c.args.config.now (get_or xs i 0)) (sym same) (c.requires.matches.channels i 0 there) in
    measured_has_no_fault c.args.config.now (get_or c.as_slice-channel-items.result.now i 0) c.in_default.field-0 can c.in_default.ensures.fault

pub new-requires-clause-design : goal.new-requires-clause-design
new-requires-clause-design c =
    subst (λ (s : Setup). IsDesign (sampling_interval s.rate) (constants_of s.lamp) (numbers_of c.args.whole.now).coefs) (sym c.setup_of-setup.ensures) c.requires.design

pub loop-channel-preserved : goal.loop-channel-preserved
loop-channel-preserved c =
    let j = c.args.job.now in
    let config = c.args.config.now in
    let filter = numbers_of c.args.whole.now in
    let i = c.loop-channel.channel-index in
    let same = c.as_slice-channel-items.ensures in
    let there : i < length j.channels = omega (arith, c.loop-channel-test.true, ap (λ (xs : List ℕ). length xs) same) in
    let channel = get_or j.channels i 0 in
    let listed : get_or c.as_slice-channel-items.result.now i 0 ≡ channel = ap (λ (xs : List ℕ). get_or xs i 0) same in
    let found = c.in-Ok.ensures.scale in
    let p = c.in_ok-new.field-0 in
    let made = c.in_ok-new.ensures in
    let pushed : c.push.new.self.items ≡ c.loop-channel.phases.items ++ p ∷ [] = search rules in
    let place : c.from-place.result - 1 ≡ channel - 1 = ap (λ (n : ℕ). n - 1) (c.from-place.ensures ∙ listed) in
    let one = new_phase j config c.args.whole.now channel found.0 c.in-Ok.scale c.setup_of-setup.result p
    (subst (λ (n : ℕ). IsChannel config n found.0) listed found.1) found.2 c.setup_of-setup.ensures
    (subst (λ (n : ℕ). IsMadeFor p c.in-Ok.scale n c.setup_of-setup.result c.args.whole.now) place made.made) made.stands in
    new_more j config filter j.channels i channel c.loop-channel.phases.items p c.push.new.self.items there
    (get_or_default j.channels i 0 channel there) c.loop-channel.invariant one pushed

pub returns : goal.returns
returns c =
    let j = c.args.job.now in
    let filter = numbers_of c.args.whole.now in
    let same = c.as_slice-channel-items.ensures in
    let all : length j.channels ≡ c.loop-channel.channel-index =
    omega (arith, c.loop-channel-test.false, c.loop-channel.auto.channel-index-end, ap (λ (xs : List ℕ). length xs) same) in
    let whole : take c.loop-channel.channel-index j.channels ≡ j.channels = ap (λ (n : ℕ). take n j.channels) (sym all) ∙ take_all (length j.channels) j.channels (omega arith) in
    new_worked j c.args.config.now filter c.loop-channel.phases.items
    (subst (λ (xs : List ℕ). AllZip (IsNewPhase j c.args.config.now filter) xs c.loop-channel.phases.items) whole c.loop-channel.invariant)
