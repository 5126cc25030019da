use Rattle.std.proofs.Common.{rules, ◌≡◌, pos, get_or, w64, FitsSigned, to_z-of_z, ◌++◌, ◌∷◌, []}
use Rattle.std.specs.List.{Contains}
use Rattle.flk_job.proofs.ChannelLemmas.{one_more, out_of_set, twice}
use Rattle.flk_job.proofs.channels.channels_of.Goals as goal

pub returns-in_default-clause-none : goal.returns-in_default-clause-none
returns-in_default-clause-none c = λ cs same is.
    let fits : FitsSigned w64 (get_or c.args.numbers.now c.loop-number.number-index (pos 0)) = search rules in
    out_of_set c.args.numbers.now c.loop-number.number-index c.loop-number-test.true (simp to_z-of_z at c.in_default.ensures.none) cs same is

pub returns-then-contains-clause-none : goal.returns-then-contains-clause-none
returns-then-contains-clause-none c = λ cs same is.
    let fits : FitsSigned w64 (get_or c.args.numbers.now c.loop-number.number-index (pos 0)) = search rules in
    let value : get_or c.args.numbers.now c.loop-number.number-index (pos 0) ≡ pos c.in-Some.channel = simp to_z-of_z at c.in-Some.ensures.some.0 in
    let has : Contains c.loop-number.channels c.in-Some.channel = search rules in
    twice c.args.numbers.now c.loop-number.number-index c.loop-number.channels c.in-Some.channel c.loop-number.invariant c.loop-number-test.true value has cs same is

pub loop-number-preserved : goal.loop-number-preserved
loop-number-preserved c =
    let fits : FitsSigned w64 (get_or c.args.numbers.now c.loop-number.number-index (pos 0)) = search rules in
    let value : get_or c.args.numbers.now c.loop-number.number-index (pos 0) ≡ pos c.in-Some.channel = simp to_z-of_z at c.in-Some.ensures.some.0 in
    let new : ¬ Contains c.loop-number.channels c.in-Some.channel = search rules in
    let grown : c.push.new.self ≡ c.loop-number.channels ++ c.in-Some.channel ∷ [] = search rules in
    rw grown (one_more c.args.numbers.now c.loop-number.number-index c.loop-number.channels c.in-Some.channel c.loop-number.invariant c.loop-number-test.true value c.in-Some.ensures.some.1 c.in-Some.ensures.some.2 new)
