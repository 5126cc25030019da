use Rattle.std.proofs.Common.{arith}
use Rattle.flk_phase.proofs.TestLemmas.{full_parts}
use Rattle.flk_phase.proofs.tests.result_of_parts.Goals as goal

pub end-requires : goal.end-requires
end-requires c =
    let first = c.in_ok-feed.ensures in
    let second = c.in_ok-feed-2.ensures in
    let third = c.in_ok-feed-3.ensures in
    let full =
    full_parts c.in_ok-phase.phase c.feed-2.new.phase c.feed-4.new.phase c.feed-6.new.phase c.in_ok-block_of.field-0.records c.in_ok-block_of-2.field-0.records c.in_ok-block_of-3.field-0.records first.alike second.alike third.alike
    first.taken second.taken third.taken (omega (arith, c.in_ok-block_of.ensures.records, c.in_ok-block_of-2.ensures.records, c.in_ok-block_of-3.ensures.records)) c.in_ok-phase.ensures.stands c.in_ok-phase.ensures.enough
    in
    (full.samples, full.stands, full.enough)
