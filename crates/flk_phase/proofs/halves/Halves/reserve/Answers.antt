use Rattle.std.proofs.Common.{◌≤◌, ◌*◌, ◌+◌, ◌/◌, arith, ap, length, vec_capacity, sym, subst}
use Rattle.std.specs.List.{All}
use Rattle.flk_num.specs.Values.{IsHalfPeriodRange}
use Rattle.flk_half.specs.Cutter.{since_cut}
use Rattle.flk_phase.proofs.HalvesLemmas.{room_made}
use Rattle.flk_phase.proofs.halves.Halves.reserve.Goals as goal

pub invariant_of-self-2-clause-in_range : goal.invariant_of-self-2-clause-in_range
invariant_of-self-2-clause-in_range c = subst (All IsHalfPeriodRange) (sym c.try_reserve.ensures.items) c.args.self.now.in_range

pub invariant_of-self-2-clause-halves_fit : goal.invariant_of-self-2-clause-halves_fit
invariant_of-self-2-clause-halves_fit c =
    let old = c.args.self.now in
    let short : since_cut old.cutter ≤ 4 * old.least + 2 = omega (arith, old.least_is, old.cutter.few) in
    let count = length c.try_reserve.new.self.items in
    let fits : count + (c.args.samples / old.least + 6) ≤ vec_capacity c.try_reserve.new.self = omega (arith, c.in_ok-try_reserve.ensures.ok) in
    room_made old.least count (since_cut old.cutter) c.args.samples (vec_capacity c.try_reserve.new.self) old.least_low short fits

pub invariant_of-self-2-clause-flags_fit : goal.invariant_of-self-2-clause-flags_fit
invariant_of-self-2-clause-flags_fit c =
    let old = c.args.self.now in
    let short : since_cut old.cutter ≤ 4 * old.least + 2 = omega (arith, old.least_is, old.cutter.few) in
    let count = length c.try_reserve.new.self.items in
    let fits : count + (c.args.samples / old.least + 6) ≤ vec_capacity c.try_reserve-2.new.self =
    omega (arith, c.in_ok-try_reserve-2.ensures.ok, ap length c.try_reserve.ensures.items, ap length c.try_reserve-2.ensures.items, old.same) in
    room_made old.least count (since_cut old.cutter) c.args.samples (vec_capacity c.try_reserve-2.new.self) old.least_low short fits
