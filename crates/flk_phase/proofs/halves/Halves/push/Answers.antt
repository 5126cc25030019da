use Rattle.std.proofs.Common.{◌≤◌, arith, refl, sym, subst, length, vec_capacity}
use Rattle.std.specs.List.{All}
use Rattle.std.proofs.lemmas.List.Elements.{All-push}
use Rattle.flk_num.specs.Values.{IsHalfPeriodRange}
use Rattle.flk_half.specs.Cutter.{since_cut}
use Rattle.flk_phase.proofs.HalvesLemmas.{more_by_one, room_behind, stands_continues, stands_ends}
use Rattle.flk_phase.proofs.halves.Halves.push.Goals as goal

pub invariant_of-self-clause-in_range : goal.invariant_of-self-clause-in_range
invariant_of-self-clause-in_range c =
    subst (All IsHalfPeriodRange) (sym c.push_half.ensures.halves) (All-push IsHalfPeriodRange c.args.self.now.halves.items c.in-Some.half c.args.self.now.in_range c.in-Some.ensures.range)

pub invariant_of-self-clause-halves_fit : goal.invariant_of-self-clause-halves_fit
invariant_of-self-clause-halves_fit c =
    let old = c.args.self.now in
    let e = c.push_half.ensures in
    let long : old.least ≤ since_cut old.cutter = omega (arith, old.least_is, c.in-Some.ensures.since_some.0) in
    room_behind old.least (length old.halves.items) (length c.push_half.new.halves.items) (since_cut old.cutter) (since_cut c.push-ended.new.self) old.spare (vec_capacity old.halves) (vec_capacity c.push_half.new.halves) c.requires.spare long (more_by_one old.halves.items c.push_half.new.halves.items c.in-Some.half e.halves)
    c.in-Some.ensures.since_some.1 e.halves_capacity old.halves_fit

pub invariant_of-self-clause-flags_fit : goal.invariant_of-self-clause-flags_fit
invariant_of-self-clause-flags_fit c =
    let old = c.args.self.now in
    let e = c.push_half.ensures in
    let long : old.least ≤ since_cut old.cutter = omega (arith, old.least_is, c.in-Some.ensures.since_some.0) in
    room_behind old.least (length old.halves.items) (length c.push_half.new.halves.items) (since_cut old.cutter) (since_cut c.push-ended.new.self) old.spare (vec_capacity old.flags) (vec_capacity c.push_half.new.flags) c.requires.spare long (more_by_one old.halves.items c.push_half.new.halves.items c.in-Some.half e.halves)
    c.in-Some.ensures.since_some.1 e.flags_capacity old.flags_fit

pub returns-in-Some-clause-stands : goal.returns-in-Some-clause-stands
returns-in-Some-clause-stands c = λ signs voltages h.
    stands_ends c.args.self.now _ signs voltages c.args.negative c.args.voltage c.in-Some.half c.push-flag.result c.push-ended.ensures.half refl c.push_half.ensures.halves c.push_half.ensures.flags c.in-Some.ensures.some c.push-flag.ensures.stands c.push-flag.ensures.flags h

pub returns-in_default-clause-stands : goal.returns-in_default-clause-stands
returns-in_default-clause-stands c = λ signs voltages h.
    stands_continues c.args.self.now _ signs voltages c.args.negative c.args.voltage c.push-ended.ensures.half refl refl refl refl c.in_default.ensures.none h
