use Rattle.std.proofs.Common.{rules, ◌≡◌, ap, refl, arith, FitsSigned, to_z, of_z}
use Rattle.std.specs.Int.{w128}
use Rattle.std.proofs.lemmas.Int.{to_z-of_z}
use Rattle.circular_buffer.specs.Buffer.{Buffer}
use Rattle.flk_change.specs.declared.candidates.Candidate.{Candidate}
use Rattle.flk_change.proofs.StandsLemmas.{IsPushed, pushed_by, stands_push, small_push}
use Rattle.flk_change.proofs.extreme.Extreme.push.Goals as goal

pub invariant_of-self : goal.invariant_of-self
invariant_of-self c =
    let s = c.args.self.now in
    let v = c.args.v in
    let fits : FitsSigned w128 v = search rules in
    let is : to_z w128 (of_z w128 v) ≡ v = to_z-of_z w128 v fits in
    let up_to = c.drop_up_to.ensures in
    let pushed : IsPushed s.ring c.push_back.new.self s.count v =
    pushed_by s.ring c.drop_before.new.ring c.drop_up_to.new.ring c.push_back.new.self c.window_begin-begin.result s.count c.capacity.result _ v _
    c.window_begin-begin.ensures c.capacity.ensures.capacity c.drop_before.ensures.capacity c.drop_before.ensures.dropped up_to.capacity
    (record { fewer = up_to.fewer; front = up_to.front; dropped = up_to.dropped }) up_to.above c.push_back.ensures.items is is in
    let same = ap (λ (b : Buffer Candidate). b.capacity) pushed.is in
    record { some = omega (arith, same, s.some); few = omega (arith, same, s.few); small = small_push s.ring c.push_back.new.self s.count v pushed s.small c.requires.small }

pub returns-clause-stands : goal.returns-clause-stands
returns-clause-stands c =
    let s = c.args.self.now in
    let v = c.args.v in
    let fits : FitsSigned w128 v = search rules in
    let is : to_z w128 (of_z w128 v) ≡ v = to_z-of_z w128 v fits in
    let up_to = c.drop_up_to.ensures in
    let pushed : IsPushed s.ring c.push_back.new.self s.count v =
    pushed_by s.ring c.drop_before.new.ring c.drop_up_to.new.ring c.push_back.new.self c.window_begin-begin.result s.count c.capacity.result _ v _
    c.window_begin-begin.ensures c.capacity.ensures.capacity c.drop_before.ensures.capacity c.drop_before.ensures.dropped up_to.capacity
    (record { fewer = up_to.fewer; front = up_to.front; dropped = up_to.dropped }) up_to.above c.push_back.ensures.items is is in
    stands_push s _ v pushed refl
