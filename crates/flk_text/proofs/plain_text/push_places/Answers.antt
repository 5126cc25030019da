use Rattle.std.proofs.Common.{◌<◌, ◌≤◌, ◌/◌, ◌∙◌, ◌-◌, ◌++◌, ap, sym, List, ℕ, append-nil, arith, rules}
use Rattle.std.proofs.Math.Nat.{mod-lt}
use Rattle.flk_text.proofs.PowersOfTen.{ten_pos}
use Rattle.flk_text.proofs.PlainTextLemmas.{next_digit, push_place, places_remain, places_below-none}
use Rattle.flk_text.proofs.plain_text.push_places.Goals as goal

pub nonzero_div-left : goal.nonzero_div-left
nonzero_div-left c = omega (arith, c.power_of_ten-unit.ensures.value, ten_pos (c.loop-left.count - 1))

pub overflow_cast-left : goal.overflow_cast-left
overflow_cast-left c =
    let few : c.loop-left.left / c.power_of_ten-unit.result ≤ 9 = next_digit c.loop-left.left c.loop-left.count c.power_of_ten-unit.result c.loop-left.invariant.below c.loop-left-test.true c.power_of_ten-unit.ensures.value in
    search (rules, few)

pub overflow_add-left : goal.overflow_add-left
overflow_add-left c =
    let few : c.loop-left.left / c.power_of_ten-unit.result ≤ 9 = next_digit c.loop-left.left c.loop-left.count c.power_of_ten-unit.result c.loop-left.invariant.below c.loop-left-test.true c.power_of_ten-unit.ensures.value in
    search (rules, few)

pub nonzero_rem-left : goal.nonzero_rem-left
nonzero_rem-left c = omega (arith, c.power_of_ten-unit.ensures.value, ten_pos (c.loop-left.count - 1))

pub loop-left-preserved : goal.loop-left-preserved
loop-left-preserved c =
    let l = c.loop-left in
    let unit = c.power_of_ten-unit.result in
    let is = c.power_of_ten-unit.ensures.value in
    let there : 0 < l.count = places_remain l.count l.left l.invariant.below c.loop-left-test.true in
    record {
      few = omega (arith, l.invariant.few);
      below = rw is (mod-lt l.left (ten_pos (l.count - 1)));
      text = push_place l.out.items c.push_reserved.new.self.items l.left l.count unit l.invariant.below c.loop-left-test.true is c.push_reserved.ensures.items ∙ l.invariant.text;
      room = omega (arith, there, l.invariant.room, c.push_reserved.ensures.len, c.push_reserved.ensures.capacity);
    }

pub returns : goal.returns
returns c =
    let l = c.loop-left in
    sym (append-nil l.out.items) ∙ ap (λ (x : List ℕ). l.out.items ++ x) (sym (places_below-none l.count l.left (omega (arith, c.loop-left-test.false)))) ∙ l.invariant.text
