use Rattle.std.proofs.Common.{◌≡◌, ◌+◌, ◌<◌, ◌≤◌, ◌^◌, ◌++◌, vec_len}
use Rattle.std.specs.Prelude.{vec_capacity}
use Rattle.flk_text.specs.PlainText.{places_below}
use Rattle.flk_text.proofs.plain_text.push_places.Given as goal

abbrev pub invariant-loop-left : goal.invariant-loop-left
invariant-loop-left l = record {
  few : l.count ≤ 24;
  below : l.left < 10 ^ l.count;
  text : l.out.items ++ places_below l.count l.left ≡ l.fn.out.items ++ places_below l.places l.fraction;
  room : vec_len l.out + l.count ≤ vec_capacity l.out;
}

abbrev pub decreases-loop-left : goal.decreases-loop-left
decreases-loop-left l = l.count
