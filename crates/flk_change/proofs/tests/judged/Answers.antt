use Rattle.std.proofs.Common.{arith, ◌≡◌, ◌+◌, ◌++◌, ◌∷◌, [], List, take, sym, ap, ◌∙◌, subst}
use Rattle.std.specs.List.{All}
use Rattle.std.proofs.lemmas.Int.{ints}
use Rattle.std.proofs.lemmas.List.{take_more, take_all}
use Rattle.std.proofs.lemmas.List.Elements.{All-nil, All-push}
use Rattle.flk_num.specs.declared.interval.Interval.{Interval}
use Rattle.flk_num.specs.Values.{IsHalfPeriodRange}
use Rattle.flk_change.specs.Steady.{AreFlags}
use Rattle.flk_change.proofs.FlagLemmas.{flags_none}
use Rattle.flk_change.proofs.tests.judged.Goals as goal

pub loop-half-init : goal.loop-half-init
loop-half-init c = record {
  taken = c.in_ok-steady.ensures.taken;
  stands = c.in_ok-steady.ensures.stands;
  flags = rw c.new-flags.ensures.items (flags_none c.args.window);
  range = All-nil IsHalfPeriodRange;
}

pub loop-half-preserved : goal.loop-half-preserved
loop-half-preserved c =
    let window = c.args.window in
    let halves = c.args.halves.now in
    let i = c.loop-half.half-index in
    let v = c.half-item.result in
    let front = take i halves in
    let more : take (i + 1) halves ≡ front ++ v ∷ [] = take_more halves i v c.loop-half-test.true ∙ ap (λ (u : Interval). front ++ u ∷ []) (sym c.half-item.is) in
    let inv = c.loop-half.invariant in
    record {
      taken = omega (arith, c.push.ensures.taken, inv.taken);
      stands = rw more (c.push.ensures.stands window front inv.stands);
      flags = rw (more, c.in_ok-push.ensures.items) (c.push.ensures.flags window front c.loop-half.flags.items inv.stands inv.flags);
      range = rw more (All-push IsHalfPeriodRange front v inv.range (record { low = omega (arith, ints, c.if-half-lt0.false); high = omega (arith, ints, c.if-half-gt10000000000.false) }));
    }

pub changes-requires-clause-in_range : goal.changes-requires-clause-in_range
changes-requires-clause-in_range c =
    let whole = take_all c.loop-half.half-index c.args.halves.now c.loop-half-test.false in
    subst (All IsHalfPeriodRange) whole c.loop-half.invariant.range

pub changes-requires-clause-flags : goal.changes-requires-clause-flags
changes-requires-clause-flags c =
    let whole = take_all c.loop-half.half-index c.args.halves.now c.loop-half-test.false in
    rw c.deref.ensures.value (subst (λ (hs : List Interval). AreFlags c.args.window hs c.loop-half.flags.items) whole c.loop-half.invariant.flags)
