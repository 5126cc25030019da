use Rattle.std.proofs.Common.{arith, refl, sym, subst, ◌≡◌, ◌∙◌, ◌+◌, ◌<◌, ℕ, List, cond, get_or, length, length-set, take}
use Rattle.std.proofs.lemmas.List.Sums.{sum_by-take-le}
use Rattle.flk_num.specs.declared.interval.Interval.{Interval}
use Rattle.flk_change.specs.declared.flag.Flag.{Flag}
use Rattle.flk_change.specs.declared.flag.Flag.TheVariants.{Early}
use Rattle.flk_change.specs.declared.pass.Pass.{Pass}
use Rattle.flk_num.specs.Interval.{lows, highs}
use Rattle.flk_change.specs.Changes.{Dc, Dmax, Tmax}
use Rattle.flk_change.specs.Resolutions.{is_doubtful}
use Rattle.flk_change.specs.Pass.{HavePassed}
use Rattle.flk_change.proofs.SumLemmas.{window_start}
use Rattle.flk_change.proofs.PassesLemmas.{passes_start, passes_more, passes_same, may_take, few_kept, few_more}
use Rattle.flk_change.proofs.HullLemmas.{hull_of}
use Rattle.flk_change.proofs.resolve.resolved.Goals as goal
use Rattle.flk_change.proofs.resolve.resolved.Goals.{in-Some, in_default}

-- the passes through all half-periods
done : (window : ℕ) (halves : List Interval) (flags : List Flag) (n : ℕ) (passes : List Pass) → n ≡ length halves → HavePassed window halves flags n passes → HavePassed window halves flags (length halves) passes
done window halves flags n passes all h = subst (λ (k : ℕ). HavePassed window halves flags k passes) all h

pub loop-i-init : goal.loop-i-init
loop-i-init c = record {
  sums = record { low = sym (window_start c.args.window (lows c.args.halves.now)); high = sym (window_start c.args.window (highs c.args.halves.now)) };
  long = refl;
  some = omega arith;
  few = omega arith;
  passed = passes_start c.args.window c.args.halves.now c.args.flags.now _ refl refl refl (refl, refl, refl, refl, refl, refl);
}

pub bounds-passes-kept : goal.bounds-passes-kept
bounds-passes-kept c =
    let flags = c.args.flags.now in
    let n = c.loop-i.i in
    let there : n < length flags = omega (arith, c.requires.flags.same_length, c.loop-i-test.true) in
    let kept = few_kept flags n c.loop-i.count c.in-Some.kept (get_or flags n Early) there refl c.in-Some.ensures c.loop-i.invariant.few in
    omega (arith, kept, c.requires.most, sum_by-take-le (λ g. cond {A = ℕ} (is_doubtful g) 1 0) flags (n + 1))

pub loop-i-preserved : goal.loop-i-preserved
loop-i-preserved c =
    let window = c.args.window in
    let halves = c.args.halves.now in
    let flags = c.args.flags.now in
    let n = c.loop-i.i in
    let count = c.loop-i.count in
    let passes = c.loop-i.passes in
    let before = c.loop-i.invariant in
    let f = get_or flags n Early in
    let there : n < length flags = omega (arith, c.requires.flags.same_length, c.loop-i-test.true) in
    record {
      sums = c.slid-sums.ensures;
      long = elim c.match-kept.branch [
        | in-Some w ↦ rw w.passes-is (length-set passes w.in-Some.kept w.met.result ∙ before.long)
        | in_default w ↦ rw w.passes-is before.long
      ];
      some = elim c.match-kept.branch [
        | in-Some w ↦ omega (arith, w.count-is)
        | in_default w ↦ omega (arith, w.count-is, before.some)
      ];
      few = elim c.match-kept.branch [
        | in-Some w ↦ omega (arith, w.count-is, few_kept flags n count w.in-Some.kept f there refl w.in-Some.ensures before.few)
        | in_default w ↦ omega (arith, w.count-is, before.few, few_more flags n)
      ];
      passed = elim c.match-kept.branch [
        | in-Some w ↦ (
            let few = few_kept flags n count w.in-Some.kept f there refl w.in-Some.ensures before.few in
            let room : w.in-Some.kept < length passes = omega (arith, before.long, few, c.requires.most, sum_by-take-le (λ g. cond {A = ℕ} (is_doubtful g) 1 0) flags (n + 1)) in
            let new = w.met.ensures.passed flags (may_take flags n count w.in-Some.kept f there refl w.in-Some.ensures) before.passed in
            rw (w.passes-is, w.count-is) (passes_more window halves flags n passes count w.in-Some.kept f w.met.result there refl w.in-Some.ensures room w.met.ensures.last before.passed new))
        | in_default w ↦ rw (w.passes-is, w.count-is) (passes_same window halves flags n (take count passes) count f there refl w.in_default.ensures before.passed)
      ];
    }

pub returns-clause-dc : goal.returns-clause-dc
returns-clause-dc c = hull_of Dc c.args.window c.args.halves.now c.args.flags.now c.ended.result c.requires.some (c.ended.ensures c.args.window c.args.flags.now (done c.args.window c.args.halves.now c.args.flags.now c.loop-i.i _ (omega arith) c.loop-i.invariant.passed))

pub returns-clause-dmax : goal.returns-clause-dmax
returns-clause-dmax c = hull_of Dmax c.args.window c.args.halves.now c.args.flags.now c.ended.result c.requires.some (c.ended.ensures c.args.window c.args.flags.now (done c.args.window c.args.halves.now c.args.flags.now c.loop-i.i _ (omega arith) c.loop-i.invariant.passed))

pub returns-clause-t : goal.returns-clause-t
returns-clause-t c = hull_of Tmax c.args.window c.args.halves.now c.args.flags.now c.ended.result c.requires.some (c.ended.ensures c.args.window c.args.flags.now (done c.args.window c.args.halves.now c.args.flags.now c.loop-i.i _ (omega arith) c.loop-i.invariant.passed))
