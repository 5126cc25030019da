-- The least interval over all resolutions: there is one, and the ends of what the passes tell are its own.
use Rattle.std.proofs.Common.{◌≡◌, inl, inr, ℕ, ◌<◌, Bool, List, length, ℤ, arith}
use Rattle.std.proofs.lemmas.Int.{ints, by_lt_z}
use Rattle.flk_num.specs.declared.interval.Interval.{Interval}
use Rattle.flk_change.specs.declared.flag.Flag.{Flag}
use Rattle.flk_change.specs.declared.outcome.Outcome.{Outcome}
use Rattle.flk_change.specs.Changes.{Change, Quantity, IsChange, Gives}
use Rattle.flk_change.specs.Resolutions.{AreResolved, IsTaken, RunsFrom, IsHull, least_readings, greatest_readings}
use Rattle.flk_change.specs.Pass.{IsFirst, at_most, at_least, interval_in, AreHulls, all_number}
use Rattle.flk_change.proofs.GreatestLemmas.{greatest_unique}
use Rattle.flk_change.proofs.FirstLemmas.{upwards, downwards, first_exists}
use Rattle.flk_change.proofs.EnclosureLemmas.{least_have, greatest_have, least_at_most_greatest}

-- a resolution has one interval
pub runs_low : (q : Quantity) (window : ℕ) (halves : List Interval) (bs : List Bool) (lo hi l h : ℤ) → RunsFrom q window halves bs lo hi → RunsFrom q window halves bs l h → lo ≡ l
runs_low q window halves bs lo hi l h a b =
    greatest_unique (λ x. (c : Change) × IsChange (IsTaken bs) (length halves) c × Gives q window (length halves) (least_readings window halves) c x) lo l a.low b.low

pub runs_high : (q : Quantity) (window : ℕ) (halves : List Interval) (bs : List Bool) (lo hi l h : ℤ) → RunsFrom q window halves bs lo hi → RunsFrom q window halves bs l h → hi ≡ h
runs_high q window halves bs lo hi l h a b =
    greatest_unique (λ x. (c : Change) × IsChange (IsTaken bs) (length halves) c × Gives q window (length halves) (greatest_readings window halves) c x) hi h a.high b.high

-- the least of the lower ends and the greatest of the upper ones
pub hull_of_ends : (q : Quantity) (window : ℕ) (halves : List Interval) (flags : List Flag) (v : Interval) → 0 < window
    → IsFirst at_most (AreResolved flags) (all_number window (length halves) q (least_readings window halves)) v.lo
    → IsFirst at_least (AreResolved flags) (all_number window (length halves) q (greatest_readings window halves)) v.hi → IsHull q window halves flags v
hull_of_ends q window halves flags v some low high =
    let values : List Bool → (z : ℤ) → Type 0 = λ bs x. (c : Change) × IsChange (IsTaken bs) (length halves) c × Gives q window (length halves) (least_readings window halves) c x in
    let above : List Bool → (z : ℤ) → Type 0 = λ bs x. (c : Change) × IsChange (IsTaken bs) (length halves) c × Gives q window (length halves) (greatest_readings window halves) c x in
    record {
      holds = λ bs lo hi is runs.
          let m = low.bounds bs is in
          let k = high.bounds bs is in
          let a : m.0 ≡ lo = greatest_unique (values bs) m.0 lo m.1 runs.low in
          let b : k.0 ≡ hi = greatest_unique (above bs) k.0 hi k.1 runs.high in
          (omega (arith, ints, m.2, a), omega (arith, ints, k.2, b));
      low_reached = (let r = low.reached in let hi = greatest_have q window halves r.0 some in (r.0, hi.0, r.1, record { low = r.2; high = hi.1 }));
      high_reached = (let r = high.reached in let lo = least_have q window halves r.0 some in (r.0, lo.0, r.1, record { low = lo.1; high = r.2 }));
    }

pub hull_of : (q : Quantity) (window : ℕ) (halves : List Interval) (flags : List Flag) (o : Outcome) → 0 < window → AreHulls window halves (AreResolved flags) (all_number window (length halves)) o
    → IsHull q window halves flags (interval_in q o)
hull_of q window halves flags o some h = hull_of_ends q window halves flags (interval_in q o) some (h.low q) (h.high q)

pub hull_exists : (q : Quantity) (window : ℕ) (halves : List Interval) (flags : List Flag) → 0 < window → (v : Interval) × IsHull q window halves flags v
hull_exists q window halves flags some =
    let low = first_exists at_most upwards (λ x y. by_lt_z x y (λ less. inl (omega (arith, ints))) (λ most. inr (omega (arith, ints)))) (λ x. omega (arith, ints)) flags
    (all_number window (length halves) q (least_readings window halves)) (λ bs. least_have q window halves bs some) in
    let high = first_exists at_least downwards (λ x y. by_lt_z x y (λ less. inr (omega (arith, ints))) (λ most. inl (omega (arith, ints)))) (λ x. omega (arith, ints)) flags
    (all_number window (length halves) q (greatest_readings window halves)) (λ bs. greatest_have q window halves bs some) in
    let r = low.1.reached in
    let top = greatest_have q window halves r.0 some in
    let runs : RunsFrom q window halves r.0 low.0 top.0 = record { low = r.2; high = top.1 } in
    let most = high.1.bounds r.0 r.1 in
    let same : most.0 ≡ top.0 = greatest_unique (λ x. (c : Change) × IsChange (IsTaken r.0) (length halves) c × Gives q window (length halves) (greatest_readings window halves) c x) most.0 top.0 most.1 top.1 in
    let v : Interval = record { lo = low.0; hi = high.0; ordered = omega (arith, ints, least_at_most_greatest q window halves r.0 low.0 top.0 some runs, most.2, same) } in
    (v, hull_of_ends q window halves flags v some low.1 high.1)
