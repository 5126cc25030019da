-- Without doubt the changes of a result are narrow.
use Rattle.std.proofs.Common.{◌≡◌, ℕ, ◌+◌, ◌^◌, ◌<◌, Bool, List, length, sym, ap, subst, ◌∙◌, arith}
use Rattle.std.specs.List.{All}
use Rattle.std.proofs.lemmas.Int.{ints}
use Rattle.flk_num.specs.declared.interval.Interval.{Interval}
use Rattle.flk_num.specs.Values.{IsNoWider}
use Rattle.flk_change.specs.declared.flag.Flag.{Flag}
use Rattle.flk_change.specs.Changes.{Quantity, IsQuantity}
use Rattle.flk_change.specs.Resolutions.{AreResolved, IsTaken, doubtful_count, least_readings, IsHull, KeepsQuantityWidth}
use Rattle.flk_change.proofs.ResolutionLemmas.{one_resolution}
use Rattle.flk_change.proofs.QuantityLemmas.{quantity_unique}

pub settled_hull : (q : Quantity) (window : ℕ) (halves : List Interval) (flags : List Flag) (v : Interval) (width : ℕ) → doubtful_count flags ≡ 0 → KeepsQuantityWidth q window halves flags
    → All (IsNoWider width) halves → IsHull q window halves flags v → IsNoWider (width + width) v
settled_hull q window halves flags v width none keeps narrow hull =
    let low = hull.low_reached in
    let high = hull.high_reached in
    let n = length halves in
    let least = least_readings window halves in
    let same = one_resolution flags low.0 high.0 none low.2 high.2 in
    let there : IsQuantity q window n (IsTaken high.0) least v.lo = subst (λ (rs : List Bool). IsQuantity q window n (IsTaken rs) least v.lo) same low.3.low in
    let equal : high.1 ≡ v.lo = quantity_unique q (IsTaken high.0) window n least high.1 v.lo high.3.low there in
    let within = keeps width high.0 high.1 v.hi narrow high.2 high.3 in
    record { within = omega (arith, ints, within, equal) }
