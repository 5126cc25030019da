-- Intervals are what their ends are.
use Rattle.std.proofs.Common.{◌≡◌, List, [], ◌∷◌, ℤ, ◌≤ℤ◌, subst, ap}
use Rattle.std.specs.List.{AllZip}
use Rattle.std.proofs.Math.Dec.{T_prop}
use Rattle.flk_num.specs.declared.interval.Interval.{Interval}
use Rattle.flk_num.specs.Interval.{lows, highs}

abbrev made : (lo hi : ℤ) → lo ≤ℤ hi → Interval
made lo hi ordered = record { lo = lo; hi = hi; ordered = ordered }

order_prop : (lo hi : ℤ) → IsProp (lo ≤ℤ hi)
order_prop lo hi = hlevel (T_prop)

made_same : (a b c d : ℤ) (p : a ≤ℤ b) (q : c ≤ℤ d) → a ≡ c → b ≡ d → made a b p ≡ made c d q
made_same a b c d p q low high =
    let here : (r : a ≤ℤ b) → made a b p ≡ made a b r = λ r. ap (λ s. made a b s) (order_prop a b p r) in
    let top : (r : a ≤ℤ d) → made a b p ≡ made a d r = subst (λ (z : ℤ). (r : a ≤ℤ z) → made a b p ≡ made a z r) high here in
    subst (λ (z : ℤ). (r : z ≤ℤ d) → made a b p ≡ made z d r) low top q

pub same_ends : (v w : Interval) → v.lo ≡ w.lo → v.hi ≡ w.hi → v ≡ w
same_ends v w low high = made_same v.lo v.hi w.lo w.hi v.ordered w.ordered low high

pub ends_ordered : (vs : List Interval) → AllZip ◌≤ℤ◌ (lows vs) (highs vs)
ends_ordered [] = tt
ends_ordered (v ∷ vs) = (v.ordered, ends_ordered vs)
