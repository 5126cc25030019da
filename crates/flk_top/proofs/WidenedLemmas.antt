-- What one more interval does to the extreme intervals of a list.
use Rattle.std.proofs.Common.{◌≡◌, [], ◌∷◌, Some}
use Rattle.std.specs.Int.{int_min, int_max}
use Rattle.std.proofs.lemmas.List.{map-append}
use Rattle.flk_exact.proofs.ExtremeLemmas.{IsLeast-min, IsGreatest-max}
use Rattle.flk_num.specs.declared.interval.Interval.{Interval}
use Rattle.flk_top.specs.Levels.{Widens}
use Rattle.flk_top.specs.declared.measure.Extremes.{Extremes}

pub Widens-some : (old : Extremes) (v : Interval) (new : Extremes) → new.least.lo ≡ int_min old.least.lo v.lo → new.least.hi ≡ int_min old.least.hi v.hi
    → new.greatest.lo ≡ int_max old.greatest.lo v.lo → new.greatest.hi ≡ int_max old.greatest.hi v.hi → Widens (Some old) v new
Widens-some old v new a b c d hs are =
    let lows = map-append (λ (h : Interval). h.lo) hs (v ∷ []) in
    let highs = map-append (λ (h : Interval). h.hi) hs (v ∷ []) in
    record {
      least_is = record { low = rw lows (IsLeast-min _ _ _ _ a are.least_is.low); high = rw highs (IsLeast-min _ _ _ _ b are.least_is.high) };
      greatest_is = record { low = rw lows (IsGreatest-max _ _ _ _ c are.greatest_is.low); high = rw highs (IsGreatest-max _ _ _ _ d are.greatest_is.high) };
    }
