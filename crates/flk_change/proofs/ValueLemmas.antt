-- Exact values within the half-periods' intervals: how they follow the ends, and what flags say of their windows.
use Rattle.std.proofs.Common.{◌≡◌, ◌⊎◌, inl, inr, ℕ, ◌+◌, ◌-◌, ◌<◌, ◌≤◌, Bool, true, false, List, [], ◌∷◌, length, get_or, ℤ, pos, ◌+ℤ◌, ◌-ℤ◌, ◌≤ℤ◌, refl, arith, drop, ⊎_elim}
use Rattle.std.specs.List.{All, AllZip, Contains}
use Rattle.std.proofs.lemmas.Int.{ints, by_lt_z}
use Rattle.std.proofs.lemmas.Bool.{cases_lt}
use Rattle.std.proofs.lemmas.List.Elements.{All-contains, All-take, All-drop, Contains-get_or}
use Rattle.flk_exact.specs.Rounding.{IsBetween}
use Rattle.flk_exact.proofs.ListLemmas.{AllZip-length, AllZip-get_or, AllZip-slice_range}
use Rattle.flk_exact.proofs.ExtremeLemmas.{least_exists, greatest_exists, least_unique, greatest_unique}
use Rattle.flk_num.specs.declared.interval.Interval.{Interval}
use Rattle.flk_change.specs.declared.flag.Flag.{Flag}
use Rattle.flk_change.specs.declared.flag.Flag.TheVariants.{Early, Sure, Not, Doubtful}
use Rattle.flk_num.specs.Interval.{lows, highs}
use Rattle.flk_num.specs.Values.{HoldValues, IsNoWider}
use Rattle.flk_change.specs.Steady.{window_at, IsSteady, IsSpread, IsFlag}
use Rattle.flk_change.specs.Resolutions.{Resolves}
use Rattle.flk_change.proofs.LevelLemmas.{length-window_at}

-- ---- values and ends

pub held_above : (halves : List Interval) (values : List ℤ) → HoldValues halves values → AllZip (λ x y. x ≤ℤ y) (lows halves) values
held_above [] [] h = tt
held_above [] (x ∷ xs) h = absurd h
held_above (v ∷ vs) [] h = absurd h
held_above (v ∷ vs) (x ∷ xs) h = (h.0.above, held_above vs xs h.1)

pub held_below : (halves : List Interval) (values : List ℤ) → HoldValues halves values → AllZip (λ x y. x ≤ℤ y) values (highs halves)
held_below [] [] h = tt
held_below [] (x ∷ xs) h = absurd h
held_below (v ∷ vs) [] h = absurd h
held_below (v ∷ vs) (x ∷ xs) h = (h.0.below, held_below vs xs h.1)

pub lows_are_held : (halves : List Interval) → HoldValues halves (lows halves)
lows_are_held [] = tt
lows_are_held (v ∷ vs) = (record { above = omega (arith, ints); below = v.ordered }, lows_are_held vs)

-- the interval of a value, and a value of an interval
pub holder : (halves : List Interval) (values : List ℤ) (x : ℤ) → HoldValues halves values → Contains values x → (v : Interval) × Contains halves v × IsBetween v.lo v.hi x
holder halves values x held h =
    let d : Interval = record { lo = x; hi = x; ordered = omega (arith, ints) } in
    let there : h.0 < length halves = omega (arith, h.1, AllZip-length (λ v z. IsBetween v.lo v.hi z) halves values held) in
    let at = AllZip-get_or (λ v z. IsBetween v.lo v.hi z) halves values h.0 d x held there in
    (get_or halves h.0 d, Contains-get_or halves h.0 d there, rw h.2 at at)

pub held_by : (halves : List Interval) (values : List ℤ) (v : Interval) → HoldValues halves values → Contains halves v → (x : ℤ) × Contains values x × IsBetween v.lo v.hi x
held_by halves values v held h =
    let there : h.0 < length values = omega (arith, h.1, AllZip-length (λ u z. IsBetween u.lo u.hi z) halves values held) in
    let at = AllZip-get_or (λ u z. IsBetween u.lo u.hi z) halves values h.0 v (pos 0) held h.1 in
    (get_or values h.0 (pos 0), Contains-get_or values h.0 (pos 0) there, rw h.2 at at)

pub window_held : (window j : ℕ) (halves : List Interval) (values : List ℤ) → HoldValues halves values → HoldValues (window_at window halves j) (window_at window values j)
window_held window j halves values held = AllZip-slice_range (λ v z. IsBetween v.lo v.hi z) (j - window) j halves values held

-- ---- spreads

pub spread_exists : (values : List ℤ) → 0 < length values → (spread : ℤ) × IsSpread values spread
spread_exists values some =
    let l = least_exists values some in
    let g = greatest_exists values some in
    (g.0 -ℤ l.0, record { greatest = g.0; least = l.0; is_greatest = g.1; is_least = l.1; is = refl })

pub spread_unique : (values : List ℤ) (p q : ℤ) → IsSpread values p → IsSpread values q → p ≡ q
spread_unique values p q a b =
    omega (arith, ints, a.is, b.is, greatest_unique values a.greatest b.greatest a.is_greatest b.is_greatest, least_unique values a.least b.least a.is_least b.is_least)

pub spread_bounds : (values : List ℤ) (spread x y : ℤ) → IsSpread values spread → Contains values x → Contains values y → (x -ℤ y) ≤ℤ spread
spread_bounds values spread x y h a b =
    omega (arith, ints, h.is, All-contains (λ z. z ≤ℤ h.greatest) values x h.is_greatest.at_least a, All-contains (λ z. h.least ≤ℤ z) values y h.is_least.at_most b)

-- a window is steady, or it isn't
pub cases_steady : (window : ℕ) (values : List ℤ) (j : ℕ) → 0 < window → IsSteady window values j ⊎ ¬ IsSteady window values j
cases_steady window values j some =
    ⊎_elim
    (λ early. inr (λ s. absurd (omega (arith, s.whole))))
    (λ whole.
    ⊎_elim
    (λ beyond. inr (λ s. absurd (omega (arith, s.there))))
    (λ there.
    let part = window_at window values j in
    let spread = spread_exists part (omega (arith, length-window_at window j values whole there)) in
    by_lt_z (pos 4000000) spread.0
    (λ large. inr (λ s.
    let far = s.close spread.1.greatest spread.1.least spread.1.is_greatest.among spread.1.is_least.among in
    absurd (omega (arith, ints, large, far, spread.1.is))))
    (λ small. inl record { whole = whole; there = there; close = λ x y a b. omega (arith, ints, small, spread_bounds part spread.0 x y spread.1 a b) }))
    (cases_lt (length values) j))
    (cases_lt j window)

-- ---- what is true of exact values is what the flag allows

pub sure_is_steady : (window : ℕ) (halves : List Interval) (values : List ℤ) (j : ℕ) → HoldValues halves values → j ≤ length values → IsFlag window halves j Sure → IsSteady window values j
sure_is_steady window halves values j held there f = record {
  whole = f.0;
  there = there;
  close = λ x y a b.
      let part = window_held window j halves values held in
      let v = holder (window_at window halves j) (window_at window values j) x part a in
      let w = holder (window_at window halves j) (window_at window values j) y part b in
      omega (arith, ints, f.1 v.0 w.0 v.1 w.1, v.2.below, w.2.above);
}

pub not_is_not_steady : (window : ℕ) (halves : List Interval) (values : List ℤ) (j : ℕ) → HoldValues halves values → IsFlag window halves j Not → ¬ IsSteady window values j
not_is_not_steady window halves values j held f s =
    let part = window_held window j halves values held in
    let apart = f.1 in
    let x = held_by (window_at window halves j) (window_at window values j) apart.0 part apart.2 in
    let y = held_by (window_at window halves j) (window_at window values j) apart.1 part apart.3 in
    absurd (omega (arith, ints, apart.4, s.close x.0 y.0 x.1 y.1, x.2.above, y.2.below))

pub early_is_not_steady : (window : ℕ) (halves : List Interval) (values : List ℤ) (j : ℕ) → IsFlag window halves j Early → ¬ IsSteady window values j
early_is_not_steady window halves values j f s = absurd (omega (arith, f, s.whole))

pub flag_allows : (window : ℕ) (halves : List Interval) (values : List ℤ) (j : ℕ) (f : Flag) (steady : Bool) → HoldValues halves values → j ≤ length values
    → IsFlag window halves j f → (steady ≡ true → IsSteady window values j) → (IsSteady window values j → steady ≡ true) → Resolves f steady
flag_allows window halves values j Early true held there f to from = absurd (early_is_not_steady window halves values j f (to refl))
flag_allows window halves values j Early false held there f to from = refl
flag_allows window halves values j Sure steady held there f to from = from (sure_is_steady window halves values j held there f)
flag_allows window halves values j Not true held there f to from = absurd (not_is_not_steady window halves values j held f (to refl))
flag_allows window halves values j Not false held there f to from = refl
flag_allows window halves values j Doubtful steady held there f to from = tt

-- ---- a Doubtful window is near the limit

window_narrow : (window j width : ℕ) (halves : List Interval) → All (IsNoWider width) halves → All (IsNoWider width) (window_at window halves j)
window_narrow window j width halves narrow = All-take (IsNoWider width) (j - (j - window)) (drop (j - window) halves) (All-drop (IsNoWider width) (j - window) halves narrow)

pub doubtful_is_near : (window j width : ℕ) (halves : List Interval) (values : List ℤ) (spread : ℤ) → All (IsNoWider width) halves → HoldValues halves values → IsFlag window halves j Doubtful → IsSpread (window_at window values j) spread
    → IsBetween (pos 4000000 -ℤ pos (width + width)) (pos 4000000 +ℤ pos (width + width)) spread
doubtful_is_near window j width halves values spread narrow held f s =
    let hs = window_at window halves j in
    let vs = window_at window values j in
    let part = window_held window j halves values held in
    let thin = window_narrow window j width halves narrow in
    record {
      above = by_lt_z spread (pos 4000000 -ℤ pos (width + width))
          (λ small. absurd (f.1 (λ v w a b.
          let x = held_by hs vs v part a in
          let y = held_by hs vs w part b in
          let nv = All-contains (IsNoWider width) hs v thin a in
          let nw = All-contains (IsNoWider width) hs w thin b in
          omega (arith, ints, small, nv.within, nw.within, x.2.above, y.2.below, spread_bounds vs spread x.0 y.0 s x.1 y.1))))
          (λ most. most);
      below = by_lt_z (pos 4000000 +ℤ pos (width + width)) spread
          (λ large.
          let v = holder hs vs s.greatest part s.is_greatest.among in
          let w = holder hs vs s.least part s.is_least.among in
          let nv = All-contains (IsNoWider width) hs v.0 thin v.1 in
          let nw = All-contains (IsNoWider width) hs w.0 thin w.1 in
          absurd (f.2 (v.0, w.0, v.1, w.1, omega (arith, ints, large, s.is, nv.within, nw.within, v.2.below, w.2.above))))
          (λ most. most);
    }
