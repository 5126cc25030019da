-- How wide the quantities of one resolution are.
use Rattle.std.proofs.Common.{◌≡◌, ℕ, zero, suc, ◌+◌, ◌<◌, ◌≤◌, Bool, true, false, List, [], ◌∷◌, length, get_or, ℤ, pos, ◌+ℤ◌, ◌≤ℤ◌, refl, sym, ◌∙◌, subst, arith, ⊎_elim}
use Rattle.std.specs.List.{All, AllZip}
use Rattle.std.proofs.lemmas.Int.{ints}
use Rattle.std.proofs.lemmas.Bool.{cases_lt, false≢true}
use Rattle.std.proofs.lemmas.List.{length-map, get_or_past}
use Rattle.std.proofs.lemmas.List.Elements.{All-head, All-tail}
use Rattle.flk_exact.proofs.ListLemmas.{AllZip-length, AllZip-get_or}
use Rattle.flk_num.specs.declared.interval.Interval.{Interval}
use Rattle.flk_change.specs.declared.flag.Flag.{Flag}
use Rattle.flk_change.specs.declared.flag.Flag.TheVariants.{Early, Sure, Not, Doubtful}
use Rattle.flk_num.specs.Interval.{lows, highs}
use Rattle.flk_num.specs.Values.{IsNoWider}
use Rattle.flk_change.specs.Steady.{IsFlag, AreFlags}
use Rattle.flk_change.specs.Changes.{Change, between, after, whole, IsChange, first, stop, level, before, excesses, Dc, Dmax, Tmax, Gives}
use Rattle.flk_change.specs.Resolutions.{Resolves, AreResolved, IsTaken, KeepsQuantityWidth, KeepsCount, KeepsSwings, AreNearLimit, least_readings, greatest_readings}
use Rattle.flk_change.proofs.GreatestLemmas.{greatest_within}
use Rattle.flk_change.proofs.SwingLemmas.{distance_width, excesses_cover}
use Rattle.flk_change.proofs.LevelLemmas.{level-wider}
use Rattle.flk_change.proofs.QuantityLemmas.{Follows, dc_follows, dmax_follows}
use Rattle.flk_change.proofs.ValueLemmas.{doubtful_is_near}

-- upper ends are at most the width above the lower ones
pub ends_narrow : (width : ℕ) (halves : List Interval) → All (IsNoWider width) halves → AllZip (λ x y. y ≤ℤ (x +ℤ pos width)) (lows halves) (highs halves)
ends_narrow width [] narrow = tt
ends_narrow width (h ∷ hs) narrow = ((All-head (IsNoWider width) h hs narrow).within, ends_narrow width hs (All-tail (IsNoWider width) h hs narrow))

-- a window that is taken as steady is whole, and one of the half-periods'
resolved_whole : (window : ℕ) (halves : List Interval) (j : ℕ) (f : Flag) → IsFlag window halves j f → Resolves f true → window ≤ j
resolved_whole window halves j Early h r = absurd (false≢true (sym r))
resolved_whole window halves j Sure h r = h.0
resolved_whole window halves j Not h r = absurd (false≢true (sym r))
resolved_whole window halves j Doubtful h r = h.0

pub taken_window : (window : ℕ) (halves : List Interval) (flags : List Flag) (resolution : List Bool) (j : ℕ) → AreFlags window halves flags → AreResolved flags resolution → IsTaken resolution j → (window ≤ j) × (j ≤ length halves)
taken_window window halves flags resolution zero are is t = absurd (false≢true t)
taken_window window halves flags resolution (suc i) are is t =
    ⊎_elim
    (λ there.
    let flag = AllZip-get_or Resolves flags resolution i Early false is there in
    let whole = resolved_whole window halves (i + 1) (get_or flags i Early) (are.each i there) (subst (Resolves (get_or flags i Early)) t flag) in
    (omega (arith, whole), omega (arith, are.same_length)))
    (λ past.
    let none : get_or resolution i false ≡ false = get_or_past resolution i false (omega (arith, past, AllZip-length Resolves flags resolution is)) in
    absurd (false≢true (sym none ∙ t)))
    (cases_lt i (length flags))

before_wider : (steady : ℕ → Type 0) (window n width : ℕ) (xs ys : List ℤ) (c : Change) → 0 < window → ((j : ℕ) → steady j → (window ≤ j) × (j ≤ length xs)) → AllZip (λ x y. y ≤ℤ (x +ℤ pos width)) xs ys → IsChange steady n c
    → before window ys c ≤ℤ (before window xs c +ℤ pos width)
before_wider steady window n width xs ys (between j k) some fits z is = level-wider window width xs ys j some (fits j is.0).0 (fits j is.0).1 z
before_wider steady window n width xs ys (after j) some fits z is = level-wider window width xs ys j some (fits j is.0).0 (fits j is.0).1 z
before_wider steady window n width xs ys whole some fits z is = omega (arith, ints)

readings_wider : (window width : ℕ) (halves : List Interval) (flags : List Flag) (resolution : List Bool) → 0 < window → All (IsNoWider width) halves → AreFlags window halves flags → AreResolved flags resolution
    → Follows (IsTaken resolution) (length halves) (pos (width + width)) (greatest_readings window halves) (least_readings window halves)
readings_wider window width halves flags resolution some narrow are is =
    let low = lows halves in
    let high = highs halves in
    let z = ends_narrow width halves narrow in
    let count : length low ≡ length halves = length-map halves (λ (u : Interval). u.lo) in
    let taken : (j : ℕ) → IsTaken resolution j → (window ≤ j) × (j ≤ length low) = λ j t. let w = taken_window window halves flags resolution j are is t in (w.0, omega (arith, w.1, count)) in
    record {
      steps = λ j k c.
          let wj = taken j c.0 in
          let wk = taken k c.1 in
          omega (
            arith,
            ints,
            distance_width (level window low k) (level window high k) (level window low j) (level window high j) (pos width)
                (level-wider window width low high k some wk.0 wk.1 z) (level-wider window width low high j some wj.0 wj.1 z),
          );
      swings = λ c i change there.
          omega (
            arith,
            ints,
            distance_width (get_or low i (pos 0)) (get_or high i (pos 0)) (before window low c) (before window high c) (pos width)
                (AllZip-get_or (λ x y. y ≤ℤ (x +ℤ pos width)) low high i (pos 0) (pos 0) z (omega (arith, there, count)))
                (before_wider (IsTaken resolution) window (length halves) width low high c some taken z change),
          );
    }

pub dc_keeps_width : (window : ℕ) (halves : List Interval) (flags : List Flag) → 0 < window → AreFlags window halves flags → KeepsQuantityWidth Dc window halves flags
dc_keeps_width window halves flags some are = λ width resolution lo hi narrow is runs.
    dc_follows (IsTaken resolution) window (length halves) (pos (width + width)) (greatest_readings window halves) (least_readings window halves) hi lo (omega (arith, ints))
    (readings_wider window width halves flags resolution some narrow are is) runs.high runs.low

pub dmax_keeps_width : (window : ℕ) (halves : List Interval) (flags : List Flag) → 0 < window → AreFlags window halves flags → KeepsQuantityWidth Dmax window halves flags
dmax_keeps_width window halves flags some are = λ width resolution lo hi narrow is runs.
    dmax_follows (IsTaken resolution) window (length halves) (pos (width + width)) (greatest_readings window halves) (least_readings window halves) hi lo (omega (arith, ints))
    (readings_wider window width halves flags resolution some narrow are is) runs.high runs.low

pub t_keeps_count : (window : ℕ) (halves : List Interval) (flags : List Flag) → KeepsCount window halves flags
t_keeps_count window halves flags = λ most resolution lo hi is few runs.
    let st = IsTaken resolution in
    let n = length halves in
    let l = least_readings window halves in
    let g = greatest_readings window halves in
    greatest_within (λ x. (c : Change) × IsChange st n c × Gives Tmax window n g c x) (λ x. (c : Change) × IsChange st n c × Gives Tmax window n l c x) hi lo (pos most) (omega (arith, ints))
    (λ x (c, change, e). (
      pos (excesses (l.swing c) (first c) (stop window n c)),
      (c, change, refl),
      omega (arith, ints, e, few c change, excesses_cover (l.swing c) (g.swing c) (first c) (stop window n c)),
    ))
    runs.high runs.low

pub swings_keep_width : (window : ℕ) (halves : List Interval) (flags : List Flag) → 0 < window → AreFlags window halves flags → KeepsSwings window halves flags
swings_keep_width window halves flags some are = λ width resolution c i narrow is change there.
    (readings_wider window width halves flags resolution some narrow are is).swings c i change there

pub near_limit : (window : ℕ) (halves : List Interval) (flags : List Flag) → AreFlags window halves flags → AreNearLimit window halves flags
near_limit window halves flags are = λ width i values spread narrow there doubtful held is.
    doubtful_is_near window (i + 1) width halves values spread narrow held (subst (IsFlag window halves (i + 1)) doubtful (are.each i there)) is
