-- Flags: what the extremes of a window tell, and that flags stay as the half-periods go on.
use Rattle.std.proofs.Common.{◌≡◌, ℕ, ◌+◌, ◌-◌, ◌<◌, ◌≤◌, List, [], ◌∷◌, ◌++◌, length, take, drop, get_or, ℤ, pos, ◌-ℤ◌, ◌<ℤ◌, ◌≤ℤ◌, refl, sym, ap, ◌∙◌, arith, length-append, length-drop, ⊎_elim}
use Rattle.std.specs.Prelude.{◌↔◌}
use Rattle.std.proofs.lemmas.Int.{ints, by_lt_z}
use Rattle.std.proofs.lemmas.Bool.{cases_lt}
use Rattle.std.proofs.lemmas.List.{take_all, get_or_append_left, get_or_push, length-map}
use Rattle.std.proofs.lemmas.List.Elements.{All-contains}
use Rattle.circular_buffer.specs.Buffer.{keep_last}
use Rattle.flk_exact.specs.Extreme.{IsLeast, IsGreatest}
use Rattle.flk_exact.proofs.ExtremeLemmas.{least_exists, greatest_exists}
use Rattle.flk_exact.proofs.ListLemmas.{slice_range-append}
use Rattle.flk_num.specs.declared.interval.Interval.{Interval}
use Rattle.flk_change.specs.declared.flag.Flag.{Flag}
use Rattle.flk_change.specs.declared.flag.Flag.TheVariants.{Early, Sure, Not, Doubtful}
use Rattle.flk_change.specs.declared.extremes.Extremes.{Extremes}
use Rattle.flk_num.specs.Interval.{lows, highs}
use Rattle.flk_change.specs.Steady.{window_at, AreSurelyClose, AreSurelyApart, IsFlag, AreFlags}
use Rattle.flk_change.specs.Extremes.{AreExtremes, IsFlagOfExtremes}
use Rattle.flk_change.proofs.LevelLemmas.{length-window_at}
use Rattle.flk_change.proofs.ExtremeLemmas.{low_there, high_there, low_owner, high_owner}

-- ---- a whole window

-- certainty by the ends
pub close_by_ends : (halves : List Interval) (g l : ℤ) → IsGreatest (highs halves) g → IsLeast (lows halves) l → AreSurelyClose halves ↔ ((g -ℤ l) ≤ℤ pos 4000000)
close_by_ends halves g l high low = (
  (λ close.
      let v = high_owner halves g high.among in
      let w = low_owner halves l low.among in
      omega (arith, ints, close v.0 w.0 v.1 w.1, v.2, w.2)),
  (λ small v w there other.
      omega (arith, ints, small, All-contains (λ x. x ≤ℤ g) (highs halves) v.hi high.at_least (high_there halves v there), All-contains (λ x. l ≤ℤ x) (lows halves) w.lo low.at_most (low_there halves w other))),
)

pub apart_by_ends : (halves : List Interval) (g l : ℤ) → IsGreatest (lows halves) g → IsLeast (highs halves) l → AreSurelyApart halves ↔ (pos 4000000 <ℤ (g -ℤ l))
apart_by_ends halves g l low high = (
  (λ (v, w, there, other, apart).
      omega (arith, ints, apart, All-contains (λ x. x ≤ℤ g) (lows halves) v.lo low.at_least (low_there halves v there), All-contains (λ x. l ≤ℤ x) (highs halves) w.hi high.at_most (high_there halves w other))),
  (λ large.
      let v = low_owner halves g low.among in
      let w = high_owner halves l high.among in
      (v.0, w.0, v.1, w.1, omega (arith, ints, large, v.2, w.2))),
)

pub flag_of_extremes : (window : ℕ) (halves : List Interval) (j : ℕ) (e : Extremes) (f : Flag) → window ≤ j → AreExtremes (window_at window halves j) e → IsFlagOfExtremes e f → IsFlag window halves j f
flag_of_extremes window halves j e Early whole h is = absurd is
flag_of_extremes window halves j e Sure whole h is = (whole, (close_by_ends (window_at window halves j) e.greatest_high e.least_low h.greatest_high h.least_low).1 is)
flag_of_extremes window halves j e Not whole h is = (whole, (apart_by_ends (window_at window halves j) e.greatest_low e.least_high h.greatest_low h.least_high).1 is)
flag_of_extremes window halves j e Doubtful whole h is = (
  whole,
  (λ close. absurd (omega (arith, ints, is.0, (close_by_ends (window_at window halves j) e.greatest_high e.least_low h.greatest_high h.least_low).0 close))),
  (λ apart. absurd (omega (arith, ints, is.1, (apart_by_ends (window_at window halves j) e.greatest_low e.least_high h.greatest_low h.least_high).0 apart))),
)

-- ---- a window has one flag

surely_both : (halves : List Interval) → AreSurelyClose halves → ¬ AreSurelyApart halves
surely_both halves close (v, w, there, other, apart) = absurd (omega (arith, ints, close v w there other, apart, v.ordered, w.ordered))

pub flag_unique : (window : ℕ) (halves : List Interval) (j : ℕ) (p q : Flag) → IsFlag window halves j p → IsFlag window halves j q → p ≡ q
flag_unique window halves j Early Early h k = refl
flag_unique window halves j Early Sure h k = absurd (omega (arith, h, k.0))
flag_unique window halves j Early Not h k = absurd (omega (arith, h, k.0))
flag_unique window halves j Early Doubtful h k = absurd (omega (arith, h, k.0))
flag_unique window halves j Sure Early h k = absurd (omega (arith, k, h.0))
flag_unique window halves j Sure Sure h k = refl
flag_unique window halves j Sure Not h k = absurd (surely_both (window_at window halves j) h.1 k.1)
flag_unique window halves j Sure Doubtful h k = absurd (k.1 h.1)
flag_unique window halves j Not Early h k = absurd (omega (arith, k, h.0))
flag_unique window halves j Not Sure h k = absurd (surely_both (window_at window halves j) k.1 h.1)
flag_unique window halves j Not Not h k = refl
flag_unique window halves j Not Doubtful h k = absurd (k.2 h.1)
flag_unique window halves j Doubtful Early h k = absurd (omega (arith, k, h.0))
flag_unique window halves j Doubtful Sure h k = absurd (h.1 k.1)
flag_unique window halves j Doubtful Not h k = absurd (h.2 k.1)
flag_unique window halves j Doubtful Doubtful h k = refl

pub flag_exists : (window : ℕ) (halves : List Interval) (j : ℕ) → 0 < window → j ≤ length halves → (f : Flag) × IsFlag window halves j f
flag_exists window halves j some there =
    ⊎_elim
    (λ early. (Early, early))
    (λ whole.
    let part = window_at window halves j in
    let full = length-window_at window j halves whole there in
    let lows_some : 0 < length (lows part) = omega (arith, full, length-map part (λ (h : Interval). h.lo)) in
    let highs_some : 0 < length (highs part) = omega (arith, full, length-map part (λ (h : Interval). h.hi)) in
    let gh = greatest_exists (highs part) highs_some in
    let ll = least_exists (lows part) lows_some in
    let gl = greatest_exists (lows part) lows_some in
    let lh = least_exists (highs part) highs_some in
    let close = close_by_ends part gh.0 ll.0 gh.1 ll.1 in
    let apart = apart_by_ends part gl.0 lh.0 gl.1 lh.1 in
    by_lt_z (pos 4000000) (gh.0 -ℤ ll.0)
    (λ large. by_lt_z (pos 4000000) (gl.0 -ℤ lh.0)
    (λ far. (Not, (whole, apart.1 far)))
    (λ near. (Doubtful, (whole, (λ c. absurd (omega (arith, ints, large, close.0 c))), (λ a. absurd (omega (arith, ints, near, apart.0 a)))))))
    (λ small. (Sure, (whole, close.1 small))))
    (cases_lt j window)

-- ---- the newest half-periods

pub newest_window : {A : Type 0} (window j : ℕ) (xs : List A) → j ≡ length xs → window_at window xs j ≡ keep_last window xs
newest_window window j xs e =
    let whole : take (j - (j - window)) (drop (j - window) xs) ≡ drop (j - window) xs = take_all (j - (j - window)) (drop (j - window) xs) (omega (arith, length-drop (j - window) xs)) in
    whole ∙ ap (λ (k : ℕ). drop (k - window) xs) e

-- ---- one more half-period

window-append : (window j : ℕ) (xs ys : List Interval) → j ≤ length xs → window_at window (xs ++ ys) j ≡ window_at window xs j
window-append window j xs ys within = slice_range-append (j - window) j xs ys within

pub flag-append : (window : ℕ) (halves more : List Interval) (j : ℕ) (f : Flag) → j ≤ length halves → IsFlag window halves j f → IsFlag window (halves ++ more) j f
flag-append window halves more j Early within h = h
flag-append window halves more j Sure within h = (h.0, rw (window-append window j halves more within) h.1)
flag-append window halves more j Not within h = (h.0, rw (window-append window j halves more within) h.1)
flag-append window halves more j Doubtful within h = (h.0, rw (window-append window j halves more within) h.1, rw (window-append window j halves more within) h.2)

pub flags_none : (window : ℕ) → AreFlags window [] []
flags_none window = record { same_length = refl; each = λ i there. absurd (omega arith) }

-- with the next half-period comes the next flag
pub flags_push : (window : ℕ) (halves : List Interval) (flags : List Flag) (half : Interval) (f : Flag) → AreFlags window halves flags → IsFlag window (halves ++ half ∷ []) (length halves + 1) f
    → AreFlags window (halves ++ half ∷ []) (flags ++ f ∷ [])
flags_push window halves flags half f h new = record {
  same_length = omega (arith, h.same_length, length-append halves (half ∷ []), length-append flags (f ∷ []));
  each = λ i there.
      ⊎_elim
      (λ before. rw (get_or_append_left flags (f ∷ []) Early i before) (flag-append window halves (half ∷ []) (i + 1) (get_or flags i Early) (omega (arith, h.same_length)) (h.each i before)))
      (λ last. let at : i ≡ length flags = omega (arith, length-append flags (f ∷ [])) in
      let here : get_or (flags ++ f ∷ []) i Early ≡ f = get_or_push flags f Early i (sym at) in
      let count : i + 1 ≡ length halves + 1 = omega (arith, h.same_length) in
      rw (here, count) new)
      (cases_lt i (length flags));
}
