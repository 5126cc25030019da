-- The state of `Steady`: what one half-period more does to it.
use Rattle.std.proofs.Common.{◌≡◌, ℕ, ◌+◌, ◌≤◌, List, [], ◌∷◌, ◌++◌, length, map, ℤ, pos, neg_ℤ, ◌-ℤ◌, refl, sym, ◌∙◌, subst, arith, length-append}
use Rattle.std.proofs.lemmas.Int.{ints}
use Rattle.std.proofs.lemmas.List.{map-append}
use Rattle.circular_buffer.specs.Buffer.{keep_last}
use Rattle.flk_num.specs.declared.interval.Interval.{Interval}
use Rattle.flk_change.specs.declared.extreme.Extreme.{Extreme}
use Rattle.flk_change.specs.declared.extremes.Extremes.{Extremes}
use Rattle.flk_change.specs.declared.flag.Flag.{Flag}
use Rattle.flk_change.specs.declared.steady.Steady.{Steady}
use Rattle.flk_change.specs.Extreme.{Stands as ExtremeStands}
use Rattle.flk_change.specs.Extremes.{AreExtremes, IsFlagOfExtremes}
use Rattle.flk_change.specs.Steady.{IsFlag, Stands}
use Rattle.flk_change.proofs.FlagLemmas.{flag_of_extremes, newest_window}

-- one of the four has taken one end more
abbrev pub TakesValue : Extreme → Extreme → ℤ → Type 0
TakesValue old new v = (window : ℕ) (values : List ℤ) → ExtremeStands old window values → ExtremeStands new window (values ++ v ∷ [])

takes_end : (old new : Extreme) (end : Interval → ℤ) (half : Interval) → TakesValue old new (end half) → (window : ℕ) (halves : List Interval)
    → ExtremeStands old window (map end halves) → ExtremeStands new window (map end (halves ++ half ∷ []))
takes_end old new end half takes window halves h =
    rw (map-append end halves (half ∷ [])) (takes window (map end halves) h)

takes_turned : (old new : Extreme) (end : Interval → ℤ) (half : Interval) → TakesValue old new (neg_ℤ (end half)) → (window : ℕ) (halves : List Interval)
    → ExtremeStands old window (map neg_ℤ (map end halves)) → ExtremeStands new window (map neg_ℤ (map end (halves ++ half ∷ [])))
takes_turned old new end half takes window halves h =
    rw (map-append end halves (half ∷ []), map-append neg_ℤ (map end halves) (end half ∷ [])) (takes window (map neg_ℤ (map end halves)) h)

pub same_value : (old new : Extreme) (v x : ℤ) → TakesValue old new v → v ≡ x → TakesValue old new x
same_value old new v x takes is = subst (TakesValue old new) is takes

pub turned : (old new : Extreme) (v x : ℤ) → TakesValue old new v → v ≡ pos 0 -ℤ x → TakesValue old new (neg_ℤ x)
turned old new v x takes is =
    same_value old new v (neg_ℤ x) takes (omega (arith, ints, is))

pub record TakesHalf (s t : Steady) (half : Interval) : Type 0 where
  pub window : t.window ≡ s.window
  pub count : t.count ≡ s.count + 1
  pub least_low : TakesValue s.least_low t.least_low (neg_ℤ half.lo)
  pub greatest_low : TakesValue s.greatest_low t.greatest_low half.lo
  pub least_high : TakesValue s.least_high t.least_high (neg_ℤ half.hi)
  pub greatest_high : TakesValue s.greatest_high t.greatest_high half.hi

pub stands_push : (s t : Steady) (half : Interval) → TakesHalf s t half → (window : ℕ) (halves : List Interval) → Stands s window halves → Stands t window (halves ++ half ∷ [])
stands_push s t half takes window halves h =
    let low : Interval → ℤ = λ v. v.lo in
    let high : Interval → ℤ = λ v. v.hi in
    record {
      same_window = takes.window ∙ h.same_window;
      count = omega (arith, takes.count, h.count, length-append halves (half ∷ []));
      least_low = takes_turned s.least_low t.least_low low half takes.least_low window halves h.least_low;
      greatest_low = takes_end s.greatest_low t.greatest_low low half takes.greatest_low window halves h.greatest_low;
      least_high = takes_turned s.least_high t.least_high high half takes.least_high window halves h.least_high;
      greatest_high = takes_end s.greatest_high t.greatest_high high half takes.greatest_high window halves h.greatest_high;
    }

-- the flag of a whole window
pub late_flag : (window : ℕ) (halves : List Interval) (e : Extremes) (f : Flag) → window ≤ length halves → AreExtremes (keep_last window halves) e → IsFlagOfExtremes e f → IsFlag window halves (length halves) f
late_flag window halves e f whole extremes is =
    flag_of_extremes window halves (length halves) e f whole (subst (λ (xs : List Interval). AreExtremes xs e) (sym (newest_window window (length halves) halves refl)) extremes) is

-- and with the half-period that was taken last
pub pushed_flag : (window : ℕ) (halves : List Interval) (half : Interval) (f : Flag) → IsFlag window (halves ++ half ∷ []) (length (halves ++ half ∷ [])) f → IsFlag window (halves ++ half ∷ []) (length halves + 1) f
pushed_flag window halves half f is =
    let count : length (halves ++ half ∷ []) ≡ length halves + 1 = omega (arith, length-append halves (half ∷ [])) in
    subst (λ (n : ℕ). IsFlag window (halves ++ half ∷ []) n f) count is
