-- Half-periods have one list of flags.
use Rattle.std.proofs.Common.{◌≡◌, ℕ, zero, suc, ◌+◌, ◌<◌, ◌≤◌, List, [], ◌∷◌, ◌++◌, length, get_or, refl, sym, subst, arith, length-append, ⊎_elim}
use Rattle.std.proofs.lemmas.Bool.{cases_lt}
use Rattle.std.proofs.lemmas.List.{get_or_append_left, get_or_push}
use Rattle.flk_num.specs.declared.interval.Interval.{Interval}
use Rattle.flk_change.specs.declared.flag.Flag.{Flag}
use Rattle.flk_change.specs.declared.flag.Flag.TheVariants.{Early}
use Rattle.flk_change.specs.Steady.{IsFlag, AreFlags}
use Rattle.flk_change.proofs.FlagLemmas.{flag_exists, flag_unique}

-- the flags of the first n half-periods
record FirstFlags (window : ℕ) (halves : List Interval) (n : ℕ) : Type 0 where
  flags : List Flag
  count : length flags ≡ n
  each : (i : ℕ) → i < n → IsFlag window halves (i + 1) (get_or flags i Early)

first_flags : (window : ℕ) (halves : List Interval) (n : ℕ) → 0 < window → n ≤ length halves → FirstFlags window halves n
first_flags window halves zero some within = record { flags = []; count = refl; each = λ i low. absurd (omega (arith, low)) }
first_flags window halves (suc n) some within =
    let before = first_flags window halves n some (omega (arith, within)) in
    let next = flag_exists window halves (n + 1) some (omega (arith, within)) in
    let fs = before.flags in
    let all = fs ++ next.0 ∷ [] in
    record {
      flags = all;
      count = omega (arith, before.count, length-append fs (next.0 ∷ []));
      each = λ i low.
          ⊎_elim
          (λ less. subst (IsFlag window halves (i + 1)) (sym (get_or_append_left fs (next.0 ∷ []) Early i (omega (arith, less, before.count)))) (before.each i less))
          (λ most.
          let here : n ≡ i = omega (arith, low, most) in
          let P : ℕ → Type 0 = λ k. IsFlag window halves (k + 1) (get_or all k Early) in
          subst P here (subst (IsFlag window halves (n + 1)) (sym (get_or_push fs next.0 Early n before.count)) next.1))
          (cases_lt i n);
    }

pub flags_exist : (window : ℕ) (halves : List Interval) → 0 < window → (flags : List Flag) × AreFlags window halves flags
flags_exist window halves some =
    let all = first_flags window halves (length halves) some (omega arith) in
    (all.flags, record { same_length = all.count; each = λ i low. all.each i (omega (arith, low, all.count)) })

-- lists that agree at each place are one
same_flags : (ps qs : List Flag) → length ps ≡ length qs → ((i : ℕ) → i < length ps → get_or ps i Early ≡ get_or qs i Early) → ps ≡ qs
same_flags [] [] same h = refl
same_flags [] (q ∷ qs) same h = absurd (omega (arith, same))
same_flags (p ∷ ps) [] same h = absurd (omega (arith, same))
same_flags (p ∷ ps) (q ∷ qs) same h =
    let first = h 0 (omega arith) in
    let rest = same_flags ps qs (omega (arith, same)) (λ i low. h (suc i) (omega (arith, low))) in
    cc

pub flags_unique : (window : ℕ) (halves : List Interval) (ps qs : List Flag) → AreFlags window halves ps → AreFlags window halves qs → ps ≡ qs
flags_unique window halves ps qs one other =
    same_flags ps qs (omega (arith, one.same_length, other.same_length))
    (λ i low. flag_unique window halves (i + 1) (get_or ps i Early) (get_or qs i Early) (one.each i low) (other.each i (omega (arith, low, one.same_length, other.same_length))))
