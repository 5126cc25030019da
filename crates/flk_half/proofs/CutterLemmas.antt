-- The value of a half-period at a sum of squares, and what one more sample does to the state of a cutter.
use Rattle.std.proofs.Common.{◌≡◌, inl, inr, ℕ, ◌+◌, ◌-◌, ◌*◌, ◌/◌, ◌%◌, ◌^◌, ◌<◌, ◌≤◌, Bool, false, List, [], ◌∷◌, ◌++◌, length, drop, get_or, ℤ, pos, ◌≤ℤ◌, refl, ap, ◌∙◌, ⊎_elim, arith, length-append, length-drop}
use Rattle.std.specs.Prelude.{negsuc, sum_by}
use Rattle.std.proofs.Math.Nat.{mul-le-mul_right}
use Rattle.std.proofs.lemmas.Bool.{cases_lt}
use Rattle.std.proofs.lemmas.Int.{ints}
use Rattle.std.proofs.lemmas.List.{get_or_append_left, get_or_push, drop-append-le, drop_at}
use Rattle.std.proofs.lemmas.List.Sums.{sum_by_push, sum_by-cons}
use Rattle.std.proofs.lemmas.Nat.{mul-le, div-add-mod', mod_below}
use Rattle.flk_exact.specs.Cut.{Ends, last_cut}
use Rattle.flk_exact.specs.Rounding.{IsRootFloor}
use Rattle.flk_exact.proofs.ListLemmas.{AllZip-drop}
use Rattle.flk_exact.proofs.CutLemmas.{last_cut-below, last_cut-push, AreCuts-more, AreCuts-push}
use Rattle.flk_num.specs.declared.interval.Interval.{Interval}
use Rattle.flk_num.specs.Interval.{Holds}
use Rattle.flk_num.specs.Square.{least_size, greatest_size}
use Rattle.flk_half.specs.Cutter.{IsReachedBy, IsValueAt, IsHalfPeriodInterval, Stands, Continues, EndsBefore, EndsHalfPeriod, HoldsEveryHalfPeriod, KeepsHalfPeriodWidth}
use Rattle.flk_half.specs.declared.cutter.Cutter.{Cutter}
use Rattle.flk_half.proofs.EnclosureLemmas.{half_period_holds}
use Rattle.flk_half.proofs.WidthLemmas.{half_period_narrow}

-- ---- the value at a sum

-- the quotient of a product, by those of its two parts
pub product_quotient : (s k : ℕ) → (s / 2 ^ 64 * k + s % 2 ^ 64 * k / 2 ^ 64) / 2 ^ 14 ≡ k * s / 2 ^ 78
product_quotient s k =
    omega (
      arith,
      ap (λ n. n * k) (div-add-mod' s (2 ^ 64)),
      div-add-mod' (s % 2 ^ 64 * k) (2 ^ 64),
      mod_below (s % 2 ^ 64 * k) (2 ^ 64) (omega arith),
      div-add-mod' (s / 2 ^ 64 * k + s % 2 ^ 64 * k / 2 ^ 64) (2 ^ 14),
      mod_below (s / 2 ^ 64 * k + s % 2 ^ 64 * k / 2 ^ 64) (2 ^ 14) (omega arith),
      div-add-mod' (k * s) (2 ^ 78),
      mod_below (k * s) (2 ^ 78) (omega arith),
    )

greatest_of : (half s w : ℕ) → 5 ^ 18 * s < (w + 1) * (w + 1) * (half * 2 ^ 78) → (z : ℤ) → IsReachedBy half s z → z ≤ℤ pos w
greatest_of half s w above (negsuc n) h = omega (arith, ints)
greatest_of half s w above (pos n) h =
    ⊎_elim
    (λ more.
    let next : w + 1 ≤ n = omega arith in
    absurd (omega (arith, ints, mul-le-mul_right (half * 2 ^ 78) (mul-le (w + 1) (w + 1) n n next next))))
    (λ within. omega (arith, ints))
    (cases_lt w n)

-- the root is the value, where its square and the next one times `half` are compared with the rounded limit
pub compared_value : (half s p w : ℕ) → p ≡ 5 ^ 18 * s / 2 ^ 78
    → w * w * half ≤ p → p < (w + 1) * (w + 1) * half → IsValueAt half s (pos w)
compared_value half s p w e within greatest =
    let whole = div-add-mod' (5 ^ 18 * s) (2 ^ 78) in
    let rest = mod_below (5 ^ 18 * s) (2 ^ 78) (omega arith) in
    let low : p * 2 ^ 78 ≤ 5 ^ 18 * s = omega (arith, whole) in
    let high : 5 ^ 18 * s < (p + 1) * 2 ^ 78 = omega (arith, whole, rest) in
    let above : 5 ^ 18 * s < (w + 1) * (w + 1) * (half * 2 ^ 78) = omega (arith, mul-le-mul_right (2 ^ 78) greatest) in
    record {
      reached = omega (arith, ints, mul-le-mul_right (2 ^ 78) within);
      greatest = greatest_of half s w above;
    }

-- the root of the rounded quotient is the value
pub root_value : (half s p : ℕ) (q w : ℤ) → 0 < half → p ≡ 5 ^ 18 * s / 2 ^ 78 → q ≡ pos (p / half) → IsRootFloor q w → IsValueAt half s w
root_value half s p q (negsuc w) some e f root = absurd (omega (arith, ints, root.natural))
root_value half s p q (pos w) some e f root =
    let within = rw f at root.within in
    let greatest = rw f at root.greatest in
    let low : w * w ≤ p / half = omega (arith, ints, within) in
    let high : p / half + 1 ≤ (w + 1) * (w + 1) = omega (arith, ints, greatest) in
    let whole = div-add-mod' p half in
    let rest = mod_below p half some in
    compared_value half s p w e (omega (arith, whole, mul-le-mul_right half low))
    (omega (arith, whole, rest, mul-le-mul_right half high))

-- values keep the order of the sums
pub values_≤ : (half s t : ℕ) (v w : ℤ) → s ≤ t → IsValueAt half s v → IsValueAt half t w → v ≤ℤ w
values_≤ half s t v w less h k = k.greatest v (omega (arith, ints, h.reached))

-- ---- one more sample

-- the two signs that the definition compares
sign_last : (negative : List Bool) (sign : Bool) → get_or (negative ++ sign ∷ []) (length negative) false ≡ sign
sign_last negative sign = get_or_push negative sign false (length negative) refl

sign_before : (negative : List Bool) (sign : Bool) → 0 < length negative → get_or (negative ++ sign ∷ []) (length negative - 1) false ≡ get_or negative (length negative - 1) false
sign_before negative sign some = get_or_append_left negative (sign ∷ []) false (length negative - 1) (omega arith)

-- the state's test is that of the definition
ends_there : (c : Cutter) (half : ℕ) (negative : List Bool) (voltages : List Interval) (cuts : List ℕ) (sign : Bool) → Stands c half negative voltages cuts → last_cut cuts < length negative
    → EndsBefore c sign → Ends half (negative ++ sign ∷ []) (last_cut cuts) (length negative)
ends_there c half negative voltages cuts sign h later (inl long) = inl (omega (arith, h.since, h.same_half))
ends_there c half negative voltages cuts sign h later (inr change) =
    inr (omega (arith, h.since, h.same_half, change.0), rw (sign_last negative sign, sign_before negative sign (omega arith), ← h.sign (omega arith)) change.1)

ends_before : (c : Cutter) (half : ℕ) (negative : List Bool) (voltages : List Interval) (cuts : List ℕ) (sign : Bool) → Stands c half negative voltages cuts → last_cut cuts < length negative
    → Ends half (negative ++ sign ∷ []) (last_cut cuts) (length negative) → EndsBefore c sign
ends_before c half negative voltages cuts sign h later (inl long) = inl (omega (arith, h.since, h.same_half))
ends_before c half negative voltages cuts sign h later (inr change) =
    inr (omega (arith, h.since, h.same_half, change.0), rw (sign_last negative sign, sign_before negative sign (omega arith), ← h.sign (omega arith)) at change.1)

-- what the last sample leaves as the sign
sign_kept : (c : Cutter) (negative : List Bool) (sign : Bool) → c.negative ≡ sign → c.negative ≡ get_or (negative ++ sign ∷ []) (length (negative ++ sign ∷ []) - 1) false
sign_kept c negative sign e =
    let at_end : length (negative ++ sign ∷ []) - 1 ≡ length negative = omega (arith, length-append negative (sign ∷ [])) in
    rw (e, at_end, sign_last negative sign) refl

-- sums since the last cut, with one more voltage
sum_more : (f : Interval → ℕ) (k : ℕ) (voltages : List Interval) (v : Interval) → k ≤ length voltages → sum_by f (drop k (voltages ++ v ∷ [])) ≡ sum_by f (drop k voltages) + f v
sum_more f k voltages v within = rw (drop-append-le k voltages (v ∷ []) within) (sum_by_push f (drop k voltages) v)

sum_one : (f : Interval → ℕ) (k : ℕ) (voltages : List Interval) (v : Interval) → length voltages ≡ k → sum_by f (drop k (voltages ++ v ∷ [])) ≡ f v
sum_one f k voltages v same = rw (drop_at voltages (v ∷ []) k same) (omega (arith, sum_by-cons f v []))

pub continues : (old new : Cutter) (sign : Bool) (v : Interval) → new.half ≡ old.half → new.since ≡ old.since + 1 → new.negative ≡ sign
    → new.least ≡ old.least + least_size v.lo v.hi * least_size v.lo v.hi → new.greatest ≡ old.greatest + greatest_size v.lo v.hi * greatest_size v.lo v.hi
    → ¬ EndsBefore old sign → Continues old new sign v
continues old new sign v half since negative least greatest none = λ n signs voltages cuts h.
    let below = last_cut-below n signs cuts h.are_cuts in
    record {
      same_half = half ∙ h.same_half;
      same_length = omega (arith, h.same_length, length-append voltages (v ∷ []), length-append signs (sign ∷ []));
      are_cuts = AreCuts-more n signs sign cuts h.are_cuts (λ later ends. none (ends_before old n signs voltages cuts sign h later ends));
      since = omega (arith, h.since, length-append signs (sign ∷ []));
      least = omega (arith, h.least, sum_more (λ w. least_size w.lo w.hi * least_size w.lo w.hi) (last_cut cuts) voltages v (omega (arith, h.same_length)));
      greatest = omega (arith, h.greatest, sum_more (λ w. greatest_size w.lo w.hi * greatest_size w.lo w.hi) (last_cut cuts) voltages v (omega (arith, h.same_length)));
      sign = λ some. sign_kept new signs sign negative;
    }

pub ends_half_period : (old new : Cutter) (sign : Bool) (v h : Interval) → 2 ≤ old.half → new.half ≡ old.half → new.since ≡ 1 → new.negative ≡ sign
    → new.least ≡ least_size v.lo v.hi * least_size v.lo v.hi → new.greatest ≡ greatest_size v.lo v.hi * greatest_size v.lo v.hi
    → EndsBefore old sign → IsValueAt old.half old.least h.lo → IsValueAt old.half old.greatest h.hi → EndsHalfPeriod old new sign v h
ends_half_period old new sign v i some half since negative least greatest ends low high = λ n signs voltages cuts h.
    let counted : 0 < old.since = ⊎_elim (λ long. omega arith) (λ change. omega (arith, change.0)) ends in
    let later : last_cut cuts < length signs = omega (arith, h.since) in
    let here = last_cut-push cuts (length signs) in
    record {
      stands = record {
        same_half = half ∙ h.same_half;
        same_length = omega (arith, h.same_length, length-append voltages (v ∷ []), length-append signs (sign ∷ []));
        are_cuts = AreCuts-push n signs sign cuts h.are_cuts later (ends_there old n signs voltages cuts sign h later ends);
        since = rw here (omega (arith, length-append signs (sign ∷ [])));
        least = rw here (omega (arith, sum_one (λ w. least_size w.lo w.hi * least_size w.lo w.hi) (length signs) voltages v h.same_length));
        greatest = rw here (omega (arith, sum_one (λ w. greatest_size w.lo w.hi * greatest_size w.lo w.hi) (length signs) voltages v h.same_length));
        sign = λ more. sign_kept new signs sign negative;
      };
      interval = record { low = rw (← h.same_half, ← h.least) low; high = rw (← h.same_half, ← h.greatest) high };
    }

-- ---- every run, and the width

pub holds_every_run : (old : Cutter) (h : Interval) → IsValueAt old.half old.least h.lo → IsValueAt old.half old.greatest h.hi → HoldsEveryHalfPeriod old h
holds_every_run old h low high = λ half negative voltages cuts run w stands held value.
    let interval : IsHalfPeriodInterval half (drop (last_cut cuts) voltages) h =
    record { low = rw (← stands.same_half, ← stands.least) low; high = rw (← stands.same_half, ← stands.greatest) high } in
    half_period_holds half (drop (last_cut cuts) voltages) (drop (last_cut cuts) run) h w (AllZip-drop Holds (last_cut cuts) voltages run held) interval value

pub keeps_width : (old : Cutter) (h : Interval) → 2 ≤ old.half → old.since ≤ 2 * old.half → IsValueAt old.half old.least h.lo → IsValueAt old.half old.greatest h.hi → KeepsHalfPeriodWidth old h
keeps_width old h some few low high = λ half negative voltages cuts delta stands natural narrow.
    let interval : IsHalfPeriodInterval half (drop (last_cut cuts) voltages) h =
    record { low = rw (← stands.same_half, ← stands.least) low; high = rw (← stands.same_half, ← stands.greatest) high } in
    let count : length (drop (last_cut cuts) voltages) ≤ 2 * half = omega (arith, length-drop (last_cut cuts) voltages, stands.since, stands.same_length, stands.same_half) in
    half_period_narrow half (drop (last_cut cuts) voltages) h delta (omega (arith, stands.same_half)) count natural narrow interval
