-- What one more level does to the severities of a channel.
use Rattle.std.proofs.Common.{◌≡◌, ◌≢◌, ℕ, ◌+◌, ◌-◌, ◌*◌, ◌<◌, ◌≤◌, List, [], ◌∷◌, ◌++◌, length, get_or, drop, take, ℤ, pos, ◌≤ℤ◌, sym, subst, ap, ◌∙◌, arith, length-append, length-drop, ⊎_elim}
use Rattle.std.specs.Prelude.{slice_index_or, slice_set}
use Rattle.std.specs.List.{All}
use Rattle.std.proofs.lemmas.Bool.{cases_lt}
use Rattle.std.proofs.lemmas.Int.{ints}
use Rattle.std.proofs.lemmas.List.{drop-append-le, take_all, get_or-set_same, get_or-set_other}
use Rattle.std.proofs.lemmas.List.Elements.{All-map}
use Rattle.std.proofs.Math.ListN.{drop_of_length-le}
use Rattle.std.proofs.Math.Nat.{mul-le-mul_right}
use Rattle.flk_exact.specs.Rounding.{IsBetween}
use Rattle.flk_exact.proofs.ListLemmas.{slice_range-append}
use Rattle.flk_num.specs.declared.interval.Interval.{Interval}
use Rattle.flk_num.specs.Interval.{lows, highs}
use Rattle.flk_stat.specs.Severity.{cap}
use Rattle.flk_result.specs.Conditions.{interval_items}
use Rattle.flk_result.specs.Digits.{IsSeverityInterval}
use Rattle.flk_result.specs.PhaseResult.{zero_interval, IsJudgeable}
use Rattle.flk_phase.specs.declared.severities.Severities.{Severities}
use Rattle.flk_phase.specs.Severities.{Gains, Ends, StandsFor}

-- ---- the parts of a list of levels

-- the levels of an interval that is whole stay
part_kept : (run_in interval done i : ℕ) (levels : List Interval) (x : Interval) → i < done → run_in + done * interval ≤ length levels
    → interval_items run_in interval i (levels ++ x ∷ []) ≡ interval_items run_in interval i levels
part_kept run_in interval done i levels x low within =
    let before : i + 1 ≤ done = omega arith in
    let enough = mul-le-mul_right interval before in
    slice_range-append (run_in + i * interval) (run_in + (i + 1) * interval) levels (x ∷ []) (omega (arith, enough, within))

-- the levels behind the last whole interval, with one more
rest_more : (start : ℕ) (levels : List Interval) (x : Interval) → start ≤ length levels → drop start (levels ++ x ∷ []) ≡ drop start levels ++ x ∷ []
rest_more start levels x within = drop-append-le start levels (x ∷ []) within

-- the levels of an interval that has just become whole
part_whole : (run_in interval done : ℕ) (levels newest : List Interval) (x : Interval) → run_in + done * interval ≤ length levels → newest ≡ drop (run_in + done * interval) levels
    → length newest + 1 ≡ interval → interval_items run_in interval done (levels ++ x ∷ []) ≡ newest ++ x ∷ []
part_whole run_in interval done levels newest x within is full =
    let start = run_in + done * interval in
    let rest : drop start (levels ++ x ∷ []) ≡ newest ++ x ∷ [] = rw is (rest_more start levels x within) in
    let many : length (newest ++ x ∷ []) ≤ (run_in + (done + 1) * interval) - start = omega (arith, full, length-append newest (x ∷ [])) in
    ap (take ((run_in + (done + 1) * interval) - start)) rest ∙ take_all ((run_in + (done + 1) * interval) - start) (newest ++ x ∷ []) many

-- how many levels there are, by those of the interval that is not whole
length_by : (start : ℕ) (levels newest : List Interval) → start ≤ length levels → newest ≡ drop start levels → length levels ≡ start + length newest
length_by start levels newest within is = omega (arith, within, ap length is, length-drop start levels)

-- ---- one level more

severities_kept : (s : Severities) (run_in interval count : ℕ) (levels : List Interval) (x : Interval) → run_in ≤ length levels → StandsFor s run_in interval count levels
    → (i : ℕ) → i < s.done → IsSeverityInterval (interval_items run_in interval i (levels ++ x ∷ [])) (slice_index_or s.pst i zero_interval)
severities_kept s run_in interval count levels x past h i low =
    let same = part_kept run_in interval s.done i levels x low (h.reached past) in
    subst (λ ls. IsSeverityInterval ls (slice_index_or s.pst i zero_interval)) (sym same) (h.severities i low)

past_run_in : (s : Severities) (run_in interval count : ℕ) (levels : List Interval) → s.run_in ≤ 0 → StandsFor s run_in interval count levels → run_in ≤ length levels
past_run_in s run_in interval count levels none h = omega (arith, h.left)

-- behind the last interval
pub stands_behind : (s : Severities) (run_in interval count : ℕ) (levels : List Interval) (x : Interval) → s.run_in ≤ 0 → s.done ≡ s.count
    → StandsFor s run_in interval count levels → StandsFor s run_in interval count (levels ++ x ∷ [])
stands_behind s run_in interval count levels x none all h =
    let past = past_run_in s run_in interval count levels none h in
    let more = length-append levels (x ∷ []) in
    record {
      count_is = h.count_is;
      left = omega (arith, none, past, more);
      none_done = λ early. absurd (omega (arith, early, past, more));
      reached = λ late. omega (arith, h.reached past, more);
      newest = h.newest;
      added = h.added;
      newest_is = λ few. absurd (omega (arith, few, all, h.count_is));
      severities = severities_kept s run_in interval count levels x past h;
      none_after = h.none_after;
    }

-- within an interval
pub stands_gains : (old new : Severities) (run_in interval count : ℕ) (levels : List Interval) (x : Interval) → old.run_in ≤ 0 → new.run_in ≡ old.run_in → new.count ≡ old.count
    → new.done ≡ old.done → new.pst ≡ old.pst → old.done ≢ old.count → Gains old.levels new.levels x
    → StandsFor old run_in interval count levels → StandsFor new run_in interval count (levels ++ x ∷ [])
stands_gains old new run_in interval count levels x none left kept done pst open' gains h =
    let past = past_run_in old run_in interval count levels none h in
    let more = length-append levels (x ∷ []) in
    let start = run_in + old.done * interval in
    let few : old.done < count = omega (arith, open', h.count_is, old.within) in
    let is : h.newest ++ x ∷ [] ≡ drop start (levels ++ x ∷ []) = rw (h.newest_is few) (sym (rest_more start levels x (h.reached past))) in
    let each = severities_kept old run_in interval count levels x past h in
    record {
      count_is = kept ∙ h.count_is;
      left = omega (arith, none, past, more, left);
      none_done = λ early. absurd (omega (arith, early, past, more));
      reached = λ late. rw done (omega (arith, h.reached past, more));
      newest = h.newest ++ x ∷ [];
      added = gains.added interval h.newest h.added;
      newest_is = λ again. rw done is;
      severities = subst (λ (n : ℕ). (i : ℕ) → i < n → IsSeverityInterval (interval_items run_in interval i (levels ++ x ∷ [])) (slice_index_or new.pst i zero_interval)) (sym done)
          (subst (λ (p : List Interval). (i : ℕ) → i < old.done → IsSeverityInterval (interval_items run_in interval i (levels ++ x ∷ [])) (slice_index_or p i zero_interval)) (sym pst) each);
      none_after = subst (λ (n : ℕ). (i : ℕ) → n ≤ i → i < 12 → slice_index_or new.pst i zero_interval ≡ zero_interval) (sym done)
          (subst (λ (p : List Interval). (i : ℕ) → old.done ≤ i → i < 12 → slice_index_or p i zero_interval ≡ zero_interval) (sym pst) h.none_after);
    }

-- at the end of one
pub stands_ends : (old new : Severities) (run_in interval count : ℕ) (levels : List Interval) (x v : Interval) → old.run_in ≤ 0 → new.run_in ≡ old.run_in → new.count ≡ old.count
    → new.done ≡ old.done + 1 → new.pst ≡ slice_set old.pst old.done v → old.done ≢ old.count → Ends old.levels new.levels x v
    → StandsFor old run_in interval count levels → StandsFor new run_in interval count (levels ++ x ∷ [])
stands_ends old new run_in interval count levels x v none left kept done pst open' ends h =
    let past = past_run_in old run_in interval count levels none h in
    let more = length-append levels (x ∷ []) in
    let start = run_in + old.done * interval in
    let few : old.done < count = omega (arith, open', h.count_is, old.within) in
    let place : old.done < length old.pst = omega (arith, few, h.count_is, old.few, old.twelve) in
    let full : length h.newest + 1 ≡ interval = omega (arith, ends.room, h.added.count) in
    let size = length_by start levels h.newest (h.reached past) (h.newest_is few) in
    let part = part_whole run_in interval old.done levels h.newest x (h.reached past) (h.newest_is few) full in
    let severity = ends.severity interval h.newest h.added in
    record {
      count_is = kept ∙ h.count_is;
      left = omega (arith, none, past, more, left);
      none_done = λ early. absurd (omega (arith, early, past, more));
      reached = λ late. rw done (omega (arith, h.reached past, more, size, full));
      newest = [];
      added = ends.added interval h.newest h.added;
      newest_is = λ again. sym (drop_of_length-le (levels ++ x ∷ []) (rw done (omega (arith, more, size, full))));
      severities = λ i low.
          ⊎_elim
          (λ before.
          let other : i ≢ old.done = omega (arith, before) in
          let same : slice_index_or new.pst i zero_interval ≡ slice_index_or old.pst i zero_interval = rw pst (get_or-set_other old.pst old.done i v zero_interval other) in
          subst (IsSeverityInterval (interval_items run_in interval i (levels ++ x ∷ []))) (sym same) (severities_kept old run_in interval count levels x past h i before))
          (λ last.
          let here : i ≡ old.done = omega (arith, low, done, last) in
          let value : slice_index_or new.pst old.done zero_interval ≡ v = rw pst (get_or-set_same old.pst old.done v zero_interval place) in
          subst (λ (n : ℕ). IsSeverityInterval (interval_items run_in interval n (levels ++ x ∷ [])) (slice_index_or new.pst n zero_interval)) (sym here)
          (subst (λ ls. IsSeverityInterval ls (slice_index_or new.pst old.done zero_interval)) (sym part) (subst (IsSeverityInterval (h.newest ++ x ∷ [])) (sym value) severity)))
          (cases_lt i old.done);
      none_after = λ i late low.
          let other : i ≢ old.done = omega (arith, late, done) in
          let same : slice_index_or new.pst i zero_interval ≡ slice_index_or old.pst i zero_interval = rw pst (get_or-set_other old.pst old.done i v zero_interval other) in
          same ∙ h.none_after i (omega (arith, late, done)) low;
    }

-- ---- the ends of severities

in_range : (z : ℤ) → pos 0 ≤ℤ z → z ≤ℤ cap → IsBetween (pos 0) cap z
in_range z low high = record { above = low; below = high }

pub lows_in_range : (vs : List Interval) → All IsJudgeable vs → All (IsBetween (pos 0) cap) (lows vs)
lows_in_range vs all = All-map (IsBetween (pos 0) cap) (λ (v : Interval). v.lo) vs (λ k d low. let v = all k d low in in_range (get_or vs k d).lo v.low (omega (arith, ints, v.high, (get_or vs k d).ordered)))

pub highs_in_range : (vs : List Interval) → All IsJudgeable vs → All (IsBetween (pos 0) cap) (highs vs)
highs_in_range vs all = All-map (IsBetween (pos 0) cap) (λ (v : Interval). v.hi) vs (λ k d low. let v = all k d low in in_range (get_or vs k d).hi (omega (arith, ints, v.low, (get_or vs k d).ordered)) v.high)

-- ---- at the end

-- where the levels are enough, all intervals have their severities
pub all_done : (s : Severities) (run_in interval count : ℕ) (levels : List Interval) → StandsFor s run_in interval count levels → run_in + count * interval ≤ length levels → s.done ≡ count
all_done s run_in interval count levels h enough =
    let past : run_in ≤ length levels = omega (arith, enough) in
    let room : length h.newest < interval = omega (arith, s.room, h.added.count) in
    let least : s.done ≤ count = omega (arith, s.within, h.count_is) in
    ⊎_elim
    (λ few.
    let size = length_by (run_in + s.done * interval) levels h.newest (h.reached past) (h.newest_is few) in
    let more : s.done + 1 ≤ count = omega (arith, few) in
    let whole = mul-le-mul_right interval more in
    absurd (omega (arith, size, room, whole, enough)))
    (λ all. omega (arith, all, least))
    (cases_lt s.done count)
