-- The intervals hold the quantities of every list of values within the half-periods' intervals: in one resolution, over all of them,
-- and where the doubt is not resolved.
use Rattle.std.proofs.Common.{◌≡◌, ◌⊎◌, inl, inr, ℕ, zero, suc, ◌+◌, ◌<◌, ◌≤◌, Bool, true, false, List, ◌∷◌, ◌++◌, length, map, get_or, ℤ, pos, ◌-ℤ◌, ◌≤ℤ◌, refl, sym, ◌∙◌, arith, add-one, ⊎_elim}
use Rattle.std.specs.List.{All, AllZip, range_with_len}
use Rattle.std.proofs.lemmas.Int.{ints, clamps}
use Rattle.std.proofs.lemmas.Bool.{false≢true, cases_Bool}
use Rattle.std.proofs.lemmas.List.{length-map, get_or_default}
use Rattle.std.proofs.lemmas.List.FromFn.{length-map-range_with_len, get_or-map-range_with_len}
use Rattle.std.proofs.lemmas.List.Elements.{All-contains, All-tail, Contains-append_left, Contains-append_right}
use Rattle.flk_exact.specs.Rounding.{IsBetween}
use Rattle.flk_exact.proofs.ListLemmas.{AllZip-length, AllZip-get_or, AllZip-from_get_or, Contains-map}
use Rattle.flk_num.specs.declared.interval.Interval.{Interval}
use Rattle.flk_change.specs.declared.flag.Flag.{Flag}
use Rattle.flk_change.specs.declared.flag.Flag.TheVariants.{Early}
use Rattle.flk_num.specs.Interval.{lows, highs}
use Rattle.flk_num.specs.Values.{HoldValues}
use Rattle.flk_change.specs.Steady.{IsSteady, AreFlags}
use Rattle.flk_change.specs.Changes.{Change, between, after, whole, IsChange, first, stop, level, before, distance, readings, IsStep, Quantity, Dc, Dmax, Tmax, Gives, IsQuantity, IsOfValues}
use Rattle.flk_change.specs.Resolutions.{Resolves, AreResolved, IsTaken, RunsFrom, IsHull, AreWide, HoldsEachList, least_readings, greatest_readings}
use Rattle.flk_change.proofs.GreatestLemmas.{greatest_at_most}
use Rattle.flk_change.proofs.SwingLemmas.{distance_natural, least_natural, greatest_natural, distance_above, distance_below, distance_within, excesses_few}
use Rattle.flk_change.proofs.LevelLemmas.{level-≤, level-above, level-below}
use Rattle.flk_change.proofs.SumLemmas.{ends_ordered}
use Rattle.flk_change.proofs.ValueLemmas.{lows_are_held, held_above, held_below, cases_steady, flag_allows}
use Rattle.flk_change.proofs.WideLemmas.{lows_below}
use Rattle.flk_change.proofs.QuantityLemmas.{Follows, quantity_exists, quantity_≤, quantity_same, stop_within}

-- ---- each quantity exists

pub values_have : (q : Quantity) (window : ℕ) (values : List ℤ) → 0 < window → (m : ℤ) × IsOfValues q window values m
values_have q window values some =
    quantity_exists q (IsSteady window values) window (length values) (readings window values) (λ i. cases_steady window values i some) (λ s. absurd (omega (arith, s.whole)))
    record {
      steps = λ j k. distance_natural (level window values k) (level window values j);
      swings = λ c i low. distance_natural (get_or values i (pos 0)) (before window values c);
    }

-- the level before a change follows the order of the values
pub before_≤ : (window : ℕ) (xs ys : List ℤ) (c : Change) → 0 < window → AllZip (λ x y. x ≤ℤ y) xs ys → before window xs c ≤ℤ before window ys c
before_≤ window xs ys (between j k) some h = level-≤ window xs ys j some h
before_≤ window xs ys (after j) some h = level-≤ window xs ys j some h
before_≤ window xs ys whole some h = omega (arith, ints)

end_at : (halves : List Interval) (i : ℕ) → i < length halves → get_or (lows halves) i (pos 0) ≤ℤ get_or (highs halves) i (pos 0)
end_at halves i low =
    AllZip-get_or (λ x y. x ≤ℤ y) (lows halves) (highs halves) i (pos 0) (pos 0) (ends_ordered halves) (omega (arith, low, length-map halves (λ (u : Interval). u.lo)))

pub cases_taken : (resolution : List Bool) (i : ℕ) → IsTaken resolution i ⊎ ¬ IsTaken resolution i
cases_taken resolution i = ⊎_elim (λ t. inl t) (λ f. inr (λ t. false≢true (sym f ∙ t))) (cases_Bool (get_or (false ∷ resolution) i false))

pub least_have : (q : Quantity) (window : ℕ) (halves : List Interval) (resolution : List Bool) → 0 < window → (m : ℤ) × IsQuantity q window (length halves) (IsTaken resolution) (least_readings window halves) m
least_have q window halves resolution some =
    let low = lows halves in
    let high = highs halves in
    quantity_exists q (IsTaken resolution) window (length halves) (least_readings window halves) (cases_taken resolution) (λ t. false≢true t)
    record {
      steps = λ j k. least_natural (level window low k) (level window high k) (level window low j) (level window high j);
      swings = λ c i there. least_natural (get_or low i (pos 0)) (get_or high i (pos 0)) (before window low c) (before window high c);
    }

pub greatest_have : (q : Quantity) (window : ℕ) (halves : List Interval) (resolution : List Bool) → 0 < window → (m : ℤ) × IsQuantity q window (length halves) (IsTaken resolution) (greatest_readings window halves) m
greatest_have q window halves resolution some =
    let low = lows halves in
    let high = highs halves in
    let ordered = ends_ordered halves in
    quantity_exists q (IsTaken resolution) window (length halves) (greatest_readings window halves) (cases_taken resolution) (λ t. false≢true t)
    record {
      steps = λ j k. greatest_natural (level window low k) (level window high k) (level window low j) (level window high j) (level-≤ window low high k some ordered) (level-≤ window low high j some ordered);
      swings = λ c i there. greatest_natural (get_or low i (pos 0)) (get_or high i (pos 0)) (before window low c) (before window high c) (end_at halves i there) (before_≤ window low high c some ordered);
    }

-- ---- one resolution

value_at : (halves : List Interval) (values : List ℤ) (i : ℕ) → HoldValues halves values → i < length halves → (get_or (lows halves) i (pos 0) ≤ℤ get_or values i (pos 0)) × (get_or values i (pos 0) ≤ℤ get_or (highs halves) i (pos 0))
value_at halves values i held low = (
  AllZip-get_or (λ x y. x ≤ℤ y) (lows halves) values i (pos 0) (pos 0) (held_above halves values held) (omega (arith, low, length-map halves (λ (u : Interval). u.lo))),
  AllZip-get_or (λ x y. x ≤ℤ y) values (highs halves) i (pos 0) (pos 0) (held_below halves values held) (omega (arith, low, AllZip-length (λ h x. IsBetween h.lo h.hi x) halves values held)),
)

values_above : (steady : ℕ → Type 0) (window : ℕ) (halves : List Interval) (values : List ℤ) → 0 < window → HoldValues halves values → Follows steady (length halves) (pos 0) (least_readings window halves) (readings window values)
values_above steady window halves values some held =
    let low = lows halves in
    let high = highs halves in
    let above = held_above halves values held in
    let below = held_below halves values held in
    record {
      steps = λ j k is. omega (
        arith,
        ints,
        distance_above (level window values k) (level window low k) (level window high k) (level window values j) (level window low j) (level window high j)
            (level-≤ window low values k some above) (level-≤ window values high k some below) (level-≤ window low values j some above) (level-≤ window values high j some below),
      );
      swings = λ c i is there. let at = value_at halves values i held there in
          omega (
            arith,
            ints,
            distance_above (get_or values i (pos 0)) (get_or low i (pos 0)) (get_or high i (pos 0)) (before window values c) (before window low c) (before window high c)
                at.0 at.1 (before_≤ window low values c some above) (before_≤ window values high c some below),
          );
    }

values_below : (steady : ℕ → Type 0) (window : ℕ) (halves : List Interval) (values : List ℤ) → 0 < window → HoldValues halves values → Follows steady (length halves) (pos 0) (readings window values) (greatest_readings window halves)
values_below steady window halves values some held =
    let low = lows halves in
    let high = highs halves in
    let above = held_above halves values held in
    let below = held_below halves values held in
    record {
      steps = λ j k is. omega (
        arith,
        ints,
        distance_below (level window values k) (level window low k) (level window high k) (level window values j) (level window low j) (level window high j)
            (level-≤ window low values k some above) (level-≤ window values high k some below) (level-≤ window low values j some above) (level-≤ window values high j some below),
      );
      swings = λ c i is there. let at = value_at halves values i held there in
          omega (
            arith,
            ints,
            distance_below (get_or values i (pos 0)) (get_or low i (pos 0)) (get_or high i (pos 0)) (before window values c) (before window low c) (before window high c)
                at.0 at.1 (before_≤ window low values c some above) (before_≤ window values high c some below),
          );
    }

pub resolution_holds : (q : Quantity) (window : ℕ) (halves : List Interval) (resolution : List Bool) (values : List ℤ) (lo hi m : ℤ) → 0 < window → HoldValues halves values
    → RunsFrom q window halves resolution lo hi → IsQuantity q window (length halves) (IsTaken resolution) (readings window values) m → IsBetween lo hi m
resolution_holds q window halves resolution values lo hi m some held runs is = record {
  above = quantity_≤ q (IsTaken resolution) window (length halves) (least_readings window halves) (readings window values) lo m (values_above (IsTaken resolution) window halves values some held) runs.low is;
  below = quantity_≤ q (IsTaken resolution) window (length halves) (readings window values) (greatest_readings window halves) m hi (values_below (IsTaken resolution) window halves values some held) is runs.high;
}

-- the two ends of a resolution's interval are in order, since the lower ends are values within the intervals
pub least_at_most_greatest : (q : Quantity) (window : ℕ) (halves : List Interval) (resolution : List Bool) (lo hi : ℤ) → 0 < window → RunsFrom q window halves resolution lo hi → lo ≤ℤ hi
least_at_most_greatest q window halves resolution lo hi some runs =
    let values = lows halves in
    let m = quantity_exists q (IsTaken resolution) window (length halves) (readings window values) (cases_taken resolution) (λ t. false≢true t)
    record {
      steps = λ j k. distance_natural (level window values k) (level window values j);
      swings = λ c i low. distance_natural (get_or values i (pos 0)) (before window values c);
    } in
    let between = resolution_holds q window halves resolution values lo hi m.0 some (lows_are_held halves) runs m.1 in
    omega (arith, ints, between.above, between.below)

-- ---- the resolution that the values themselves are

abbrev decided : {P : Type 0} → P ⊎ ¬ P → Bool
decided (inl p) = true
decided (inr n) = false

decided_true : {P : Type 0} (d : P ⊎ ¬ P) → decided d ≡ true → P
decided_true (inl p) e = p
decided_true (inr n) e = absurd (false≢true e)

true_decided : {P : Type 0} (d : P ⊎ ¬ P) → P → decided d ≡ true
true_decided (inl p) h = refl
true_decided (inr n) h = absurd (n h)

-- one answer for each window: whether these values are steady there
record IsOwn (window : ℕ) (values : List ℤ) (resolution : List Bool) : Type 0 where
  same_length : length resolution ≡ length values
  to : (i : ℕ) → i < length values → get_or resolution i false ≡ true → IsSteady window values (i + 1)
  from : (i : ℕ) → i < length values → IsSteady window values (i + 1) → get_or resolution i false ≡ true

own_resolution : (window : ℕ) (values : List ℤ) → 0 < window → (resolution : List Bool) × IsOwn window values resolution
own_resolution window values some =
    let answer : ℕ → Bool = λ i. decided (cases_steady window values (i + 1) some) in
    let n = length values in
    let at : (i : ℕ) → i < n → get_or (map answer (range_with_len 0 n)) i false ≡ answer i = λ i low. get_or-map-range_with_len answer 0 n i i false low (omega arith) in (
      map answer (range_with_len 0 n),
      record {
        same_length = length-map-range_with_len answer 0 n;
        to = λ i low t. decided_true (cases_steady window values (i + 1) some) (sym (at i low) ∙ t);
        from = λ i low s. at i low ∙ true_decided (cases_steady window values (i + 1) some) s;
      },
    )

own_taken : (window : ℕ) (values : List ℤ) (resolution : List Bool) → 0 < window → IsOwn window values resolution → (j : ℕ) → j ≤ length values → IsSteady window values j → IsTaken resolution j
own_taken window values resolution some own zero within s = absurd (omega (arith, s.whole))
own_taken window values resolution some own (suc i) within s = own.from i (omega arith) (rw add-one s)

taken_own : (window : ℕ) (values : List ℤ) (resolution : List Bool) → IsOwn window values resolution → (j : ℕ) → j ≤ length values → IsTaken resolution j → IsSteady window values j
taken_own window values resolution own zero within t = absurd (false≢true t)
taken_own window values resolution own (suc i) within t = rw (← add-one) (own.to i (omega arith) t)

own_is_resolved : (window : ℕ) (halves : List Interval) (flags : List Flag) (values : List ℤ) (resolution : List Bool) → HoldValues halves values → AreFlags window halves flags → IsOwn window values resolution → AreResolved flags resolution
own_is_resolved window halves flags values resolution held are own =
    let same = AllZip-length (λ h x. IsBetween h.lo h.hi x) halves values held in
    AllZip-from_get_or Resolves flags resolution (omega (arith, are.same_length, own.same_length, same))
    (λ i d e low.
    let there : i < length values = omega (arith, are.same_length, same) in
    let flag : get_or flags i d ≡ get_or flags i Early = get_or_default flags i d Early low in
    let answer : get_or resolution i e ≡ get_or resolution i false = get_or_default resolution i e false (omega (arith, own.same_length)) in
    rw (flag, answer)
    (flag_allows window halves values (i + 1) (get_or flags i Early) (get_or resolution i false) held (omega arith) (are.each i low) (own.to i there) (own.from i there)))

-- ---- all resolutions

pub hull_holds : (q : Quantity) (window : ℕ) (halves : List Interval) (flags : List Flag) (v : Interval) → 0 < window → AreFlags window halves flags → IsHull q window halves flags v → HoldsEachList q window halves v
hull_holds q window halves flags v some are hull = λ values m held is.
    let own = own_resolution window values some in
    let bs = own.0 in
    let same : length halves ≡ length values = AllZip-length (λ h x. IsBetween h.lo h.hi x) halves values held in
    let resolved = own_is_resolved window halves flags values bs held are own.1 in
    let low = least_have q window halves bs some in
    let high = greatest_have q window halves bs some in
    let runs : RunsFrom q window halves bs low.0 high.0 = record { low = low.1; high = high.1 } in
    let here : IsQuantity q window (length values) (IsTaken bs) (readings window values) m =
    quantity_same q (IsSteady window values) (IsTaken bs) window (length values) (readings window values) m (own_taken window values bs some own.1) (taken_own window values bs own.1) is in
    let within = resolution_holds q window halves bs values low.0 high.0 m some held runs (rw same here) in
    let outer = hull.holds bs low.0 high.0 resolved runs in
    record { above = omega (arith, ints, outer.0, within.above); below = omega (arith, ints, outer.1, within.below) }

-- ---- the wide intervals

level_within : (window : ℕ) (values : List ℤ) (l g : ℤ) (j : ℕ) → 0 < window → All (λ z. l ≤ℤ z) values → All (λ z. z ≤ℤ g) values → IsSteady window values j → (l ≤ℤ level window values j) × (level window values j ≤ℤ g)
level_within window values l g j some low high s = (level-above l window values j some s.whole s.there low, level-below g window values j some s.whole s.there high)

-- what one change of values from l to g gives: steps and swings are at most how far l and g are apart, or how far one is from nominal
step_at_most : (window : ℕ) (values : List ℤ) (l g : ℤ) (n : ℕ) (c : Change) (x : ℤ) → 0 < window → All (λ z. l ≤ℤ z) values → All (λ z. z ≤ℤ g) values → IsChange (IsSteady window values) n c → IsStep (readings window values) c x → x ≤ℤ (g -ℤ l)
step_at_most window values l g n (between j k) x some low high is e =
    let a = level_within window values l g k some low high is.1 in
    let b = level_within window values l g j some low high is.0 in
    omega (arith, ints, e, distance_within (level window values k) (level window values j) l g a.0 a.1 b.0 b.1)
step_at_most window values l g n (after j) x some low high is e = absurd e
step_at_most window values l g n whole x some low high is e = absurd e

swing_at_most : (window : ℕ) (values : List ℤ) (l g v : ℤ) (n i : ℕ) (c : Change) → 0 < window → All (λ z. l ≤ℤ z) values → All (λ z. z ≤ℤ g) values → (g -ℤ l) ≤ℤ v → ((z : ℤ) → l ≤ℤ z → z ≤ℤ g → distance z (pos 1000000000) ≤ℤ v)
    → IsChange (IsSteady window values) n c → i < length values → (readings window values).swing c i ≤ℤ v
swing_at_most window values l g v n i (between j k) some low high wide far is there =
    let b = level_within window values l g j some low high is.0 in
    omega (arith, ints, wide, distance_within (get_or values i (pos 0)) (level window values j) l g (low i (pos 0) there) (high i (pos 0) there) b.0 b.1)
swing_at_most window values l g v n i (after j) some low high wide far is there =
    let b = level_within window values l g j some low high is.0 in
    omega (arith, ints, wide, distance_within (get_or values i (pos 0)) (level window values j) l g (low i (pos 0) there) (high i (pos 0) there) b.0 b.1)
swing_at_most window values l g v n i whole some low high wide far is there = far (get_or values i (pos 0)) (low i (pos 0) there) (high i (pos 0) there)

-- a number between two is no further from nominal than one of them
between_far : (z l g v : ℤ) → l ≤ℤ z → z ≤ℤ g → distance l (pos 1000000000) ≤ℤ v → distance g (pos 1000000000) ≤ℤ v → distance z (pos 1000000000) ≤ℤ v
between_far z l g v a b low high = omega (arith, ints, clamps)

-- values lie between the least and the greatest end
values_from : (halves : List Interval) (values : List ℤ) (l : ℤ) → HoldValues halves values → All (λ z. l ≤ℤ z) (lows halves) → All (λ z. l ≤ℤ z) values
values_from halves values l held h = λ k d there.
    let same = AllZip-length (λ u x. IsBetween u.lo u.hi x) halves values held in
    let less : k < length (lows halves) = omega (arith, there, same, length-map halves (λ (u : Interval). u.lo)) in
    omega (arith, ints, h k d less, AllZip-get_or (λ x y. x ≤ℤ y) (lows halves) values k d d (held_above halves values held) less)

values_to : (halves : List Interval) (values : List ℤ) (g : ℤ) → HoldValues halves values → All (λ z. z ≤ℤ g) (highs halves) → All (λ z. z ≤ℤ g) values
values_to halves values g held h = λ k d there.
    let same = AllZip-length (λ u x. IsBetween u.lo u.hi x) halves values held in
    let less : k < length (highs halves) = omega (arith, there, same, length-map halves (λ (u : Interval). u.hi)) in
    omega (arith, ints, h k d less, AllZip-get_or (λ x y. x ≤ℤ y) values (highs halves) k d d (held_below halves values held) there)

pub wide_dc : (window : ℕ) (halves : List Interval) (dc dmax t : Interval) → 0 < window → AreWide halves dc dmax t → HoldsEachList Dc window halves dc
wide_dc window halves dc dmax t some h = λ values m held is.
    let low = values_from halves values h.least held h.is_least.at_most in
    let high = values_to halves values h.greatest held h.is_greatest.at_least in
    let ordered : h.least ≤ℤ h.greatest = omega (arith, ints, All-contains (λ z. z ≤ℤ h.greatest) (lows halves) h.least (lows_below halves h.greatest h.is_greatest.at_least) h.is_least.among) in
    let n = length values in
    record {
      above = omega (arith, ints, h.dc_low, is.natural);
      below = omega (
        arith,
        ints,
        h.dc_high,
        greatest_at_most (λ x. (c : Change) × IsChange (IsSteady window values) n c × Gives Dc window n (readings window values) c x) m (h.greatest -ℤ h.least) (omega (arith, ints, ordered))
            (λ x (c, change, e). step_at_most window values h.least h.greatest n c x some low high change e) is,
      );
    }

pub wide_dmax : (window : ℕ) (halves : List Interval) (dc dmax t : Interval) → 0 < window → AreWide halves dc dmax t → HoldsEachList Dmax window halves dmax
wide_dmax window halves dc dmax t some h = λ values m held is.
    let low = values_from halves values h.least held h.is_least.at_most in
    let high = values_to halves values h.greatest held h.is_greatest.at_least in
    let n = length values in
    let bound = h.dmax_high.at_least in
    let wide : (h.greatest -ℤ h.least) ≤ℤ dmax.hi = bound 0 (pos 0) (omega arith) in
    let away : ℤ → ℤ = λ z. distance z (pos 1000000000) in
    let rest = All-tail (λ z. z ≤ℤ dmax.hi) (h.greatest -ℤ h.least) (map away (lows halves ++ highs halves)) bound in
    let at_low = All-contains (λ z. z ≤ℤ dmax.hi) (map away (lows halves ++ highs halves)) (away h.least) rest (Contains-map away (lows halves ++ highs halves) h.least (Contains-append_left (lows halves) (highs halves) h.least h.is_least.among)) in
    let at_high = All-contains (λ z. z ≤ℤ dmax.hi) (map away (lows halves ++ highs halves)) (away h.greatest) rest (Contains-map away (lows halves ++ highs halves) h.greatest (Contains-append_right (lows halves) (highs halves) h.greatest h.is_greatest.among)) in
    let far : (z : ℤ) → h.least ≤ℤ z → z ≤ℤ h.greatest → distance z (pos 1000000000) ≤ℤ dmax.hi = λ z a b. between_far z h.least h.greatest dmax.hi a b at_low at_high in
    let natural : pos 0 ≤ℤ dmax.hi = omega (arith, ints, at_low, distance_natural h.least (pos 1000000000)) in
    record {
      above = omega (arith, ints, h.dmax_low, is.natural);
      below = greatest_at_most (λ x. (c : Change) × IsChange (IsSteady window values) n c × Gives Dmax window n (readings window values) c x) m dmax.hi natural
          (λ x (c, change, e). elim e [
            | inl step ↦ omega (arith, ints, wide, step_at_most window values h.least h.greatest n c x some low high change step)
            | inr (i, from, to, same) ↦ omega (arith, ints, same, swing_at_most window values h.least h.greatest dmax.hi n i c some low high wide far change (omega (arith, stop_within (IsSteady window values) window n c change)))
          ]) is;
    }

pub wide_t : (window : ℕ) (halves : List Interval) (dc dmax t : Interval) → AreWide halves dc dmax t → HoldsEachList Tmax window halves t
wide_t window halves dc dmax t h = λ values m held is.
    let n = length values in
    let same : length halves ≡ n = AllZip-length (λ u x. IsBetween u.lo u.hi x) halves values held in
    record {
      above = omega (arith, ints, h.t_low, is.natural);
      below = omega (
        arith,
        ints,
        h.t_high,
        same,
        greatest_at_most (λ x. (c : Change) × IsChange (IsSteady window values) n c × Gives Tmax window n (readings window values) c x) m (pos n) (omega (arith, ints))
            (λ x (c, change, e). omega (arith, ints, e, excesses_few ((readings window values).swing c) (first c) (stop window n c), stop_within (IsSteady window values) window n c change)) is,
      );
    }
