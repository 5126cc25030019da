-- One pass over the half-periods for all resolutions with the same last steady window: what it has found after each, and at the end.
use Rattle.std.proofs.Common.{◌≡◌, inl, inr, ℕ, zero, suc, ◌+◌, ◌-◌, ◌<◌, ◌≤◌, Bool, true, false, List, length, set, ℤ, pos, ◌≤ℤ◌, refl, sym, ap, ◌∙◌, subst, arith}
use Rattle.std.specs.Int.{int_max}
use Rattle.std.proofs.lemmas.Int.{ints, clamps}
use Rattle.std.proofs.lemmas.Bool.{false≢true}
use Rattle.flk_exact.proofs.ListLemmas.{AllZip-length}
use Rattle.flk_num.specs.declared.interval.Interval.{Interval}
use Rattle.flk_change.specs.declared.flag.Flag.{Flag}
use Rattle.flk_change.specs.declared.swings.Swings.{Swings}
use Rattle.flk_change.specs.declared.outcome.Outcome.{Outcome}
use Rattle.flk_change.specs.declared.pass.Pass.{Pass}
use Rattle.flk_num.specs.Interval.{lows, highs}
use Rattle.flk_change.specs.Changes.{Change, between, first, stop, level, before, Readings, IsAmong, excesses, IsGreatestOrZero, Quantity, Dc, Dmax, Tmax, Gives}
use Rattle.flk_change.specs.Resolutions.{Resolves, AreResolved, IsTaken, least_distance, greatest_distance, least_readings, greatest_readings}
use Rattle.flk_change.specs.Pass.{least_swing, greatest_swing, AreSwings, IsLastTaken, open_change, IsFirst, at_most, at_least, interval_in, AreHulls, closed_number, all_number, HasLast, HasNext, MayResolve, HasPassed}
use Rattle.flk_change.proofs.GreatestLemmas.{greatest_same, greatest_none}
use Rattle.flk_change.proofs.GivesLemmas.{gives_dc, gives_dmax, gives_t, gives_dc_open, gives_dmax_open}
use Rattle.flk_change.proofs.ChangeLemmas.{Closed, Every, none_closed, closed_untaken, closed_near, closed_new, closed_agree, last_untaken, last_none, last_same, last_before, greatest_of_all}
use Rattle.flk_change.proofs.SwingLemmas.{least_natural, greatest_natural, excesses_≤, excesses_none}
use Rattle.flk_change.proofs.FirstLemmas.{IsOrder, upwards, downwards, first_step}
use Rattle.flk_change.proofs.ResolutionLemmas.{resolution_exists, changed, new_choice, old_choices}

start_untaken : (resolution : List Bool) → ¬ IsTaken resolution 0
start_untaken resolution h = false≢true h

-- ---- what one change gives

among_by : (f g : ℕ → ℤ) (a b : ℕ) (m : ℤ) → ((i : ℕ) → f i ≡ g i) → IsGreatestOrZero (IsAmong f a b) m → IsGreatestOrZero (IsAmong g a b) m
among_by f g a b m same h =
    greatest_same (IsAmong f a b) (IsAmong g a b) m (λ x (i, low, high, e). (i, low, high, e ∙ same i)) (λ x (i, low, high, e). (i, low, high, e ∙ sym (same i))) h

excesses_by : (f g : ℕ → ℤ) (a b : ℕ) → ((i : ℕ) → f i ≡ g i) → excesses f a b ≡ excesses g a b
excesses_by f g a b same =
    omega (arith, excesses_≤ f g a b (λ i low high. omega (arith, ints, same i)), excesses_≤ g f a b (λ i low high. omega (arith, ints, same i)))

-- the half-periods of the change c give these swings
pub record IsPart (window : ℕ) (halves : List Interval) (c : Change) (s : Swings) : Type 0 where
  pub furthest_low : IsGreatestOrZero (IsAmong ((least_readings window halves).swing c) (first c) (stop window (length halves) c)) s.furthest.lo
  pub furthest_high : IsGreatestOrZero (IsAmong ((greatest_readings window halves).swing c) (first c) (stop window (length halves) c)) s.furthest.hi
  pub over_low : s.over.lo ≡ pos (excesses ((least_readings window halves).swing c) (first c) (stop window (length halves) c))
  pub over_high : s.over.hi ≡ pos (excesses ((greatest_readings window halves).swing c) (first c) (stop window (length halves) c))

least_swing_is : (window : ℕ) (halves : List Interval) (l : Interval) (c : Change) (i : ℕ) → l.lo ≡ before window (lows halves) c → l.hi ≡ before window (highs halves) c
    → least_swing halves l i ≡ (least_readings window halves).swing c i
least_swing_is window halves l c i e f = rw (e, f) refl

greatest_swing_is : (window : ℕ) (halves : List Interval) (l : Interval) (c : Change) (i : ℕ) → l.lo ≡ before window (lows halves) c → l.hi ≡ before window (highs halves) c
    → greatest_swing halves l i ≡ (greatest_readings window halves).swing c i
greatest_swing_is window halves l c i e f = rw (e, f) refl

part_is : (window : ℕ) (halves : List Interval) (l : Interval) (c : Change) (s : Swings) → l.lo ≡ before window (lows halves) c → l.hi ≡ before window (highs halves) c
    → AreSwings halves l (first c) (stop window (length halves) c) s → IsPart window halves c s
part_is window halves l c s e f h =
    let a = first c in
    let b = stop window (length halves) c in
    record {
      furthest_low = among_by (least_swing halves l) ((least_readings window halves).swing c) a b s.furthest.lo (λ i. least_swing_is window halves l c i e f) h.furthest_low;
      furthest_high = among_by (greatest_swing halves l) ((greatest_readings window halves).swing c) a b s.furthest.hi (λ i. greatest_swing_is window halves l c i e f) h.furthest_high;
      over_low = h.certain ∙ ap pos (excesses_by (least_swing halves l) ((least_readings window halves).swing c) a b (λ i. least_swing_is window halves l c i e f));
      over_high = h.possible ∙ ap pos (excesses_by (greatest_swing halves l) ((greatest_readings window halves).swing c) a b (λ i. greatest_swing_is window halves l c i e f));
    }

-- ---- the numbers of resolutions with the same last steady window

start_closed : (flags : List Flag) (gives : Change → ℤ → Type 0) (order : ℤ → ℤ → Type 0) → order (pos 0) (pos 0) → IsFirst order (HasLast flags 0 0) (λ b. IsGreatestOrZero (Closed (IsTaken b) 0 gives)) (pos 0)
start_closed flags gives order same =
    let none : (b : List Bool) → IsGreatestOrZero (Closed (IsTaken b) 0 gives) (pos 0) = λ b. greatest_none (Closed (IsTaken b) 0 gives) (λ x (c, s, e). none_closed (IsTaken b) c s) in
    let some = resolution_exists flags in
    record { reached = (some.0, (some.1, last_none (IsTaken some.0)), none some.0); bounds = λ b is. (pos 0, none b, same) }

-- what another choice at the window behind n leaves as it was
record LeavesFirst (b c : List Bool) (n : ℕ) : Type 0 where
  to : (i : ℕ) → i ≤ n → IsTaken b i → IsTaken c i
  from : (i : ℕ) → i ≤ n → IsTaken c i → IsTaken b i

changed_behind : (b : List Bool) (n : ℕ) (steady : Bool) → LeavesFirst b (set b n steady) n
changed_behind b n steady = record { to = λ i low t. old_choices b n i steady low ∙ t; from = λ i low t. sym (old_choices b n i steady low) ∙ t }

long_enough : (flags : List Flag) (b : List Bool) (n : ℕ) → n < length flags → AreResolved flags b → n < length b
long_enough flags b n there is = omega (arith, there, AllZip-length Resolves flags b is)

taken_now : (flags : List Flag) (b : List Bool) (n : ℕ) → n < length flags → AreResolved flags b → IsTaken (set b n true) (n + 1)
taken_now flags b n there is = new_choice b n true (long_enough flags b n there is)

untaken_now : (flags : List Flag) (b : List Bool) (n : ℕ) → n < length flags → AreResolved flags b → ¬ IsTaken (set b n false) (n + 1)
untaken_now flags b n there is t = false≢true (sym (new_choice b n false (long_enough flags b n there is)) ∙ t)

-- the window behind n is not taken
first_untaken : (order : ℤ → ℤ → Type 0) (flags : List Flag) (n last : ℕ) (gives : Change → ℤ → Type 0) (v : ℤ) → last ≤ n → MayResolve flags n false
    → IsFirst order (HasLast flags n last) (λ b. IsGreatestOrZero (Closed (IsTaken b) n gives)) v → IsFirst order (HasLast flags (n + 1) last) (λ b. IsGreatestOrZero (Closed (IsTaken b) (n + 1) gives)) v
first_untaken order flags n last gives v low may h =
    first_step order (HasLast flags n last) (HasLast flags (n + 1) last) (λ b. IsGreatestOrZero (Closed (IsTaken b) n gives)) (λ b. IsGreatestOrZero (Closed (IsTaken b) (n + 1) gives)) (λ m. m) v
    (λ x y a. a)
    (λ b (is, t). ((is, last_before (IsTaken b) n last low t), λ m g. closed_untaken (IsTaken b) n gives m (t.none (n + 1) (omega (arith, low)) (omega arith)) g))
    (λ b m (is, t) g.
    let c = set b n false in
    let same = changed_behind b n false in
    let never = untaken_now flags b n may.0 is in (
      c,
      (changed flags b n false may is, last_untaken (IsTaken c) n last never (last_same (IsTaken b) (IsTaken c) n last same.to same.from t)),
      closed_untaken (IsTaken c) n gives m never (closed_agree (IsTaken b) (IsTaken c) n gives m same.to same.from g),
    ))
    h

-- it is taken, and what it does to the number of one resolution is known
first_taken : (order : ℤ → ℤ → Type 0) (flags : List Flag) (n last : ℕ) (gives : Change → ℤ → Type 0) (f : ℤ → ℤ) (v : ℤ) → ((x y : ℤ) → order x y → order (f x) (f y)) → MayResolve flags n true
    → ((b : List Bool) (m : ℤ) → IsLastTaken (IsTaken b) n last → IsTaken b (n + 1) → IsGreatestOrZero (Closed (IsTaken b) n gives) m → IsGreatestOrZero (Closed (IsTaken b) (n + 1) gives) (f m))
    → IsFirst order (HasLast flags n last) (λ b. IsGreatestOrZero (Closed (IsTaken b) n gives)) v → IsFirst order (HasNext flags n last) (λ b. IsGreatestOrZero (Closed (IsTaken b) (n + 1) gives)) (f v)
first_taken order flags n last gives f v kept may step h =
    first_step order (HasLast flags n last) (HasNext flags n last) (λ b. IsGreatestOrZero (Closed (IsTaken b) n gives)) (λ b. IsGreatestOrZero (Closed (IsTaken b) (n + 1) gives)) f v
    kept
    (λ b ((is, t), taken). ((is, t), λ m g. step b m t taken g))
    (λ b m (is, t) g.
    let c = set b n true in
    let same = changed_behind b n true in
    let taken = taken_now flags b n may.0 is in
    let last_one = last_same (IsTaken b) (IsTaken c) n last same.to same.from t in
    (c, ((changed flags b n true may is, last_one), taken), step c m last_one taken (closed_agree (IsTaken b) (IsTaken c) n gives m same.to same.from g)))
    h

-- at the end, where the open change gives r
first_ended : (order : ℤ → ℤ → Type 0) → IsOrder order → (flags : List Flag) (n last : ℕ) (gives : Change → ℤ → Type 0) (v r : ℤ) → IsGreatestOrZero (gives (open_change last)) r → (0 < last → n ≤ last → r ≡ pos 0)
    → IsFirst order (HasLast flags n last) (λ b. IsGreatestOrZero (Closed (IsTaken b) n gives)) v → IsFirst order (HasLast flags n last) (λ b. IsGreatestOrZero (Every (IsTaken b) n gives)) (int_max v r)
first_ended order is flags n last gives v r last_one none h =
    let end : (b : List Bool) (m : ℤ) → IsLastTaken (IsTaken b) n last → IsGreatestOrZero (Closed (IsTaken b) n gives) m → IsGreatestOrZero (Every (IsTaken b) n gives) (int_max m r) =
    λ b m t g. greatest_of_all (IsTaken b) n last gives m r (start_untaken b) t last_one none g in
    first_step order (HasLast flags n last) (HasLast flags n last) (λ b. IsGreatestOrZero (Closed (IsTaken b) n gives)) (λ b. IsGreatestOrZero (Every (IsTaken b) n gives)) (λ m. int_max m r) v
    (λ x y a. is.kept x y r a)
    (λ b (rs, t). ((rs, t), λ m g. end b m t g))
    (λ b m (rs, t) g. (b, (rs, t), end b m t g))
    h

-- ---- the three quantities

pub hulls_start : (window : ℕ) (halves : List Interval) (flags : List Flag) (o : Outcome) → ((q : Quantity) → ((interval_in q o).lo ≡ pos 0) × ((interval_in q o).hi ≡ pos 0))
    → AreHulls window halves (HasLast flags 0 0) (closed_number window (length halves) 0) o
hulls_start window halves flags o zero_ends = record {
  low = λ q. subst (IsFirst at_most (HasLast flags 0 0) (closed_number window (length halves) 0 q (least_readings window halves))) (sym (zero_ends q).0)
      (start_closed flags (Gives q window (length halves) (least_readings window halves)) at_most (omega (arith, ints)));
  high = λ q. subst (IsFirst at_least (HasLast flags 0 0) (closed_number window (length halves) 0 q (greatest_readings window halves))) (sym (zero_ends q).1)
      (start_closed flags (Gives q window (length halves) (greatest_readings window halves)) at_least (omega (arith, ints)));
}

pub hulls_untaken : (window : ℕ) (halves : List Interval) (flags : List Flag) (n last : ℕ) (o : Outcome) → last ≤ n → MayResolve flags n false
    → AreHulls window halves (HasLast flags n last) (closed_number window (length halves) n) o → AreHulls window halves (HasLast flags (n + 1) last) (closed_number window (length halves) (n + 1)) o
hulls_untaken window halves flags n last o low may h = record {
  low = λ q. first_untaken at_most flags n last (Gives q window (length halves) (least_readings window halves)) (interval_in q o).lo low may (h.low q);
  high = λ q. first_untaken at_least flags n last (Gives q window (length halves) (greatest_readings window halves)) (interval_in q o).hi low may (h.high q);
}

-- the window before is the last one, or there is none
pub hulls_near : (window : ℕ) (halves : List Interval) (flags : List Flag) (n last : ℕ) (o : Outcome) → (0 < last → n ≤ last) → MayResolve flags n true
    → AreHulls window halves (HasLast flags n last) (closed_number window (length halves) n) o → AreHulls window halves (HasNext flags n last) (closed_number window (length halves) (n + 1)) o
hulls_near window halves flags n last o near may h =
    let step : (gives : Change → ℤ → Type 0) (b : List Bool) (m : ℤ) → IsLastTaken (IsTaken b) n last → IsTaken b (n + 1) → IsGreatestOrZero (Closed (IsTaken b) n gives) m → IsGreatestOrZero (Closed (IsTaken b) (n + 1) gives) m =
    λ gives b m t taken g. closed_near (IsTaken b) n last gives m (start_untaken b) t near g in
    record {
      low = λ q. let gives = Gives q window (length halves) (least_readings window halves) in
          first_taken at_most flags n last gives (λ m. m) (interval_in q o).lo (λ x y a. a) may (step gives) (h.low q);
      high = λ q. let gives = Gives q window (length halves) (greatest_readings window halves) in
          first_taken at_least flags n last gives (λ m. m) (interval_in q o).hi (λ x y a. a) may (step gives) (h.high q);
    }

-- what a change gives to each quantity: by its step, the greatest swing of its half-periods, and how many are above
abbrev given : Quantity → (step furthest over : ℤ) → ℤ
given Dc step furthest over = step
given Dmax step furthest over = int_max step furthest
given Tmax step furthest over = over

-- what the code does to the ends with one change more
pub record IsMore (o : Outcome) (step : Interval) (s : Swings) (r : Outcome) : Type 0 where
  pub dc_low : r.dc.lo ≡ int_max o.dc.lo step.lo
  pub dc_high : r.dc.hi ≡ int_max o.dc.hi step.hi
  pub dmax_low : r.dmax.lo ≡ int_max (int_max o.dmax.lo step.lo) s.furthest.lo
  pub dmax_high : r.dmax.hi ≡ int_max (int_max o.dmax.hi step.hi) s.furthest.hi
  pub t_low : r.t.lo ≡ int_max o.t.lo s.over.lo
  pub t_high : r.t.hi ≡ int_max o.t.hi s.over.hi

more_low : (o : Outcome) (step : Interval) (s : Swings) (r : Outcome) (q : Quantity) → IsMore o step s r → int_max (interval_in q o).lo (given q step.lo s.furthest.lo s.over.lo) ≡ (interval_in q r).lo
more_low o step s r Dc h = sym h.dc_low
more_low o step s r Dmax h = omega (arith, ints, clamps, h.dmax_low)
more_low o step s r Tmax h = sym h.t_low

more_high : (o : Outcome) (step : Interval) (s : Swings) (r : Outcome) (q : Quantity) → IsMore o step s r → int_max (interval_in q o).hi (given q step.hi s.furthest.hi s.over.hi) ≡ (interval_in q r).hi
more_high o step s r Dc h = sym h.dc_high
more_high o step s r Dmax h = omega (arith, ints, clamps, h.dmax_high)
more_high o step s r Tmax h = sym h.t_high

-- the greatest number that a change between two windows gives
gives_between : (q : Quantity) (window count : ℕ) (r : Readings) (j k : ℕ) (furthest over : ℤ) → pos 0 ≤ℤ r.step j k → IsGreatestOrZero (IsAmong (r.swing (between j k)) j (k - window)) furthest
    → over ≡ pos (excesses (r.swing (between j k)) j (k - window)) → IsGreatestOrZero (Gives q window count r (between j k)) (given q (r.step j k) furthest over)
gives_between Dc window count r j k furthest over natural most is = gives_dc window count r j k natural
gives_between Dmax window count r j k furthest over natural most is = gives_dmax window count r j k furthest natural most
gives_between Tmax window count r j k furthest over natural most is = subst (IsGreatestOrZero (Gives Tmax window count r (between j k))) (sym is) (gives_t window count r (between j k))

before_open : (window : ℕ) (xs : List ℤ) (last k : ℕ) → 0 < last → before window xs (open_change last) ≡ before window xs (between last k)
before_open window xs zero k some = absurd (omega arith)
before_open window xs (suc j) k some = refl

-- the change between the last steady window and one that ends after n + 1 half-periods
pub hulls_far : (window : ℕ) (halves : List Interval) (flags : List Flag) (n : ℕ) (p : Pass) (now step : Interval) (s : Swings) (r : Outcome) → MayResolve flags n true
    → HasPassed window halves flags n p → 0 < p.last → p.last < n
    → now.lo ≡ level window (lows halves) (n + 1) → now.hi ≡ level window (highs halves) (n + 1)
    → step.lo ≡ least_distance now.lo now.hi p.before.lo p.before.hi → step.hi ≡ greatest_distance now.lo now.hi p.before.lo p.before.hi
    → AreSwings halves p.before p.last (n + 1 - window) s → IsMore p.outcome step s r → AreHulls window halves (HasNext flags n p.last) (closed_number window (length halves) (n + 1)) r
hulls_far window halves flags n p now step s r may h some less low high step_low step_high swings more =
    let l = least_readings window halves in
    let g = greatest_readings window halves in
    let len = length halves in
    let last = p.last in
    let c = between last (n + 1) in
    let e = h.before_low ∙ before_open window (lows halves) last (n + 1) some in
    let f = h.before_high ∙ before_open window (highs halves) last (n + 1) some in
    let part = part_is window halves p.before c s e f swings in
    let sl : l.step last (n + 1) ≡ step.lo = rw (step_low, low, high, e, f) refl in
    let sg : g.step last (n + 1) ≡ step.hi = rw (step_high, low, high, e, f) refl in
    let natural_low = subst (λ (z : ℤ). pos 0 ≤ℤ z) (sym step_low ∙ sym sl) (least_natural now.lo now.hi p.before.lo p.before.hi) in
    let natural_high = subst (λ (z : ℤ). pos 0 ≤ℤ z) (sym step_high ∙ sym sg) (greatest_natural now.lo now.hi p.before.lo p.before.hi now.ordered p.before.ordered) in
    let o = p.outcome in
    record {
      low = λ q.
          let gives = Gives q window len l in
          let x = given q (l.step last (n + 1)) s.furthest.lo s.over.lo in
          let is : int_max (interval_in q o).lo x ≡ (interval_in q r).lo = ap (λ (z : ℤ). int_max (interval_in q o).lo (given q z s.furthest.lo s.over.lo)) sl ∙ more_low o step s r q more in
          subst (IsFirst at_most (HasNext flags n last) (closed_number window len (n + 1) q l)) is
          (first_taken at_most flags n last gives (λ m. int_max m x) (interval_in q o).lo (λ y z a. upwards.kept y z x a) may
          (λ b m t taken was. closed_new (IsTaken b) n last gives m x t some less taken (gives_between q window len l last (n + 1) s.furthest.lo s.over.lo natural_low part.furthest_low part.over_low) was)
          (h.outcome.low q));
      high = λ q.
          let gives = Gives q window len g in
          let x = given q (g.step last (n + 1)) s.furthest.hi s.over.hi in
          let is : int_max (interval_in q o).hi x ≡ (interval_in q r).hi = ap (λ (z : ℤ). int_max (interval_in q o).hi (given q z s.furthest.hi s.over.hi)) sg ∙ more_high o step s r q more in
          subst (IsFirst at_least (HasNext flags n last) (closed_number window len (n + 1) q g)) is
          (first_taken at_least flags n last gives (λ m. int_max m x) (interval_in q o).hi (λ y z a. downwards.kept y z x a) may
          (λ b m t taken was. closed_new (IsTaken b) n last gives m x t some less taken (gives_between q window len g last (n + 1) s.furthest.hi s.over.hi natural_high part.furthest_high part.over_high) was)
          (h.outcome.high q));
    }

-- ---- the end

-- the greatest of no place is 0
empty_part : (f : ℕ → ℤ) (a b : ℕ) (m : ℤ) → b ≤ a → IsGreatestOrZero (IsAmong f a b) m → m ≡ pos 0
empty_part f a b m none h = elim h.reached [ inl e ↦ e | inr (i, low, high, e) ↦ absurd (omega arith) ]

open_first : (last : ℕ) → first (open_change last) ≡ last
open_first zero = refl
open_first (suc j) = refl

open_stop : (window n last : ℕ) → stop window n (open_change last) ≡ n
open_stop window n zero = refl
open_stop window n (suc j) = refl

-- the greatest number that the open change gives, where no step is 0
gives_open : (q : Quantity) (window count : ℕ) (r : Readings) (last : ℕ) (step furthest over : ℤ) → step ≡ pos 0
    → IsGreatestOrZero (IsAmong (r.swing (open_change last)) (first (open_change last)) (stop window count (open_change last))) furthest
    → over ≡ pos (excesses (r.swing (open_change last)) (first (open_change last)) (stop window count (open_change last))) → IsGreatestOrZero (Gives q window count r (open_change last)) (given q step furthest over)
gives_open Dc window count r last step furthest over none most is = subst (IsGreatestOrZero (Gives Dc window count r (open_change last))) (sym none) (gives_dc_open window count r last)
gives_open Dmax window count r last step furthest over none most is =
    let e : furthest ≡ int_max step furthest = omega (arith, ints, clamps, none, most.natural) in
    subst (IsGreatestOrZero (Gives Dmax window count r (open_change last))) e (gives_dmax_open window count r last furthest most)
gives_open Tmax window count r last step furthest over none most is = subst (IsGreatestOrZero (Gives Tmax window count r (open_change last))) (sym is) (gives_t window count r (open_change last))

given_none : (q : Quantity) (step furthest over : ℤ) → step ≡ pos 0 → furthest ≡ pos 0 → over ≡ pos 0 → given q step furthest over ≡ pos 0
given_none Dc step furthest over a b c = a
given_none Dmax step furthest over a b c = omega (arith, ints, clamps, a, b)
given_none Tmax step furthest over a b c = c

pub hulls_end : (window : ℕ) (halves : List Interval) (flags : List Flag) (p : Pass) (none : Interval) (s : Swings) (r : Outcome) → HasPassed window halves flags (length halves) p
    → none.lo ≡ pos 0 → none.hi ≡ pos 0 → AreSwings halves p.before p.last (length halves) s → IsMore p.outcome none s r
    → AreHulls window halves (HasLast flags (length halves) p.last) (all_number window (length halves)) r
hulls_end window halves flags p none s r h low high swings more =
    let l = least_readings window halves in
    let g = greatest_readings window halves in
    let n = length halves in
    let last = p.last in
    let c = open_change last in
    let o = p.outcome in
    let at : AreSwings halves p.before (first c) (stop window n c) s = rw (open_first last, open_stop window n last) swings in
    let part = part_is window halves p.before c s h.before_low h.before_high at in
    let empty_low : n ≤ last → s.furthest.lo ≡ pos 0 = λ most. empty_part (least_swing halves p.before) last n s.furthest.lo most swings.furthest_low in
    let empty_high : n ≤ last → s.furthest.hi ≡ pos 0 = λ most. empty_part (greatest_swing halves p.before) last n s.furthest.hi most swings.furthest_high in
    let never_low : n ≤ last → s.over.lo ≡ pos 0 = λ most. swings.certain ∙ ap pos (excesses_none (least_swing halves p.before) last n most) in
    let never_high : n ≤ last → s.over.hi ≡ pos 0 = λ most. swings.possible ∙ ap pos (excesses_none (greatest_swing halves p.before) last n most) in
    record {
      low = λ q.
          let x = given q none.lo s.furthest.lo s.over.lo in
          subst (IsFirst at_most (HasLast flags n last) (all_number window n q l)) (more_low o none s r q more)
          (first_ended at_most upwards flags n last (Gives q window n l) (interval_in q o).lo x (gives_open q window n l last none.lo s.furthest.lo s.over.lo low part.furthest_low part.over_low)
          (λ some most. given_none q none.lo s.furthest.lo s.over.lo low (empty_low most) (never_low most)) (h.outcome.low q));
      high = λ q.
          let x = given q none.hi s.furthest.hi s.over.hi in
          subst (IsFirst at_least (HasLast flags n last) (all_number window n q g)) (more_high o none s r q more)
          (first_ended at_least downwards flags n last (Gives q window n g) (interval_in q o).hi x (gives_open q window n g last none.hi s.furthest.hi s.over.hi high part.furthest_high part.over_high)
          (λ some most. given_none q none.hi s.furthest.hi s.over.hi high (empty_high most) (never_high most)) (h.outcome.high q));
    }
