-- What a phase becomes by samples.
use Rattle.std.proofs.Common.{◌≡◌, ℕ, ◌+◌, ◌<◌, set, drop, take-add, ◌≤◌, List, [], ◌∷◌, ◌++◌, ◌-◌, length, get_or, take, reverse, ℤ, pos, true, false, Option, None, Some, IfNone, IfSome, refl, sym, subst, ap, ◌∙◌, arith, ⊎_elim, length-append, length-take, length-drop, length-take-le, append_assoc}
use borrow.Author.Count.{below_more}
use Rattle.std.specs.List.{All}
use Rattle.std.proofs.lemmas.Bool.{cases_lt}
use Rattle.std.proofs.lemmas.List.{take_more, take_more_set, take_all, drop_more, get_or-map, get_or-drop, length-map, drop_all, take-take, get_or-take, reverse-append}
use Rattle.std.proofs.lemmas.List.Elements.{All-push}
use Rattle.flk_exact.proofs.ListLemmas.{reverse-push}
use Rattle.std.specs.Option.{is_some}
use Rattle.flk_exact.specs.Fraction.{whole}
use Rattle.flk_scale.specs.declared.scale.Scale.{Scale}
use Rattle.flk_scale.specs.Scale.{voltage_of, nominal_of}
use Rattle.flk_scale.specs.Voltage.{IsOverRange}
use Rattle.flk_scale.specs.Range.{voltage_at, IsWithinRange, IsFirstOver}
use Rattle.flk_scale.proofs.RangeLemmas.{over_cases, within_has_no_over, one_over}
use Rattle.flk_front.specs.declared.point.Point.{Point}
use Rattle.flk_section.specs.Points.{IsPointInRange}
use Rattle.flk_phase.specs.declared.meter.Meter.{Meter}
use Rattle.flk_phase.specs.declared.severities.Severities.{Severities}
use Rattle.flk_phase.specs.declared.phase.Phase.{Phase}
use Rattle.flk_phase.specs.Halves.{AreSameHalves}
use Rattle.flk_phase.specs.Meter.{StandsFor as MeterStandsFor, whole_of as whole_of_meter}
use Rattle.flk_phase.specs.Severities.{StandsFor as SeveritiesStandFor}
use Rattle.flk_phase.specs.Phase.{scale_of, whole_of, conditions_of, taken_of, spare_of, over_of, told_by, Stands, StandsAhead}
use Rattle.flk_phase.specs.Taking.{IsMadeAlike, HasTaken, IsCountWithin, TookAll, StoppedAt, IsSamePhase, Takes}
use Rattle.flk_phase.proofs.PhaseLemmas.{conditions_stay, moved_filter}

-- ---- a phase with other room

-- The parts of the new phase are those of the old one, but for the room.
pub record IsRefitted (old new : Phase) : Type 0 where
  pub scale : new.scale ≡ old.scale
  pub channel : new.channel ≡ old.channel
  pub setup : new.setup ≡ old.setup
  pub taken : new.taken ≡ old.taken
  pub meter : new.meter ≡ old.meter
  pub severities : new.severities ≡ old.severities
  pub halves : AreSameHalves old.halves new.halves

pub alike_refitted : (old new : Phase) → IsRefitted old new → IsMadeAlike old new
alike_refitted old new f = record {
  scale = f.scale;
  channel = f.channel;
  whole = ap whole_of_meter f.meter;
  conditions = conditions_stay old new f.scale f.setup (ap whole_of_meter f.meter);
}

pub stands_refitted : (old new : Phase) → IsRefitted old new → (samples : List ℤ) → Stands old samples → Stands new samples
stands_refitted old new f samples h =
    let alike = alike_refitted old new f in
    record {
      filter = moved_filter (conditions_of old) (conditions_of new) (whole_of old) (whole_of new) alike.conditions alike.whole h.filter;
      within = rw f.scale h.within;
      voltages = h.voltages;
      levels = h.levels;
      are_voltages = rw f.scale h.are_voltages;
      halves = rw f.scale (f.halves.stands _ _ h.halves);
      meter = subst (λ (m : Meter). MeterStandsFor m (reverse h.voltages) (reverse h.levels)) (sym f.meter) h.meter;
      severities = rw f.setup (subst (λ (s : Severities). SeveritiesStandFor s old.setup.run_in old.setup.interval old.setup.count h.levels) (sym f.severities) h.severities);
      level_each = h.level_each;
      taken = f.taken ∙ h.taken;
    }

pub same_refitted : (old new : Phase) → IsRefitted old new → over_of new ≡ over_of old → IsSamePhase old new
same_refitted old new f over = record { alike = alike_refitted old new f; over = over; taken = f.taken; stands = stands_refitted old new f }

has_refitted : (old mid new : Phase) (xs : List ℤ) → IsRefitted mid new → HasTaken old mid xs → HasTaken old new xs
has_refitted old mid new xs f has = record {
  taken = f.taken ∙ has.taken;
  stands = λ samples h. stands_refitted mid new f (samples ++ xs) (has.stands samples h);
}

pub alike_twice : (old mid new : Phase) → IsMadeAlike old mid → IsMadeAlike mid new → IsMadeAlike old new
alike_twice old mid new a b = record {
  scale = b.scale ∙ a.scale;
  channel = b.channel ∙ a.channel;
  whole = b.whole ∙ a.whole;
  conditions = b.conditions ∙ a.conditions;
}

-- ---- one sample more

abbrev pub no_point : Point
no_point = record { mid = pos 0; radius = pos 0 }

pub ahead_more : (new : Phase) (samples xs : List ℤ) (points : List Point) (k : ℕ) (x : ℤ) (p : Point) → k < length xs → k < length points → x ≡ get_or xs k (pos 0)
    → StandsAhead new ((samples ++ take k xs) ++ x ∷ []) (p ∷ reverse (take k points)) → StandsAhead new (samples ++ take (k + 1) xs) (reverse (take (k + 1) (set points k p)))
ahead_more new samples xs points k x p less room is h =
    let split : take (k + 1) xs ≡ take k xs ++ x ∷ [] = rw is (take_more xs k (pos 0) less) in
    let those : (samples ++ take k xs) ++ x ∷ [] ≡ samples ++ take (k + 1) xs = append_assoc samples (take k xs) (x ∷ []) ∙ ap (λ ys. samples ++ ys) (sym split) in
    let points_then : p ∷ reverse (take k points) ≡ reverse (take (k + 1) (set points k p)) = sym (ap reverse (take_more_set points k p room) ∙ reverse-push (take k points) p) in
    subst (λ (ps : List Point). StandsAhead new (samples ++ take (k + 1) xs) ps) points_then (subst (λ (ys : List ℤ). StandsAhead new ys (p ∷ reverse (take k points))) those h)

pub points_more : (points : List Point) (k : ℕ) (p : Point) → k < length points → IsPointInRange p → All IsPointInRange (take k points) → All IsPointInRange (take (k + 1) (set points k p))
points_more points k p room fine h =
    subst (λ (ps : List Point). All IsPointInRange ps) (sym (take_more_set points k p room)) (All-push IsPointInRange (take k points) p h fine)

-- none waits behind the last one
pub none_waits : (new : Phase) (samples : List ℤ) (points : List Point) (k : ℕ) → length points ≤ k → StandsAhead new samples (reverse (drop k points)) → Stands new samples
none_waits new samples points k all h = subst (λ (ps : List Point). StandsAhead new samples (reverse ps)) (drop_all k points all) h

-- the points from one on wait, and then those from the next one on
pub waiting_less : (old new : Phase) (samples : List ℤ) (points : List Point) (k : ℕ) (p : Point) → k < length points → p ≡ get_or points k no_point
    → ((waiting : List Point) → StandsAhead old samples (waiting ++ p ∷ []) → StandsAhead new samples waiting) → StandsAhead old samples (reverse (drop k points)) → StandsAhead new samples (reverse (drop (k + 1) points))
waiting_less old new samples points k p less is step h =
    let rest = drop (k + 1) points in
    let here : reverse (drop k points) ≡ reverse rest ++ p ∷ [] = rw is (ap reverse (drop_more points k no_point less) ∙ reverse-append (get_or points k no_point ∷ []) rest) in
    step (reverse rest) (subst (λ (ps : List Point). StandsAhead old samples ps) here h)

-- none of the first n samples is over range
abbrev pub NoneBelow : Scale → List ℤ → ℕ → Type 0
NoneBelow scale xs n = (k : ℕ) → k < n → ¬ IsOverRange (nominal_of scale) (voltage_of scale (get_or xs k (pos 0)))

at_scale : (old mid : Scale) (x y : ℤ) → mid ≡ old → x ≡ y → IsOverRange (nominal_of old) (voltage_of old y) → IsOverRange (nominal_of mid) (voltage_of mid x)
at_scale old mid x y scale same over = rw (scale, same) over

from_scale : (old mid : Scale) (x y : ℤ) → mid ≡ old → x ≡ y → IsOverRange (nominal_of mid) (voltage_of mid x) → IsOverRange (nominal_of old) (voltage_of old y)
from_scale old mid x y scale same over = at_scale mid old y x (sym scale) (sym same) over

pub none_more : (old mid : Scale) (xs : List ℤ) (n : ℕ) (x : ℤ) → mid ≡ old → x ≡ get_or xs n (pos 0) → NoneBelow old xs n → ¬ IsOverRange (nominal_of mid) (voltage_of mid x) → NoneBelow old xs (n + 1)
none_more old mid xs n x scale is none fine =
    let P : ℕ → Type 0 = λ k. ¬ IsOverRange (nominal_of old) (voltage_of old (get_or xs k (pos 0))) in
    below_more P n none (λ over. fine (at_scale old mid x (get_or xs n (pos 0)) scale is over))

told_at : (scale : Scale) (xs : List ℤ) (k : ℕ) → k < length xs → voltage_at (told_by scale xs) k ≡ voltage_of scale (get_or xs k (pos 0))
told_at scale xs k less = get_or-map (voltage_of scale) xs k (pos 0) (whole (pos 0)) less

all_within : (scale : Scale) (xs : List ℤ) (n : ℕ) → n ≡ length xs → NoneBelow scale xs n → IsWithinRange (nominal_of scale) (told_by scale xs)
all_within scale xs n all none = λ k less over.
    let low : k < length xs = omega (arith, less, length-map xs (voltage_of scale)) in
    none k (omega (arith, low, all)) (subst (IsOverRange (nominal_of scale)) (told_at scale xs k low) over)

first_over : (scale : Scale) (xs : List ℤ) (n : ℕ) → n < length xs → NoneBelow scale xs n → IsOverRange (nominal_of scale) (voltage_of scale (get_or xs n (pos 0)))
    → IsFirstOver (nominal_of scale) (told_by scale xs) n
first_over scale xs n less none over = record {
  there = omega (arith, less, length-map xs (voltage_of scale));
  over = subst (IsOverRange (nominal_of scale)) (sym (told_at scale xs n less)) over;
  first = λ k low again. none k low (subst (IsOverRange (nominal_of scale)) (told_at scale xs k (omega (arith, low, less))) again);
}

-- ---- one part more

-- what is so of the samples of a part is so of all samples, where the part begins behind k of them
pub none_in_part : (old mid : Scale) (xs : List ℤ) (k n : ℕ) → mid ≡ old → NoneBelow old xs k → NoneBelow mid (drop k xs) n → NoneBelow old xs (k + n)
none_in_part old mid xs k n scale before here = λ j less over.
    ⊎_elim (λ low. before j low over)
    (λ high.
    let place : k + (j - k) ≡ j = omega (arith, high) in
    let same : get_or xs j (pos 0) ≡ get_or (drop k xs) (j - k) (pos 0) = ap (λ (i : ℕ). get_or xs i (pos 0)) (sym place) ∙ sym (get_or-drop k xs (j - k) (pos 0)) in
    here (j - k) (omega (arith, less, high)) (at_scale old mid (get_or (drop k xs) (j - k) (pos 0)) (get_or xs j (pos 0)) scale (sym same) over))
    (cases_lt j k)

pub taken_part : (old mid new : Phase) (xs : List ℤ) (k n : ℕ) → k + n ≤ length xs → HasTaken old mid (take k xs) → HasTaken mid new (take n (drop k xs)) → HasTaken old new (take (k + n) xs)
taken_part old mid new xs k n within before after =
    let split : take (k + n) xs ≡ take k xs ++ take n (drop k xs) = take-add k n xs in
    record {
      taken = rw split (omega (arith, before.taken, after.taken, length-append (take k xs) (take n (drop k xs))));
      stands = λ samples h.
          subst (Stands new) (append_assoc samples (take k xs) (take n (drop k xs)) ∙ ap (λ ys. samples ++ ys) (sym split)) (after.stands (samples ++ take k xs) (before.stands samples h));
    }

-- all samples of a list were taken
pub count_all : (scale : Scale) (xs : List ℤ) (n count : ℕ) → count ≡ n → n ≡ length xs → NoneBelow scale xs n → IsCountWithin scale xs count
count_all scale xs n count same all none = record {
  few = omega (arith, same, all);
  none = λ k less. none k (omega (arith, less, same));
  over = λ less. absurd (omega (arith, less, same, all));
}

-- those before one over range were
pub count_stopped : (old mid : Scale) (xs : List ℤ) (n count : ℕ) (x : ℤ) → count ≡ n → n < length xs → mid ≡ old → x ≡ get_or xs n (pos 0) → NoneBelow old xs n
    → IsOverRange (nominal_of mid) (voltage_of mid x) → IsCountWithin old xs count
count_stopped old mid xs n count x same less scale is none over = record {
  few = omega (arith, same, less);
  none = λ k low. none k (omega (arith, low, same));
  over = λ _. from_scale old mid x (get_or xs count (pos 0)) scale (is ∙ ap (λ (i : ℕ). get_or xs i (pos 0)) (sym same)) over;
}

-- n samples of a part of m samples behind the first k
pub part_taken : (old mid new : Phase) (xs : List ℤ) (k m n : ℕ) → k ≤ length xs → scale_of mid ≡ scale_of old → IsCountWithin (scale_of mid) (take m (drop k xs)) n → HasTaken old mid (take k xs)
    → HasTaken mid new (take n (take m (drop k xs))) → NoneBelow (scale_of old) xs k → (k + n ≤ length xs) × HasTaken old new (take (k + n) xs) × NoneBelow (scale_of old) xs (k + n)
part_taken old mid new xs k m n there scale count before after none =
    let few : n ≤ m = omega (arith, count.few, length-take m (drop k xs)) in
    let within : k + n ≤ length xs = omega (arith, there, count.few, length-take m (drop k xs), length-drop k xs) in
    let these : HasTaken mid new (take n (drop k xs)) = subst (HasTaken mid new) (take-take n m (drop k xs) few) after in
    let fine : NoneBelow (scale_of mid) (drop k xs) n = λ j less.
    subst (λ (y : ℤ). ¬ IsOverRange (nominal_of (scale_of mid)) (voltage_of (scale_of mid) y)) (get_or-take m (drop k xs) j (pos 0) (omega (arith, less, few))) (count.none j less) in
    (within, taken_part old mid new xs k n within before these, none_in_part (scale_of old) (scale_of mid) xs k n scale none fine)

pub took_all : (old new : Phase) (xs : List ℤ) (n : ℕ) → n ≡ length xs → NoneBelow (scale_of old) xs n → HasTaken old new (take n xs) → TookAll old new xs
took_all old new xs n all none has =
    let every : take n xs ≡ xs = take_all n xs (omega (arith, all)) in
    record { within = all_within (scale_of old) xs n all none; has = subst (HasTaken old new) every has }

pub stopped_at : (old mid new : Phase) (xs : List ℤ) (n : ℕ) (x : ℤ) → n < length xs → new ≡ mid → scale_of mid ≡ scale_of old → x ≡ get_or xs n (pos 0) → NoneBelow (scale_of old) xs n
    → IsOverRange (nominal_of (scale_of mid)) (voltage_of (scale_of mid) x) → HasTaken old mid (take n xs) → StoppedAt old new xs (taken_of new + 1)
stopped_at old mid new xs n x less unchanged scale is none over has =
    let few : n ≤ length xs = omega arith in
    let there : StoppedAt old mid xs (taken_of mid + 1) = record {
      i = n;
      first = first_over (scale_of old) xs n less none (from_scale (scale_of old) (scale_of mid) x (get_or xs n (pos 0)) scale is over);
      place = omega (arith, has.taken, length-take-le n xs few);
      has = has;
    } in
    subst (λ (p : Phase). StoppedAt old p xs (taken_of p + 1)) (sym unchanged) there

pub part_stopped : (old mid new : Phase) (xs : List ℤ) (k m n : ℕ) → k ≤ length xs → scale_of mid ≡ scale_of old → scale_of new ≡ scale_of mid → IsCountWithin (scale_of mid) (take m (drop k xs)) n
    → n < length (take m (drop k xs)) → HasTaken old mid (take k xs) → HasTaken mid new (take n (take m (drop k xs))) → NoneBelow (scale_of old) xs k → StoppedAt old new xs (taken_of new + 1)
part_stopped old mid new xs k m n there scale then count less before after none =
    let t = part_taken old mid new xs k m n there scale count before after none in
    let low : k + n < length xs = omega (arith, there, less, length-take m (drop k xs), length-drop k xs) in
    let few : n < m = omega (arith, less, length-take m (drop k xs)) in
    let same : get_or (take m (drop k xs)) n (pos 0) ≡ get_or xs (k + n) (pos 0) = get_or-take m (drop k xs) n (pos 0) few ∙ get_or-drop k xs n (pos 0) in
    let over : IsOverRange (nominal_of (scale_of new)) (voltage_of (scale_of new) (get_or xs (k + n) (pos 0))) =
    at_scale (scale_of mid) (scale_of new) (get_or xs (k + n) (pos 0)) (get_or (take m (drop k xs)) n (pos 0)) then (sym same) (count.over less) in
    stopped_at old new new xs (k + n) (get_or xs (k + n) (pos 0)) low refl (then ∙ scale) refl t.2 over t.1

-- ---- all samples

none_is_none : (position : ℕ) → None ≡ Some position → ⊥
none_is_none position e = cc

takes_none : (old mid new : Phase) (xs : List ℤ) → IsRefitted mid new → IsMadeAlike old mid → spare_of new + length xs ≡ spare_of old → over_of old ≡ None → over_of new ≡ None
    → TookAll old mid xs → Takes old new xs
takes_none old mid new xs f alike spare none after all = record {
  alike = alike_twice old mid new alike (alike_refitted mid new f);
  spare = spare;
  taken = omega (arith, f.taken, all.has.taken);
  kept = λ position before. absurd (none_is_none position (sym none ∙ before));
  within = λ _ _. (after, has_refitted old mid new xs f all.has);
  over = λ i _ first. absurd (within_has_no_over _ _ i all.within first);
}

takes_some : (old mid new : Phase) (xs : List ℤ) (position : ℕ) → IsRefitted mid new → IsMadeAlike old mid → spare_of new + length xs ≡ spare_of old → over_of old ≡ None
    → over_of new ≡ Some position → StoppedAt old mid xs position → Takes old new xs
takes_some old mid new xs position f alike spare none after stopped =
    let here : over_of new ≡ Some (taken_of old + stopped.i + 1) = after ∙ ap Some stopped.place in
    let has = has_refitted old mid new (take stopped.i xs) f stopped.has in
    record {
      alike = alike_twice old mid new alike (alike_refitted mid new f);
      spare = spare;
      taken = omega (arith, has.taken, length-take stopped.i xs);
      kept = λ before was. absurd (none_is_none before (sym none ∙ was));
      within = λ _ within. absurd (within_has_no_over _ _ stopped.i within stopped.first);
      over = λ i _ first.
          let same : stopped.i ≡ i = one_over _ _ stopped.i i stopped.first first in
          subst (λ (n : ℕ). (over_of new ≡ Some (taken_of old + n + 1)) × HasTaken old new (take n xs)) same (here, has);
    }

takes_kept : (old new : Phase) (xs : List ℤ) (position : ℕ) → IsRefitted old new → spare_of new + length xs ≡ spare_of old → over_of old ≡ Some position → over_of new ≡ over_of old → Takes old new xs
takes_kept old new xs position f spare some after = record {
  alike = alike_refitted old new f;
  spare = spare;
  taken = omega (arith, f.taken);
  kept = λ before was. same_refitted old new f after;
  within = λ none _. absurd (none_is_none position (sym none ∙ some));
  over = λ i none _. absurd (none_is_none position (sym none ∙ some));
}

pub none_of : (o : Option ℕ) → is_some o ≡ false → o ≡ None
none_of None e = refl
none_of (Some n) e = cc

some_of : (o : Option ℕ) → is_some o ≡ true → (n : ℕ) × (o ≡ Some n)
some_of None e = cc
some_of (Some n) e = (n, refl)

takes_by : (old mid new : Phase) (xs : List ℤ) (r : Option ℕ) → IsRefitted mid new → IsMadeAlike old mid → spare_of new + length xs ≡ spare_of old → over_of old ≡ None → over_of new ≡ r
    → IfNone r (TookAll old mid xs) → IfSome r (λ position. StoppedAt old mid xs position) → Takes old new xs
takes_by old mid new xs None f alike spare none over all stopped = takes_none old mid new xs f alike spare none over all
takes_by old mid new xs (Some position) f alike spare none over all stopped = takes_some old mid new xs position f alike spare none over stopped

-- a phase with no sample over range so far takes a column
pub takes_column : (old mid new : Phase) (column xs : List ℤ) (r : Option ℕ) → column ≡ xs → IsRefitted mid new → IsMadeAlike old mid → spare_of new + length xs ≡ spare_of old
    → is_some (over_of old) ≡ false → over_of new ≡ r → IfNone r (TookAll old mid column) → IfSome r (λ position. StoppedAt old mid column position) → Takes old new xs
takes_column old mid new column xs r same f alike spare none over all stopped =
    takes_by old mid new xs r f alike spare (none_of (over_of old) none) over (subst (λ (ys : List ℤ). IfNone r (TookAll old mid ys)) same all)
    (subst (λ (ys : List ℤ). IfSome r (λ position. StoppedAt old mid ys position)) same stopped)

-- and one that had one leaves it
pub leaves_column : (old new : Phase) (xs : List ℤ) → IsRefitted old new → spare_of new + length xs ≡ spare_of old → is_some (over_of old) ≡ true → over_of new ≡ over_of old → Takes old new xs
leaves_column old new xs f spare some over =
    let position = some_of (over_of old) some in
    takes_kept old new xs position.0 f spare position.1 over

-- ---- what a caller finds

by_over : (old new : Phase) (xs : List ℤ) → Takes old new xs → over_of new ≡ None → (o : Option ℕ) → over_of old ≡ o → (over_of old ≡ None) × TookAll old new xs
by_over old new xs t none (Some position) was = absurd (none_is_none position (sym none ∙ ((t.kept position was).over ∙ was)))
by_over old new xs t none None was =
    ⊎_elim (λ within. (was, record { within = within; has = (t.within was within).1 }))
    (λ (i, first). absurd (none_is_none (taken_of old + i + 1) (sym none ∙ (t.over i was first).0)))
    (over_cases (nominal_of (scale_of old)) (told_by (scale_of old) xs))

-- a phase that has none over range had none before, and took all
pub took_column : (old new : Phase) (xs : List ℤ) → Takes old new xs → over_of new ≡ None → (over_of old ≡ None) × TookAll old new xs
took_column old new xs t none =
    by_over old new xs t none (over_of old) refl
