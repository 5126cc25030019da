-- What one more sample does to the half-periods of a channel.
use Rattle.std.proofs.Common.{◌≡◌, ℕ, ◌+◌, ◌-◌, ◌*◌, ◌/◌, ◌<◌, ◌≤◌, Bool, List, [], ◌∷◌, ◌++◌, length, refl, subst, sym, arith, length-append}
use Rattle.std.proofs.Math.Nat.{mul-le-mul_left}
use Rattle.flk_num.specs.declared.interval.Interval.{Interval}
use Rattle.flk_half.specs.declared.cutter.Cutter.{Cutter}
use Rattle.flk_half.specs.Cutter.{Continues, EndsHalfPeriod}
use Rattle.flk_half.specs.Intervals.{HasCut}
use Rattle.flk_half.proofs.IntervalsLemmas.{HasCut-continues, HasCut-ends}
use Rattle.flk_change.specs.declared.flag.Flag.{Flag}
use Rattle.flk_change.specs.declared.steady.Steady.{Steady}
use Rattle.flk_change.specs.declared.summary.ChangeSummary.{ChangeSummary}
use Rattle.flk_change.specs.Changes.{Quantity}
use Rattle.flk_change.specs.Resolutions.{doubtful_count, IsHull, interval_of, AreWide, IsSummary}
use Rattle.flk_change.specs.Steady.{AreFlags, Stands}
use Rattle.flk_phase.specs.declared.halves.Halves.{Halves}
use Rattle.flk_phase.specs.Halves.{half_of, window_of, halves_in, flags_in, StandsFor}

pub more_by_one : {A : Type 0} (xs ys : List A) (x : A) → ys ≡ xs ++ x ∷ [] → length ys ≡ length xs + 1
more_by_one xs ys x is = rw is (length-append xs (x ∷ []))

-- the room that is left behind a half-period that ended
pub room_behind : (least count more since one spare capacity now : ℕ) → 0 < spare → least ≤ since → more ≡ count + 1 → one ≡ 1 → now ≡ capacity
    → least * count + since + spare < least * (1 + capacity) → least * more + one + (spare - 1) < least * (1 + now)
room_behind least count more since one spare capacity now some long gained here kept fits =
    rw (gained, here, kept) (omega (arith, fits, long))

-- the room that is made for samples, with at most four half-periods and two samples since the last cut
pub room_made : (least count since samples capacity : ℕ) → 10 ≤ least → since ≤ 4 * least + 2 → count + (samples / least + 6) ≤ capacity
    → least * count + since + samples < least * (1 + capacity)
room_made least count since samples capacity low short fits =
    let some : 0 < least = omega arith in
    let whole = mul-le-mul_left least fits in
    omega (arith, whole, short, low)

pub summary_of : (window : ℕ) (halves these : List Interval) (flags those : List Flag) (s : ChangeSummary) → these ≡ halves → those ≡ flags → s.doubtful ≡ doubtful_count those
    → ((quantity : Quantity) → s.doubtful ≤ 6 → IsHull quantity window these those (interval_of quantity s)) → (6 < s.doubtful → AreWide these s.dc s.dmax s.t) → IsSummary window halves flags s
summary_of window halves these flags those s same other doubtful resolved wide =
    let is : IsSummary window these those s = record { doubtful = doubtful; resolved = resolved; wide = wide } in
    rw (same, other) at is

-- ---- the three parts, of equal numbers and lists

moved_cut : (cutter : Cutter) (half to : ℕ) (signs : List Bool) (voltages halves these : List Interval) → to ≡ half → these ≡ halves → HasCut cutter half signs voltages halves → HasCut cutter to signs voltages these
moved_cut cutter half to signs voltages halves these same list h = rw (same, list) h

moved_steady : (old new : Steady) (window to : ℕ) (halves these : List Interval) → new ≡ old → to ≡ window → these ≡ halves → Stands old window halves → Stands new to these
moved_steady old new window to halves these state same list h =
    subst (λ (s : Steady). Stands s to these) (sym state) (rw (same, list) h)

moved_flags : (window to : ℕ) (halves these : List Interval) (flags those : List Flag) → to ≡ window → these ≡ halves → those ≡ flags → AreFlags window halves flags → AreFlags to these those
moved_flags window to halves these flags those same list other h = rw (same, list, other) h

-- ---- one more sample

-- before which no half-period ends
pub stands_continues : (old new : Halves) (signs : List Bool) (voltages : List Interval) (sign : Bool) (v : Interval) → half_of new ≡ half_of old → window_of new ≡ window_of old
    → new.steady ≡ old.steady → halves_in new ≡ halves_in old → flags_in new ≡ flags_in old → Continues old.cutter new.cutter sign v
    → StandsFor old signs voltages → StandsFor new (signs ++ sign ∷ []) (voltages ++ v ∷ [])
stands_continues old new signs voltages sign v half window steady halves flags step h =
    let cut = HasCut-continues old.cutter new.cutter (half_of old) signs voltages (halves_in old) sign v h.cut step in
    record {
      cut = moved_cut new.cutter (half_of old) (half_of new) (signs ++ sign ∷ []) (voltages ++ v ∷ []) (halves_in old) (halves_in new) half halves cut;
      steady = moved_steady old.steady new.steady (window_of old) (window_of new) (halves_in old) (halves_in new) steady window halves h.steady;
      are_flags = moved_flags (window_of old) (window_of new) (halves_in old) (halves_in new) (flags_in old) (flags_in new) window halves flags h.are_flags;
    }

-- before which one ends
pub stands_ends : (old new : Halves) (signs : List Bool) (voltages : List Interval) (sign : Bool) (v value : Interval) (flag : Flag) → half_of new ≡ half_of old → window_of new ≡ window_of old
    → halves_in new ≡ halves_in old ++ value ∷ [] → flags_in new ≡ flags_in old ++ flag ∷ [] → EndsHalfPeriod old.cutter new.cutter sign v value
    → ((window : ℕ) (hs : List Interval) → Stands old.steady window hs → Stands new.steady window (hs ++ value ∷ []))
    → ((window : ℕ) (hs : List Interval) (fs : List Flag) → Stands old.steady window hs → AreFlags window hs fs → AreFlags window (hs ++ value ∷ []) (fs ++ flag ∷ []))
    → StandsFor old signs voltages → StandsFor new (signs ++ sign ∷ []) (voltages ++ v ∷ [])
stands_ends old new signs voltages sign v value flag half window halves flags step steady are h =
    let hs = halves_in old ++ value ∷ [] in
    let fs = flags_in old ++ flag ∷ [] in
    let cut = HasCut-ends old.cutter new.cutter (half_of old) signs voltages (halves_in old) sign v value h.cut step in
    record {
      cut = moved_cut new.cutter (half_of old) (half_of new) (signs ++ sign ∷ []) (voltages ++ v ∷ []) hs (halves_in new) half halves cut;
      steady = moved_steady new.steady new.steady (window_of old) (window_of new) hs (halves_in new) refl window halves (steady (window_of old) (halves_in old) h.steady);
      are_flags = moved_flags (window_of old) (window_of new) hs (halves_in new) fs (flags_in new) window halves flags (are (window_of old) (halves_in old) (flags_in old) h.steady h.are_flags);
    }
