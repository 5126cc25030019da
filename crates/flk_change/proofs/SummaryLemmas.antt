-- A resolution has one interval of each quantity, all resolutions have one least interval, and half-periods with flags have one summary.
use Rattle.std.proofs.Common.{◌≡◌, ℕ, ◌<◌, ◌≤◌, Bool, List, ◌∷◌, ◌++◌, length, map, ℤ, pos, ◌-ℤ◌, ◌≤ℤ◌, refl, sym, ap, ◌∙◌, subst, arith, ⊎_elim}
use Rattle.std.proofs.lemmas.Int.{ints}
use Rattle.std.proofs.lemmas.Bool.{cases_lt}
use Rattle.std.proofs.lemmas.List.{length-map}
use Rattle.std.proofs.lemmas.List.Elements.{All-head}
use Rattle.std.proofs.lemmas.List.Sums.{count_by-le-length}
use Rattle.flk_exact.specs.Extreme.{IsGreatest}
use Rattle.flk_exact.proofs.ExtremeLemmas.{least_unique, greatest_unique, least_exists, greatest_exists}
use Rattle.flk_num.specs.declared.interval.Interval.{Interval}
use Rattle.flk_num.specs.Interval.{lows, highs}
use Rattle.flk_num.proofs.IntervalLemmas.{same_ends}
use Rattle.flk_change.specs.declared.flag.Flag.{Flag}
use Rattle.flk_change.specs.declared.summary.ChangeSummary.{ChangeSummary}
use Rattle.flk_change.specs.Changes.{distance, Quantity, Dc, Dmax, Tmax}
use Rattle.flk_change.specs.Resolutions.{is_doubtful, doubtful_count, RunsFrom, IsHull, interval_of, AreWide, IsSummary}
use Rattle.flk_change.proofs.HullLemmas.{runs_low, runs_high, hull_exists}
use Rattle.flk_change.proofs.WideLemmas.{highs_above}
use Rattle.flk_change.proofs.EnclosureLemmas.{least_have, greatest_have, least_at_most_greatest}

-- ---- one resolution

pub runs_exist : (q : Quantity) (window : ℕ) (halves : List Interval) (resolution : List Bool) → 0 < window → (v : Interval) × RunsFrom q window halves resolution v.lo v.hi
runs_exist q window halves resolution some =
    let low = least_have q window halves resolution some in
    let high = greatest_have q window halves resolution some in
    let runs : RunsFrom q window halves resolution low.0 high.0 = record { low = low.1; high = high.1 } in
    let v : Interval = record { lo = low.0; hi = high.0; ordered = least_at_most_greatest q window halves resolution low.0 high.0 some runs } in
    (v, runs)

pub runs_unique : (q : Quantity) (window : ℕ) (halves : List Interval) (resolution : List Bool) (v w : Interval) → RunsFrom q window halves resolution v.lo v.hi → RunsFrom q window halves resolution w.lo w.hi → v ≡ w
runs_unique q window halves resolution v w one other =
    same_ends v w (runs_low q window halves resolution v.lo v.hi w.lo w.hi one other) (runs_high q window halves resolution v.lo v.hi w.lo w.hi one other)

-- ---- all resolutions

-- each holds what the other reaches
pub hull_unique : (q : Quantity) (window : ℕ) (halves : List Interval) (flags : List Flag) (v w : Interval) → IsHull q window halves flags v → IsHull q window halves flags w → v ≡ w
hull_unique q window halves flags v w one other =
    let low = one.low_reached in
    let high = one.high_reached in
    let low_too = other.low_reached in
    let high_too = other.high_reached in
    let a = other.holds low.0 v.lo low.1 low.2 low.3 in
    let b = other.holds high.0 high.1 v.hi high.2 high.3 in
    let c = one.holds low_too.0 w.lo low_too.1 low_too.2 low_too.3 in
    let d = one.holds high_too.0 high_too.1 w.hi high_too.2 high_too.3 in
    same_ends v w (omega (arith, ints, a.0, c.0)) (omega (arith, ints, b.1, d.1))

-- ---- the wide intervals

record Wide (halves : List Interval) : Type 0 where
  dc : Interval
  dmax : Interval
  t : Interval
  is : AreWide halves dc dmax t

wide_exists : (halves : List Interval) → 0 < length halves → Wide halves
wide_exists halves some =
    let away : ℤ → ℤ = λ z. distance z (pos 1000000000) in
    let l = least_exists (lows halves) (omega (arith, some, length-map halves (λ (u : Interval). u.lo))) in
    let g = greatest_exists (highs halves) (omega (arith, some, length-map halves (λ (u : Interval). u.hi))) in
    let above = highs_above halves l.0 l.1.at_most in
    let among = g.1.among in
    let order : l.0 ≤ℤ g.0 = omega (arith, ints, above among.0 g.0 among.1, among.2) in
    let m = greatest_exists ((g.0 -ℤ l.0) ∷ map (λ z. distance z (pos 1000000000)) (lows halves ++ highs halves)) (omega arith) in
    let most : (g.0 -ℤ l.0) ≤ℤ m.0 = All-head (λ x. x ≤ℤ m.0) (g.0 -ℤ l.0) (map (λ z. distance z (pos 1000000000)) (lows halves ++ highs halves)) m.1.at_least in
    record {
      dc = record { lo = pos 0; hi = g.0 -ℤ l.0; ordered = omega (arith, ints, order) };
      dmax = record { lo = pos 0; hi = m.0; ordered = omega (arith, ints, order, most) };
      t = record { lo = pos 0; hi = pos (length halves); ordered = omega (arith, ints) };
      is = record {
        least = l.0;
        greatest = g.0;
        is_least = l.1;
        is_greatest = g.1;
        dc_low = refl;
        dc_high = refl;
        dmax_low = refl;
        dmax_high = m.1;
        t_low = refl;
        t_high = refl;
      };
    }

-- two such triples have the same ends
record SameWide (dc dmax t dc' dmax' t' : Interval) : Type 0 where
  dc_same : dc ≡ dc'
  dmax_same : dmax ≡ dmax'
  t_same : t ≡ t'

wide_unique : (halves : List Interval) (dc dmax t dc' dmax' t' : Interval) → AreWide halves dc dmax t → AreWide halves dc' dmax' t' → SameWide dc dmax t dc' dmax' t'
wide_unique halves dc dmax t dc' dmax' t' a b =
    let away : ℤ → List ℤ = λ w. w ∷ map (λ z. distance z (pos 1000000000)) (lows halves ++ highs halves) in
    let least = least_unique (lows halves) a.least b.least a.is_least b.is_least in
    let greatest = greatest_unique (highs halves) a.greatest b.greatest a.is_greatest b.is_greatest in
    let width : a.greatest -ℤ a.least ≡ b.greatest -ℤ b.least = omega (arith, ints, least, greatest) in
    let furthest = greatest_unique (away (b.greatest -ℤ b.least)) dmax.hi dmax'.hi (subst (λ (w : ℤ). IsGreatest (away w) dmax.hi) width a.dmax_high) b.dmax_high in
    record {
      dc_same = same_ends dc dc' (a.dc_low ∙ sym b.dc_low) (omega (arith, ints, a.dc_high, b.dc_high, width));
      dmax_same = same_ends dmax dmax' (a.dmax_low ∙ sym b.dmax_low) furthest;
      t_same = same_ends t t' (a.t_low ∙ sym b.t_low) (a.t_high ∙ sym b.t_high);
    }

-- ---- the summary

hulls : (window : ℕ) (halves : List Interval) (flags : List Flag) (s : ChangeSummary) → IsHull Dc window halves flags s.dc → IsHull Dmax window halves flags s.dmax → IsHull Tmax window halves flags s.t
    → (q : Quantity) → IsHull q window halves flags (interval_of q s)
hulls window halves flags s dc dmax t Dc = dc
hulls window halves flags s dc dmax t Dmax = dmax
hulls window halves flags s dc dmax t Tmax = t

pub summary_exists : (window : ℕ) (halves : List Interval) (flags : List Flag) → 0 < window → length flags ≡ length halves → (s : ChangeSummary) × IsSummary window halves flags s
summary_exists window halves flags some same =
    ⊎_elim
    (λ more.
    let w = wide_exists halves (omega (arith, more, same, count_by-le-length is_doubtful flags)) in
    let s : ChangeSummary = record { dc = w.dc; dmax = w.dmax; t = w.t; doubtful = doubtful_count flags } in
    (s, record { doubtful = refl; resolved = λ q few. absurd (omega (arith, few, more)); wide = λ far. w.is }))
    (λ few.
    let dc = hull_exists Dc window halves flags some in
    let dmax = hull_exists Dmax window halves flags some in
    let t = hull_exists Tmax window halves flags some in
    let s : ChangeSummary = record { dc = dc.0; dmax = dmax.0; t = t.0; doubtful = doubtful_count flags } in
    (s, record { doubtful = refl; resolved = λ q low. hulls window halves flags s dc.1 dmax.1 t.1 q; wide = λ far. absurd (omega (arith, few, far)) }))
    (cases_lt 6 (doubtful_count flags))

summary_same : (s t : ChangeSummary) → s.dc ≡ t.dc → s.dmax ≡ t.dmax → s.t ≡ t.t → s.doubtful ≡ t.doubtful → s ≡ t
summary_same s t dc dmax most doubtful =
    let made : Interval → Interval → Interval → ℕ → ChangeSummary = λ a b c n. record { dc = a; dmax = b; t = c; doubtful = n } in
    ap (λ (a : Interval). made a s.dmax s.t s.doubtful) dc ∙ ap (λ (b : Interval). made t.dc b s.t s.doubtful) dmax
    ∙ ap (λ (c : Interval). made t.dc t.dmax c s.doubtful) most ∙ ap (λ (n : ℕ). made t.dc t.dmax t.t n) doubtful

pub summary_unique : (window : ℕ) (halves : List Interval) (flags : List Flag) (s t : ChangeSummary) → IsSummary window halves flags s → IsSummary window halves flags t → s ≡ t
summary_unique window halves flags s t a b =
    let doubtful = a.doubtful ∙ sym b.doubtful in
    ⊎_elim
    (λ more.
    let w = wide_unique halves s.dc s.dmax s.t t.dc t.dmax t.t (a.wide more) (b.wide (omega (arith, more, doubtful))) in
    summary_same s t w.dc_same w.dmax_same w.t_same doubtful)
    (λ few.
    let too : t.doubtful ≤ 6 = omega (arith, few, doubtful) in
    summary_same s t
    (hull_unique Dc window halves flags s.dc t.dc (a.resolved Dc few) (b.resolved Dc too))
    (hull_unique Dmax window halves flags s.dmax t.dmax (a.resolved Dmax few) (b.resolved Dmax too))
    (hull_unique Tmax window halves flags s.t t.t (a.resolved Tmax few) (b.resolved Tmax too))
    doubtful)
    (cases_lt 6 s.doubtful)
