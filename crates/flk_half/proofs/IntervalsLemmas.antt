-- The intervals of a recording's half-periods: there is one list of them, it goes on with each cut, holds every run and is narrow.
use Rattle.std.proofs.Common.{◌≡◌, ℕ, ◌*◌, ◌/◌, ◌^◌, ◌<◌, ◌≤◌, Bool, List, [], ◌∷◌, ◌++◌, length, ℤ, pos, ◌≤ℤ◌, refl, arith}
use Rattle.std.specs.List.{All, AllZip}
use Rattle.std.proofs.lemmas.Int.{ints}
use Rattle.std.proofs.lemmas.List.Elements.{All-head, All-tail}
use Rattle.std.proofs.lemmas.List.Sums.{sum_by-cons}
use Rattle.std.proofs.lemmas.Nat.{mul-le}
use Rattle.flk_exact.specs.Cut.{AreCuts, half_periods}
use Rattle.flk_exact.specs.Fraction.{Fraction}
use Rattle.flk_exact.specs.HalfPeriod.{IsHalfPeriodValue, AreHalfPeriodValues}
use Rattle.flk_exact.specs.Rounding.{IsBetween}
use Rattle.flk_exact.proofs.CutLemmas.{AllZip-half_periods, All-half_periods, few_in_half_periods, half_periods-more, half_periods-ended}
use Rattle.flk_exact.proofs.ListLemmas.{AllZip-push, AllZip-joined, AllZip-exists, AllZip-unique, All-beside}
use Rattle.flk_exact.proofs.RootLemmas.{root_exists}
use Rattle.flk_num.specs.declared.interval.Interval.{Interval}
use Rattle.flk_num.specs.Interval.{Holds, HoldEach, IsNarrow}
use Rattle.flk_num.specs.Square.{least_size, greatest_size, least_squares, greatest_squares}
use Rattle.flk_num.specs.Values.{HoldValues, IsHalfPeriodRange}
use Rattle.flk_num.proofs.IntervalLemmas.{same_ends}
use Rattle.flk_num.proofs.SizeLemmas.{sizes_ordered}
use Rattle.flk_half.specs.Cutter.{IsValueAt, IsHalfPeriodInterval, Continues, EndsHalfPeriod}
use Rattle.flk_half.specs.Intervals.{AreHalfPeriodIntervals, IsWithinFive, IsNarrowHalfPeriod, HasCut}
use Rattle.flk_half.specs.declared.cutter.Cutter.{Cutter}
use Rattle.flk_half.proofs.CutterLemmas.{root_value, values_≤}
use Rattle.flk_half.proofs.EnclosureLemmas.{IsValueAt-natural, half_period_holds, value_small}
use Rattle.flk_half.proofs.WidthLemmas.{half_period_narrow}

-- ---- there is one list

pub IsValueAt-exists : (half sum : ℕ) → 0 < half → (w : ℤ) × IsValueAt half sum w
IsValueAt-exists half sum some =
    let p = 5 ^ 18 * sum / 2 ^ 78 in
    let root = root_exists (pos (p / half)) (omega (arith, ints)) in
    (root.0, root_value half sum p (pos (p / half)) root.0 some refl refl root.1)

pub IsValueAt-unique : (half sum : ℕ) (w z : ℤ) → IsValueAt half sum w → IsValueAt half sum z → w ≡ z
IsValueAt-unique half sum w z h k = omega (arith, ints, h.greatest z k.reached, k.greatest w h.reached)

squares_≤ : (vs : List Interval) → least_squares vs ≤ greatest_squares vs
squares_≤ [] = omega arith
squares_≤ (v ∷ vs) =
    let least : Interval → ℕ = λ x. least_size x.lo x.hi * least_size x.lo x.hi in
    let greatest : Interval → ℕ = λ x. greatest_size x.lo x.hi * greatest_size x.lo x.hi in
    let size = sizes_ordered v.lo v.hi in
    omega (arith, sum_by-cons least v vs, sum_by-cons greatest v vs, mul-le (least_size v.lo v.hi) (least_size v.lo v.hi) (greatest_size v.lo v.hi) (greatest_size v.lo v.hi) size size, squares_≤ vs)

pub IsHalfPeriodInterval-exists : (half : ℕ) → 0 < half → (vs : List Interval) → (h : Interval) × IsHalfPeriodInterval half vs h
IsHalfPeriodInterval-exists half some vs =
    let low = IsValueAt-exists half (least_squares vs) some in
    let high = IsValueAt-exists half (greatest_squares vs) some in
    let h : Interval = record { lo = low.0; hi = high.0; ordered = values_≤ half (least_squares vs) (greatest_squares vs) low.0 high.0 (squares_≤ vs) low.1 high.1 } in
    (h, record { low = low.1; high = high.1 })

pub IsHalfPeriodInterval-unique : (half : ℕ) (vs : List Interval) (h k : Interval) → IsHalfPeriodInterval half vs h → IsHalfPeriodInterval half vs k → h ≡ k
IsHalfPeriodInterval-unique half vs h k one other =
    same_ends h k (IsValueAt-unique half (least_squares vs) h.lo k.lo one.low other.low) (IsValueAt-unique half (greatest_squares vs) h.hi k.hi one.high other.high)

pub intervals_exist : (half : ℕ) (cuts : List ℕ) (voltages : List Interval) → 0 < half → (halves : List Interval) × AreHalfPeriodIntervals half cuts voltages halves
intervals_exist half cuts voltages some = AllZip-exists (IsHalfPeriodInterval half) (IsHalfPeriodInterval-exists half some) (half_periods cuts voltages)

pub intervals_unique : (half : ℕ) (cuts : List ℕ) (voltages hs ks : List Interval) → AreHalfPeriodIntervals half cuts voltages hs → AreHalfPeriodIntervals half cuts voltages ks → hs ≡ ks
intervals_unique half cuts voltages hs ks one other = AllZip-unique (IsHalfPeriodInterval half) (IsHalfPeriodInterval-unique half) (half_periods cuts voltages) hs ks one other

-- ---- one sample more

pub HasCut-continues : (old new : Cutter) (half : ℕ) (negative : List Bool) (voltages halves : List Interval) (sign : Bool) (v : Interval)
    → HasCut old half negative voltages halves → Continues old new sign v → HasCut new half (negative ++ sign ∷ []) (voltages ++ v ∷ []) halves
HasCut-continues old new half negative voltages halves sign v h step = record {
  cuts = h.cuts;
  stands = step half negative voltages h.cuts h.stands;
  are_intervals = rw (half_periods-more half negative voltages h.cuts v h.stands.are_cuts h.stands.same_length) h.are_intervals;
}

pub HasCut-ends : (old new : Cutter) (half : ℕ) (negative : List Bool) (voltages halves : List Interval) (sign : Bool) (v h : Interval)
    → HasCut old half negative voltages halves → EndsHalfPeriod old new sign v h → HasCut new half (negative ++ sign ∷ []) (voltages ++ v ∷ []) (halves ++ h ∷ [])
HasCut-ends old new half negative voltages halves sign v h has step =
    let ends = step half negative voltages has.cuts has.stands in
    record {
      cuts = has.cuts ++ length negative ∷ [];
      stands = ends.stands;
      are_intervals =
          rw (half_periods-ended half negative voltages has.cuts v has.stands.are_cuts has.stands.same_length)
          (AllZip-push (IsHalfPeriodInterval half) (half_periods has.cuts voltages) halves _ h has.are_intervals ends.interval);
    }

-- ---- every run

pub intervals_hold : (half : ℕ) (cuts : List ℕ) (voltages : List Interval) (run : List Fraction) (halves : List Interval) (values : List ℤ) → HoldEach voltages run
    → AreHalfPeriodIntervals half cuts voltages halves → AreHalfPeriodValues half cuts run values → HoldValues halves values
intervals_hold half cuts voltages run halves values held are those =
    let LiesIn : Interval → ℤ → Type 0 = λ h w. IsBetween h.lo h.hi w in
    let Bounds : List Fraction → Interval → Type 0 = λ us h. (w : ℤ) → IsHalfPeriodValue half us w → LiesIn h w in
    let parts : AllZip HoldEach (half_periods cuts voltages) (half_periods cuts run) = AllZip-half_periods Holds cuts voltages run held in
    AllZip-joined Bounds (IsHalfPeriodValue half) LiesIn (λ us h w lies value. lies w value) (half_periods cuts run) halves values
    (AllZip-joined HoldEach (IsHalfPeriodInterval half) Bounds
    (λ vs us h each is w value. half_period_holds half vs us h w each is value) (half_periods cuts voltages) (half_periods cuts run) halves parts are)
    those

-- ---- widths and ranges

-- a half-period's voltages are few, and each is of one kind
abbrev pub Few : (Interval → Type 0) → ℕ → List Interval → Type 0
Few P half part = (length part ≤ 2 * half) × All P part

few_parts : (P : Interval → Type 0) (half : ℕ) (negative : List Bool) (cuts : List ℕ) (voltages : List Interval) → 0 < half → AreCuts half negative cuts → All P voltages → All (Few P half) (half_periods cuts voltages)
few_parts P half negative cuts voltages some are all =
    let few = few_in_half_periods half negative cuts voltages some are in
    let each = All-half_periods P cuts voltages all in
    λ k d low. (few k d low, each k d low)

pub intervals_narrow : (half : ℕ) (negative : List Bool) (cuts : List ℕ) (voltages halves : List Interval) (delta : Fraction) → 0 < half → AreCuts half negative cuts
    → pos 0 ≤ℤ delta.num → All (IsNarrow delta) voltages → AreHalfPeriodIntervals half cuts voltages halves → All (IsNarrowHalfPeriod delta) halves
intervals_narrow half negative cuts voltages halves delta some are natural narrow intervals =
    All-beside (Few (IsNarrow delta) half) (IsHalfPeriodInterval half) (IsNarrowHalfPeriod delta)
    (λ part h few is. half_period_narrow half part h delta some few.0 natural few.1 is) (half_periods cuts voltages) halves
    (few_parts (IsNarrow delta) half negative cuts voltages some are narrow) intervals

greatest_below : (vs : List Interval) → All IsWithinFive vs → greatest_squares vs ≤ 25 * 2 ^ 96 * length vs
greatest_below [] all = omega arith
greatest_below (v ∷ vs) all =
    let first = All-head IsWithinFive v vs all in
    let size : greatest_size v.lo v.hi ≤ 5 * 2 ^ 48 = omega (arith, first.low, first.high) in
    let square = mul-le (greatest_size v.lo v.hi) (greatest_size v.lo v.hi) (5 * 2 ^ 48) (5 * 2 ^ 48) size size in
    omega (arith, sum_by-cons (λ x. greatest_size x.lo x.hi * greatest_size x.lo x.hi) v vs, square, greatest_below vs (All-tail IsWithinFive v vs all))

pub intervals_in_range : (half : ℕ) (negative : List Bool) (cuts : List ℕ) (voltages halves : List Interval) → 0 < half → AreCuts half negative cuts
    → All IsWithinFive voltages → AreHalfPeriodIntervals half cuts voltages halves → All IsHalfPeriodRange halves
intervals_in_range half negative cuts voltages halves some are small intervals =
    All-beside (Few IsWithinFive half) (IsHalfPeriodInterval half) IsHalfPeriodRange
    (λ part h few is. record {
      low = IsValueAt-natural half (least_squares part) h.lo is.low;
      high = value_small half (greatest_squares part) (length part) h.hi some few.0 (greatest_below part few.1) is.high;
    }) (half_periods cuts voltages) halves
    (few_parts IsWithinFive half negative cuts voltages some are small) intervals
