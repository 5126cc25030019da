-- What the interval of a recorded voltage holds, how wide it is, how great and how near the voltage its ends are, and that there is one.
use Rattle.std.proofs.Common.{◌≡◌, List, ℕ, ◌+◌, ◌*◌, ◌^◌, ◌<◌, ◌≤◌, ℤ, pos, neg_ℤ, ◌+ℤ◌, ◌-ℤ◌, ◌*ℤ◌, ◌≤ℤ◌, ◌<ℤ◌, ap, arith}
use Rattle.std.specs.Prelude.{negsuc}
use Rattle.std.specs.Int.RustNames.{unsigned_abs}
use Rattle.std.specs.List.{AllZip}
use Rattle.std.proofs.Math.Nat.{mul-pos, mul-le-mul_right}
use Rattle.std.proofs.lemmas.Int.{ints, by_lt_z}
use Rattle.flk_exact.specs.Fraction.{Fraction, ◌≤ℚ◌, ◌+ℚ◌, ◌-ℚ◌, units}
use Rattle.flk_exact.specs.Run.{IsAdmitted, CoversDoubt, IsAdmittedRun}
use Rattle.flk_exact.proofs.RoundingLemmas.{floor_unique, IsFloor-neg, IsFloor-floor_of, IsCeil-ceil_of}
use Rattle.flk_exact.proofs.WholeLemmas.{scale_≤, cancel_≤, Is, atom, nat, plus_is, minus_is, times_is, at_most, from_at_most, from_below, ≤ℤ_trans}
use Rattle.flk_exact.specs.Rounding.{floor_of, ceil_of}
use Rattle.flk_exact.proofs.ListLemmas.{AllZip-joined}
use Rattle.flk_num.specs.declared.interval.Interval.{Interval}
use Rattle.flk_num.specs.Interval.{Holds, IsNarrow, IsNear, IsSmall, hundredth, HoldEach}
use Rattle.flk_scale.specs.Voltage.{IsOverRange, IsVoltageInterval, IsRelative, greatest_voltage}
use borrow.Author.Differences.{up, down}

-- the lower end: p over k is the recorded voltage, n over d the exact one
low_end : (p lo n : ℤ) (nominal e k d : ℕ) → 0 < nominal * k
    → (lo *ℤ pos (nominal * k)) ≤ℤ ((p -ℤ pos (e * k)) *ℤ pos (2 ^ 48))
    → (p *ℤ pos (1 * d * 1)) ≤ℤ (((pos nominal *ℤ n) *ℤ pos 1 +ℤ pos e *ℤ pos (1 * d)) *ℤ pos k)
    → (lo *ℤ pos d) ≤ℤ (n *ℤ pos (2 ^ 48))
low_end p lo n nominal e k d some floor near =
    let one = from_at_most (times_is (atom lo) (nat (nominal * k))) (times_is (plus_is (atom p) (minus_is (nat (e * k)))) (nat (2 ^ 48))) floor in
    let two = from_at_most (times_is (atom p) (nat (1 * d * 1))) (times_is (plus_is (times_is (times_is (nat nominal) (atom n)) (nat 1)) (times_is (nat e) (nat (1 * d)))) (nat k)) near in
    cancel_≤ _ _ (nominal * k) some
    (at_most
    (times_is (times_is (atom lo) (nat d)) (nat (nominal * k)))
    (times_is (times_is (atom n) (nat (2 ^ 48))) (nat (nominal * k)))
    (omega (arith, mul-le-mul_right d one, mul-le-mul_right (2 ^ 48) two)))

high_end : (p hi n : ℤ) (nominal e k d : ℕ) → 0 < nominal * k
    → ((p +ℤ pos (e * k)) *ℤ pos (2 ^ 48)) ≤ℤ (hi *ℤ pos (nominal * k))
    → ((pos nominal *ℤ n) *ℤ pos (k * 1)) ≤ℤ ((p *ℤ pos 1 +ℤ pos e *ℤ pos k) *ℤ pos (1 * d))
    → (n *ℤ pos (2 ^ 48)) ≤ℤ (hi *ℤ pos d)
high_end p hi n nominal e k d some ceil near =
    let one = from_at_most (times_is (plus_is (atom p) (nat (e * k))) (nat (2 ^ 48))) (times_is (atom hi) (nat (nominal * k))) ceil in
    let two = from_at_most (times_is (times_is (nat nominal) (atom n)) (nat (k * 1))) (times_is (plus_is (times_is (atom p) (nat 1)) (times_is (nat e) (nat k))) (nat (1 * d))) near in
    cancel_≤ _ _ (nominal * k) some
    (at_most
    (times_is (times_is (atom n) (nat (2 ^ 48))) (nat (nominal * k)))
    (times_is (times_is (atom hi) (nat d)) (nat (nominal * k)))
    (omega (arith, mul-le-mul_right d one, mul-le-mul_right (2 ^ 48) two)))

some_uv : (nominal k : ℕ) → 0 < nominal → 0 < k → 0 < 1000 * nominal * k
some_uv nominal k some positive = mul-pos (omega arith) positive

-- the interval holds every voltage that the recorded one admits
pub voltage_holds : (nominal e : ℕ) (r : Fraction) (v : Interval) (u : Fraction) → 0 < nominal → IsVoltageInterval nominal e r v → IsAdmitted (1000 * nominal) e r u → Holds v u
voltage_holds nominal e r v u some i a =
    let more = some_uv nominal r.den some r.positive in
    record {
      above = record { cross = low_end r.num v.lo u.num (1000 * nominal) e r.den u.den more i.down.within a.not_below.cross };
      below = record { cross = high_end r.num v.hi u.num (1000 * nominal) e r.den u.den more i.up.within a.not_above.cross };
    }

width_of : (p lo hi n : ℤ) (nominal e k d : ℕ) → 0 < nominal * k
    → ((p -ℤ pos (e * k)) *ℤ pos (2 ^ 48)) <ℤ (lo *ℤ pos (nominal * k) +ℤ pos (nominal * k))
    → (hi *ℤ pos (nominal * k) -ℤ pos (nominal * k)) <ℤ ((p +ℤ pos (e * k)) *ℤ pos (2 ^ 48))
    → pos ((e * 2 ^ 48 + nominal * 2) * d) ≤ℤ (n *ℤ pos (nominal * 2 ^ 48))
    → ((hi -ℤ lo) *ℤ pos d) ≤ℤ (n *ℤ pos (2 * 2 ^ 48))
width_of p lo hi n nominal e k d some floor ceil covers =
    let m = nominal * k in
    let one = from_below (times_is (plus_is (atom p) (minus_is (nat (e * k)))) (nat (2 ^ 48))) (plus_is (times_is (atom lo) (nat m)) (nat m)) floor in
    let two = from_below (plus_is (times_is (atom hi) (nat m)) (minus_is (nat m))) (times_is (plus_is (atom p) (nat (e * k))) (nat (2 ^ 48))) ceil in
    let three = from_at_most (nat ((e * 2 ^ 48 + nominal * 2) * d)) (times_is (atom n) (nat (nominal * 2 ^ 48))) covers in
    let apart : (up hi + down lo) * m ≤ (down hi + up lo) * m + (2 * m + 2 * (e * k) * 2 ^ 48) = omega (arith, one, two) in
    cancel_≤ _ _ m some
    (at_most
    (times_is (times_is (plus_is (atom hi) (minus_is (atom lo))) (nat d)) (nat m))
    (times_is (times_is (atom n) (nat (2 * 2 ^ 48))) (nat m))
    (omega (arith, mul-le-mul_right d apart, mul-le-mul_right k three)))

-- it is narrow
pub voltage_narrow : (nominal e : ℕ) (r : Fraction) (v : Interval) (delta : Fraction) → 0 < nominal → IsVoltageInterval nominal e r v → CoversDoubt (1000 * nominal) e delta → IsNarrow delta v
voltage_narrow nominal e r v delta some i c =
    let more = some_uv nominal r.den some r.positive in
    record {
      width = record {
        cross = omega (arith, ints, width_of r.num v.lo v.hi delta.num (1000 * nominal) e r.den delta.den more i.down.greatest i.up.least (omega (arith, ints, c.covers.cross)));
      };
    }

-- a number that is less than one more than the greatest voltage, both times m, is at most the greatest voltage
at_most_greatest : (z : ℤ) (m : ℕ) → (z *ℤ pos m) <ℤ (pos (greatest_voltage + 1) *ℤ pos m) → z ≤ℤ pos greatest_voltage
at_most_greatest z m less =
    by_lt_z (pos greatest_voltage) z
    (λ more. let step : pos (greatest_voltage + 1) ≤ℤ z = omega (arith, ints) in absurd (omega (arith, ints, scale_≤ (pos (greatest_voltage + 1)) z m step)))
    (λ within. within)

at_least_greatest : (z : ℤ) (m : ℕ) → (neg_ℤ (pos (greatest_voltage + 1)) *ℤ pos m) <ℤ (z *ℤ pos m) → neg_ℤ (pos greatest_voltage) ≤ℤ z
at_least_greatest z m more =
    by_lt_z z (neg_ℤ (pos greatest_voltage))
    (λ less. let step : z ≤ℤ neg_ℤ (pos (greatest_voltage + 1)) = omega (arith, ints) in absurd (omega (arith, ints, scale_≤ z (neg_ℤ (pos (greatest_voltage + 1))) m step)))
    (λ within. within)

-- the ends: m is nominal, and f the uncertainty
small_ends : (p lo hi : ℤ) (m f : ℕ) → 0 < m → 100 * f ≤ m → unsigned_abs p ≤ 4 * m
    → (lo *ℤ pos m) ≤ℤ ((p -ℤ pos f) *ℤ pos (2 ^ 48)) → ((p -ℤ pos f) *ℤ pos (2 ^ 48)) <ℤ (lo *ℤ pos m +ℤ pos m)
    → ((p +ℤ pos f) *ℤ pos (2 ^ 48)) ≤ℤ (hi *ℤ pos m) → (hi *ℤ pos m -ℤ pos m) <ℤ ((p +ℤ pos f) *ℤ pos (2 ^ 48))
    → (unsigned_abs lo ≤ greatest_voltage) × (unsigned_abs hi ≤ greatest_voltage)
small_ends p lo hi m f some few within a b c d =
    let e : lo ≤ℤ pos greatest_voltage = at_most_greatest lo m (omega (arith, ints)) in
    let g : neg_ℤ (pos greatest_voltage) ≤ℤ lo = at_least_greatest lo m (omega (arith, ints)) in
    let h : hi ≤ℤ pos greatest_voltage = at_most_greatest hi m (omega (arith, ints)) in
    let i : neg_ℤ (pos greatest_voltage) ≤ℤ hi = at_least_greatest hi m (omega (arith, ints)) in
    (omega (arith, ints, e, g), omega (arith, ints, h, i))

-- its ends are small
pub voltage_ends : (nominal e : ℕ) (r : Fraction) (v : Interval) → 0 < nominal → e ≤ 10 * nominal → ¬ IsOverRange nominal r → IsVoltageInterval nominal e r v
    → (unsigned_abs v.lo ≤ greatest_voltage) × (unsigned_abs v.hi ≤ greatest_voltage)
voltage_ends nominal e r v some few range i =
    let more = some_uv nominal r.den some r.positive in
    let hundred : 100 * (e * r.den) ≤ 1000 * nominal * r.den = omega (arith, mul-le-mul_right r.den few) in
    let within : unsigned_abs r.num ≤ 4 * (1000 * nominal * r.den) = omega (arith, range) in
    small_ends r.num v.lo v.hi (1000 * nominal * r.den) (e * r.den) more hundred within i.down.within i.down.greatest i.up.within i.up.least

pub voltage_small : (nominal e : ℕ) (r : Fraction) (v : Interval) → 0 < nominal → e ≤ 10 * nominal → ¬ IsOverRange nominal r → IsVoltageInterval nominal e r v → IsSmall v
voltage_small nominal e r v some few range i =
    let ends = voltage_ends nominal e r v some few range i in
    record { low = omega (arith, ends.0); high = omega (arith, ends.1) }

-- ---- how near its ends are to the recorded voltage

-- a number of either sign, times n, is at most m in size
size_by : (y : ℤ) (n m : ℕ) → (y *ℤ pos n) ≤ℤ pos m → neg_ℤ (pos m) ≤ℤ (y *ℤ pos n) → unsigned_abs y * n ≤ m
size_by (pos q) n m a b = omega (arith, ints, a)
size_by (negsuc q) n m a b = omega (arith, ints, b)

less_at_most : {m n : ℕ} → m < n → m ≤ n
less_at_most h = omega (arith, h)

-- an equation of whole numbers as one of natural numbers
from_same : {a b : ℤ} {x y u v : ℕ} → Is a x y → Is b u v → a ≡ b → x + v ≡ u + y
from_same p q e = omega (arith, from_at_most p q (omega (arith, ints, e)), from_at_most q p (omega (arith, ints, e)))

-- the lower end: p over k is the recorded voltage, and n over d the same relative to nominal
low_near : (p lo n : ℤ) (nominal e k d : ℕ) → 0 < k
    → (lo *ℤ pos (nominal * k)) ≤ℤ ((p -ℤ pos (e * k)) *ℤ pos (2 ^ 48))
    → ((p -ℤ pos (e * k)) *ℤ pos (2 ^ 48)) <ℤ (lo *ℤ pos (nominal * k) +ℤ pos (nominal * k))
    → (pos nominal *ℤ n) *ℤ pos k ≡ p *ℤ pos d
    → unsigned_abs (lo *ℤ pos d +ℤ neg_ℤ n *ℤ pos (2 ^ 48)) * nominal ≤ (e * 2 ^ 48 + nominal) * d
low_near p lo n nominal e k d some floor next own =
    let one = from_at_most (times_is (atom lo) (nat (nominal * k))) (times_is (plus_is (atom p) (minus_is (nat (e * k)))) (nat (2 ^ 48))) floor in
    let two = from_below (times_is (plus_is (atom p) (minus_is (nat (e * k)))) (nat (2 ^ 48))) (plus_is (times_is (atom lo) (nat (nominal * k))) (nat (nominal * k))) next in
    let same = from_same (times_is (times_is (nat nominal) (atom n)) (nat k)) (times_is (atom p) (nat d)) own in
    let y = plus_is (times_is (atom lo) (nat d)) (times_is (minus_is (atom n)) (nat (2 ^ 48))) in
    size_by (lo *ℤ pos d +ℤ neg_ℤ n *ℤ pos (2 ^ 48)) nominal ((e * 2 ^ 48 + nominal) * d)
    (cancel_≤ _ _ k some
    (at_most (times_is (times_is y (nat nominal)) (nat k)) (times_is (nat ((e * 2 ^ 48 + nominal) * d)) (nat k))
    (omega (arith, mul-le-mul_right d one, ap (λ (a : ℕ). a * 2 ^ 48) same))))
    (cancel_≤ _ _ k some
    (at_most (times_is (minus_is (nat ((e * 2 ^ 48 + nominal) * d))) (nat k)) (times_is (times_is y (nat nominal)) (nat k))
    (omega (arith, mul-le-mul_right d (less_at_most two), ap (λ (a : ℕ). a * 2 ^ 48) same))))

high_near : (p hi n : ℤ) (nominal e k d : ℕ) → 0 < k
    → ((p +ℤ pos (e * k)) *ℤ pos (2 ^ 48)) ≤ℤ (hi *ℤ pos (nominal * k))
    → (hi *ℤ pos (nominal * k) -ℤ pos (nominal * k)) <ℤ ((p +ℤ pos (e * k)) *ℤ pos (2 ^ 48))
    → (pos nominal *ℤ n) *ℤ pos k ≡ p *ℤ pos d
    → unsigned_abs (hi *ℤ pos d +ℤ neg_ℤ n *ℤ pos (2 ^ 48)) * nominal ≤ (e * 2 ^ 48 + nominal) * d
high_near p hi n nominal e k d some ceil next own =
    let one = from_at_most (times_is (plus_is (atom p) (nat (e * k))) (nat (2 ^ 48))) (times_is (atom hi) (nat (nominal * k))) ceil in
    let two = from_below (plus_is (times_is (atom hi) (nat (nominal * k))) (minus_is (nat (nominal * k)))) (times_is (plus_is (atom p) (nat (e * k))) (nat (2 ^ 48))) next in
    let same = from_same (times_is (times_is (nat nominal) (atom n)) (nat k)) (times_is (atom p) (nat d)) own in
    let y = plus_is (times_is (atom hi) (nat d)) (times_is (minus_is (atom n)) (nat (2 ^ 48))) in
    size_by (hi *ℤ pos d +ℤ neg_ℤ n *ℤ pos (2 ^ 48)) nominal ((e * 2 ^ 48 + nominal) * d)
    (cancel_≤ _ _ k some
    (at_most (times_is (times_is y (nat nominal)) (nat k)) (times_is (nat ((e * 2 ^ 48 + nominal) * d)) (nat k))
    (omega (arith, mul-le-mul_right d (less_at_most two), ap (λ (a : ℕ). a * 2 ^ 48) same))))
    (cancel_≤ _ _ k some
    (at_most (times_is (minus_is (nat ((e * 2 ^ 48 + nominal) * d))) (nat k)) (times_is (times_is y (nat nominal)) (nat k))
    (omega (arith, mul-le-mul_right d one, ap (λ (a : ℕ). a * 2 ^ 48) same))))

-- what covers the doubt covers how far an end is away, and one unit
near_by : (c : ℤ) (y nominal e d g : ℕ) → 0 < nominal → y * nominal ≤ (e * 2 ^ 48 + nominal) * d
    → pos ((e * 2 ^ 48 + nominal * 2) * g) ≤ℤ (c *ℤ pos (nominal * 2 ^ 48))
    → (pos y *ℤ pos (g * 2 ^ 48)) ≤ℤ ((c *ℤ pos (2 ^ 48) +ℤ neg_ℤ (pos 1) *ℤ pos g) *ℤ pos (2 ^ 48 * d))
near_by c y nominal e d g some far covers =
    let two = from_at_most (nat ((e * 2 ^ 48 + nominal * 2) * g)) (times_is (atom c) (nat (nominal * 2 ^ 48))) covers in
    cancel_≤ _ _ nominal some
    (at_most
    (times_is (times_is (nat y) (nat (g * 2 ^ 48))) (nat nominal))
    (times_is (times_is (plus_is (times_is (atom c) (nat (2 ^ 48))) (times_is (minus_is (nat 1)) (nat g))) (nat (2 ^ 48 * d))) (nat nominal))
    (omega (arith, mul-le-mul_right (g * 2 ^ 48) far, mul-le-mul_right (2 ^ 48 * d) two)))

-- both ends are near the recorded voltage
pub voltage_near : (nominal e : ℕ) (r : Fraction) (v : Interval) (u delta : Fraction) → 0 < nominal → IsVoltageInterval nominal e r v → IsRelative nominal r u
    → CoversDoubt (1000 * nominal) e delta → IsNear (delta -ℚ units (pos 1)) v u
voltage_near nominal e r v u delta some i own c =
    let same : (pos (1000 * nominal) *ℤ u.num) *ℤ pos r.den ≡ r.num *ℤ pos u.den = omega (arith, ints, own.cross) in
    let covers : pos ((e * 2 ^ 48 + 1000 * nominal * 2) * delta.den) ≤ℤ (delta.num *ℤ pos (1000 * nominal * 2 ^ 48)) = omega (arith, ints, c.covers.cross) in
    let low = low_near r.num v.lo u.num (1000 * nominal) e r.den u.den r.positive i.down.within i.down.greatest same in
    let high = high_near r.num v.hi u.num (1000 * nominal) e r.den u.den r.positive i.up.within i.up.least same in
    record {
      low = record { cross = near_by delta.num _ (1000 * nominal) e u.den delta.den (omega (arith, some)) low covers };
      high = record { cross = near_by delta.num _ (1000 * nominal) e u.den delta.den (omega (arith, some)) high covers };
    }

-- ---- what covers the doubt

-- the least that does
abbrev least_delta : (nominal e : ℕ) → 0 < nominal → Fraction
least_delta nominal e some = record { num = pos (e * 2 ^ 48 + 1000 * nominal * 2); den = 1000 * nominal * 2 ^ 48; positive = omega (arith, some) }

pub doubt_covered : (nominal e : ℕ) → 0 < nominal → e ≤ 10 * nominal
    → (delta : Fraction) × CoversDoubt (1000 * nominal) e delta × (delta ≤ℚ (hundredth +ℚ units (pos 2)))
doubt_covered nominal e some few = (
  least_delta nominal e some,
  record {
    covers = record {
      cross =
          at_most
          (times_is (plus_is (times_is (nat e) (nat (1 * 2 ^ 48))) (times_is (times_is (nat (1000 * nominal)) (nat 2)) (nat 1))) (nat (1 * (1000 * nominal * 2 ^ 48))))
          (times_is (times_is (nat (1000 * nominal)) (nat (e * 2 ^ 48 + 1000 * nominal * 2))) (nat (1 * (1 * 2 ^ 48))))
          (omega arith);
    };
  },
  record { cross = omega (arith, ints, few) },
)

pub doubt_least : (nominal e : ℕ) (delta : Fraction) → 0 < nominal → CoversDoubt (1000 * nominal) e delta → units (pos 2) ≤ℚ delta
doubt_least nominal e delta some c =
    let covers : pos ((e * 2 ^ 48 + 1000 * nominal * 2) * delta.den) ≤ℤ (delta.num *ℤ pos (1000 * nominal * 2 ^ 48)) = omega (arith, ints, c.covers.cross) in
    let one = from_at_most (nat ((e * 2 ^ 48 + 1000 * nominal * 2) * delta.den)) (times_is (atom delta.num) (nat (1000 * nominal * 2 ^ 48))) covers in
    record {
      cross =
          cancel_≤ _ _ (1000 * nominal) (omega (arith, some))
          (at_most (times_is (times_is (nat 2) (nat delta.den)) (nat (1000 * nominal))) (times_is (times_is (atom delta.num) (nat (2 ^ 48))) (nat (1000 * nominal))) (omega (arith, one)));
    }

-- a recorded voltage has one interval
pub voltage_same : (nominal e : ℕ) (r : Fraction) (v w : Interval) → IsVoltageInterval nominal e r v → IsVoltageInterval nominal e r w → (v.lo ≡ w.lo) × (v.hi ≡ w.hi)
voltage_same nominal e r v w h k =
    let m = 1000 * nominal * r.den in
    let up : neg_ℤ v.hi ≡ neg_ℤ w.hi = floor_unique _ m (neg_ℤ v.hi) (neg_ℤ w.hi) (IsFloor-neg _ m v.hi h.up) (IsFloor-neg _ m w.hi k.up) in
    (floor_unique _ m v.lo w.lo h.down k.down, omega (arith, ints, up))

-- ---- there is one

pub voltage_exists : (nominal uncertainty : ℕ) → 0 < nominal → (r : Fraction) → (v : Interval) × IsVoltageInterval nominal uncertainty r v
voltage_exists nominal uncertainty some r =
    let base = 1000 * nominal * r.den in
    let positive : 0 < base = mul-pos (omega (arith, some)) r.positive in
    let below = (r.num -ℤ pos (uncertainty * r.den)) *ℤ pos (2 ^ 48) in
    let above = (r.num +ℤ pos (uncertainty * r.den)) *ℤ pos (2 ^ 48) in
    let floor = IsFloor-floor_of below base positive in
    let ceil = IsCeil-ceil_of above base positive in
    let between : below ≤ℤ above = scale_≤ (r.num -ℤ pos (uncertainty * r.den)) (r.num +ℤ pos (uncertainty * r.den)) (2 ^ 48) (omega (arith, ints)) in
    let ordered = cancel_≤ (floor_of below (pos base)) (ceil_of above (pos base)) base positive (≤ℤ_trans floor.within (≤ℤ_trans between ceil.within)) in
    let v : Interval = record { lo = floor_of below (pos base); hi = ceil_of above (pos base); ordered = ordered } in
    (v, record { down = floor; up = ceil })

-- ---- voltages in a list

pub voltages_hold : (nominal uncertainty : ℕ) (recorded : List Fraction) (voltages : List Interval) (run : List Fraction) → 0 < nominal → AllZip (IsVoltageInterval nominal uncertainty) recorded voltages
    → IsAdmittedRun (1000 * nominal) uncertainty recorded run → HoldEach voltages run
voltages_hold nominal uncertainty recorded voltages run some are admitted =
    AllZip-joined (IsVoltageInterval nominal uncertainty) (IsAdmitted (1000 * nominal) uncertainty) Holds
    (λ r v u is near. voltage_holds nominal uncertainty r v u some is near) recorded voltages run are admitted
