-- The long-term severity: greater severities give no lesser one, there is one, it is no wider than the widest, and how it is computed.
use Rattle.std.proofs.Common.{◌≡◌, ℕ, zero, suc, ◌+◌, ◌-◌, ◌*◌, ◌<◌, ◌≤◌, List, [], ◌∷◌, length, ℤ, pos, ◌+ℤ◌, ◌*ℤ◌, ◌≤ℤ◌, refl, ◌∙◌, ⊎_elim, arith, mul-le-mul_left, le_trans}
use Rattle.std.specs.Prelude.{negsuc}
use Rattle.std.specs.Int.{w128}
use Rattle.std.specs.Int.RustNames.{FitsSigned, unsigned_abs}
use Rattle.std.specs.List.{All, AllZip, fold}
use Rattle.std.proofs.Math.Nat.{mul-pos}
use Rattle.std.proofs.lemmas.Bool.{cases_lt}
use Rattle.std.proofs.lemmas.Int.{ints}
use Rattle.std.proofs.lemmas.Nat.{mul-le}
use Rattle.std.proofs.lemmas.List.Elements.{All-head, All-tail}
use Rattle.flk_exact.specs.Rounding.{IsCeil, IsBetween, IsCubeRootCeil}
use Rattle.flk_exact.proofs.WholeLemmas.{≤ℤ_trans, natural_is, scale_≤, cancel_≤}
use Rattle.flk_exact.proofs.ProductLemmas.{lin, distrib}
use Rattle.flk_exact.proofs.RoundingLemmas.{ceil_at_most}
use Rattle.flk_exact.proofs.RootLemmas.{least_reaching}
use Rattle.flk_num.proofs.RootLemmas.{cube_≤ as natural_cube_≤}
use Rattle.flk_stat.specs.Severity.{cap}
use Rattle.flk_stat.specs.LongTerm.{sum_of_cubes, IsLongTerm}
use Rattle.flk_stat.proofs.SeverityLemmas.{ceil_reached, sum_moved}
use Rattle.flk_stat.proofs.SeverityWidth.{mul_keeps}

-- ---- greater severities

cube_≤ : (x y : ℤ) → x ≤ℤ y → (x *ℤ x *ℤ x) ≤ℤ (y *ℤ y *ℤ y)
cube_≤ (pos a) (pos b) h = let order : a ≤ b = omega (arith, ints) in omega (arith, ints, natural_cube_≤ a b order)
cube_≤ (pos a) (negsuc b) h = absurd (omega (arith, ints))
cube_≤ (negsuc a) (pos b) h = omega (arith, ints)
cube_≤ (negsuc a) (negsuc b) h = let order : suc b ≤ suc a = omega (arith, ints) in omega (arith, ints, natural_cube_≤ (suc b) (suc a) order)

sums_≤ : (a b s t : ℤ) → a ≤ℤ b → s ≤ℤ t → (a +ℤ s) ≤ℤ (b +ℤ t)
sums_≤ a b s t h g = omega (arith, ints)

cubes_≤ : (xs ys : List ℤ) → AllZip ◌≤ℤ◌ xs ys → sum_of_cubes xs ≤ℤ sum_of_cubes ys
cubes_≤ [] [] h = omega (arith, ints)
cubes_≤ [] (y ∷ ys) h = absurd h
cubes_≤ (x ∷ xs) [] h = absurd h
cubes_≤ (x ∷ xs) (y ∷ ys) h = sums_≤ (x *ℤ x *ℤ x) (y *ℤ y *ℤ y) (sum_of_cubes xs) (sum_of_cubes ys) (cube_≤ x y h.0) (cubes_≤ xs ys h.1)

pub long_term_≤ : (xs ys : List ℤ) (v w : ℤ) → AllZip ◌≤ℤ◌ xs ys → IsLongTerm xs v → IsLongTerm ys w → v ≤ℤ w
long_term_≤ xs ys v w h a b = a.least w b.natural (≤ℤ_trans (cubes_≤ xs ys h) b.reaches)

pub long_term_unique : (xs : List ℤ) (v w : ℤ) → IsLongTerm xs v → IsLongTerm xs w → v ≡ w
long_term_unique xs v w a b = omega (arith, ints, a.least w b.natural b.reaches, b.least v a.natural a.reaches)

-- ---- there is one

far_enough : (n : ℕ) → n ≤ 12 * ((0 + n) * (0 + n) * (0 + n))
far_enough zero = omega arith
far_enough (suc n) = omega (arith, mul-le 1 (suc n) (suc n * suc n) (suc n) (mul-le 1 1 (suc n) (suc n) (omega arith) (omega arith)) (omega arith))

least_natural : (n r : ℕ) (z : ℤ) → ((k : ℕ) → n ≤ 12 * (k * k * k) → r ≤ k) → pos 0 ≤ℤ z → pos n ≤ℤ (pos 12 *ℤ (z *ℤ z *ℤ z)) → pos r ≤ℤ z
least_natural n r (pos k) least low h = let order : n ≤ 12 * (k * k * k) = omega (arith, ints, h) in omega (arith, ints, least k order)
least_natural n r (negsuc k) least low h = absurd (omega (arith, ints, low))

exists_of : (xs : List ℤ) (sum : ℤ) → sum_of_cubes xs ≡ sum → (w : ℤ) × IsLongTerm xs w
exists_of xs (pos n) e =
    let l = least_reaching (λ k. 12 * (k * k * k)) n 0 n (λ z h. omega arith) (far_enough n) in
    (pos l.0, record { natural = omega (arith, ints); reaches = rw e (omega (arith, ints, l.1)); least = λ z low h. least_natural n l.0 z l.2 low (rw e at h) })
exists_of xs (negsuc n) e = (pos 0, record { natural = omega (arith, ints); reaches = rw e (omega (arith, ints)); least = λ z low h. low })

pub long_term_exists : (xs : List ℤ) → (w : ℤ) × IsLongTerm xs w
long_term_exists xs = exists_of xs (sum_of_cubes xs) refl

-- ---- how wide it is

-- tangents of the cube
tangent_up : (w t : ℕ) → 3 * (w * w * (w + t)) ≤ (w + t) * (w + t) * (w + t) + 2 * (w * w * w)
tangent_up w t = omega arith

tangent_down : (x t : ℕ) → 3 * ((x + t) * (x + t) * x) ≤ x * x * x + 2 * ((x + t) * (x + t) * (x + t))
tangent_down x t = omega arith

pub tangent : (w x : ℕ) → 3 * (w * w * x) ≤ x * x * x + 2 * (w * w * w)
tangent w x =
    ⊎_elim
    (λ l. let e : w + (x - w) ≡ x = omega arith in let h = tangent_up w (x - w) in rw e at h)
    (λ l. let e : x + (w - x) ≡ w = omega arith in let h = tangent_down x (w - x) in rw e at h)
    (cases_lt w x)

-- a mean of cubes: x + d against w + d
pub power_step : (w d x : ℕ) → w * w * ((x + d) * (x + d) * (x + d)) ≤ (w + d) * (w + d) * (x * x * x + d * (w * w))
power_step w d x =
    let a : (d * w) * (3 * (x * x * w)) ≤ (d * w) * (w * w * w + 2 * (x * x * x)) = mul-le-mul_left (d * w) (tangent x w) in
    let b : (d * d) * (3 * (w * w * x)) ≤ (d * d) * (x * x * x + 2 * (w * w * w)) = mul-le-mul_left (d * d) (tangent w x) in
    omega arith

-- the mean of cubes: one member against its place in the sum
pub cube_width : (w d x y : ℕ) → y ≤ x + d → w * w * (y * y * y) ≤ (w + d) * (w + d) * (x * x * x + d * (w * w))
cube_width w d x y h =
    let a = mul-le (y * y) y ((x + d) * (x + d)) (x + d) (mul-le y y (x + d) (x + d) h h) h in
    let b : w * w * (y * y * y) ≤ w * w * ((x + d) * (x + d) * (x + d)) = mul-le-mul_left (w * w) a in
    le_trans b (power_step w d x)

-- a cube of natural numbers, where y is at most d above x
cube_near : (w d : ℕ) (x y : ℤ) → pos 0 ≤ℤ x → y ≤ℤ (x +ℤ pos d) → (pos (w * w) *ℤ (y *ℤ y *ℤ y)) ≤ℤ (pos ((w + d) * (w + d)) *ℤ (x *ℤ x *ℤ x +ℤ pos (d * (w * w))))
cube_near w d (pos a) y low h =
    let top = cube_≤ y (pos (a + d)) (omega (arith, ints, h)) in
    let up = mul_keeps (w * w) (y *ℤ y *ℤ y) (pos (a + d) *ℤ pos (a + d) *ℤ pos (a + d)) top in
    let step = power_step w d a in
    omega (arith, ints, up, step)
cube_near w d (negsuc a) y low h = absurd (omega (arith, ints, low))

sum_joined : (A B cy sy cx sx e f g : ℤ) → g ≡ e +ℤ f → (A *ℤ cy) ≤ℤ (B *ℤ (cx +ℤ e)) → (A *ℤ sy) ≤ℤ (B *ℤ (sx +ℤ f)) → (A *ℤ (cy +ℤ sy)) ≤ℤ (B *ℤ (cx +ℤ sx +ℤ g))
sum_joined A B cy sy cx sx e f g parts here rest =
    let a = distrib A cy sy in
    let b = distrib B (cx +ℤ e) (sx +ℤ f) in
    let c : cx +ℤ sx +ℤ g ≡ (cx +ℤ e) +ℤ (sx +ℤ f) = omega (arith, lin, parts) in
    rw c (omega (arith, lin, a, b, here, rest))

cubes_near : (w d : ℕ) (xs ys : List ℤ) → All (λ x. pos 0 ≤ℤ x) xs → AllZip (λ x y. y ≤ℤ (x +ℤ pos d)) xs ys
    → (pos (w * w) *ℤ sum_of_cubes ys) ≤ℤ (pos ((w + d) * (w + d)) *ℤ (sum_of_cubes xs +ℤ pos (length xs * (d * (w * w)))))
cubes_near w d [] [] natural h = omega (arith, ints)
cubes_near w d [] (y ∷ ys) natural h = absurd h
cubes_near w d (x ∷ xs) [] natural h = absurd h
cubes_near w d (x ∷ xs) (y ∷ ys) natural h =
    sum_joined (pos (w * w)) (pos ((w + d) * (w + d))) (y *ℤ y *ℤ y) (sum_of_cubes ys) (x *ℤ x *ℤ x) (sum_of_cubes xs) (pos (d * (w * w))) (pos (length xs * (d * (w * w)))) _
    (omega (arith, ints)) (cube_near w d x y (All-head (λ z. pos 0 ≤ℤ z) x xs natural) h.0) (cubes_near w d xs ys (All-tail (λ z. pos 0 ≤ℤ z) x xs natural) h.1)

-- the sum of the lesser cubes is at most that of w, which is above 0
sum_near : (w d : ℕ) (X Y : ℤ) → 0 < w → (pos (w * w) *ℤ Y) ≤ℤ (pos ((w + d) * (w + d)) *ℤ (X +ℤ pos (12 * (d * (w * w))))) → X ≤ℤ pos (12 * (w * w * w))
    → Y ≤ℤ pos (12 * ((w + d) * (w + d) * (w + d)))
sum_near w d X Y some near within =
    let top = mul_keeps ((w + d) * (w + d)) (X +ℤ pos (12 * (d * (w * w)))) (pos (12 * (w * w * w) + 12 * (d * (w * w)))) (omega (arith, ints, within)) in
    let same : (w + d) * (w + d) * (12 * (w * w * w) + 12 * (d * (w * w))) ≡ w * w * (12 * ((w + d) * (w + d) * (w + d))) = omega arith in
    let all : (pos (w * w) *ℤ Y) ≤ℤ pos (w * w * (12 * ((w + d) * (w + d) * (w + d)))) = rw (← same) (omega (arith, ints, near, top)) in
    cancel_≤ Y (pos (12 * ((w + d) * (w + d) * (w + d)))) (w * w) (mul-pos some some) (omega (arith, ints, all))

-- where the lesser cubes are all 0
cubes_natural : (xs : List ℤ) → All (λ x. pos 0 ≤ℤ x) xs → pos 0 ≤ℤ sum_of_cubes xs
cubes_natural [] natural = omega (arith, ints)
cubes_natural (x ∷ xs) natural =
    let first = cube_≤ (pos 0) x (All-head (λ z. pos 0 ≤ℤ z) x xs natural) in
    let rest = cubes_natural xs (All-tail (λ z. pos 0 ≤ℤ z) x xs natural) in
    sums_≤ (pos 0) (x *ℤ x *ℤ x) (pos 0) (sum_of_cubes xs) (omega (arith, ints, first)) rest

no_cube : (x : ℤ) → pos 0 ≤ℤ x → (x *ℤ x *ℤ x) ≤ℤ pos 0 → x ≤ℤ pos 0
no_cube (pos zero) low h = omega (arith, ints)
no_cube (pos (suc a)) low h = absurd (omega (arith, ints, h, natural_cube_≤ 1 (suc a) (omega arith)))
no_cube (negsuc a) low h = omega (arith, ints)

cubes_at_zero : (d : ℕ) (xs ys : List ℤ) → All (λ x. pos 0 ≤ℤ x) xs → AllZip (λ x y. y ≤ℤ (x +ℤ pos d)) xs ys → sum_of_cubes xs ≤ℤ pos 0
    → sum_of_cubes ys ≤ℤ pos (length xs * (d * d * d))
cubes_at_zero d [] [] natural h none = omega (arith, ints)
cubes_at_zero d [] (y ∷ ys) natural h none = absurd h
cubes_at_zero d (x ∷ xs) [] natural h none = absurd h
cubes_at_zero d (x ∷ xs) (y ∷ ys) natural h none =
    let low = All-head (λ z. pos 0 ≤ℤ z) x xs natural in
    let tail = All-tail (λ z. pos 0 ≤ℤ z) x xs natural in
    let first = cube_≤ (pos 0) x low in
    let others = cubes_natural xs tail in
    let cube_none : (x *ℤ x *ℤ x) ≤ℤ pos 0 = omega (arith, lin, none, others) in
    let rest_none : sum_of_cubes xs ≤ℤ pos 0 = omega (arith, ints, none, first) in
    let zero_x = no_cube x low cube_none in
    let top = cube_≤ y (pos d) (omega (arith, ints, h.0, zero_x)) in
    let rest = cubes_at_zero d xs ys tail h.1 rest_none in
    let sum = sums_≤ (y *ℤ y *ℤ y) (pos (d * d * d)) (sum_of_cubes ys) (pos (length xs * (d * d * d))) (omega (arith, ints, top)) rest in
    omega (arith, ints, sum)

wider_by : (d w : ℕ) (xs ys : List ℤ) (u : ℤ) → length xs ≡ 12 → All (λ x. pos 0 ≤ℤ x) xs → AllZip (λ x y. y ≤ℤ (x +ℤ pos d)) xs ys → sum_of_cubes xs ≤ℤ (pos 12 *ℤ (pos w *ℤ pos w *ℤ pos w))
    → IsLongTerm ys u → u ≤ℤ pos (w + d)
wider_by d zero xs ys u twelve natural near within b =
    let top = rw twelve at (cubes_at_zero d xs ys natural near (omega (arith, ints, within))) in
    b.least (pos (0 + d)) (omega (arith, ints)) (omega (arith, ints, top))
wider_by d (suc w) xs ys u twelve natural near within b =
    let all = rw twelve at (cubes_near (suc w) d xs ys natural near) in
    let top = sum_near (suc w) d (sum_of_cubes xs) (sum_of_cubes ys) (omega arith) all (omega (arith, ints, within)) in
    b.least (pos (suc w + d)) (omega (arith, ints)) (omega (arith, ints, top))

pub long_term_no_wider : (d : ℕ) (xs ys : List ℤ) (v w : ℤ) → length xs ≡ 12 → All (λ x. pos 0 ≤ℤ x) xs → AllZip (λ x y. y ≤ℤ (x +ℤ pos d)) xs ys → IsLongTerm xs v → IsLongTerm ys w
    → w ≤ℤ (v +ℤ pos d)
long_term_no_wider d xs ys v w twelve natural near a b =
    let n = unsigned_abs v in
    let e : v ≡ pos n = natural_is v a.natural in
    let top = wider_by d n xs ys w twelve natural near (rw e at a.reaches) b in
    rw e (omega (arith, ints, top))

-- ---- how it is computed

-- the powers of a severity
pub record Powers (v : ℤ) : Type 0 where
  pub square_low : pos 0 ≤ℤ (v *ℤ v)
  pub square_high : (v *ℤ v) ≤ℤ pos 1000000000000000000000000
  pub cube_low : pos 0 ≤ℤ (v *ℤ v *ℤ v)
  pub cube_high : (v *ℤ v *ℤ v) ≤ℤ pos 1000000000000000000000000000000000000

pub powers : (v : ℤ) → IsBetween (pos 0) cap v → Powers v
powers (pos n) h =
    let a : n ≤ 1000000000000 = omega (arith, ints, h.below) in
    let b = mul-le n n 1000000000000 1000000000000 a a in
    let c = mul-le (n * n) n (1000000000000 * 1000000000000) 1000000000000 b a in
    record { square_low = omega (arith, ints); square_high = omega (arith, ints, b); cube_low = omega (arith, ints); cube_high = omega (arith, ints, c) }
powers (negsuc n) h = absurd (omega (arith, ints, h.above))

pub fits_square : (z : ℤ) → pos 0 ≤ℤ z → z ≤ℤ pos 1000000000000000000000000 → FitsSigned w128 z
fits_square z h k = omega (arith, ints, h, k)

pub fits_cube : (z : ℤ) → pos 0 ≤ℤ z → z ≤ℤ pos 1000000000000000000000000000000000000 → FitsSigned w128 z
fits_cube z h k = omega (arith, ints, h, k)

twelve_times : (X q s : ℤ) → X ≡ s → X ≤ℤ (q *ℤ pos 12) → s ≤ℤ (pos 12 *ℤ q)
twelve_times X q s e h = omega (arith, ints)

times_twelve : (X q s : ℤ) → X ≡ s → s ≤ℤ (pos 12 *ℤ q) → X ≤ℤ (q *ℤ pos 12)
times_twelve X q s e h = omega (arith, ints)

pub long_term_is : (values : List ℤ) (X x w : ℤ) → X ≡ sum_of_cubes values → IsCeil X (pos 12) x → IsCubeRootCeil x w → IsLongTerm values w
long_term_is values X x w sum ceil root = record {
  natural = root.natural;
  reaches =
      let a = ceil_reached X (pos 12) x (w *ℤ w *ℤ w) ceil (omega (arith, ints)) root.within in
      twelve_times X (w *ℤ w *ℤ w) (sum_of_cubes values) sum a;
  least = λ z low h. root.least z low (ceil_at_most X 12 x (z *ℤ z *ℤ z) ceil (times_twelve X (z *ℤ z *ℤ z) (sum_of_cubes values) sum h));
}

-- the mean of cubes of at most the cap
pub long_term_high : (values : List ℤ) (X w : ℤ) → X ≡ sum_of_cubes values → X ≤ℤ pos 12000000000000000000000000000000000000 → IsLongTerm values w → w ≤ℤ cap
long_term_high values X w sum high is = is.least cap (omega (arith, ints)) (rw (← sum) (omega (arith, ints, high)))

pub cubes_folded : (a : ℤ) (xs : List ℤ) → fold (λ s v. s +ℤ v *ℤ v *ℤ v) a xs ≡ a +ℤ sum_of_cubes xs
cubes_folded a [] = omega (arith, ints)
cubes_folded a (x ∷ xs) = cubes_folded (a +ℤ x *ℤ x *ℤ x) xs ∙ sum_moved a (x *ℤ x *ℤ x) (sum_of_cubes xs)

pub sum_from_zero : (s t : ℤ) → s ≡ pos 0 +ℤ t → s ≡ t
sum_from_zero s t e = omega (arith, ints, e)
