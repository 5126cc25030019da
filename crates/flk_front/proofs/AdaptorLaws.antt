-- Every run has means and outputs, and no run has two; and so it is with the points of a list of intervals.
use Rattle.std.proofs.Common.{◌≡◌, ℕ, ◌+◌, ◌*◌, ◌/◌, ◌^◌, ◌<◌, List, [], ◌∷◌, get_or, ℤ, pos, ◌+ℤ◌, ◌-ℤ◌, ◌*ℤ◌, ◌<ℤ◌, refl, sym, ap, subst, ◌∙◌, arith}
use Rattle.std.specs.Int.{int_max}
use Rattle.std.specs.Int.RustNames.{unsigned_abs}
use Rattle.std.specs.List.{AllZip}
use Rattle.std.proofs.lemmas.Int.{ints, clamps}
use Rattle.std.proofs.lemmas.Nat.{pow_pos}
use Rattle.std.proofs.Math.IntN.{*ℤ_comm}
use Rattle.std.proofs.Math.Nat.{mul-pos}
use Rattle.flk_exact.specs.Fraction.{Fraction, ◌≈ℚ◌, ◌+ℚ◌, ◌-ℚ◌, ◌*ℚ◌, whole}
use Rattle.flk_exact.proofs.WholeLemmas.{square_is, positive_is}
use Rattle.flk_exact.proofs.ProductLemmas.{lin, mul_assoc}
use Rattle.flk_exact.proofs.NumeratorLemmas.{IsOver, cancel_≡, over_grow, over_sum, over_difference, over_times, over_product, over_same, same_over, positive_over, numerators, number}
use Rattle.flk_num.specs.declared.interval.Interval.{Interval}
use Rattle.flk_front.specs.declared.point.Point.{Point}
use Rattle.flk_front.specs.Adaptor.{quarter, divisor, IsNextMean, IsOutput, IsAdapted}
use Rattle.flk_front.specs.Rounded.{newest_output, ArePoints}
use Rattle.flk_front.proofs.Numerators.{over_greater}

-- ---- there is a next mean

-- a part in k of f
part : (k : ℕ) → 0 < k → Fraction → Fraction
part k some f = record { num = f.num; den = f.den * k; positive = mul-pos f.positive some }

over_part : (delta k : ℕ) (some : 0 < k) (f : Fraction) (n : ℤ) → IsOver delta f n → IsOver (delta * k) (part k some f) n
unfolding part
over_part delta k some f n h = record { is = sym (mul_assoc f.num (pos delta) (pos k)) ∙ ap (λ (z : ℤ). z *ℤ pos k) h.is ∙ mul_assoc n (pos f.den) (pos k) }

IsNextMean-made : (e : ℕ) (m u : Fraction) → (next : Fraction) × IsNextMean e m u next
IsNextMean-made e m u =
    let some : 0 < 2 ^ e = pow_pos e in
    let gap = u *ℚ u -ℚ m in
    let next = m +ℚ part (2 ^ e) some gap in
    let fs : List Fraction = m ∷ gap ∷ [] in
    let k = numerators fs in
    let delta = k.base * 2 ^ 48 in
    let hd : 0 < delta * 2 ^ e = mul-pos (omega (arith, k.some)) some in
    let mu = get_or k.numbers 0 (pos 0) in
    let n = get_or k.numbers 1 (pos 0) in
    let over_m : IsOver (delta * 2 ^ e) m (mu *ℤ pos (2 ^ e)) = over_grow delta (2 ^ e) m mu (number fs k 0 (omega arith)) in
    let over_gap : IsOver delta gap n = number fs k 1 (omega arith) in
    let over_next = over_sum (delta * 2 ^ e) m (part (2 ^ e) some gap) _ n over_m (over_part delta (2 ^ e) some gap n over_gap) in
    let moved = over_times (delta * 2 ^ e) (pos (2 ^ e)) (next -ℚ m) _ (over_difference (delta * 2 ^ e) next m _ _ over_next over_m) in
    let same : mu *ℤ pos (2 ^ e) +ℤ n -ℤ mu *ℤ pos (2 ^ e) ≡ n = omega (arith, lin) in
    let turned : pos (2 ^ e) *ℤ (mu *ℤ pos (2 ^ e) +ℤ n -ℤ mu *ℤ pos (2 ^ e)) ≡ n *ℤ pos (2 ^ e) = ap (λ (z : ℤ). pos (2 ^ e) *ℤ z) same ∙ *ℤ_comm (pos (2 ^ e)) n in
    (next, record { is = same_over (delta * 2 ^ e) _ gap (n *ℤ pos (2 ^ e)) hd (rw (sym turned) moved) (over_grow delta (2 ^ e) gap n over_gap) })

-- ---- there is an output

divisor_positive : (m : Fraction) → pos 0 <ℤ (divisor m).num
divisor_positive m = omega (arith, ints, clamps, m.positive)

IsOutput-made : (m u : Fraction) → (y : Fraction) × IsOutput m u y
IsOutput-made m u =
    let d = divisor m in
    let k = positive_is d.num (divisor_positive m) in
    let a = unsigned_abs u.num in
    let y : Fraction = record { num = pos (a * a * d.den); den = u.den * u.den * k.0; positive = mul-pos (mul-pos u.positive u.positive) k.1 } in
    let numbers : a * a * d.den * k.0 * (u.den * u.den) ≡ a * a * (u.den * u.den * k.0 * d.den) = omega arith in
    let e : (pos (a * a * d.den) *ℤ d.num) *ℤ pos (u.den * u.den) ≡ pos (a * a * d.den * k.0 * (u.den * u.den)) = ap (λ (z : ℤ). (pos (a * a * d.den) *ℤ z) *ℤ pos (u.den * u.den)) k.2 in
    let f : (u.num *ℤ u.num) *ℤ pos (u.den * u.den * k.0 * d.den) ≡ pos (a * a * (u.den * u.den * k.0 * d.den)) =
    ap (λ (z : ℤ). z *ℤ pos (u.den * u.den * k.0 * d.den)) (square_is u.num) in
    (y, record { is = record { cross = e ∙ ap pos numbers ∙ sym f } })

record Adapted (e : ℕ) (us : List Fraction) : Type 0 where
  newest : Fraction
  means : List Fraction
  outputs : List Fraction
  is : IsAdapted e us (newest ∷ means) outputs

adapted : (e : ℕ) (us : List Fraction) → Adapted e us
adapted e [] = record { newest = whole (pos 1); means = []; outputs = []; is = record { cross = refl } }
adapted e (u ∷ us) =
    let rest = adapted e us in
    let next = IsNextMean-made e rest.newest u in
    let y = IsOutput-made rest.newest u in
    record { newest = next.0; means = rest.newest ∷ rest.means; outputs = y.0 ∷ rest.outputs; is = (next.1, y.1, rest.is) }

pub IsAdapted-exists : (e : ℕ) (us : List Fraction) → (means : List Fraction) × (ys : List Fraction) × IsAdapted e us means ys
IsAdapted-exists e us =
    let a = adapted e us in
    (a.newest ∷ a.means, a.outputs, a.is)

-- ---- and there are no two

next_same_over : (e delta : ℕ) (m n u x y : Fraction) (a b c p q : ℤ) → 0 < delta → IsOver delta m a → IsOver delta n b → IsOver delta (u *ℚ u) c → IsOver delta x p
    → IsOver delta y q → m ≈ℚ n → IsNextMean e m u x → IsNextMean e n u y → x ≈ℚ y
next_same_over e delta m n u x y a b c p q hd over_m over_n over_u over_x over_y same h k =
    let some : 0 < 2 ^ e = pow_pos e in
    let big = pos (2 ^ e) in
    let means : b ≡ a = sym (over_same delta m n a b hd same over_m over_n) in
    let first : big *ℤ (p -ℤ a) ≡ c -ℤ a =
    over_same delta _ _ _ _ hd h.is (over_times delta big (x -ℚ m) (p -ℤ a) (over_difference delta x m p a over_x over_m)) (over_difference delta (u *ℚ u) m c a over_u over_m) in
    let second : big *ℤ (q -ℤ b) ≡ c -ℤ b =
    over_same delta _ _ _ _ hd k.is (over_times delta big (y -ℚ n) (q -ℤ b) (over_difference delta y n q b over_y over_n)) (over_difference delta (u *ℚ u) n c b over_u over_n) in
    let moved : big *ℤ (q -ℤ a) ≡ c -ℤ a = subst (λ (z : ℤ). big *ℤ (q -ℤ z) ≡ c -ℤ z) means second in
    let gaps : p -ℤ a ≡ q -ℤ a = cancel_≡ (p -ℤ a) (q -ℤ a) (2 ^ e) some (*ℤ_comm (p -ℤ a) big ∙ first ∙ sym moved ∙ *ℤ_comm big (q -ℤ a)) in
    let equal : q ≡ p = omega (arith, lin) in
    same_over delta x y p hd over_x (subst (λ (z : ℤ). IsOver delta y z) equal over_y)

next_same : (e : ℕ) (m n u x y : Fraction) → m ≈ℚ n → IsNextMean e m u x → IsNextMean e n u y → x ≈ℚ y
next_same e m n u x y same h k =
    let fs : List Fraction = m ∷ n ∷ u *ℚ u ∷ x ∷ y ∷ [] in
    let p = numerators fs in
    next_same_over e (p.base * 2 ^ 48) m n u x y _ _ _ _ _ (omega (arith, p.some)) (number fs p 0 (omega arith)) (number fs p 1 (omega arith))
    (number fs p 2 (omega arith)) (number fs p 3 (omega arith)) (number fs p 4 (omega arith)) same h k

output_same_over : (delta : ℕ) (m n u x y : Fraction) (a b c p q r : ℤ) → 0 < delta → IsOver delta m a → IsOver delta n b → IsOver delta (u *ℚ u) c → IsOver delta x p
    → IsOver delta y q → IsOver delta quarter r → m ≈ℚ n → IsOutput m u x → IsOutput n u y → x ≈ℚ y
output_same_over delta m n u x y a b c p q r hd over_m over_n over_u over_x over_y over_r same h k =
    let means : b ≡ a = sym (over_same delta m n a b hd same over_m over_n) in
    let d = int_max a r in
    let over_d : IsOver delta (divisor m) d = over_greater delta m quarter a r over_m over_r in
    let over_e : IsOver delta (divisor n) d = over_greater delta n quarter a r (subst (λ (z : ℤ). IsOver delta n z) means over_n) over_r in
    let s = positive_is d (positive_over delta (divisor m) d (divisor_positive m) hd over_d) in
    let square = over_grow delta delta (u *ℚ u) c over_u in
    let first : p *ℤ d ≡ c *ℤ pos delta = over_same (delta * delta) _ _ _ _ (mul-pos hd hd) h.is (over_product delta delta x (divisor m) p d over_x over_d) square in
    let second : q *ℤ d ≡ c *ℤ pos delta = over_same (delta * delta) _ _ _ _ (mul-pos hd hd) k.is (over_product delta delta y (divisor n) q d over_y over_e) square in
    let both : q *ℤ d ≡ p *ℤ d = second ∙ sym first in
    let equal : q ≡ p = cancel_≡ q p s.0 s.1 (ap (λ (z : ℤ). q *ℤ z) (sym s.2) ∙ both ∙ ap (λ (z : ℤ). p *ℤ z) s.2) in
    same_over delta x y p hd over_x (subst (λ (z : ℤ). IsOver delta y z) equal over_y)

output_same : (m n u x y : Fraction) → m ≈ℚ n → IsOutput m u x → IsOutput n u y → x ≈ℚ y
output_same m n u x y same h k =
    let fs : List Fraction = m ∷ n ∷ u *ℚ u ∷ x ∷ y ∷ quarter ∷ [] in
    let p = numerators fs in
    output_same_over (p.base * 2 ^ 48) m n u x y _ _ _ _ _ _ (omega (arith, p.some)) (number fs p 0 (omega arith)) (number fs p 1 (omega arith))
    (number fs p 2 (omega arith)) (number fs p 3 (omega arith)) (number fs p 4 (omega arith)) (number fs p 5 (omega arith)) same h k

one_same : (m n : Fraction) → m ≈ℚ whole (pos 1) → n ≈ℚ whole (pos 1) → m ≈ℚ n
one_same m n h k =
    let a : m.num ≡ pos m.den = omega (arith, ints, h.cross) in
    let b : n.num ≡ pos n.den = omega (arith, ints, k.cross) in
    record { cross = ap (λ (z : ℤ). z *ℤ pos n.den) a ∙ *ℤ_comm (pos m.den) (pos n.den) ∙ ap (λ (z : ℤ). z *ℤ pos m.den) (sym b) }

no_means : {P : Type 0} (e : ℕ) (us ys : List Fraction) → IsAdapted e us [] ys → P
no_means e [] ys h = absurd h
no_means e (u ∷ us) ys h = absurd h

record AreSame (m n : Fraction) (means ns ys zs : List Fraction) : Type 0 where
  newest : m ≈ℚ n
  before : AllZip ◌≈ℚ◌ means ns
  outputs : AllZip ◌≈ℚ◌ ys zs

both : (e : ℕ) (us : List Fraction) (m n : Fraction) (means ns ys zs : List Fraction) → IsAdapted e us (m ∷ means) ys → IsAdapted e us (n ∷ ns) zs → AreSame m n means ns ys zs
both e [] m n [] [] [] [] h k = record { newest = one_same m n h k; before = tt; outputs = tt }
both e [] m n [] [] [] (z ∷ zs) h k = absurd k
both e [] m n [] [] (y ∷ ys) zs h k = absurd h
both e [] m n [] (b ∷ ns) ys zs h k = absurd k
both e [] m n (a ∷ means) ns ys zs h k = absurd h
both e (u ∷ us) m n [] ns ys zs h k = absurd h
both e (u ∷ us) m n (a ∷ means) [] ys zs h k = absurd k
both e (u ∷ us) m n (a ∷ means) (b ∷ ns) [] zs h k = absurd h
both e (u ∷ us) m n (a ∷ means) (b ∷ ns) (y ∷ ys) [] h k = absurd k
both e (u ∷ us) m n (a ∷ means) (b ∷ ns) (y ∷ ys) (z ∷ zs) h k =
    let r = both e us a b means ns ys zs h.2 k.2 in
    record { newest = next_same e a b u m n r.newest h.0 k.0; before = (r.newest, r.before); outputs = (output_same a b u y z r.newest h.1 k.1, r.outputs) }

pub IsAdapted-unique : (e : ℕ) (us means ys ns zs : List Fraction) → IsAdapted e us means ys → IsAdapted e us ns zs → AllZip ◌≈ℚ◌ means ns × AllZip ◌≈ℚ◌ ys zs
IsAdapted-unique e us [] ys ns zs h k = no_means e us ys h
IsAdapted-unique e us (m ∷ means) ys [] zs h k = no_means e us zs k
IsAdapted-unique e us (m ∷ means) ys (n ∷ ns) zs h k =
    let r = both e us m n means ns ys zs h k in
    ((r.newest, r.before), r.outputs)

-- ---- points

pub ArePoints-exists : (e : ℕ) (vs : List Interval) → (ps : List Point) × ArePoints e vs ps
ArePoints-exists e [] = ([], tt)
ArePoints-exists e (v ∷ vs) =
    let rest = ArePoints-exists e vs in
    let ends = newest_output e vs v in
    let half = pos ((ends.lo + ends.hi) / 2) in
    let p : Point = record { mid = half; radius = pos ends.hi -ℤ half } in
    (p ∷ rest.0, (record { mid = refl; radius = refl }, rest.1))

pub point_same : (p q : Point) → p.mid ≡ q.mid → p.radius ≡ q.radius → p ≡ q
point_same p q h k =
    let made : ℤ → ℤ → Point = λ m r. record { mid = m; radius = r } in
    ap (λ (m : ℤ). made m p.radius) h ∙ ap (λ (r : ℤ). made q.mid r) k

pub ArePoints-unique : (e : ℕ) (vs : List Interval) (ps qs : List Point) → ArePoints e vs ps → ArePoints e vs qs → ps ≡ qs
ArePoints-unique e [] [] [] h k = refl
ArePoints-unique e [] [] (q ∷ qs) h k = absurd k
ArePoints-unique e [] (p ∷ ps) qs h k = absurd h
ArePoints-unique e (v ∷ vs) [] qs h k = absurd h
ArePoints-unique e (v ∷ vs) (p ∷ ps) [] h k = absurd k
ArePoints-unique e (v ∷ vs) (p ∷ ps) (q ∷ qs) h k =
    let rest = ArePoints-unique e vs ps qs h.1 k.1 in
    let mid : p.mid ≡ q.mid = h.0.mid ∙ sym k.0.mid in
    let radius : p.radius ≡ q.radius = h.0.radius ∙ ap (λ (z : ℤ). pos (newest_output e vs v).hi -ℤ z) mid ∙ sym k.0.radius in
    let newest = point_same p q mid radius in
    cc
