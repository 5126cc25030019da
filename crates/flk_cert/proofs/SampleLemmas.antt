-- The errors of a section over one sample. p stands for 2^32, and delta for one unit.
use Rattle.std.proofs.Common.{◌≡◌, ℕ, ◌*◌, ◌≤◌, ◌<◌, ap, ◌∙◌, arith}
use Rattle.std.proofs.Math.IntN.{ℤ, pos, ◌+ℤ◌, ◌-ℤ◌, ◌*ℤ◌}
use Rattle.std.specs.Int.RustNames.{unsigned_abs}
use Rattle.std.proofs.Math.Nat.{mul-le-mul_left}
use Rattle.std.proofs.lemmas.Int.{ints, unsigned_abs-mul}
use Rattle.flk_exact.proofs.ProductLemmas.{lin, distrib, left_comm, sub_scaled}
use Rattle.flk_cert.specs.declared.coefs.Coefs.{Coefs}
use Rattle.flk_cert.proofs.StepLemmas.{Moves}

-- m is k v / p rounded down, and phi what was lost
pub record Rounded (p : ℕ) (k v m : ℤ) (phi : ℕ) : Type 0 where
  pub same : k *ℤ v ≡ pos p *ℤ m +ℤ pos phi
  pub less : phi < p

-- k (delta v) = delta (p m) + delta phi
pub scaled : (p : ℕ) (dl k v m : ℤ) (phi : ℕ) → Rounded p k v m phi → k *ℤ (dl *ℤ v) ≡ dl *ℤ (pos p *ℤ m) +ℤ dl *ℤ pos phi
scaled p dl k v m phi r = left_comm k dl v ∙ ap (λ (z : ℤ). dl *ℤ z) r.same ∙ distrib dl (pos p *ℤ m) (pos phi)

-- one sample of a section: the exact one over the denominator delta, its states times p, and the grid's
pub record Sample (p : ℕ) (k : Coefs) (x y t1 t2 t1' t2' : ℤ) (X Y S1 S2 S1' S2' : ℤ) (m0 m1 m2 m3 m4 : ℤ) (n0 n1 n2 n3 n4 : ℕ) : Type 0 where
  pub exact_out : pos p *ℤ y ≡ k.b0 *ℤ x +ℤ t1
  pub exact_one : t1' ≡ k.b1 *ℤ x -ℤ k.a1 *ℤ y +ℤ t2
  pub exact_two : t2' ≡ k.b2 *ℤ x -ℤ k.a2 *ℤ y
  pub grid_out : Y ≡ m0 +ℤ S1
  pub grid_one : S1' ≡ m1 -ℤ m2 +ℤ S2
  pub grid_two : S2' ≡ m3 -ℤ m4
  pub p0 : Rounded p k.b0 X m0 n0
  pub p1 : Rounded p k.b1 X m1 n1
  pub p2 : Rounded p k.a1 Y m2 n2
  pub p3 : Rounded p k.b2 X m3 n3
  pub p4 : Rounded p k.a2 Y m4 n4

lost : (p delta n : ℕ) → n < p → unsigned_abs (pos delta *ℤ pos n) ≤ p * delta
lost p delta n h = let a : n ≤ p = omega arith in omega (arith, unsigned_abs-mul (pos delta) (pos n), mul-le-mul_left delta a)

lost_two : (p delta n m : ℕ) → n < p → m < p → unsigned_abs (pos delta *ℤ pos n -ℤ pos delta *ℤ pos m) ≤ p * delta
lost_two p delta n m h j = let a : n ≤ p = omega arith in let b : m ≤ p = omega arith in omega (arith, ints, mul-le-mul_left delta a, mul-le-mul_left delta b)

pub moves : (p s delta : ℕ) (k : Coefs) (x y t1 t2 t1' t2' : ℤ) (X Y S1 S2 S1' S2' : ℤ) (m0 m1 m2 m3 m4 : ℤ) (n0 n1 n2 n3 n4 : ℕ)
    → Sample p k x y t1 t2 t1' t2' X Y S1 S2 S1' S2' m0 m1 m2 m3 m4 n0 n1 n2 n3 n4
    → unsigned_abs (x -ℤ pos delta *ℤ X) ≤ s
    → Moves p s delta k (x -ℤ pos delta *ℤ X) (y -ℤ pos delta *ℤ Y) (t1 -ℤ pos delta *ℤ (pos p *ℤ S1)) (t2 -ℤ pos delta *ℤ (pos p *ℤ S2))
    (t1' -ℤ pos delta *ℤ (pos p *ℤ S1')) (t2' -ℤ pos delta *ℤ (pos p *ℤ S2'))
    (pos delta *ℤ pos n0) (pos delta *ℤ pos n1 -ℤ pos delta *ℤ pos n2) (pos delta *ℤ pos n3 -ℤ pos delta *ℤ pos n4)
moves p s delta k x y t1 t2 t1' t2' X Y S1 S2 S1' S2' m0 m1 m2 m3 m4 n0 n1 n2 n3 n4 h near =
    let dl : ℤ = pos delta in
    let q : ℤ = pos p in
    let e0 = scaled p dl k.b0 X m0 n0 h.p0 in
    let e1 = scaled p dl k.b1 X m1 n1 h.p1 in
    let e2 = scaled p dl k.a1 Y m2 n2 h.p2 in
    let e3 = scaled p dl k.b2 X m3 n3 h.p3 in
    let e4 = scaled p dl k.a2 Y m4 n4 h.p4 in
    let a0 = sub_scaled k.b0 x (dl *ℤ X) in
    let a1 = sub_scaled k.b1 x (dl *ℤ X) in
    let a2 = sub_scaled k.a1 y (dl *ℤ Y) in
    let a3 = sub_scaled k.b2 x (dl *ℤ X) in
    let a4 = sub_scaled k.a2 y (dl *ℤ Y) in
    let o1 : q *ℤ (y -ℤ dl *ℤ Y) ≡ q *ℤ y -ℤ q *ℤ (dl *ℤ Y) = sub_scaled q y (dl *ℤ Y) in
    let o2 : q *ℤ (dl *ℤ Y) ≡ dl *ℤ (q *ℤ m0) +ℤ dl *ℤ (q *ℤ S1) = left_comm q dl Y ∙ ap (λ (z : ℤ). dl *ℤ (q *ℤ z)) h.grid_out ∙ ap (λ (z : ℤ). dl *ℤ z) (distrib q m0 S1) ∙ distrib dl (q *ℤ m0) (q *ℤ S1) in
    let o3 : dl *ℤ (q *ℤ S1') ≡ dl *ℤ (q *ℤ m1) -ℤ dl *ℤ (q *ℤ m2) +ℤ dl *ℤ (q *ℤ S2) =
    ap (λ (z : ℤ). dl *ℤ (q *ℤ z)) h.grid_one ∙ ap (λ (z : ℤ). dl *ℤ z) (distrib q (m1 -ℤ m2) S2 ∙ ap (λ (z : ℤ). z +ℤ q *ℤ S2) (sub_scaled q m1 m2)) ∙ distrib dl (q *ℤ m1 -ℤ q *ℤ m2) (q *ℤ S2) ∙ ap (λ (z : ℤ). z +ℤ dl *ℤ (q *ℤ S2)) (sub_scaled dl (q *ℤ m1) (q *ℤ m2)) in
    let o4 : dl *ℤ (q *ℤ S2') ≡ dl *ℤ (q *ℤ m3) -ℤ dl *ℤ (q *ℤ m4) =
    ap (λ (z : ℤ). dl *ℤ (q *ℤ z)) h.grid_two ∙ ap (λ (z : ℤ). dl *ℤ z) (sub_scaled q m3 m4) ∙ sub_scaled dl (q *ℤ m3) (q *ℤ m4) in
    let x0 = h.exact_out in
    let x1 = h.exact_one in
    let x2 = h.exact_two in
    record {
      out = omega (arith, lin);
      one = omega (arith, lin);
      two = omega (arith, lin);
      inp = near;
      r0 = lost p delta n0 h.p0.less;
      r12 = lost_two p delta n1 n2 h.p1.less h.p2.less;
      r34 = lost_two p delta n3 n4 h.p3.less h.p4.less;
    }
