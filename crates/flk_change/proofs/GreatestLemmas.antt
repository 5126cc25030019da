-- The greatest number of a set, or 0: it is one, it follows from that of parts, and it follows the order of two sets.
use Rattle.std.proofs.Common.{◌≡◌, ◌⊎◌, inl, inr, ℤ, pos, ◌+ℤ◌, ◌≤ℤ◌, refl, subst, arith}
use Rattle.std.specs.Int.{int_max}
use Rattle.std.proofs.lemmas.Int.{ints, clamps, by_lt_z}
use Rattle.flk_change.specs.Changes.{IsGreatestOrZero}

-- where each number of the one set is at most h above some number of the other
pub greatest_within : (P Q : ℤ → Type 0) (m k h : ℤ) → pos 0 ≤ℤ h → ((x : ℤ) → P x → (y : ℤ) × Q y × (x ≤ℤ (y +ℤ h)))
    → IsGreatestOrZero P m → IsGreatestOrZero Q k → m ≤ℤ (k +ℤ h)
greatest_within P Q m k h natural f a b = elim a.reached [
  | inl e ↦ omega (arith, ints, e, b.natural)
  | inr p ↦ (let y = f m p in omega (arith, ints, b.bounds y.0 y.1, y.2))
]

pub greatest_≤ : (P Q : ℤ → Type 0) (m k : ℤ) → ((x : ℤ) → P x → (y : ℤ) × Q y × (x ≤ℤ y)) → IsGreatestOrZero P m → IsGreatestOrZero Q k → m ≤ℤ k
greatest_≤ P Q m k f a b =
    omega (arith, ints, greatest_within P Q m k (pos 0) (omega (arith, ints)) (λ x p. let y = f x p in (y.0, y.1, omega (arith, ints, y.2))) a b)

-- where no number of the set is above h
pub greatest_at_most : (P : ℤ → Type 0) (m h : ℤ) → pos 0 ≤ℤ h → ((x : ℤ) → P x → x ≤ℤ h) → IsGreatestOrZero P m → m ≤ℤ h
greatest_at_most P m h natural f a = elim a.reached [ inl e ↦ omega (arith, ints, e) | inr p ↦ f m p ]

pub greatest_unique : (P : ℤ → Type 0) (m k : ℤ) → IsGreatestOrZero P m → IsGreatestOrZero P k → m ≡ k
greatest_unique P m k a b =
    omega (arith, ints, greatest_≤ P P m k (λ x p. (x, p, omega (arith, ints))) a b, greatest_≤ P P k m (λ x p. (x, p, omega (arith, ints))) b a)

-- two sets of the same numbers
pub greatest_same : (P Q : ℤ → Type 0) (m : ℤ) → ((x : ℤ) → P x → Q x) → ((x : ℤ) → Q x → P x) → IsGreatestOrZero P m → IsGreatestOrZero Q m
greatest_same P Q m to from a = record {
  natural = a.natural;
  bounds = λ x q. a.bounds x (from x q);
  reached = elim a.reached [ inl e ↦ inl e | inr p ↦ inr (to m p) ];
}

pub greatest_none : (P : ℤ → Type 0) → ((x : ℤ) → P x → ⊥) → IsGreatestOrZero P (pos 0)
greatest_none P none = record { natural = omega (arith, ints); bounds = λ x p. absurd (none x p); reached = inl refl }

pub greatest_one : (P : ℤ → Type 0) (r : ℤ) → pos 0 ≤ℤ r → P r → ((x : ℤ) → P x → x ≡ r) → IsGreatestOrZero P r
greatest_one P r natural there only = record { natural = natural; bounds = λ x p. omega (arith, ints, only x p); reached = inr there }

-- a set that two others make up
pub greatest_join : (P Q R : ℤ → Type 0) (m k : ℤ) → ((x : ℤ) → P x → R x) → ((x : ℤ) → Q x → R x) → ((x : ℤ) → R x → P x ⊎ Q x)
    → IsGreatestOrZero P m → IsGreatestOrZero Q k → IsGreatestOrZero R (int_max m k)
greatest_join P Q R m k first second cover a b = record {
  natural = omega (arith, ints, clamps, a.natural);
  bounds = λ x r. elim (cover x r) [
    | inl p ↦ omega (arith, ints, clamps, a.bounds x p)
    | inr q ↦ omega (arith, ints, clamps, b.bounds x q)
  ];
  reached = by_lt_z k m
      (λ more. let e : m ≡ int_max m k = omega (arith, ints, clamps) in
      subst (λ (z : ℤ). (z ≡ pos 0) ⊎ R z) e (elim a.reached [ inl z ↦ inl z | inr p ↦ inr (first m p) ]))
      (λ less. let e : k ≡ int_max m k = omega (arith, ints, clamps) in
      subst (λ (z : ℤ). (z ≡ pos 0) ⊎ R z) e (elim b.reached [ inl z ↦ inl z | inr q ↦ inr (second k q) ]));
}
