-- The changes of a set of steady windows: which set they depend on, and what one window more does to those that are over.
use Rattle.std.proofs.Common.{◌≡◌, ◌⊎◌, inl, inr, ℕ, zero, suc, ◌+◌, ◌<◌, ◌≤◌, ℤ, pos, refl, ap, subst, arith}
use Rattle.std.specs.Int.{int_max}
use Rattle.std.proofs.lemmas.Int.{ints, clamps}
use Rattle.std.proofs.lemmas.Bool.{cases_lt}
use Rattle.flk_change.specs.Changes.{Change, between, after, whole, IsChange, IsGreatestOrZero}
use Rattle.flk_change.specs.Pass.{IsClosed, IsLastTaken, open_change}
use Rattle.flk_change.proofs.GreatestLemmas.{greatest_join, greatest_same}

-- two sets that agree up to n have the same changes
pub change_same : (P Q : ℕ → Type 0) (n : ℕ) → ((i : ℕ) → i ≤ n → P i → Q i) → ((i : ℕ) → i ≤ n → Q i → P i) → (c : Change) → IsChange P n c → IsChange Q n c
change_same P Q n to from (between j k) h =
    (to j (omega (arith, h.2, h.3)) h.0, to k h.3 h.1, h.2, h.3, λ i a b q. h.4 i a b (from i (omega (arith, h.3)) q))
change_same P Q n to from (after j) h = (to j (omega (arith, h.1)) h.0, h.1, λ i a b q. h.2 i a b (from i b q))
change_same P Q n to from whole h = λ i b q. h i b (from i b q)

-- what the changes give, and what those give that are over before the first n half-periods are
abbrev pub Every : (ℕ → Type 0) → ℕ → (Change → ℤ → Type 0) → ℤ → Type 0
Every steady n gives x = (c : Change) × IsChange steady n c × gives c x

abbrev pub Closed : (ℕ → Type 0) → ℕ → (Change → ℤ → Type 0) → ℤ → Type 0
Closed steady n gives x = (c : Change) × IsClosed steady n c × gives c x

-- before the first half-period none is over
pub none_closed : (steady : ℕ → Type 0) (c : Change) → IsClosed steady 0 c → ⊥
none_closed steady (between j k) s = absurd (omega (arith, s.2, s.3))
none_closed steady (after j) s = s
none_closed steady whole s = s

more_closed : (steady : ℕ → Type 0) (n : ℕ) (c : Change) → IsClosed steady n c → IsClosed steady (n + 1) c
more_closed steady n (between j k) s = (s.0, s.1, s.2, omega (arith, s.3), s.4)
more_closed steady n (after j) s = absurd s
more_closed steady n whole s = absurd s

-- a change that is over by n + 1 half-periods was over before, or ends there
was_closed : (steady : ℕ → Type 0) (n : ℕ) (c : Change) → IsClosed steady (n + 1) c → IsClosed steady n c ⊎ ((j : ℕ) × (c ≡ between j (n + 1)))
was_closed steady n (between j k) s = elim (cases_lt k (n + 1)) [
  | inl less ↦ inl (s.0, s.1, s.2, omega arith, s.4)
  | inr most ↦ inr (j, ap (between j) (omega (arith, s.3)))
]
was_closed steady n (after j) s = absurd s
was_closed steady n whole s = absurd s

-- no change ends at n + 1
pub closed_same : (steady : ℕ → Type 0) (n : ℕ) (gives : Change → ℤ → Type 0) (m : ℤ) → ((j : ℕ) → IsClosed steady (n + 1) (between j (n + 1)) → ⊥)
    → IsGreatestOrZero (Closed steady n gives) m → IsGreatestOrZero (Closed steady (n + 1) gives) m
closed_same steady n gives m never g =
    greatest_same (Closed steady n gives) (Closed steady (n + 1) gives) m
    (λ x (c, s, e). (c, more_closed steady n c s, e))
    (λ x (c, s, e). elim (was_closed steady n c s) [
      | inl before ↦ (c, before, e)
      | inr here ↦ absurd (never here.0 (subst (IsClosed steady (n + 1)) here.1 s))
    ])
    g

pub closed_untaken : (steady : ℕ → Type 0) (n : ℕ) (gives : Change → ℤ → Type 0) (m : ℤ) → ¬ steady (n + 1)
    → IsGreatestOrZero (Closed steady n gives) m → IsGreatestOrZero (Closed steady (n + 1) gives) m
closed_untaken steady n gives m never g = closed_same steady n gives m (λ j s. never s.1) g

-- the window before is the last one, or there is none
pub closed_near : (steady : ℕ → Type 0) (n last : ℕ) (gives : Change → ℤ → Type 0) (m : ℤ) → ¬ steady 0 → IsLastTaken steady n last → (0 < last → n ≤ last)
    → IsGreatestOrZero (Closed steady n gives) m → IsGreatestOrZero (Closed steady (n + 1) gives) m
closed_near steady n last gives m start t near g = closed_same steady n gives m
    (λ j s. elim (cases_lt last j) [
      | inl less ↦ t.none j less (omega (arith, s.2)) s.0
      | inr most ↦ elim (cases_lt 0 last) [
        | inl some ↦ s.4 last (omega (arith, s.2, near some)) (omega (arith, t.within)) (t.here some)
        | inr none ↦ (let e : j ≡ 0 = omega arith in start (subst steady e s.0))
      ]
    ]) g

-- the change between the last window and the new one
pub closed_new : (steady : ℕ → Type 0) (n last : ℕ) (gives : Change → ℤ → Type 0) (m r : ℤ) → IsLastTaken steady n last → 0 < last → last < n → steady (n + 1)
    → IsGreatestOrZero (gives (between last (n + 1))) r → IsGreatestOrZero (Closed steady n gives) m → IsGreatestOrZero (Closed steady (n + 1) gives) (int_max m r)
closed_new steady n last gives m r t some less here new old =
    greatest_join (Closed steady n gives) (gives (between last (n + 1))) (Closed steady (n + 1) gives) m r
    (λ x (c, s, e). (c, more_closed steady n c s, e))
    (λ x e. (between last (n + 1), (t.here some, here, omega arith, omega arith, λ i a b. t.none i a (omega arith)), e))
    (λ x (c, s, e). elim (was_closed steady n c s) [
      | inl before ↦ inl (c, before, e)
      | inr there ↦ inr (
          let k = subst (IsClosed steady (n + 1)) there.1 s in
          let same : there.0 ≡ last = elim (cases_lt there.0 last) [
            | inl low ↦ absurd (k.4 last low (omega arith) (t.here some))
            | inr most ↦ (elim (cases_lt last there.0) [
              | inl high ↦ absurd (t.none there.0 high (omega (arith, k.2)) k.0)
              | inr equal ↦ omega arith
            ])
          ] in
          subst (λ (j : ℕ). gives (between j (n + 1)) x) same (subst (λ (d : Change). gives d x) there.1 e))
    ])
    old new

pub last_untaken : (steady : ℕ → Type 0) (n last : ℕ) → ¬ steady (n + 1) → IsLastTaken steady n last → IsLastTaken steady (n + 1) last
last_untaken steady n last never t = record {
  within = omega (arith, t.within);
  here = t.here;
  none = λ i a b. elim (cases_lt i (n + 1)) [
    | inl less ↦ t.none i a (omega arith)
    | inr most ↦ (let e : n + 1 ≡ i = omega arith in subst (λ (k : ℕ). ¬ steady k) e never)
  ];
}

pub last_taken : (steady : ℕ → Type 0) (n : ℕ) → steady (n + 1) → IsLastTaken steady (n + 1) (n + 1)
last_taken steady n here = record { within = omega arith; here = λ some. here; none = λ i a b. absurd (omega arith) }

pub last_none : (steady : ℕ → Type 0) → IsLastTaken steady 0 0
last_none steady = record { within = omega arith; here = λ some. absurd (omega arith); none = λ i a b. absurd (omega arith) }

-- ---- two sets of windows that agree up to n

pub last_same : (P Q : ℕ → Type 0) (n last : ℕ) → ((i : ℕ) → i ≤ n → P i → Q i) → ((i : ℕ) → i ≤ n → Q i → P i) → IsLastTaken P n last → IsLastTaken Q n last
last_same P Q n last to from t = record { within = t.within; here = λ some. to last t.within (t.here some); none = λ i a b q. t.none i a b (from i b q) }

closed_change_same : (P Q : ℕ → Type 0) (n : ℕ) → ((i : ℕ) → i ≤ n → P i → Q i) → ((i : ℕ) → i ≤ n → Q i → P i) → (c : Change) → IsClosed P n c → IsClosed Q n c
closed_change_same P Q n to from (between j k) s = change_same P Q n to from (between j k) s
closed_change_same P Q n to from (after j) s = s
closed_change_same P Q n to from whole s = s

pub closed_agree : (P Q : ℕ → Type 0) (n : ℕ) (gives : Change → ℤ → Type 0) (m : ℤ) → ((i : ℕ) → i ≤ n → P i → Q i) → ((i : ℕ) → i ≤ n → Q i → P i)
    → IsGreatestOrZero (Closed P n gives) m → IsGreatestOrZero (Closed Q n gives) m
closed_agree P Q n gives m to from g =
    greatest_same (Closed P n gives) (Closed Q n gives) m (λ x (c, s, e). (c, closed_change_same P Q n to from c s, e)) (λ x (c, s, e). (c, closed_change_same Q P n from to c s, e)) g

-- the last of n + 1 windows, where it is among the first n
pub last_before : (steady : ℕ → Type 0) (n last : ℕ) → last ≤ n → IsLastTaken steady (n + 1) last → IsLastTaken steady n last
last_before steady n last low t = record { within = low; here = t.here; none = λ i a b. t.none i a (omega (arith, b)) }

-- ---- at the end: the open change beside those that are over

closed_is_change : (steady : ℕ → Type 0) (n : ℕ) (c : Change) → IsClosed steady n c → IsChange steady n c
closed_is_change steady n (between j k) s = s
closed_is_change steady n (after j) s = absurd s
closed_is_change steady n whole s = absurd s

open_is_change : (steady : ℕ → Type 0) (n last : ℕ) → ¬ steady 0 → IsLastTaken steady n last → (0 < last → last < n) → IsChange steady n (open_change last)
open_is_change steady n zero start t less = λ i b s. elim (cases_lt 0 i) [
  | inl some ↦ t.none i some b s
  | inr none ↦ (let e : i ≡ 0 = omega arith in start (subst steady e s))
]
open_is_change steady n (suc j) start t less = (t.here (omega arith), less (omega arith), t.none)

is_closed_or_open : (steady : ℕ → Type 0) (n last : ℕ) (c : Change) → ¬ steady 0 → IsLastTaken steady n last → IsChange steady n c → IsClosed steady n c ⊎ ((c ≡ open_change last) × (0 < last → last < n))
is_closed_or_open steady n last (between j k) start t s = inl s
is_closed_or_open steady n zero (after j) start t s = elim (cases_lt 0 j) [
  | inl some ↦ absurd (t.none j some (omega (arith, s.1)) s.0)
  | inr none ↦ (let e : j ≡ 0 = omega arith in absurd (start (subst steady e s.0)))
]
is_closed_or_open steady n (suc l) (after j) start t s = elim (cases_lt j (suc l)) [
  | inl low ↦ absurd (s.2 (suc l) low t.within (t.here (omega arith)))
  | inr most ↦ (elim (cases_lt (suc l) j) [
    | inl high ↦ absurd (t.none j high (omega (arith, s.1)) s.0)
    | inr equal ↦ (let e : j ≡ suc l = omega arith in inr (ap after e, λ some. omega (arith, s.1, e)))
  ])
]
is_closed_or_open steady n zero whole start t s = inr (refl, λ some. absurd (omega arith))
is_closed_or_open steady n (suc l) whole start t s = absurd (s (suc l) t.within (t.here (omega arith)))

-- with an open change, which gives r
with_open : (steady : ℕ → Type 0) (n last : ℕ) (gives : Change → ℤ → Type 0) (m r : ℤ) → ¬ steady 0 → IsLastTaken steady n last → (0 < last → last < n)
    → IsGreatestOrZero (gives (open_change last)) r → IsGreatestOrZero (Closed steady n gives) m → IsGreatestOrZero (Every steady n gives) (int_max m r)
with_open steady n last gives m r start t less last_one closed =
    greatest_join (Closed steady n gives) (gives (open_change last)) (Every steady n gives) m r
    (λ x (c, s, e). (c, closed_is_change steady n c s, e))
    (λ x e. (open_change last, open_is_change steady n last start t less, e))
    (λ x (c, s, e). elim (is_closed_or_open steady n last c start t s) [ inl here ↦ inl (c, here, e) | inr there ↦ inr (subst (λ (d : Change). gives d x) there.0 e) ])
    closed last_one

-- with none, where the last half-period ends a steady window
without_open : (steady : ℕ → Type 0) (n last : ℕ) (gives : Change → ℤ → Type 0) (m : ℤ) → ¬ steady 0 → IsLastTaken steady n last → 0 < last → n ≤ last
    → IsGreatestOrZero (Closed steady n gives) m → IsGreatestOrZero (Every steady n gives) m
without_open steady n last gives m start t some most closed =
    greatest_same (Closed steady n gives) (Every steady n gives) m
    (λ x (c, s, e). (c, closed_is_change steady n c s, e))
    (λ x (c, s, e). elim (is_closed_or_open steady n last c start t s) [ inl here ↦ (c, here, e) | inr there ↦ absurd (omega (arith, there.1 some)) ])
    closed

-- The open change gives r, which is 0 where the last half-period ends a steady window.
pub greatest_of_all : (steady : ℕ → Type 0) (n last : ℕ) (gives : Change → ℤ → Type 0) (m r : ℤ) → ¬ steady 0 → IsLastTaken steady n last
    → IsGreatestOrZero (gives (open_change last)) r → (0 < last → n ≤ last → r ≡ pos 0)
    → IsGreatestOrZero (Closed steady n gives) m → IsGreatestOrZero (Every steady n gives) (int_max m r)
greatest_of_all steady n last gives m r start t last_one none closed = elim (cases_lt last n) [
  | inl less ↦ with_open steady n last gives m r start t (λ some. less) last_one closed
  | inr most ↦ (elim (cases_lt 0 last) [
    | inl some ↦ (
        let e : m ≡ int_max m r = omega (arith, ints, clamps, closed.natural, none some most) in
        subst (IsGreatestOrZero (Every steady n gives)) e (without_open steady n last gives m start t some most closed))
    | inr never ↦ with_open steady n last gives m r start t (λ some. absurd (omega arith)) last_one closed
  ])
]
