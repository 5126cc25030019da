-- The three quantities for any set of steady windows and any readings: each exists, and it follows the order and the width of the
-- readings.
use Rattle.std.proofs.Common.{◌≡◌, ◌⊎◌, inl, inr, ℕ, zero, suc, ◌+◌, ◌-◌, ◌<◌, ◌≤◌, ℤ, pos, ◌+ℤ◌, ◌≤ℤ◌, refl, arith, add-one, ⊎_elim}
use Rattle.std.specs.Int.{int_max}
use Rattle.std.proofs.lemmas.Int.{ints}
use Rattle.std.proofs.lemmas.Bool.{cases_lt}
use Rattle.flk_change.specs.Changes.{Change, between, after, whole, IsChange, first, stop, Readings, IsStep, IsAmong, excesses, IsGreatestOrZero, Quantity, Dc, Dmax, Tmax, Gives, IsQuantity}
use Rattle.flk_change.specs.Pass.{IsLastTaken, open_change}
use Rattle.flk_change.proofs.GreatestLemmas.{greatest_within, greatest_≤, greatest_unique, greatest_none, greatest_same}
use Rattle.flk_change.proofs.ChangeLemmas.{Closed, none_closed, closed_untaken, closed_near, closed_new, last_untaken, last_taken, last_none, greatest_of_all, change_same}
use Rattle.flk_change.proofs.SwingLemmas.{among_none, among_more, excesses_≤, excesses_none}
use Rattle.flk_change.proofs.GivesLemmas.{gives_dc, gives_dmax, gives_t, gives_dc_open, gives_dmax_open}

pub stop_within : (steady : ℕ → Type 0) (window n : ℕ) (c : Change) → IsChange steady n c → stop window n c ≤ n
stop_within steady window n (between j k) h = omega (arith, h.3)
stop_within steady window n (after j) h = omega arith
stop_within steady window n whole h = omega arith

-- ---- existence

-- no reading is below 0
pub record AreNatural (steady : ℕ → Type 0) (n : ℕ) (r : Readings) : Type 0 where
  pub steps : (j k : ℕ) → pos 0 ≤ℤ r.step j k
  pub swings : (c : Change) (i : ℕ) → i < n → pos 0 ≤ℤ r.swing c i

among_exists : (f : ℕ → ℤ) (a b : ℕ) → ((i : ℕ) → i < b → pos 0 ≤ℤ f i) → (m : ℤ) × IsGreatestOrZero (IsAmong f a b) m
among_exists f a zero natural = (pos 0, among_none f a zero (omega arith))
among_exists f a (suc b) natural =
    ⊎_elim
    (λ none. (pos 0, among_none f a (suc b) (omega (arith, none))))
    (λ some.
    let rest = among_exists f a b (λ i low. natural i (omega arith)) in
    let more = among_more f a b rest.0 some (natural b (omega arith)) rest.1 in
    (int_max rest.0 (f b), rw (← add-one) more))
    (cases_lt b a)

gives_exists : (q : Quantity) (steady : ℕ → Type 0) (window n : ℕ) (r : Readings) (j k : ℕ) → AreNatural steady n r → k ≤ n → (m : ℤ) × IsGreatestOrZero (Gives q window n r (between j k)) m
gives_exists Dc steady window n r j k natural within = (r.step j k, gives_dc window n r j k (natural.steps j k))
gives_exists Dmax steady window n r j k natural within =
    let part = among_exists (r.swing (between j k)) j (k - window) (λ i low. natural.swings (between j k) i (omega arith)) in
    (int_max (r.step j k) part.0, gives_dmax window n r j k part.0 (natural.steps j k) part.1)
gives_exists Tmax steady window n r j k natural within = (pos (excesses (r.swing (between j k)) j (k - window)), gives_t window n r (between j k))

-- what an open change gives: 0 where there is none
pub record OpenGives (q : Quantity) (window n : ℕ) (r : Readings) (last : ℕ) : Type 0 where
  pub value : ℤ
  pub is : IsGreatestOrZero (Gives q window n r (open_change last)) value
  pub none : 0 < last → n ≤ last → value ≡ pos 0

open_natural : (steady : ℕ → Type 0) (window n : ℕ) (r : Readings) (last i : ℕ) → AreNatural steady n r → i < stop window n (open_change last) → pos 0 ≤ℤ r.swing (open_change last) i
open_natural steady window n r zero i natural low = natural.swings whole i low
open_natural steady window n r (suc j) i natural low = natural.swings (after (suc j)) i low

open_past : (window n last : ℕ) → 0 < last → n ≤ last → stop window n (open_change last) ≤ first (open_change last)
open_past window n zero some most = absurd (omega arith)
open_past window n (suc j) some most = most

open_exists : (q : Quantity) (steady : ℕ → Type 0) (window n : ℕ) (r : Readings) (last : ℕ) → AreNatural steady n r → OpenGives q window n r last
open_exists Dc steady window n r last natural = record { value = pos 0; is = gives_dc_open window n r last; none = λ some most. refl }
open_exists Dmax steady window n r last natural =
    let f = r.swing (open_change last) in
    let a = first (open_change last) in
    let b = stop window n (open_change last) in
    let part = among_exists f a b (λ i low. open_natural steady window n r last i natural low) in
    record {
      value = part.0;
      is = gives_dmax_open window n r last part.0 part.1;
      none = λ some most. greatest_unique (IsAmong f a b) part.0 (pos 0) part.1 (among_none f a b (open_past window n last some most));
    }
open_exists Tmax steady window n r last natural =
    let f = r.swing (open_change last) in
    let a = first (open_change last) in
    let b = stop window n (open_change last) in
    record {
      value = pos (excesses f a b);
      is = gives_t window n r (open_change last);
      none = λ some most. omega (arith, ints, excesses_none f a b (open_past window n last some most));
    }

-- what the changes give that are over before the first n half-periods are
pub record Walked (steady : ℕ → Type 0) (n : ℕ) (gives : Change → ℤ → Type 0) : Type 0 where
  pub last : ℕ
  pub value : ℤ
  pub is_last : IsLastTaken steady n last
  pub is : IsGreatestOrZero (Closed steady n gives) value

walk : (q : Quantity) (steady : ℕ → Type 0) (window count n : ℕ) (r : Readings) → ((i : ℕ) → steady i ⊎ ¬ steady i) → ¬ steady 0 → AreNatural steady count r → n ≤ count → Walked steady n (Gives q window count r)
walk q steady window count zero r decide start natural within = record {
  last = 0;
  value = pos 0;
  is_last = last_none steady;
  is = greatest_none (Closed steady 0 (Gives q window count r)) (λ x (c, s, e). none_closed steady c s);
}
walk q steady window count (suc n) r decide start natural within =
    let before = walk q steady window count n r decide start natural (omega arith) in
    let gives = Gives q window count r in
    let next : Walked steady (n + 1) gives =
    ⊎_elim
    (λ here. ⊎_elim
    (λ less. ⊎_elim
    (λ some.
    let new = gives_exists q steady window count r before.last (n + 1) natural (omega arith) in
    record { last = n + 1; value = int_max before.value new.0; is_last = last_taken steady n here; is = closed_new steady n before.last gives before.value new.0 before.is_last some less here new.1 before.is })
    (λ none. record { last = n + 1; value = before.value; is_last = last_taken steady n here; is = closed_near steady n before.last gives before.value start before.is_last (λ some. absurd (omega arith)) before.is })
    (cases_lt 0 before.last))
    (λ most. record { last = n + 1; value = before.value; is_last = last_taken steady n here; is = closed_near steady n before.last gives before.value start before.is_last (λ some. most) before.is })
    (cases_lt before.last n))
    (λ never. record { last = before.last; value = before.value; is_last = last_untaken steady n before.last never before.is_last; is = closed_untaken steady n gives before.value never before.is })
    (decide (n + 1)) in
    rw (← add-one) next

pub quantity_exists : (q : Quantity) (steady : ℕ → Type 0) (window n : ℕ) (r : Readings) → ((i : ℕ) → steady i ⊎ ¬ steady i) → ¬ steady 0 → AreNatural steady n r → (m : ℤ) × IsQuantity q window n steady r m
quantity_exists q steady window n r decide start natural =
    let w = walk q steady window n n r decide start natural (omega arith) in
    let o = open_exists q steady window n r w.last natural in
    (int_max w.value o.value, greatest_of_all steady n w.last (Gives q window n r) w.value o.value start w.is_last o.is o.none w.is)

-- ---- two readings

-- those of r are at most h above those of s, where changes read them
pub record Follows (steady : ℕ → Type 0) (n : ℕ) (h : ℤ) (r s : Readings) : Type 0 where
  pub steps : (j k : ℕ) → IsChange steady n (between j k) → r.step j k ≤ℤ (s.step j k +ℤ h)
  pub swings : (c : Change) (i : ℕ) → IsChange steady n c → i < n → r.swing c i ≤ℤ (s.swing c i +ℤ h)

step_follows : (steady : ℕ → Type 0) (n : ℕ) (h : ℤ) (r s : Readings) → Follows steady n h r s → (c : Change) (x : ℤ) → IsChange steady n c → IsStep r c x → (y : ℤ) × IsStep s c y × (x ≤ℤ (y +ℤ h))
step_follows steady n h r s f (between j k) x is e = (s.step j k, refl, omega (arith, ints, e, f.steps j k is))
step_follows steady n h r s f (after j) x is e = absurd e
step_follows steady n h r s f whole x is e = absurd e

swing_follows : (steady : ℕ → Type 0) (window n : ℕ) (h : ℤ) (r s : Readings) → Follows steady n h r s → (c : Change) (x : ℤ) → IsChange steady n c → IsAmong (r.swing c) (first c) (stop window n c) x
    → (y : ℤ) × IsAmong (s.swing c) (first c) (stop window n c) y × (x ≤ℤ (y +ℤ h))
swing_follows steady window n h r s f c x is (i, low, high, e) =
    (s.swing c i, (i, low, high, refl), omega (arith, ints, e, f.swings c i is (omega (arith, stop_within steady window n c is))))

pub dc_follows : (steady : ℕ → Type 0) (window n : ℕ) (h : ℤ) (r s : Readings) (m k : ℤ) → pos 0 ≤ℤ h → Follows steady n h r s → IsQuantity Dc window n steady r m → IsQuantity Dc window n steady s k → m ≤ℤ (k +ℤ h)
dc_follows steady window n h r s m k natural f a b =
    greatest_within (λ x. (c : Change) × IsChange steady n c × Gives Dc window n r c x) (λ x. (c : Change) × IsChange steady n c × Gives Dc window n s c x) m k h natural
    (λ x (c, is, e). let y = step_follows steady n h r s f c x is e in (y.0, (c, is, y.1), y.2))
    a b

pub dmax_follows : (steady : ℕ → Type 0) (window n : ℕ) (h : ℤ) (r s : Readings) (m k : ℤ) → pos 0 ≤ℤ h → Follows steady n h r s → IsQuantity Dmax window n steady r m → IsQuantity Dmax window n steady s k → m ≤ℤ (k +ℤ h)
dmax_follows steady window n h r s m k natural f a b =
    greatest_within (λ x. (c : Change) × IsChange steady n c × Gives Dmax window n r c x) (λ x. (c : Change) × IsChange steady n c × Gives Dmax window n s c x) m k h natural
    (λ x (c, is, e). elim e [
      | inl step ↦ (let y = step_follows steady n h r s f c x is step in (y.0, (c, is, inl y.1), y.2))
      | inr swing ↦ (let y = swing_follows steady window n h r s f c x is swing in (y.0, (c, is, inr y.1), y.2))
    ])
    a b

t_follows : (steady : ℕ → Type 0) (window n : ℕ) (r s : Readings) (m k : ℤ) → Follows steady n (pos 0) r s → IsQuantity Tmax window n steady r m → IsQuantity Tmax window n steady s k → m ≤ℤ k
t_follows steady window n r s m k f a b =
    greatest_≤ (λ x. (c : Change) × IsChange steady n c × Gives Tmax window n r c x) (λ x. (c : Change) × IsChange steady n c × Gives Tmax window n s c x) m k
    (λ x (c, is, e). (
      pos (excesses (s.swing c) (first c) (stop window n c)),
      (c, is, refl),
      omega (
        arith,
        ints,
        e,
        excesses_≤ (r.swing c) (s.swing c) (first c) (stop window n c)
            (λ i low high. omega (arith, ints, f.swings c i is (omega (arith, stop_within steady window n c is)))),
      ),
    ))
    a b

-- readings that are at most others give no greater quantity
pub quantity_≤ : (q : Quantity) (steady : ℕ → Type 0) (window n : ℕ) (r s : Readings) (m k : ℤ) → Follows steady n (pos 0) r s → IsQuantity q window n steady r m → IsQuantity q window n steady s k → m ≤ℤ k
quantity_≤ Dc steady window n r s m k f a b = omega (arith, ints, dc_follows steady window n (pos 0) r s m k (omega (arith, ints)) f a b)
quantity_≤ Dmax steady window n r s m k f a b = omega (arith, ints, dmax_follows steady window n (pos 0) r s m k (omega (arith, ints)) f a b)
quantity_≤ Tmax steady window n r s m k f a b = t_follows steady window n r s m k f a b

-- two sets of steady windows that agree up to n
pub quantity_same : (q : Quantity) (P Q : ℕ → Type 0) (window n : ℕ) (r : Readings) (m : ℤ) → ((i : ℕ) → i ≤ n → P i → Q i) → ((i : ℕ) → i ≤ n → Q i → P i) → IsQuantity q window n P r m → IsQuantity q window n Q r m
quantity_same q P Q window n r m to from h =
    greatest_same (λ x. (c : Change) × IsChange P n c × Gives q window n r c x) (λ x. (c : Change) × IsChange Q n c × Gives q window n r c x) m
    (λ x (c, is, e). (c, change_same P Q n to from c is, e))
    (λ x (c, is, e). (c, change_same Q P n from to c is, e))
    h

pub quantity_unique : (q : Quantity) (steady : ℕ → Type 0) (window n : ℕ) (r : Readings) (m k : ℤ) → IsQuantity q window n steady r m → IsQuantity q window n steady r k → m ≡ k
quantity_unique q steady window n r m k a b = greatest_unique (λ x. (c : Change) × IsChange steady n c × Gives q window n r c x) m k a b
