-- The greatest number that one change gives to each quantity.
use Rattle.std.proofs.Common.{inl, inr, ℕ, zero, suc, ◌-◌, ℤ, pos, ◌≤ℤ◌, refl, arith}
use Rattle.std.specs.Int.{int_max}
use Rattle.std.proofs.lemmas.Int.{ints}
use Rattle.flk_change.specs.Changes.{Change, between, first, stop, Readings, IsStep, IsAmong, excesses, IsGreatestOrZero, Dc, Dmax, Tmax, Gives}
use Rattle.flk_change.specs.Pass.{open_change}
use Rattle.flk_change.proofs.GreatestLemmas.{greatest_join, greatest_same, greatest_none, greatest_one}

pub gives_dc : (window n : ℕ) (r : Readings) (j k : ℕ) → pos 0 ≤ℤ r.step j k → IsGreatestOrZero (Gives Dc window n r (between j k)) (r.step j k)
gives_dc window n r j k natural = greatest_one (Gives Dc window n r (between j k)) (r.step j k) natural refl (λ x e. e)

pub gives_dmax : (window n : ℕ) (r : Readings) (j k : ℕ) (m : ℤ) → pos 0 ≤ℤ r.step j k → IsGreatestOrZero (IsAmong (r.swing (between j k)) j (k - window)) m
    → IsGreatestOrZero (Gives Dmax window n r (between j k)) (int_max (r.step j k) m)
gives_dmax window n r j k m natural h =
    greatest_join (IsStep r (between j k)) (IsAmong (r.swing (between j k)) j (k - window)) (Gives Dmax window n r (between j k)) (r.step j k) m
    (λ x e. inl e) (λ x e. inr e) (λ x e. e)
    (greatest_one (IsStep r (between j k)) (r.step j k) natural refl (λ x e. e)) h

pub gives_t : (window n : ℕ) (r : Readings) (c : Change) → IsGreatestOrZero (Gives Tmax window n r c) (pos (excesses (r.swing c) (first c) (stop window n c)))
gives_t window n r c =
    greatest_one (Gives Tmax window n r c) (pos (excesses (r.swing c) (first c) (stop window n c))) (omega (arith, ints)) refl (λ x e. e)

no_step : (r : Readings) (last : ℕ) (x : ℤ) → IsStep r (open_change last) x → ⊥
no_step r zero x h = h
no_step r (suc j) x h = h

pub gives_dc_open : (window n : ℕ) (r : Readings) (last : ℕ) → IsGreatestOrZero (Gives Dc window n r (open_change last)) (pos 0)
gives_dc_open window n r last = greatest_none (Gives Dc window n r (open_change last)) (no_step r last)

pub gives_dmax_open : (window n : ℕ) (r : Readings) (last : ℕ) (m : ℤ) → IsGreatestOrZero (IsAmong (r.swing (open_change last)) (first (open_change last)) (stop window n (open_change last))) m
    → IsGreatestOrZero (Gives Dmax window n r (open_change last)) m
gives_dmax_open window n r last m h =
    greatest_same (IsAmong (r.swing (open_change last)) (first (open_change last)) (stop window n (open_change last))) (Gives Dmax window n r (open_change last)) m
    (λ x e. inr e)
    (λ x e. elim e [ inl s ↦ absurd (no_step r last x s) | inr s ↦ s ])
    h
