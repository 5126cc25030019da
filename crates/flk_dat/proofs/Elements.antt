-- Lists that are filled item by item.
use Rattle.std.proofs.Common.{◌≡◌, ℕ, ◌+◌, ◌<◌, List, length, get_or, set, subst, sym, arith, inl, inr}
use Rattle.std.proofs.lemmas.Bool.{cases_lt}
use Rattle.std.proofs.lemmas.List.{get_or-set_same, get_or-set_other}

-- what holds of each item so far, and of the one that is put next, holds of each one then
pub each_set : {A : Type 0} (P : ℕ → A → Type 0) (xs : List A) (i : ℕ) (v d : A) → i < length xs → ((k : ℕ) → k < i → P k (get_or xs k d)) → P i v → (k : ℕ) → k < i + 1 → P k (get_or (set xs i v) k d)
each_set P xs i v d there so here k lt =
    elim (cases_lt k i) [
      | inl less ↦ subst (P k) (sym (get_or-set_other xs i k v d (λ e. omega (arith, less, e)))) (so k less)
      | inr more ↦
          let same : i ≡ k = omega (arith, lt, more) in
          subst (λ (j : ℕ). P j (get_or (set xs i v) j d)) same (subst (P i) (sym (get_or-set_same xs i v d there)) here)
    ]
