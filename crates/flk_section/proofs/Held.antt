-- Numbers of 128 bits hold what is computed from small numbers.
use Rattle.std.proofs.Common.{◌≡◌, ℕ, ◌*◌, ◌^◌, ◌≤◌, ◌↔◌, Option, None, FitsSigned, to_z, of_z, sym, ap, subst, ◌∙◌, arith}
use Rattle.std.specs.Prelude.{IsSome}
use Rattle.std.proofs.lemmas.Bool.{true≢false}
use Rattle.std.proofs.Math.IntN.{ℤ, ◌+ℤ◌, ◌*ℤ◌}
use Rattle.std.specs.Int.{w128}
use Rattle.std.specs.Int.RustNames.{unsigned_abs}
use Rattle.std.proofs.lemmas.Int.{ints, to_z-of_z}
use Rattle.flk_exact.proofs.ProductLemmas.{triangle, size_of_product_within}

abbrev pub kept : ℤ → ℤ
kept z = to_z w128 (of_z w128 z)

pub fits_128 : (z : ℤ) → unsigned_abs z ≤ 2 ^ 126 → FitsSigned w128 z
fits_128 z h = omega (arith, ints, h)

pub held : (z : ℤ) → unsigned_abs z ≤ 2 ^ 126 → kept z ≡ z
held z h = to_z-of_z w128 z (fits_128 z h)

pub held_sum : (a b : ℤ) → unsigned_abs a ≤ 2 ^ 125 → unsigned_abs b ≤ 2 ^ 125 → kept (kept a +ℤ kept b) ≡ a +ℤ b
held_sum a b ha hb =
    ap (λ (z : ℤ). kept (z +ℤ kept b)) (held a (omega (arith, ha))) ∙ ap (λ (z : ℤ). kept (a +ℤ z)) (held b (omega (arith, hb)))
    ∙ held (a +ℤ b) (omega (arith, triangle a b, ha, hb))

pub held_product : (a b : ℤ) (m n : ℕ) → unsigned_abs a ≤ m → unsigned_abs b ≤ n → m ≤ 2 ^ 126 → n ≤ 2 ^ 126 → m * n ≤ 2 ^ 126 → kept (kept a *ℤ kept b) ≡ a *ℤ b
held_product a b m n ha hb hm hn hmn =
    ap (λ (z : ℤ). kept (z *ℤ kept b)) (held a (omega (arith, ha, hm))) ∙ ap (λ (z : ℤ). kept (a *ℤ z)) (held b (omega (arith, hb, hn)))
    ∙ held (a *ℤ b) (omega (arith, size_of_product_within a b m n ha hb, hmn))

-- no answer, where none is due
pub none_iff : {A : Type 0} {P : Type 0} (r : Option A) → r ≡ None → ¬ P → IsSome r ↔ P
none_iff r e never = (λ some. absurd (true≢false (sym (subst IsSome e some))), λ p. absurd (never p))
