use Rattle.std.proofs.Common.{rules, ◌≡◌, ◌<◌, ◌^◌, ℤ, pos, ◌+ℤ◌, ◌*ℤ◌, FitsSigned, sym, ap, subst, ◌∙◌, arith}
use Rattle.std.specs.Int.{w128}
use Rattle.std.specs.Int.RustNames.{unsigned_abs}
use Rattle.std.proofs.lemmas.Int.{ints, to_z-of_z}
use Rattle.flk_cert.proofs.CheckLemmas.{equal_bits}
use Rattle.flk_cert.proofs.checker.is_second_combined.Goals as goal

fits : (a : ℤ) → unsigned_abs a < 2 ^ 44 → FitsSigned w128 (pos (2 ^ 64) *ℤ a)
fits a h = omega (arith, ints)

pub returns : goal.returns
returns c =
    let x : c.from.result ≡ c.args.row.x = search rules in
    let a : FitsSigned w128 c.from.result = search rules in
    let f = fits c.from.result (subst (λ (z : ℤ). unsigned_abs z < 2 ^ 44) (sym x) c.requires.row.x) in
    let g : FitsSigned w128 c.combined.result = search rules in
    let q = equal_bits (pos (2 ^ 64) *ℤ c.from.result) c.combined.result f g in
    let l : pos (2 ^ 64) *ℤ c.from.result ≡ pos (2 ^ 64) *ℤ c.args.row.x = ap (λ (z : ℤ). pos (2 ^ 64) *ℤ z) x in
    let r : c.combined.result ≡ pos (2 ^ 64) *ℤ c.args.next.y +ℤ pos (2 ^ 32) *ℤ c.args.row.d = search rules in
    simp to_z-of_z ((λ t. sym l ∙ q.0 t ∙ r), (λ h. q.1 (l ∙ h ∙ sym r)))
