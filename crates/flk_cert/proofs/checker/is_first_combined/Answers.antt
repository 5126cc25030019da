use Rattle.std.proofs.Common.{rules, ◌≡◌, ◌+◌, ◌*◌, ◌≤◌, ◌^◌, ℤ, pos, ◌+ℤ◌, ◌-ℤ◌, ◌*ℤ◌, FitsSigned, sym, ap, ◌∙◌, arith}
use Rattle.std.specs.Int.{w128}
use Rattle.std.specs.Int.RustNames.{unsigned_abs}
use Rattle.std.proofs.lemmas.Int.{ints, to_z-of_z}
use Rattle.flk_exact.proofs.ProductLemmas.{lin}
use Rattle.flk_cert.specs.Row.{fed_back}
use Rattle.flk_cert.proofs.CheckLemmas.{equal_bits}
use Rattle.flk_cert.proofs.checker.is_first_combined.Goals as goal

fits : (a b : ℤ) → unsigned_abs a ≤ 2 ^ 109 → unsigned_abs b ≤ 2 ^ 95 → FitsSigned w128 (a -ℤ b)
fits a b h j = omega (arith, ints)

fits_fed_back : (a : ℤ) → unsigned_abs a ≤ 2 ^ 78 → FitsSigned w128 (pos (2 ^ 32) *ℤ a)
fits_fed_back a h = omega (arith, ints)

pub overflow_sub-result : goal.overflow_sub-result
overflow_sub-result c =
    let a : FitsSigned w128 c.combined-combined.result = search rules in
    let b : FitsSigned w128 c.times_wide-second.result = search rules in
    simp to_z-of_z (fits c.combined-combined.result c.times_wide-second.result c.combined-combined.ensures.small c.times_wide-second.ensures.small)

pub returns : goal.returns
returns c =
    let k = c.args.k.now in
    let a : FitsSigned w128 c.combined-combined.result = search rules in
    let b : FitsSigned w128 c.times_wide-second.result = search rules in
    let e : FitsSigned w128 c.first_state_part-fed_back.result = search rules in
    let small : unsigned_abs c.first_state_part-fed_back.result ≤ 2 ^ 33 * unsigned_abs c.args.row.x + 2 ^ 33 * unsigned_abs c.args.row.y = search rules in
    let f = fits_fed_back c.first_state_part-fed_back.result (omega (arith, small, c.requires.row.x, c.requires.row.y)) in
    let g = fits c.combined-combined.result c.times_wide-second.result c.combined-combined.ensures.small c.times_wide-second.ensures.small in
    let q = equal_bits (pos (2 ^ 32) *ℤ c.first_state_part-fed_back.result) (c.combined-combined.result -ℤ c.times_wide-second.result) f g in
    let v : c.first_state_part-fed_back.result ≡ fed_back k c.args.row.x c.args.row.y = search rules in
    let l : pos (2 ^ 32) *ℤ c.first_state_part-fed_back.result ≡ pos (2 ^ 32) *ℤ fed_back k c.args.row.x c.args.row.y = ap (λ (z : ℤ). pos (2 ^ 32) *ℤ z) v in
    let x : c.combined-combined.result ≡ pos (2 ^ 64) *ℤ c.args.next.x +ℤ pos (2 ^ 32) *ℤ c.args.row.c = search rules in
    let y : c.times_wide-second.result ≡ k.a1 *ℤ c.args.row.d = search rules in
    let r : c.combined-combined.result -ℤ c.times_wide-second.result ≡ pos (2 ^ 64) *ℤ c.args.next.x +ℤ pos (2 ^ 32) *ℤ c.args.row.c -ℤ k.a1 *ℤ c.args.row.d = omega (arith, lin, x, y) in
    simp to_z-of_z ((λ t. sym l ∙ q.0 t ∙ r), (λ h. q.1 (l ∙ h ∙ sym r)))
