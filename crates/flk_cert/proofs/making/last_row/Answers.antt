use Rattle.std.proofs.Common.{◌≡◌, ◌*◌, ◌^◌, ◌≤◌, ◌*ℤ◌, FitsSigned, w64, arith, rules}
use Rattle.std.specs.Int.RustNames.{unsigned_abs}
use Rattle.std.proofs.lemmas.Int.{ints}
use Rattle.flk_cert.proofs.MakeLemmas.{last_row_is}
use Rattle.flk_cert.proofs.making.last_row.Goals as goal

pub returns-clause-value : goal.returns-clause-value
returns-clause-value c =
    let x : FitsSigned w64 c.args.form.x = search rules in
    let y : FitsSigned w64 c.args.form.y = search rules in
    let n : c.from.result ≡ c.args.form.x = search rules in
    let small : unsigned_abs c.product.result ≤ 2 ^ 33 * unsigned_abs c.args.form.y = search rules in
    let p : c.product.result ≡ c.args.k.now.a2 *ℤ c.args.form.y = search rules in
    last_row_is c.args.k.now c.args.form _ _ _ _ (search rules) (search rules) (omega (arith, ints, small, p)) (omega (arith, ints, n))

pub returns-clause-small : goal.returns-clause-small
returns-clause-small c =
    let x : FitsSigned w64 c.args.form.x = search rules in
    let y : FitsSigned w64 c.args.form.y = search rules in
    let n : c.from.result ≡ c.args.form.x = search rules in
    let small : unsigned_abs c.product.result ≤ 2 ^ 33 * unsigned_abs c.args.form.y = search rules in
    omega (arith, ints, small, n)
