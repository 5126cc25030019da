use Rattle.std.proofs.Common.{◌≡◌, ◌*◌, ◌^◌, ◌≤◌, ◌*ℤ◌, arith, rules}
use Rattle.std.specs.Int.RustNames.{unsigned_abs}
use Rattle.std.proofs.lemmas.Int.{ints}
use Rattle.flk_cert.proofs.row.input_part.Goals as goal

pub returns-clause-value : goal.returns-clause-value
returns-clause-value c =
    let n : c.from.result ≡ c.args.b = search rules in
    let small : unsigned_abs c.product.result ≤ 2 ^ 33 * unsigned_abs c.args.b0 = search rules in
    let p : c.product.result ≡ c.args.a *ℤ c.args.b0 = search rules in
    omega (arith, ints, small, p, n)

pub returns-clause-small : goal.returns-clause-small
returns-clause-small c =
    let n : c.from.result ≡ c.args.b = search rules in
    let small : unsigned_abs c.product.result ≤ 2 ^ 33 * unsigned_abs c.args.b0 = search rules in
    omega (arith, ints, small, n)
