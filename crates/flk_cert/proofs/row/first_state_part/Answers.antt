use Rattle.std.proofs.Common.{◌≡◌, ◌*◌, ◌^◌, ◌≤◌, ◌*ℤ◌, FitsSigned, w64, arith, rules}
use Rattle.std.specs.Int.RustNames.{unsigned_abs}
use Rattle.std.proofs.lemmas.Int.{ints}
use Rattle.flk_cert.proofs.MakeLemmas.{fed_back_is, difference_is, difference_fits}
use Rattle.flk_cert.proofs.row.first_state_part.Goals as goal

pub overflow_sub-result-2 : goal.overflow_sub-result-2
overflow_sub-result-2 c =
    let x : FitsSigned w64 c.args.form.x = search rules in
    let y : FitsSigned w64 c.args.form.y = search rules in
    let p : unsigned_abs c.product.result ≤ 2 ^ 33 * unsigned_abs c.args.form.x = search rules in
    let r : unsigned_abs c.product-2.result ≤ 2 ^ 33 * unsigned_abs c.args.form.y = search rules in
    difference_fits c.product.result c.product-2.result (omega (arith, ints)) (omega (arith, ints))

pub returns-clause-value : goal.returns-clause-value
returns-clause-value c =
    let x : FitsSigned w64 c.args.form.x = search rules in
    let y : FitsSigned w64 c.args.form.y = search rules in
    let small_p : unsigned_abs c.product.result ≤ 2 ^ 33 * unsigned_abs c.args.form.x = search rules in
    let small_r : unsigned_abs c.product-2.result ≤ 2 ^ 33 * unsigned_abs c.args.form.y = search rules in
    let p : c.product.result ≡ c.args.k.now.a1 *ℤ c.args.form.x = search rules in
    let r : c.product-2.result ≡ c.args.k.now.a2 *ℤ c.args.form.y = search rules in
    fed_back_is _ c.product.result c.product-2.result c.args.k.now.a1 c.args.form.x c.args.k.now.a2 c.args.form.y
    (difference_is c.product.result c.product-2.result (omega (arith, ints)) (omega (arith, ints))) p r

pub returns-clause-small : goal.returns-clause-small
returns-clause-small c =
    let x : FitsSigned w64 c.args.form.x = search rules in
    let y : FitsSigned w64 c.args.form.y = search rules in
    let p : unsigned_abs c.product.result ≤ 2 ^ 33 * unsigned_abs c.args.form.x = search rules in
    let r : unsigned_abs c.product-2.result ≤ 2 ^ 33 * unsigned_abs c.args.form.y = search rules in
    rw (difference_is c.product.result c.product-2.result (omega (arith, ints)) (omega (arith, ints))) (omega (arith, ints))
