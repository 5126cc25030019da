use Rattle.std.proofs.Common.{◌≡◌, FitsSigned, w64, arith, rules}
use Rattle.std.proofs.lemmas.Int.{ints}
use Rattle.flk_cert.specs.Row.{fed_back}
use Rattle.flk_cert.proofs.MakeLemmas.{inner_row_is, inner_row_part}
use Rattle.flk_cert.proofs.making.inner_row.Goals as goal

pub overflow_sub-result : goal.overflow_sub-result
overflow_sub-result c =
    let n : c.from.result ≡ c.args.next.x = search rules in
    let x : FitsSigned w64 c.args.next.x = search rules in
    let f : c.first_state_part.result ≡ fed_back c.args.k.now c.args.form.x c.args.form.y = search rules in
    let s = inner_row_part c.args.k.now c.args.form c.args.next c.first_state_part.result c.requires f in
    omega (arith, ints, s, n)

pub returns-clause-value : goal.returns-clause-value
returns-clause-value c =
    let n : c.from.result ≡ c.args.next.x = search rules in
    let x : FitsSigned w64 c.args.next.x = search rules in
    let f : c.first_state_part.result ≡ fed_back c.args.k.now c.args.form.x c.args.form.y = search rules in
    let s = inner_row_part c.args.k.now c.args.form c.args.next c.first_state_part.result c.requires f in
    inner_row_is c.args.k.now c.args.form c.args.next c.first_state_part.result _ _ _ (search rules) (search rules) c.requires f
    (omega (arith, ints, s, n))

pub returns-clause-small : goal.returns-clause-small
returns-clause-small c =
    let n : c.from.result ≡ c.args.next.x = search rules in
    let x : FitsSigned w64 c.args.next.x = search rules in
    let f : c.first_state_part.result ≡ fed_back c.args.k.now c.args.form.x c.args.form.y = search rules in
    let s = inner_row_part c.args.k.now c.args.form c.args.next c.first_state_part.result c.requires f in
    omega (arith, ints, s, n)
