use Rattle.std.proofs.Common.{◌≡◌, ◌^◌, pos, FitsSigned, w64, arith, rules}
use Rattle.std.proofs.lemmas.Int.{ints}
use Rattle.flk_exact.specs.Rounding.{floor_of}
use Rattle.flk_cert.specs.Row.{fed_back}
use Rattle.flk_cert.proofs.MakeLemmas.{next_form_is}
use Rattle.flk_cert.proofs.making.form_after.Goals as goal

pub returns-clause-value : goal.returns-clause-value
returns-clause-value c =
    let z : c.first_state_part.result ≡ fed_back c.args.k.now c.args.form.x c.args.form.y = search rules in
    let x : c.floor_div-x.result ≡ floor_of c.first_state_part.result (pos (2 ^ 32)) = search rules in
    let fits : FitsSigned w64 c.floor_div-x.result = search rules in
    next_form_is c.args.k.now c.args.form c.first_state_part.result _ _ z (omega (arith, ints, x)) (search rules)
