use Rattle.std.proofs.Common.{◌≡◌, ◌^◌, ◌-◌, ◌<◌, ◌*◌, arith, rules}
use Rattle.flk_field.proofs.DateJudges.{nine_digits}
use Rattle.flk_field.proofs.date.padded.Goals as goal

pub overflow_mul-result : goal.overflow_mul-result
overflow_mul-result c =
    let e : c.pow.result ≡ 10 ^ (9 - c.args.digits) = search rules in
    let below : c.args.number * 10 ^ (9 - c.args.digits) < 10 ^ 9 = nine_digits c.args.number c.args.digits c.requires.few c.requires.small in
    rw e (omega arith)

pub returns-clause-below : goal.returns-clause-below
returns-clause-below c =
    let e : c.pow.result ≡ 10 ^ (9 - c.args.digits) = search rules in
    rw e (nine_digits c.args.number c.args.digits c.requires.few c.requires.small)
