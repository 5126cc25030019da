use Rattle.std.proofs.Common.{rules, ◌≡◌, ◌∙◌, pos, ap}
use Rattle.std.specs.Prelude.{neg_ℤ}
use Rattle.std.specs.Int.{int_max}
use Rattle.std.specs.Int.RustNames.{unsigned_abs}
use Rattle.flk_num.proofs.SquareLemmas.{least_size_is, greatest_size_is}
use Rattle.flk_num.proofs.square.sizes.Goals as goal

pub returns-clause-least : goal.returns-clause-least
returns-clause-least c =
    let v = c.args.v in
    let is : c.unsigned_abs.result ≡ unsigned_abs (int_max (int_max v.lo (neg_ℤ v.hi)) (pos 0)) = search rules in
    is ∙ ap unsigned_abs (least_size_is v.lo v.hi v.ordered)

pub returns-clause-greatest : goal.returns-clause-greatest
returns-clause-greatest c =
    let v = c.args.v in
    let is : c.unsigned_abs-2.result ≡ unsigned_abs (int_max v.hi (neg_ℤ v.lo)) = search rules in
    is ∙ ap unsigned_abs (greatest_size_is v.lo v.hi v.ordered)
