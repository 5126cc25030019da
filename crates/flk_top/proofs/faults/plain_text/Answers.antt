use Rattle.std.proofs.Common.{rules, arith, ◌≡◌, ◌≤◌, ◌^◌, FitsSigned}
use Rattle.std.specs.Int.{w128}
use Rattle.std.specs.Int.RustNames.{unsigned_abs}
use Rattle.std.proofs.lemmas.Int.{ints}
use Rattle.flk_text.specs.PlainText.{plain}
use Rattle.flk_top.proofs.PlainTexts.{plain_utf8}
use Rattle.flk_top.proofs.faults.plain_text.Goals as goal

pub unwrap-requires : goal.unwrap-requires
unwrap-requires c =
    let fits : FitsSigned w128 c.args.d.n = search rules in
    let small : unsigned_abs c.args.d.n ≤ 2 ^ 127 = omega (arith, ints, fits) in
    let is : c.push_decimal.new.out.items ≡ plain c.args.d.n = search rules in
    c.from_utf8.ensures.succeeds (plain_utf8 c.args.d.n c.push_decimal.new.out.items small is)
