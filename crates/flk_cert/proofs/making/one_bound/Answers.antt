use Rattle.std.proofs.Common.{◌≡◌, ◌^◌, pos, ◌-ℤ◌, ◌<ℤ◌, FitsSigned, arith, rules}
use Rattle.std.specs.Int.{w128}
use Rattle.std.specs.Int.RustNames.{unsigned_abs}
use Rattle.std.proofs.lemmas.Int.{ints}
use Rattle.flk_exact.specs.Rounding.{IsCeil}
use Rattle.flk_cert.proofs.MakeLemmas.{one_bound_is}
use Rattle.flk_cert.proofs.making.one_bound.Goals as goal

pub returns-then-left-gt0 : goal.returns-then-left-gt0
returns-then-left-gt0 c =
    let s : c.size-left.result ≡ pos (unsigned_abs c.args.c) = search rules in
    let f : FitsSigned w128 (pos (2 ^ 64) -ℤ c.size-left.result) = omega (arith, ints, s, c.requires.c) in
    let some : pos 0 <ℤ (pos (2 ^ 64) -ℤ c.size-left.result) = search rules in
    let is : IsCeil c.args.share (pos (2 ^ 64) -ℤ c.size-left.result) c.ceil_div.result = search rules in
    let e = one_bound_is c.args.c c.args.share c.size-left.result c.ceil_div.result s some c.requires.share.low is in
    search (rules, e)
