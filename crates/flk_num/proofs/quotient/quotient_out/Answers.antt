use Rattle.std.proofs.Common.{arith, rules, ◌^◌, pos, ◌*ℤ◌, ◌≤ℤ◌}
use Rattle.std.proofs.lemmas.Int.{ints}
use Rattle.flk_exact.specs.Rounding.{IsFloor, IsCeil}
use Rattle.flk_exact.proofs.WholeLemmas.{scale_≤}
use Rattle.flk_num.proofs.QuotientLemmas.{quotients_ordered}
use Rattle.flk_num.proofs.quotient.quotient_out.Goals as goal

pub invariant_of-result : goal.invariant_of-result
invariant_of-result c =
    let a = c.args.a in
    let b = c.args.b in
    let by : _ = 2 ^ c.args.shift in
    let low : IsFloor (a.lo *ℤ pos by) b.hi c.floor_div.result = search rules in
    let high : IsCeil (a.hi *ℤ pos by) b.lo c.ceil_div.result = search rules in
    let order : (a.lo *ℤ pos by) ≤ℤ (a.hi *ℤ pos by) = scale_≤ _ _ by a.ordered in
    let natural : pos 0 ≤ℤ (a.hi *ℤ pos by) = omega (arith, ints, scale_≤ (pos 0) a.lo by c.requires.a_low) in
    let ordered : c.floor_div.result ≤ℤ c.ceil_div.result = quotients_ordered _ _ _ _ b.lo b.hi natural order c.requires.b_low b.ordered low high in
    record { ordered = search rules }
