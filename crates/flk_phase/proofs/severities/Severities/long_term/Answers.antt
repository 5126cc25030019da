use Rattle.std.proofs.Common.{rules, FitsSigned, to_z-of_z, ℤ, subst, List}
use Rattle.std.specs.Int.{w128}
use Rattle.flk_num.specs.Interval.{lows, highs}
use Rattle.flk_num.proofs.IntervalLemmas.{ends_ordered}
use Rattle.flk_stat.specs.LongTerm.{IsLongTerm}
use Rattle.flk_stat.proofs.LongTermLemmas.{long_term_≤}
use Rattle.flk_phase.proofs.SeveritiesLemmas.{lows_in_range, highs_in_range}
use Rattle.flk_phase.proofs.severities.Severities.long_term.Goals as goal

pub plt-lo-requires-clause-in_range : goal.plt-lo-requires-clause-in_range
plt-lo-requires-clause-in_range c = rw c.lows.ensures (lows_in_range c.args.self.now.pst c.args.self.now.judgeable)

pub plt-hi-requires-clause-in_range : goal.plt-hi-requires-clause-in_range
plt-hi-requires-clause-in_range c = rw c.highs.ensures (highs_in_range c.args.self.now.pst c.args.self.now.judgeable)

pub invariant_of-result : goal.invariant_of-result
invariant_of-result c =
    let lo : ℤ = c.plt-lo.result in
    let hi : ℤ = c.plt-hi.result in
    let low : IsLongTerm c.lows.result lo = search rules in
    let high : IsLongTerm c.highs.result hi = search rules in
    let fits_lo : FitsSigned w128 lo = search rules in
    let fits_hi : FitsSigned w128 hi = search rules in
    let pst = c.args.self.now.pst in
    let below = subst (λ (xs : List ℤ). IsLongTerm xs lo) c.lows.ensures low in
    let above = subst (λ (xs : List ℤ). IsLongTerm xs hi) c.highs.ensures high in
    record { ordered = simp to_z-of_z (long_term_≤ (lows pst) (highs pst) lo hi (ends_ordered pst) below above) }
