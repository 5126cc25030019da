use Rattle.std.proofs.Common.{rules, arith, ◌≡◌, ℕ, ◌+◌, ◌<◌, ◌^◌, List, length, get_or, ℤ, sym, subst, FitsSigned}
use Rattle.std.specs.Int.{w128}
use Rattle.std.proofs.lemmas.Int.{to_z-of_z}
use Rattle.flk_stat.specs.Severity.{IsLevelEnd}
use Rattle.flk_stat.specs.Ranked.{together, ranked_at}
use Rattle.flk_stat.proofs.EndLemmas.{together_length, ends_together}
use Rattle.flk_stat.proofs.PercentileLemmas.{rank_in, ranked_end}
use Rattle.flk_stat.proofs.severity.part.Goals as goal

pub weighed-requires-clause-level : goal.weighed-requires-clause-level
weighed-requires-clause-level c =
    let narrow : List ℕ = c.args.narrow.now in
    let wide : List ℤ = c.args.wide.now in
    let n : ℕ = length narrow + length wide in
    let share = c.requires.share in
    let z : ℤ = c.ranked.result in
    let fits : FitsSigned w128 z = search rules in
    let is : z ≡ ranked_at (together narrow wide) n c.args.share.tenths = search rules in
    let small : (k : ℕ) → get_or narrow k 0 < 2 ^ 64 = λ k. (c.type_inv.narrow k).fits in
    let within = rank_in c.args.share.tenths n share.low share.high c.requires.some in
    let end =
    ranked_end (together narrow wide) n c.args.share.tenths (ends_together narrow wide small c.requires.levels) c.requires.some share.low share.high
    (omega (arith, within.1, together_length narrow wide)) in
    rw (to_z-of_z w128 z fits) (subst IsLevelEnd (sym is) end)
