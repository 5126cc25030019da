use Rattle.std.proofs.Common.{rules, ◌≡◌, ℕ, ℤ, pos, List, length, sym, subst, FitsSigned}
use Rattle.std.specs.Prelude.{int_lt}
use Rattle.std.specs.Int.{w128}
use Rattle.std.proofs.lemmas.Int.{to_z-of_z}
use Rattle.flk_stat.specs.Rank.{HasRank, rank_of}
use Rattle.flk_stat.specs.Ranked.{ranked_at}
use Rattle.flk_stat.proofs.PercentileLemmas.{rank_at, rank_in}
use Rattle.flk_stat.proofs.rank.percentile.Goals as goal

pub returns : goal.returns
returns c =
    let rising : List ℤ = c.args.rising.now in
    let rank : ℕ = rank_of c.args.k (length rising) in
    let z : ℤ = c.ranked.result in
    let fits : FitsSigned w128 z = search rules in
    let is : z ≡ ranked_at rising (length rising) c.args.k = search rules in
    let within = rank_in c.args.k (length rising) c.requires.low c.requires.high c.requires.some in
    let h = rank_at rising rank (pos 0) c.requires.rises within.0 within.1 in
    rw (to_z-of_z w128 z fits) (subst (λ (x : ℤ). HasRank int_lt rank rising x) (sym is) h)
