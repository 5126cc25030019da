use Rattle.std.proofs.Common.{rules, arith, ◌≡◌, ℕ, ◌-◌, ◌<◌, List, length, get_or, ℤ, pos, sym, subst, ◌∙◌, FitsSigned}
use Rattle.std.specs.Int.{w128}
use Rattle.std.proofs.lemmas.Int.{to_z-of_z}
use Rattle.flk_stat.specs.Rank.{rank_of}
use Rattle.flk_stat.proofs.EndLemmas.{ranked_narrow}
use Rattle.flk_stat.proofs.rank.ranked.Goals as goal

pub returns : goal.returns
returns c =
    let narrow : List ℕ = c.args.narrow.now in
    let wide : List ℤ = c.args.wide.now in
    let z : ℤ = c.from.result in
    let fits : FitsSigned w128 z = search rules in
    let rank : c.rank-rank.result ≡ rank_of c.args.k c.args.n = c.rank-rank.ensures.value in
    let behind : length wide < rank_of c.args.k c.args.n = omega (arith, c.if-rank-wide.false, rank) in
    let is : z ≡ pos (get_or narrow (length narrow - (c.rank-rank.result - length wide)) 0) = search rules in
    rw (to_z-of_z w128 z fits)
    (subst (λ (r : ℕ). z ≡ pos (get_or narrow (length narrow - (r - length wide)) 0)) rank is
    ∙ sym (ranked_narrow narrow wide c.args.n c.args.k behind c.requires.within))
