use Rattle.std.proofs.Common.{rules, ◌≡◌, ℕ, List, [], ◌∷◌, ◌++◌, ℤ, pos, sym, subst}
use Rattle.std.specs.List.Sorted.{IsPermutation}
use Rattle.flk_stat.specs.Ranked.{together}
use Rattle.flk_stat.proofs.EndLemmas.{narrow_more}
use Rattle.flk_stat.proofs.list_of_ends.ListOfEnds.add.Goals as goal

pub returns-in-Ok-clause-added : goal.returns-in-Ok-clause-added
returns-in-Ok-clause-added c =
    let narrow : List ℕ = c.args.self.now.narrow.items in
    let wide : List ℤ = c.args.self.now.wide.items in
    let x : ℕ = c.in-Ok.narrow in
    let same : pos x ≡ c.args.end = search rules in
    let pushed : c.push_reserved.new.self.items ≡ narrow ++ x ∷ [] = search rules in
    subst (λ (xs : List ℕ). IsPermutation (together narrow wide ++ c.args.end ∷ []) (together xs wide)) (sym pushed)
    (subst (λ (z : ℤ). IsPermutation (together narrow wide ++ z ∷ []) (together (narrow ++ x ∷ []) wide)) same (narrow_more narrow wide x))
