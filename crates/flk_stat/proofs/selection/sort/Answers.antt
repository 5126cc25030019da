use Rattle.std.proofs.Common.{ℕ, List, ℤ}
use Rattle.std.proofs.lemmas.List.Sorted.{All-permutation}
use Rattle.flk_stat.specs.Ranked.{IsWideEnd}
use Rattle.flk_stat.proofs.EndLemmas.{wide_ends, together_rises, together_moved}
use Rattle.flk_stat.proofs.selection.sort.Goals as goal

pub returns-clause-rises : goal.returns-clause-rises
returns-clause-rises c =
    let narrow : List ℕ = c.sort_unstable.new.self in
    let wide : List ℤ = c.sort_unstable-2.new.self in
    let ends = All-permutation IsWideEnd c.args.wide.now wide c.sort_unstable-2.ensures.permutation c.requires.wide in
    together_rises narrow wide (λ k. (c.type_inv.narrow k).fits) ends c.sort_unstable.ensures.sorted c.sort_unstable-2.ensures.sorted

pub returns-clause-same : goal.returns-clause-same
returns-clause-same c =
    together_moved c.args.narrow.now c.sort_unstable.new.self c.args.wide.now c.sort_unstable-2.new.self c.sort_unstable.ensures.permutation c.sort_unstable-2.ensures.permutation

pub returns-clause-levels : goal.returns-clause-levels
returns-clause-levels c =
    wide_ends c.sort_unstable-2.new.self
    (All-permutation IsWideEnd c.args.wide.now c.sort_unstable-2.new.self c.sort_unstable-2.ensures.permutation c.requires.wide)
