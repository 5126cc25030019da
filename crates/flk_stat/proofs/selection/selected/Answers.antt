use Rattle.std.proofs.Common.{rules, ◌≡◌, ℕ, ℤ, pos, ◌*ℤ◌, FitsSigned}
use Rattle.std.specs.Int.{w128}
use Rattle.std.proofs.lemmas.Int.{to_z-of_z}
use Rattle.flk_stat.proofs.SelectionLemmas.{place_is}
use Rattle.flk_stat.proofs.selection.selected.Goals as goal

pub returns-clause-selected : goal.returns-clause-selected
returns-clause-selected c =
    let r = c.select_nth_unstable-level.result in
    let e = c.select_nth_unstable-level.ensures in
    let q = c.args.wanted in
    let x : ℕ = r.1.now in
    let z : ℤ = c.weighed.result in
    let fits : FitsSigned w128 z = search rules in
    let weighed : z ≡ pos q.share.weight *ℤ pos x = search rules in
    let place = place_is c.args.levels.now r.0.now r.2.now x q.rank e.permutation e.front_len c.requires.rank.low c.requires.rank.high in
    rw (to_z-of_z w128 z fits) (record { front = r.0.now; x = x; moved = e.permutation; split = e.partitioned; place = place; weighed = weighed })
