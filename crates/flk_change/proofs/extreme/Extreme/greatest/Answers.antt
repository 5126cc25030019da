use Rattle.std.proofs.Common.{rules, sym, arith, FitsSigned}
use Rattle.std.specs.Int.{w128}
use Rattle.std.proofs.lemmas.Int.{to_z-of_z}
use Rattle.flk_change.proofs.CandidateLemmas.{keeps_candidates, first_greatest, none_kept}
use Rattle.flk_change.proofs.extreme.Extreme.greatest.Goals as goal

pub returns-in-Some-clause-greatest : goal.returns-in-Some-clause-greatest
returns-in-Some-clause-greatest c = λ window values h.
    let first = c.in-Some.first.now in
    let items = c.args.self.now.ring.items in
    let fits : FitsSigned w128 first.value = search rules in
    rw (to_z-of_z w128 first.value fits) (first_greatest window values items first (keeps_candidates window values items h.places h.value) (sym c.in-Some.ensures))

pub returns-in-None-clause-greatest : goal.returns-in-None-clause-greatest
returns-in-None-clause-greatest c = λ window values h.
    let items = c.args.self.now.ring.items in
    none_kept window values items (omega (arith, c.args.self.now.some, h.same_window)) (keeps_candidates window values items h.places h.value) (sym c.in-None.ensures)
