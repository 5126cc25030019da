use Rattle.std.proofs.Common.{sym, ◌≡◌, ◌++◌, ◌∷◌, [], rules, subst, length, ◌<◌}
use Rattle.flk_top.specs.Working.{IsReady, IsEndOf}
use Rattle.flk_top.proofs.PhasesLemmas.{ends_more}
use Rattle.flk_top.proofs.phases.results_of.Goals as goal

pub end-requires : goal.end-requires
end-requires c =
    let there : c.loop-phase.phase-index < length c.args.phases.now = search rules in
    subst IsReady (sym c.phase-item.is) (c.requires c.loop-phase.phase-index c.phase-item.result there)

pub loop-phase-preserved : goal.loop-phase-preserved
loop-phase-preserved c =
    let r = c.end.result in
    let there : c.loop-phase.phase-index < length c.args.phases.now = search rules in
    let pushed : c.push.new.self.items ≡ c.loop-phase.results.items ++ r ∷ [] = search rules in
    let ends : IsEndOf c.phase-item.result r = record { keeps = c.end.ensures.promise; widths = c.end.ensures.widths } in
    ends_more c.args.phases.now c.loop-phase.phase-index c.phase-item.result c.loop-phase.results.items r c.push.new.self.items there c.phase-item.is c.loop-phase.invariant ends pushed
