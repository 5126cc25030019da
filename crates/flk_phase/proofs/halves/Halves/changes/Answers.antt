use Rattle.flk_phase.proofs.HalvesLemmas.{summary_of}
use Rattle.flk_phase.proofs.halves.Halves.changes.Goals as goal

pub returns : goal.returns
returns c =
    let e = c.changes.ensures in
    summary_of c.args.self.now.window _ _ _ _ c.changes.result c.deref.ensures.value c.deref-2.ensures.value e.doubtful e.resolved e.wide
