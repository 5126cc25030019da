use Rattle.std.proofs.Common.{◌∙◌, sym}
use Rattle.flk_phase.proofs.TakingLemmas.{took_column, none_of}
use Rattle.flk_phase.proofs.tests.feed.Goals as goal

pub returns-clause-taken : goal.returns-clause-taken
returns-clause-taken c = (took_column c.args.phase.now c.take.new.self _ c.take.ensures (sym c.over.ensures ∙ none_of c.over.result (sym c.if-is_some.ensures))).1.has
