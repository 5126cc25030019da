use Rattle.flk_section.proofs.FormLemmas.{IsBack}
use Rattle.flk_section.proofs.form.sample_back.Given as goal

abbrev pub invariant-loop-left : goal.invariant-loop-left
invariant-loop-left l = IsBack l.fn.z l.fn.gains l.fn.form l.before l.left l.weight l.share

abbrev pub decreases-loop-left : goal.decreases-loop-left
decreases-loop-left l = l.left
