use Rattle.flk_section.specs.OwnBounds.{first_bound}
use Rattle.flk_section.proofs.OwningLemmas.{IsOwning}
use Rattle.flk_section.proofs.own.own_bounds.Given as goal

abbrev pub invariant-loop-i : goal.invariant-loop-i
invariant-loop-i l = IsOwning first_bound l.gains l.form l.i l.bound l.signals l.of_form
