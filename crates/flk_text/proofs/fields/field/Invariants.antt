use Rattle.std.proofs.Common.{◌-◌}
use Rattle.flk_text.proofs.FieldLemmas.{IsFrom}
use Rattle.flk_text.proofs.fields.field.Given as goal

abbrev pub invariant-loop : goal.invariant-loop
invariant-loop l = IsFrom l.line l.rest (l.counter - 1)
