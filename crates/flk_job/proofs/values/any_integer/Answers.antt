use Rattle.std.proofs.Common.{rules, ◌≡◌, Some, None, sym, subst}
use Rattle.toml.specs.Data.{get_member, as_integer}
use Rattle.toml.specs.View.{view, table_view}
use Rattle.flk_job.specs.Table.{key_name, value_of}
use Rattle.flk_job.specs.Reading.{NoInteger}
use Rattle.flk_job.specs.declared.kind.Kind.{Kind}
use Rattle.flk_job.proofs.DataLemmas.{no_integer}
use Rattle.flk_job.proofs.KeyLemmas.{value_given}
use Rattle.flk_job.proofs.values.any_integer.Goals as goal

pub returns-in-None-as_integer-clause-fault : goal.returns-in-None-as_integer-clause-fault
returns-in-None-as_integer-clause-fault c =
    let here : Some (view c.in-Some.value.now) ≡ get_member (key_name c.args.key) (table_view c.args.table.now) = search rules in
    let other : as_integer (view c.in-Some.value.now) ≡ None = search rules in
    subst (λ (k : Kind). NoInteger (value_of (table_view c.args.table.now) c.args.key) k) (sym c.fault-in-None-as_integer.ensures.kind)
    (view c.in-Some.value.now, value_given (table_view c.args.table.now) c.args.key (view c.in-Some.value.now) (sym here), no_integer (view c.in-Some.value.now) other)
