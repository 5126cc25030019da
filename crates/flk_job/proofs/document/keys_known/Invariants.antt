use Rattle.std.proofs.Common.{◌≡◌}
use Rattle.toml.specs.View.{members_view}
use Rattle.flk_job.specs.Table.{are_known}
use Rattle.flk_job.proofs.document.keys_known.Given as goal

-- the entries that are left decide
abbrev pub invariant-loop-key : goal.invariant-loop-key
invariant-loop-key l = are_known (members_view l.key-iterator) ≡ are_known (members_view l.table.entries)
