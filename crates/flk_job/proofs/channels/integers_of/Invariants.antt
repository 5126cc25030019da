use Rattle.std.proofs.Common.{◌≡◌, drop, Some, ◌++◌}
use Rattle.std.specs.Option.{option_and_then}
use Rattle.toml.specs.View.{items_view}
use Rattle.flk_job.specs.Reading.{integers}
use Rattle.flk_job.proofs.channels.integers_of.Given as goal

-- those so far, before those that are left
abbrev pub invariant-loop-value : goal.invariant-loop-value
invariant-loop-value l = option_and_then (λ zs. Some (l.all.items ++ zs)) (integers (items_view (drop l.value-index l.items))) ≡ integers (items_view l.items)
