use Rattle.std.proofs.lemmas.List.Filters.{FiltersInPlace}
use Rattle.flk_stat.specs.Buckets.{bucket_of, is_marked}
use Rattle.flk_stat.proofs.buckets.keep.Given as goal

abbrev pub invariant-loop-i : goal.invariant-loop-i
invariant-loop-i l = record { filtered : FiltersInPlace (λ x. is_marked l.marks (bucket_of l.shift x)) l.initial.levels l.levels l.kept l.i }
