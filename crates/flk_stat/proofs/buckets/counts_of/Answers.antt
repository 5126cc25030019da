use Rattle.std.proofs.Common.{refl}
use Rattle.flk_stat.proofs.BucketLemmas.{none_counted}
use Rattle.flk_stat.proofs.buckets.counts_of.Goals as goal

pub loop-level-init : goal.loop-level-init
loop-level-init c = record { long = refl; counts = λ j. none_counted 4096 j 0 }
