use Rattle.std.proofs.Common.{◌≡◌, ◌*◌, ◌^◌, take, pos, ◌+ℤ◌, ◌*ℤ◌, ◌≤ℤ◌}
use Rattle.std.specs.List.{fold}
use Rattle.flk_stat.proofs.long_term.plt.Given as goal

abbrev pub invariant-loop-v : goal.invariant-loop-v
invariant-loop-v l = record {
  sum : l.sum ≡ fold (λ a v. a +ℤ v *ℤ v *ℤ v) (pos 0) (take l.v-index l.values);
  low : pos 0 ≤ℤ l.sum;
  high : l.sum ≤ℤ pos (l.v-index * 10 ^ 36);
}
