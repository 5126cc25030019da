use Rattle.std.proofs.Common.{ℕ, ◌+◌, ◌*◌, ◌≤◌, vec_len}
use Rattle.flk_gen.specs.Progress.{records_left, HasGiven}
use Rattle.flk_gen.proofs.ProgressLemmas.{Reaches}
use Rattle.flk_gen.proofs.recording.Recording.next_piece.Given as goal

abbrev pub invariant-loop-i : goal.invariant-loop-i
invariant-loop-i l = record {
  gives : (seed seconds n : ℕ) → HasGiven l.fn.self seed seconds n → Reaches seed seconds n l.i l.piece.items l.self;
  left : records_left l.self + l.i ≤ records_left l.fn.self;
  size : vec_len l.piece ≤ 64 * l.i;
}
