use Rattle.std.proofs.Common.{◌≡◌, ◌-◌, ◌*◌, ◌^◌, ◌≤◌, ◌++◌, length, take, drop}
use Rattle.flk_cert.specs.Make.{input_share_at, rounding_share_at, bound, bounded_by}
use Rattle.flk_cert.specs.Row.{IsUpTo}
use Rattle.flk_cert.proofs.making.set_bounds.Given as goal

abbrev pub invariant-loop-left : goal.invariant-loop-left
invariant-loop-left l = record {
  in_range : l.left ≤ length l.initial.rows;
  rows : l.rows ≡ take l.left l.initial.rows ++ bounded_by l.k l.input l.rounding (drop l.left l.initial.rows);
  g : l.g ≡ bound (input_share_at l.k) l.input (drop l.left l.initial.rows);
  h : l.h ≡ bound (rounding_share_at l.k) l.rounding (drop l.left l.initial.rows);
  g_within : IsUpTo ((length l.initial.rows - l.left) * 2 ^ 57) l.g;
  h_within : IsUpTo ((length l.initial.rows - l.left) * 2 ^ 57) l.h;
}

abbrev pub decreases-loop-left : goal.decreases-loop-left
decreases-loop-left l = l.left
