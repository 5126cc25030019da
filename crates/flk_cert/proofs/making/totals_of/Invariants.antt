use Rattle.std.proofs.Common.{◌≡◌, ◌*◌, ◌^◌, drop, ◌+ℤ◌}
use Rattle.flk_cert.specs.Make.{input_share_at, rounding_share_at, total_share}
use Rattle.flk_cert.specs.Row.{IsUpTo}
use Rattle.flk_cert.proofs.making.totals_of.Given as goal

abbrev pub invariant-loop-row : goal.invariant-loop-row
invariant-loop-row l = record {
  input : l.input +ℤ total_share (input_share_at l.k) (drop l.row-index l.rows) ≡ total_share (input_share_at l.k) l.rows;
  rounding : l.rounding +ℤ total_share (rounding_share_at l.k) (drop l.row-index l.rows) ≡ total_share (rounding_share_at l.k) l.rows;
  input_within : IsUpTo (l.row-index * 2 ^ 48) l.input;
  rounding_within : IsUpTo (l.row-index * 2 ^ 48) l.rounding;
}
