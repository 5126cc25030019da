use Rattle.std.proofs.Common.{◌≡◌, ℕ, ◌+◌, ◌-◌, ◌<◌, ◌^◌, ◌++◌, length, take, drop, get_or, pos, ◌+ℤ◌, ◌*ℤ◌, arith, rules}
use Rattle.std.specs.Int.{w128}
use Rattle.std.specs.Int.RustNames.{FitsSigned}
use Rattle.std.proofs.lemmas.Int.{ints, to_z-of_z}
use Rattle.flk_exact.specs.Rounding.{ceil_of}
use Rattle.flk_cert.specs.Make.{input_share_at, rounding_share_at, bound, bounded_by}
use Rattle.flk_cert.specs.Certificate.{no_row}
use Rattle.flk_cert.proofs.MakeBounds.{bound_step, row_as_it_was, narrow_before, bounded_more, within_more}
use Rattle.flk_cert.proofs.making.set_bounds.Goals as goal

pub added-g-requires-clause-weight : goal.added-g-requires-clause-weight
added-g-requires-clause-weight c =
    let now : c.loop-left.rows ≡ take c.loop-left.left c.args.rows.now ++ bounded_by c.args.k.now c.args.input c.args.rounding (drop c.loop-left.left c.args.rows.now) = search rules in
    let narrow = narrow_before c.args.k.now c.args.input c.args.rounding c.args.rows.now c.loop-left.rows c.loop-left.left c.loop-left-test.true c.loop-left.invariant.in_range now c.requires.narrow in
    omega (arith, narrow.weight, c.weight_of.ensures)

pub added-h-requires-clause-weight : goal.added-h-requires-clause-weight
added-h-requires-clause-weight c =
    let now : c.loop-left.rows ≡ take c.loop-left.left c.args.rows.now ++ bounded_by c.args.k.now c.args.input c.args.rounding (drop c.loop-left.left c.args.rows.now) = search rules in
    let narrow = narrow_before c.args.k.now c.args.input c.args.rounding c.args.rows.now c.loop-left.rows c.loop-left.left c.loop-left-test.true c.loop-left.invariant.in_range now c.requires.narrow in
    omega (arith, narrow.weight, c.weight_of-in-loop-left.ensures)

pub weight_of-requires-in-loop-left : goal.weight_of-requires-in-loop-left
weight_of-requires-in-loop-left c =
    let now : c.loop-left.rows ≡ take c.loop-left.left c.args.rows.now ++ bounded_by c.args.k.now c.args.input c.args.rounding (drop c.loop-left.left c.args.rows.now) = search rules in
    let narrow = narrow_before c.args.k.now c.args.input c.args.rounding c.args.rows.now c.loop-left.rows c.loop-left.left c.loop-left-test.true c.loop-left.invariant.in_range now c.requires.narrow in
    omega (arith, narrow.weight)

pub rounding_share_of-requires-clause-x : goal.rounding_share_of-requires-clause-x
rounding_share_of-requires-clause-x c =
    let now : c.loop-left.rows ≡ take c.loop-left.left c.args.rows.now ++ bounded_by c.args.k.now c.args.input c.args.rounding (drop c.loop-left.left c.args.rows.now) = search rules in
    let narrow = narrow_before c.args.k.now c.args.input c.args.rounding c.args.rows.now c.loop-left.rows c.loop-left.left c.loop-left-test.true c.loop-left.invariant.in_range now c.requires.narrow in
    narrow.x

pub rounding_share_of-requires-clause-y : goal.rounding_share_of-requires-clause-y
rounding_share_of-requires-clause-y c =
    let now : c.loop-left.rows ≡ take c.loop-left.left c.args.rows.now ++ bounded_by c.args.k.now c.args.input c.args.rounding (drop c.loop-left.left c.args.rows.now) = search rules in
    let narrow = narrow_before c.args.k.now c.args.input c.args.rounding c.args.rows.now c.loop-left.rows c.loop-left.left c.loop-left-test.true c.loop-left.invariant.in_range now c.requires.narrow in
    narrow.y

pub overflow_add-h : goal.overflow_add-h
overflow_add-h c =
    omega (arith, ints, c.loop-left.h-is, c.loop-left.invariant.h_within.low, c.loop-left.invariant.h_within.high, c.added-h.ensures.within.low, c.added-h.ensures.within.high, c.requires.few)

pub loop-left-preserved : goal.loop-left-preserved
loop-left-preserved c =
    let n : ℕ = c.loop-left.left - 1 in
    let left : n + 1 ≡ c.loop-left.left = omega arith in
    let low : n < length c.args.rows.now = omega (arith, c.loop-left.invariant.in_range) in
    let now : c.loop-left.rows ≡ take c.loop-left.left c.args.rows.now ++ bounded_by c.args.k.now c.args.input c.args.rounding (drop c.loop-left.left c.args.rows.now) = search rules in
    let rows : c.loop-left.rows ≡ take (n + 1) c.args.rows.now ++ bounded_by c.args.k.now c.args.input c.args.rounding (drop (n + 1) c.args.rows.now) = rw left now in
    let was : get_or c.loop-left.rows n no_row ≡ get_or c.args.rows.now n no_row = row_as_it_was c.args.k.now c.args.input c.args.rounding c.args.rows.now c.loop-left.rows n no_row low rows in
    let g_now : c.loop-left.g ≡ bound (input_share_at c.args.k.now) c.args.input (drop (n + 1) c.args.rows.now) = rw left (search rules) in
    let h_now : c.loop-left.h ≡ bound (rounding_share_at c.args.k.now) c.args.rounding (drop (n + 1) c.args.rows.now) = rw left (search rules) in
    let p : c.added-g.result ≡ ceil_of (pos c.weight_of.result *ℤ c.args.input +ℤ c.input_share_of.result) (pos (2 ^ 64)) = search rules in
    let q : c.added-h.result ≡ ceil_of (pos c.weight_of-in-loop-left.result *ℤ c.args.rounding +ℤ c.rounding_share_of.result) (pos (2 ^ 64)) = search rules in
    let g_step = bound_step (input_share_at c.args.k.now) c.args.input c.args.rows.now n no_row _ _ _ _ low was p c.weight_of.ensures c.input_share_of.ensures.value in
    let h_step = bound_step (rounding_share_at c.args.k.now) c.args.rounding c.args.rows.now n no_row _ _ _ _ low was q c.weight_of-in-loop-left.ensures c.rounding_share_of.ensures.value in
    let g : c.loop-left.g +ℤ c.added-g.result ≡ bound (input_share_at c.args.k.now) c.args.input (drop n c.args.rows.now) = omega (arith, ints, g_now, g_step) in
    let h : c.loop-left.h +ℤ c.added-h.result ≡ bound (rounding_share_at c.args.k.now) c.args.rounding (drop n c.args.rows.now) = omega (arith, ints, h_now, h_step) in
    let fits_g : FitsSigned w128 (c.loop-left.g +ℤ c.added-g.result) = omega (arith, ints, c.loop-left.invariant.g_within.low, c.loop-left.invariant.g_within.high, c.added-g.ensures.within.low, c.added-g.ensures.within.high, c.requires.few, c.loop-left.g-is) in
    let fits_h : FitsSigned w128 (c.loop-left.h +ℤ c.added-h.result) = omega (arith, ints, c.loop-left.invariant.h_within.low, c.loop-left.invariant.h_within.high, c.added-h.ensures.within.low, c.added-h.ensures.within.high, c.requires.few, c.loop-left.h-is) in
    let fits_input : FitsSigned w128 c.args.input = c.ranges.input in
    let fits_rounding : FitsSigned w128 c.args.rounding = c.ranges.rounding in
    let fits_p : FitsSigned w128 c.added-g.result = search rules in
    let fits_q : FitsSigned w128 c.added-h.result = search rules in
    let row : c.bounded_row.result ≡ record (get_or c.loop-left.rows n no_row) { g = c.loop-left.g +ℤ c.added-g.result; h = c.loop-left.h +ℤ c.added-h.result } = simp (c.loop-left.g-is, c.loop-left.h-is, to_z-of_z) at c.bounded_row.ensures in
    record {
      in_range = omega (arith, low);
      rows = simp to_z-of_z (bounded_more c.args.k.now c.args.input c.args.rounding c.args.rows.now c.loop-left.rows n no_row _ _ c.bounded_row.result low rows g h row);
      g = simp (c.loop-left.g-is, to_z-of_z) g;
      h = simp (c.loop-left.h-is, to_z-of_z) h;
      g_within = simp (c.loop-left.g-is, to_z-of_z) (within_more c.loop-left.g c.added-g.result (length c.args.rows.now) c.loop-left.left (2 ^ 57) c.loop-left-test.true c.loop-left.invariant.in_range (rw c.loop-left.g-is at c.loop-left.invariant.g_within) c.added-g.ensures.within);
      h_within = simp (c.loop-left.h-is, to_z-of_z) (within_more c.loop-left.h c.added-h.result (length c.args.rows.now) c.loop-left.left (2 ^ 57) c.loop-left-test.true c.loop-left.invariant.in_range (rw c.loop-left.h-is at c.loop-left.invariant.h_within) c.added-h.ensures.within);
    }
