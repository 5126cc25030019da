use Rattle.std.proofs.Common.{◌≡◌, ◌<◌, ◌^◌, length, pos, arith, rules}
use Rattle.std.proofs.lemmas.Int.{ints}
use Rattle.flk_exact.specs.Rounding.{ceil_of}
use Rattle.flk_cert.specs.Make.{input_share_at, rounding_share_at}
use Rattle.flk_cert.proofs.MakeBounds.{total_share_step}
use Rattle.flk_cert.proofs.making.totals_of.Goals as goal

pub loop-row-preserved : goal.loop-row-preserved
loop-row-preserved c =
    let low : c.loop-row.row-index < length c.args.rows.now = search rules in
    let p : c.rounded_share-input.result ≡ ceil_of c.input_share_of.result (pos (2 ^ 64)) = search rules in
    let q : c.rounded_share-rounding.result ≡ ceil_of c.rounding_share_of.result (pos (2 ^ 64)) = search rules in
    let e = total_share_step (input_share_at c.args.k.now) c.args.rows.now c.loop-row.row-index _ _ _ low p c.input_share_of.ensures.value in
    let f = total_share_step (rounding_share_at c.args.k.now) c.args.rows.now c.loop-row.row-index _ _ _ low q c.rounding_share_of.ensures.value in
    record {
      input = omega (arith, ints, e, c.loop-row.invariant.input);
      rounding = omega (arith, ints, f, c.loop-row.invariant.rounding);
      input_within = record { low = omega (arith, ints); high = omega (arith, ints) };
      rounding_within = record { low = omega (arith, ints); high = omega (arith, ints) };
    }
