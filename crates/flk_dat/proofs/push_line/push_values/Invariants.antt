use Rattle.std.proofs.Common.{◌≡◌, ◌+◌, ◌*◌, ◌≤◌, ◌++◌, take, vec_len}
use Rattle.std.specs.Prelude.{vec_capacity}
use Rattle.std.specs.List.{flat_map}
use Rattle.flk_dat.specs.Records.{record_at}
use Rattle.flk_dat.specs.Written.{value_field}
use Rattle.flk_dat.proofs.push_line.push_values.Given as goal

abbrev pub invariant-loop-channel : goal.invariant-loop-channel
invariant-loop-channel l = record {
  text : l.out.items ≡ l.fn.out.items ++ flat_map value_field (take l.channel (record_at l.block.records l.row).analog);
  len : vec_len l.out ≤ vec_len l.fn.out + 17 * l.channel;
  capacity : vec_capacity l.out ≡ vec_capacity l.fn.out;
}
