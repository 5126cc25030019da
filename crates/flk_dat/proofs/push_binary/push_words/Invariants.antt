use Rattle.std.proofs.Common.{◌≡◌, ◌+◌, ◌*◌, ◌++◌, vec_len}
use Rattle.std.specs.Prelude.{vec_capacity}
use Rattle.std.specs.List.{flat_map, range_with_len}
use Rattle.flk_dat.specs.Records.{record_at}
use Rattle.flk_dat.specs.Written.{word_bytes}
use Rattle.flk_dat.proofs.push_binary.push_words.Given as goal

abbrev pub invariant-loop-group : goal.invariant-loop-group
invariant-loop-group l = record {
  bytes : l.out.items ≡ l.fn.out.items ++ flat_map (word_bytes (record_at l.block.records l.row).digital) (range_with_len 0 l.group);
  len : vec_len l.out ≡ vec_len l.fn.out + 2 * l.group;
  capacity : vec_capacity l.out ≡ vec_capacity l.fn.out;
}
