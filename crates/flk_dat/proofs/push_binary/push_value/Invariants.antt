use Rattle.std.proofs.Common.{◌≡◌, ◌+◌, ◌++◌, take, vec_len}
use Rattle.std.specs.Prelude.{vec_capacity}
use Rattle.flk_dat.proofs.push_binary.push_value.Given as goal

abbrev pub invariant-loop-byte : goal.invariant-loop-byte
invariant-loop-byte l = record {
  bytes : l.out.items ≡ l.fn.out.items ++ take l.byte-index l.byte-items;
  len : vec_len l.out ≡ vec_len l.fn.out + l.byte-index;
  capacity : vec_capacity l.out ≡ vec_capacity l.fn.out;
}
