use Rattle.std.proofs.Common.{◌≡◌, ◌<◌, List, [], length, get_or, set, refl, ap, ◌∙◌, arith, Bool, false, rules}
use Rattle.std.proofs.lemmas.List.{get_or_read_under}
use Rattle.flk_dat.specs.BinaryRecords.{bit_of}
use Rattle.flk_dat.proofs.ColumnLemmas.{put_changes, each_put, place_kept}
use Rattle.flk_dat.proofs.binary.read_bits.Goals as goal

pub loop-i-preserved : goal.loop-i-preserved
loop-i-preserved c =
    let i = c.loop-i.i in
    let k = c.args.row in
    let old = c.args.columns.now.items in
    let cs = c.loop-i.columns.items in
    let v = bit_of c.args.form c.args.analog c.args.bytes.now i in
    let so = c.loop-i.invariant.changed in
    let lt : i < length cs = omega (arith, c.loop-i-test.true, so.count) in
    let have = place_kept k false old cs c.requires.places so in
    let was : c.index_mut.result.now ≡ get_or cs i [] = get_or_read_under cs i (length cs) c.index_mut.result.now [] c.index_mut.ensures.value lt refl in
    let put : c.put.new.self ≡ set c.index_mut.result.now k v = search rules in
    let is : c.put.new.self ≡ set (get_or cs i []) k v = put ∙ ap (λ (x : List Bool). set x k v) was in
    record {
      changed = put_changes k false old cs i v c.put.new.self so lt is;
      values = each_put (λ j b. b ≡ bit_of c.args.form c.args.analog c.args.bytes.now j) k false cs i v c.put.new.self have lt is c.loop-i.invariant.values refl;
    }
