use Rattle.std.proofs.Common.{◌≡◌, ◌<◌, List, [], length, get_or, set, refl, sym, ap, ◌∙◌, arith, rules, length-set}
use Rattle.std.proofs.lemmas.List.{get_or_read_under, get_or_default, ext_get_or}
use Rattle.flk_dat.specs.Blocks.{row_in, HavePlace}
use Rattle.flk_dat.proofs.ColumnLemmas.{put_changes, each_put, row_length}
use Rattle.flk_dat.proofs.column.put_row.Goals as goal

pub index_mut-requires : goal.index_mut-requires
index_mut-requires g c =
    let lt : c.loop-column.column < length c.loop-column.columns.items = omega (arith, c.loop-column-test.true, c.loop-column.invariant.count, c.requires.same) in
    search (rules, lt)

pub put-requires : goal.put-requires
put-requires g c =
    let i = c.loop-column.column in
    let cs = c.loop-column.columns.items in
    let lt : i < length cs = omega (arith, c.loop-column-test.true, c.loop-column.invariant.count, c.requires.same) in
    let old : i < length c.args.columns.now.items = omega (arith, c.loop-column-test.true, c.requires.same) in
    let was : c.index_mut.result.now ≡ get_or cs i [] = get_or_read_under cs i (length cs) c.index_mut.result.now [] c.index_mut.ensures.value lt refl in
    omega (arith, ap length was, c.loop-column.invariant.places i, c.requires.places i old)

pub loop-column-preserved : goal.loop-column-preserved
loop-column-preserved g c =
    let i = c.loop-column.column in
    let k = c.args.place in
    let old = c.args.columns.now.items in
    let cs = c.loop-column.columns.items in
    let v = c.index-values-column.result in
    let so = c.loop-column.invariant in
    let lt : i < length cs = omega (arith, c.loop-column-test.true, so.count, c.requires.same) in
    let have : HavePlace k cs = λ j there. omega (arith, so.places j, c.requires.places j (omega (arith, there, so.count))) in
    let was : c.index_mut.result.now ≡ get_or cs i [] = get_or_read_under cs i (length cs) c.index_mut.result.now [] c.index_mut.ensures.value lt refl in
    let is : c.put.new.self ≡ set (get_or cs i []) k v = c.put.ensures ∙ ap (λ (x : List g.row.T.Denot). set x k v) was in
    record {
      count = length-set cs i c.put.new.self ∙ so.count;
      places = (put_changes k v old cs i v c.put.new.self (so.changed v) lt is).places;
      changed = λ none. put_changes k none old cs i v c.put.new.self (so.changed none) lt is;
      row = λ none.
          each_put (λ j z. z ≡ get_or c.args.values.now j none) k none cs i v c.put.new.self have lt is (so.row none)
          (c.index-values-column.is ∙ get_or_default c.args.values.now i v none c.loop-column-test.true);
    }

pub returns-clause-row : goal.returns-clause-row
returns-clause-row g c = λ none.
    let k = c.args.place in
    let cs = c.loop-column.columns.items in
    let values = c.args.values.now in
    let size : length (row_in k none cs) ≡ length values = row_length k none cs ∙ c.loop-column.invariant.count ∙ sym c.requires.same in
    ext_get_or none (row_in k none cs) values size (λ j lt. c.loop-column.invariant.row none j (omega (arith, lt, size, c.loop-column-test.false)))
