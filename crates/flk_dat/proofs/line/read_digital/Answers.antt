use Rattle.std.proofs.Common.{◌≡◌, ◌<◌, ℕ, List, [], get_or, set, length, refl, ap, subst, ◌∙◌, arith, false, Bool}
use Rattle.std.proofs.lemmas.List.{get_or_read_under}
use Rattle.flk_field.specs.Values.{IsBit}
use Rattle.flk_dat.specs.SampleFields.{Digital, Refuses}
use Rattle.flk_dat.specs.Blocks.{row_in}
use Rattle.flk_dat.proofs.ColumnLemmas.{put_changes, each_put, place_kept}
use Rattle.flk_dat.proofs.RowLemmas.{field_taken, fields_left_then, none_left, one_left, digital_in}
use Rattle.flk_dat.proofs.line.read_digital.Goals as goal

pub returns-in-Err-clause-fault : goal.returns-in-Err-clause-fault
returns-in-Err-clause-fault c = λ enough.
    let all = c.args.fields.now in
    let i = c.loop-i.i in
    let row = row_in c.args.row false c.loop-i.columns.items in
    let taken = c.in-Some.ensures in
    let here = field_taken all c.loop-i.fields c.next_whole.new.fields i taken.0 c.loop-i.invariant.left taken.1 in (
      i,
      refl,
      record {
        within = omega (arith, c.loop-i-test.true, c.len-i-end.ensures);
        left = λ j lt. digital_in (get_or all j []) (get_or row j false) (c.loop-i.invariant.bits j lt);
        here = subst (λ (f : List ℕ). Refuses Digital f c.in-Err.kind) here (c.in-Err.ensures taken.0 taken.2);
      },
    )

pub loop-i-preserved : goal.loop-i-preserved
loop-i-preserved c =
    let all = c.args.fields.now in
    let i = c.loop-i.i in
    let k = c.args.row in
    let old = c.args.columns.now.items in
    let cs = c.loop-i.columns.items in
    let v = c.in-Ok.value in
    let so = c.loop-i.invariant.changed in
    let lt : i < length cs = omega (arith, c.loop-i-test.true, c.len-i-end.ensures, so.count) in
    let have = place_kept k false old cs c.requires.places so in
    let was : c.index_mut.result.now ≡ get_or cs i [] = get_or_read_under cs i (length cs) c.index_mut.result.now [] c.index_mut.ensures.value lt refl in
    let is : c.put.new.self ≡ set (get_or cs i []) k v = c.put.ensures ∙ ap (λ (x : List Bool). set x k v) was in
    let taken = c.in-Some.ensures in
    let here = field_taken all c.loop-i.fields c.next_whole.new.fields i taken.0 c.loop-i.invariant.left taken.1 in
    record {
      within = one_left all c.loop-i.fields c.next_whole.new.fields i taken.0 c.loop-i.invariant.left taken.1;
      left = fields_left_then all c.loop-i.fields c.next_whole.new.fields i taken.0 c.loop-i.invariant.left taken.1;
      changed = put_changes k false old cs i v c.put.new.self so lt is;
      bits = each_put (λ j b. IsBit (get_or all j []) b) k false cs i v c.put.new.self have lt is c.loop-i.invariant.bits (subst (λ (f : List ℕ). IsBit f v) here (c.in-Ok.ensures taken.0 taken.2));
    }

pub returns-in_default-clause-fault : goal.returns-in_default-clause-fault
returns-in_default-clause-fault c = λ enough.
    let few = none_left c.args.fields.now c.loop-i.fields c.loop-i.i c.loop-i.invariant.left c.in_default.ensures in
    absurd (omega (arith, few, enough, c.loop-i-test.true, c.len-i-end.ensures, c.loop-i.invariant.changed.count))

pub returns-clause-there : goal.returns-clause-there
returns-clause-there c = omega (arith, c.loop-i.invariant.within, c.loop-i-test.false, c.len-i-end.ensures, c.loop-i.invariant.changed.count)
