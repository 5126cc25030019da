use Rattle.std.proofs.Common.{◌≡◌, ◌<◌, ℕ, List, [], length, get_or, set, refl, ap, subst, ◌∙◌, arith, rules, ℤ, pos, Bool, false}
use Rattle.std.specs.Prelude.{FitsSigned}
use Rattle.std.specs.Int.{w32}
use Rattle.std.proofs.lemmas.Int.{to_z-of_z}
use Rattle.std.proofs.lemmas.List.{get_or_read_under}
use Rattle.flk_dat.specs.SampleFields.{Analog, Refuses, IsSample, IsThere}
use Rattle.flk_dat.specs.Blocks.{row_in}
use Rattle.flk_dat.proofs.ColumnLemmas.{put_changes, each_put, place_kept}
use Rattle.flk_dat.proofs.RowLemmas.{field_taken, fields_left_then, none_left, one_left, analog_in}
use Rattle.flk_dat.proofs.line.read_analog.Goals as goal

pub returns-in-Err-clause-fault : goal.returns-in-Err-clause-fault
returns-in-Err-clause-fault c = λ enough.
    let all = c.args.fields.now in
    let i = c.loop-i.i in
    let selected = c.args.channels.now.selected.items in
    let row = row_in c.args.row (pos 0) c.loop-i.columns.items in
    let below : i < length selected = omega (arith, c.loop-i-test.true, c.len-i-end.ensures) in
    let chosen : c.index.result.now ≡ get_or selected i false = get_or_read_under selected i (length selected) c.index.result.now false c.index.ensures below refl in
    let taken = c.in-Some.ensures in
    let here = field_taken all c.loop-i.fields c.next_whole.new.fields i taken.0 c.loop-i.invariant.left taken.1 in (
      i,
      refl,
      record {
        within = below;
        left = λ j lt. analog_in (get_or selected j false) (get_or all j []) (get_or row j (pos 0)) (c.loop-i.invariant.samples j lt) (c.loop-i.invariant.present j lt);
        here = subst (λ (b : Bool). Refuses (Analog b) (get_or all i []) c.in-Err.kind) chosen (subst (λ (f : List ℕ). Refuses (Analog c.index.result.now) f c.in-Err.kind) here (c.in-Err.ensures.value taken.0 taken.2));
      },
    )

pub loop-i-preserved : goal.loop-i-preserved
loop-i-preserved c =
    let all = c.args.fields.now in
    let i = c.loop-i.i in
    let k = c.args.row in
    let selected = c.args.channels.now.selected.items in
    let old = c.args.columns.now.items in
    let cs = c.loop-i.columns.items in
    let v = c.in-Ok.value in
    let so = c.loop-i.invariant.changed in
    let lt : i < length cs = omega (arith, c.loop-i-test.true, c.len-i-end.ensures, so.count, c.requires.same) in
    let have = place_kept k (pos 0) old cs c.requires.places so in
    let was : c.index_mut.result.now ≡ get_or cs i [] = get_or_read_under cs i (length cs) c.index_mut.result.now [] c.index_mut.ensures.value lt refl in
    let fits : FitsSigned w32 v = search rules in
    let put : c.put.new.self ≡ set c.index_mut.result.now k v = simp to_z-of_z at c.put.ensures in
    let is : c.put.new.self ≡ set (get_or cs i []) k v = put ∙ ap (λ (x : List ℤ). set x k v) was in
    let below : i < length selected = omega (arith, c.loop-i-test.true, c.len-i-end.ensures) in
    let chosen : c.index.result.now ≡ get_or selected i false = get_or_read_under selected i (length selected) c.index.result.now false c.index.ensures below refl in
    let taken = c.in-Some.ensures in
    let here = field_taken all c.loop-i.fields c.next_whole.new.fields i taken.0 c.loop-i.invariant.left taken.1 in
    record {
      within = one_left all c.loop-i.fields c.next_whole.new.fields i taken.0 c.loop-i.invariant.left taken.1;
      left = fields_left_then all c.loop-i.fields c.next_whole.new.fields i taken.0 c.loop-i.invariant.left taken.1;
      changed = put_changes k (pos 0) old cs i v c.put.new.self so lt is;
      samples = each_put (λ j z. IsSample (get_or all j []) z) k (pos 0) cs i v c.put.new.self have lt is c.loop-i.invariant.samples (subst (λ (f : List ℕ). IsSample f v) here (c.in-Ok.ensures.value taken.0 taken.2));
      present = each_put (λ j z. IsThere (get_or selected j false) z) k (pos 0) cs i v c.put.new.self have lt is c.loop-i.invariant.present (subst (λ (b : Bool). IsThere b v) chosen c.in-Ok.ensures.there);
    }

pub returns-in_default-clause-fault : goal.returns-in_default-clause-fault
returns-in_default-clause-fault c = λ enough.
    let few = none_left c.args.fields.now c.loop-i.fields c.loop-i.i c.loop-i.invariant.left c.in_default.ensures in
    absurd (omega (arith, few, enough, c.loop-i-test.true, c.len-i-end.ensures))

pub returns-clause-there : goal.returns-clause-there
returns-clause-there c = omega (arith, c.loop-i.invariant.within, c.loop-i-test.false, c.len-i-end.ensures)
