use Rattle.std.proofs.Common.{◌≡◌, ◌≢◌, ◌<◌, ℕ, List, [], length, get_or, set, subst, ap, ◌∙◌, arith, rules, ℤ, pos, true, false, inl, inr}
use Rattle.std.proofs.lemmas.Bool.{cases_lt}
use Rattle.std.specs.Prelude.{FitsSigned}
use Rattle.std.specs.Int.{w32}
use Rattle.std.proofs.lemmas.Int.{to_z-of_z}
use Rattle.std.proofs.lemmas.List.{get_or_default}
use Rattle.flk_dat.specs.Records.{missing_value}
use Rattle.flk_dat.specs.BinaryRecords.{value_of}
use Rattle.flk_dat.proofs.ColumnLemmas.{put_changes, each_put, place_kept}
use Rattle.flk_dat.proofs.binary.read_values.Goals as goal

pub loop-i-preserved : goal.loop-i-preserved
loop-i-preserved c =
    let i = c.loop-i.i in
    let k = c.args.row in
    let form = c.args.form in
    let bytes = c.args.bytes.now in
    let selected = c.args.selected.now in
    let old = c.args.columns.now in
    let cs = c.loop-i.columns in
    let v = c.in-Some.value in
    let so = c.loop-i.invariant.changed in
    let lt : i < length cs = omega (arith, c.loop-i-test.true, so.count, c.requires.same) in
    let have = place_kept k (pos 0) old cs c.requires.places so in
    let fits : FitsSigned w32 v = search rules in
    let was : get_or cs i c.index-columns-i.result ≡ get_or cs i [] = get_or_default cs i c.index-columns-i.result [] lt in
    let put : c.put.new.self ≡ set (get_or cs i c.index-columns-i.result) k v = simp to_z-of_z at c.put.ensures in
    let is : c.put.new.self ≡ set (get_or cs i []) k v = put ∙ ap (λ (x : List ℤ). set x k v) was in
    let here : i < length selected = omega (arith, c.loop-i-test.true) in
    let there : get_or selected i false ≡ true → value_of form bytes i ≢ missing_value form = c.in-Some.ensures.1 in
    record {
      changed = put_changes k (pos 0) old cs i v c.put.new.self so lt is;
      values = each_put (λ j z. z ≡ value_of form bytes j) k (pos 0) cs i v c.put.new.self have lt is c.loop-i.invariant.values c.in-Some.ensures.0;
      present = λ j below on.
          elim (cases_lt j i) [
            | inl less ↦ c.loop-i.invariant.present j less on
            | inr more ↦
                let same : i ≡ j = omega (arith, below, more) in
                subst (λ (m : ℕ). get_or selected m false ≡ true → value_of form bytes m ≢ missing_value form) same there on
          ];
    }
