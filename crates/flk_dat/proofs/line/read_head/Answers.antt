use Rattle.std.proofs.Common.{◌≡◌, ℕ, List, [], ◌∷◌, get_or, drop, refl, subst, arith, rules}
use Rattle.flk_dat.specs.SampleFields.{Number, Stamp, IsIn, IsNumber, IsStamp, Refuses}
use Rattle.flk_dat.specs.Heads.{head_column}
use Rattle.flk_dat.proofs.RowLemmas.{field_taken, fields_left_then, number_in}
use Rattle.flk_dat.proofs.line.read_head.Goals as goal

-- the first field, and the second one
taken_first : (all rest : List (List ℕ)) (f : List ℕ) → all ≡ f ∷ rest → (f ≡ get_or all 0 []) × (rest ≡ drop 1 all)
taken_first all rest f is = (field_taken all all rest 0 f refl is, fields_left_then all all rest 0 f refl is)

pub returns-in-Some-Ok-clause-head : goal.returns-in-Some-Ok-clause-head
returns-in-Some-Ok-clause-head c =
    let all = c.args.fields.now in
    let number = c.in-Some.ensures in
    let stamp = c.in-Some-Ok.ensures in
    let first = taken_first all c.next_whole.new.fields number.0 number.1 in
    let second : stamp.0 ≡ get_or all 1 [] = field_taken all c.next_whole.new.fields c.next_stamp.new.fields 1 stamp.0 first.1 stamp.1 in
    let good = c.in-Ok.ensures number.0 number.2 in
    let is : IsStamp stamp.0 c.in-Some-Ok.stamp = search rules in
    (subst (λ (f : List ℕ). IsNumber f c.in-Ok.number) first.0 good.0, good.1, subst (λ (f : List ℕ). IsStamp f c.in-Some-Ok.stamp) second is)

pub returns-in-Some-Err-clause-fault : goal.returns-in-Some-Err-clause-fault
returns-in-Some-Err-clause-fault c = λ enough.
    let all = c.args.fields.now in
    let number = c.in-Some.ensures in
    let stamp = c.in-Some-Err.ensures in
    let first = taken_first all c.next_whole.new.fields number.0 number.1 in
    let second : stamp.0 ≡ get_or all 1 [] = field_taken all c.next_whole.new.fields c.next_stamp.new.fields 1 stamp.0 first.1 stamp.1 in
    let good = c.in-Ok.ensures number.0 number.2 in
    let is : Refuses Stamp stamp.0 c.in-Some-Err.kind = search rules in (
      1,
      refl,
      record {
        within = omega arith;
        left = λ j lt.
            let same : 0 ≡ j = omega (arith, lt) in
            subst (λ (k : ℕ). IsIn (head_column c.args.before k) (get_or all k [])) same (subst (IsIn (Number c.args.before)) first.0 (number_in c.args.before number.0 c.in-Ok.number good.0 good.1));
        here = subst (λ (f : List ℕ). Refuses Stamp f c.in-Some-Err.kind) second is;
      },
    )
