use Rattle.std.proofs.Common.{◌≡◌, ◌+◌, ◌<◌, ◌≤◌, ℕ, ℤ, List, [], get_or, length, drop, sym, ap, subst, ◌∙◌, arith, false, Bool, pos, inl, inr, Option}
use Rattle.std.proofs.lemmas.List.{get_or-drop, get_or_past, drop-drop}
use Rattle.std.proofs.lemmas.Bool.{cases_lt, true≢false}
use Rattle.flk_field.specs.Values.{IsBit}
use Rattle.flk_dat.specs.Records.{Follows}
use Rattle.flk_dat.specs.SampleFields.{Analog, Digital, IsSample, IsNumber, IsStamp}
use Rattle.flk_dat.specs.AsciiRecords.{column, field_total, IsFirstOut}
use Rattle.flk_num.proofs.StopLemmas.{err_exit}
use Rattle.flk_dat.specs.Blocks.{row_in}
use Rattle.flk_dat.proofs.ColumnLemmas.{row_length}
use Rattle.flk_dat.proofs.RowLemmas.{length_left, number_in, stamp_in, analog_in, head_are_in, analog_are_in, fault_in_head, fault_in_analog, fault_in_digital, AreIn}
use Rattle.flk_text.specs.Fields.{fields}
use Rattle.flk_dat.specs.Heads.{head_column}
use Rattle.flk_dat.proofs.line.read_fields.Goals as goal
use Rattle.flk_dat.specs.declared.kind.Fault.{Fault}

abbrev FaultOf : List Bool → Option ℕ → ℕ → List (List ℕ) → Fault → Type 0
FaultOf selected before digital parts f = (i : ℕ) × (f.field ≡ i + 1) × IsFirstOut (column selected before) (field_total (length selected) digital) parts i f.kind

pub returns-in_err-head-clause-fault : goal.returns-in_err-head-clause-fault
returns-in_err-head-clause-fault c = λ enough.
    let all = fields c.args.line.now in
    let selected = c.args.channels.now.selected.items in
    let total = field_total (length selected) (c.args.channels.now.digital) in
    let f = c.in_err-head.field-0.0 in
    let two : 2 ≤ length c.new-fields.result = omega (arith, enough, ap length c.new-fields.ensures) in
    let e = c.in_err-head.ensures.fault two in
    let room : 2 ≤ total = omega arith in
    err_exit c.from_residual.result (λ _. Unit {0}) (FaultOf selected c.args.before (c.args.channels.now.digital) all) f c.from_residual.ensures.1
    (e.0, e.1, fault_in_head selected c.args.before total all e.0 f.kind room (subst (λ (x : List (List ℕ)). IsFirstOut (head_column c.args.before) 2 x e.0 f.kind) c.new-fields.ensures e.2))

-- the first two fields are in their sets
head_good : (selected : List Bool) (before : Option ℕ) (all start : List (List ℕ)) (n : ℕ) (stamp : Option ℕ) → start ≡ all → IsNumber (get_or start 0 []) n × Follows before n × IsStamp (get_or start 1 []) stamp
    → AreIn (column selected before) all 2
head_good selected before all start n stamp same h =
    head_are_in selected before all
    (number_in before (get_or all 0 []) n (subst (λ (x : List (List ℕ)). IsNumber (get_or x 0 []) n) same h.0) h.1)
    (stamp_in (get_or all 1 []) stamp (subst (λ (x : List (List ℕ)). IsStamp (get_or x 1 []) stamp) same h.2))

-- the analog values are in their sets
analog_good : (selected : List Bool) (all left : List (List ℕ)) (values : List ℤ) → left ≡ drop 2 all → ((i : ℕ) → i < length selected → IsSample (get_or left i []) (get_or values i (pos 0)))
    → (i : ℕ) → i < length selected → IsSample (get_or all (2 + i) []) (get_or values i (pos 0))
analog_good selected all left values same samples i lt =
    subst (λ (f : List ℕ). IsSample f (get_or values i (pos 0))) (ap (λ (x : List (List ℕ)). get_or x i []) same ∙ get_or-drop 2 all i []) (samples i lt)

left_after : (n : ℕ) (all left rest : List (List ℕ)) → left ≡ drop 2 all → rest ≡ drop n left → rest ≡ drop (2 + n) all
left_after n all left rest same is = is ∙ ap (drop n) same ∙ drop-drop n 2 all

pub returns-in_err-read_analog-clause-fault : goal.returns-in_err-read_analog-clause-fault
returns-in_err-read_analog-clause-fault c = λ enough.
    let all = fields c.args.line.now in
    let selected = c.args.channels.now.selected.items in
    let digital = c.args.channels.now.digital in
    let f = c.in_err-read_analog.field-0.0 in
    let head = c.in_ok-head.head in
    let left : c.read_head.new.fields ≡ drop 2 all = c.in_ok-head.ensures.left ∙ ap (drop 2) c.new-fields.ensures in
    let e = c.in_err-read_analog.ensures.fault (omega (arith, enough, length_left 2 all c.read_head.new.fields left)) in
    let good = head_good selected c.args.before all c.new-fields.result head.number head.stamp c.new-fields.ensures c.in_ok-head.ensures.head in
    let place : f.field ≡ 2 + e.0 + 1 = omega (arith, e.1) in
    err_exit c.from_residual-in_err-read_analog.result (λ _. Unit {0}) (FaultOf selected c.args.before digital all) f c.from_residual-in_err-read_analog.ensures.1
    (2 + e.0, place, fault_in_analog selected c.args.before digital all e.0 f.kind good (subst (λ (x : List (List ℕ)). IsFirstOut (λ j. Analog (get_or selected j false)) (length selected) x e.0 f.kind) left e.2))

pub returns-in_err-read_digital-clause-fault : goal.returns-in_err-read_digital-clause-fault
returns-in_err-read_digital-clause-fault c = λ enough.
    let all = fields c.args.line.now in
    let selected = c.args.channels.now.selected.items in
    let digital = c.args.channels.now.digital in
    let f = c.in_err-read_digital.field-0.0 in
    let head = c.in_ok-head.head in
    let left : c.read_head.new.fields ≡ drop 2 all = c.in_ok-head.ensures.left ∙ ap (drop 2) c.new-fields.ensures in
    let good = head_good selected c.args.before all c.new-fields.result head.number head.stamp c.new-fields.ensures c.in_ok-head.ensures.head in
    let samples = analog_good selected all c.read_head.new.fields (row_in c.args.row (pos 0) c.read_analog.new.columns.items) left c.in_ok-read_analog.ensures.samples in
    let full : length selected ≤ length selected = omega arith in
    let front = analog_are_in selected c.args.before all (length selected) full good
    (λ j lt. analog_in (get_or selected j false) (get_or all (2 + j) []) (get_or (row_in c.args.row (pos 0) c.read_analog.new.columns.items) j (pos 0)) (samples j lt) (c.in_ok-read_analog.ensures.present j lt)) in
    let rest = left_after (length selected) all c.read_head.new.fields c.read_analog.new.fields left c.in_ok-read_analog.ensures.left in
    let e = c.in_err-read_digital.ensures.fault (omega (arith, enough, c.requires.row.digital, length_left (2 + length selected) all c.read_analog.new.fields rest)) in
    let place : f.field ≡ 2 + length selected + e.0 + 1 = omega (arith, e.1) in
    err_exit c.from_residual-in_err-read_digital.result (λ _. Unit {0}) (FaultOf selected c.args.before digital all) f c.from_residual-in_err-read_digital.ensures.1
    (2 + length selected + e.0, place, fault_in_digital selected c.args.before digital all e.0 f.kind front (subst (λ (x : List (List ℕ)). IsFirstOut (λ j. Digital) digital x e.0 f.kind) rest (subst (λ (n : ℕ). IsFirstOut (λ j. Digital) n c.read_analog.new.fields e.0 f.kind) c.requires.row.digital e.2)))

pub returns-in-None-clause-row : goal.returns-in-None-clause-row
returns-in-None-clause-row c =
    let all = fields c.args.line.now in
    let selected = c.args.channels.now.selected.items in
    let head = c.in_ok-head.head in
    let h = c.in_ok-head.ensures.head in
    let left : c.read_head.new.fields ≡ drop 2 all = c.in_ok-head.ensures.left ∙ ap (drop 2) c.new-fields.ensures in
    let samples = analog_good selected all c.read_head.new.fields (row_in c.args.row (pos 0) c.read_analog.new.columns.items) left c.in_ok-read_analog.ensures.samples in
    let rest = left_after (length selected) all c.read_head.new.fields c.read_analog.new.fields left c.in_ok-read_analog.ensures.left in (
      record {
        count = omega (arith, c.requires.row.digital, c.in_ok-head.ensures.there, ap length c.new-fields.ensures, c.in_ok-read_analog.ensures.there, c.in_ok-read_digital.ensures.there, length_left 2 all c.read_head.new.fields left, length_left (length selected) c.read_head.new.fields c.read_analog.new.fields c.in_ok-read_analog.ensures.left, length_left _ c.read_analog.new.fields c.read_digital.new.fields c.in_ok-read_digital.ensures.left, ap length c.in-None.ensures.0);
        number = subst (λ (x : List (List ℕ)). IsNumber (get_or x 0 []) head.number) c.new-fields.ensures h.0;
        stamp = subst (λ (x : List (List ℕ)). IsStamp (get_or x 1 []) head.stamp) c.new-fields.ensures h.2;
        analog_count = omega (arith, c.requires.row.analog, c.in_ok-read_analog.ensures.changed.count, row_length c.args.row (pos 0) c.read_analog.new.columns.items);
        analog_values = samples;
        digital_count = omega (arith, c.requires.row.digital, c.in_ok-read_digital.ensures.changed.count, row_length c.args.row false c.read_digital.new.columns.items);
        digital_values = λ i lt. subst (λ (f : List ℕ). IsBit f (get_or (row_in c.args.row false c.read_digital.new.columns.items) i false)) (ap (λ (x : List (List ℕ)). get_or x i []) rest ∙ get_or-drop (2 + length selected) all i []) (c.in_ok-read_digital.ensures.bits i (omega (arith, lt, c.requires.row.digital)));
      },
      h.1,
      λ i chosen.
          elim (cases_lt i (length selected)) [
            | inl lt ↦ c.in_ok-read_analog.ensures.present i lt chosen
            | inr out ↦ absurd (true≢false (sym chosen ∙ get_or_past selected i false out))
          ],
    )

pub returns-in-Some-clause-fault : goal.returns-in-Some-clause-fault
returns-in-Some-clause-fault c = λ enough.
    let all = fields c.args.line.now in
    let selected = c.args.channels.now.selected.items in
    let left : c.read_head.new.fields ≡ drop 2 all = c.in_ok-head.ensures.left ∙ ap (drop 2) c.new-fields.ensures in
    absurd (omega (arith, enough, c.requires.row.digital, length_left 2 all c.read_head.new.fields left, length_left (length selected) c.read_head.new.fields c.read_analog.new.fields c.in_ok-read_analog.ensures.left, length_left _ c.read_analog.new.fields c.read_digital.new.fields c.in_ok-read_digital.ensures.left, ap length c.in-Some.ensures))
