-- Bytes have records, or a first fault.
use Rattle.std.proofs.Common.{◌≡◌, ◌≢◌, ◌⊎◌, ℕ, zero, suc, ◌+◌, ◌<◌, ◌≤◌, Bool, true, false, eqb, List, [], ◌∷◌, ◌++◌, length, get_or, Option, Some, refl, sym, ap, subst, ◌∙◌, arith, inl, inr, ℤ, pos, negsuc, length-append}
use Rattle.std.specs.List.{list_all}
use Rattle.std.proofs.lemmas.Bool.{cases_lt, cases_Bool, eqb-true, eq-eqb, true≢false}
use Rattle.std.proofs.lemmas.List.{get_or_append_left, get_or_past}
use Rattle.std.proofs.Math.Seq.{get_or-append_seam}
use Rattle.flk_text.specs.Lines.{is_byte}
use Rattle.flk_text.proofs.TextCases.{tail_cases}
use Rattle.flk_text.specs.Fields.{fields}
use Rattle.flk_field.specs.Values.{IsBit}
use Rattle.flk_field.specs.declared.form.Form.{Form}
use Rattle.flk_field.specs.declared.form.Form.TheVariants.{Ascii, Binary}
use Rattle.flk_dat.specs.Records.{DataRecord, Layout, Follows, last_number, IsPresent, ArePresent, missing_value}
use Rattle.flk_dat.specs.SampleFields.{Set, Number, Stamp, Analog, Digital, IsIn, IsNumber, IsStamp, IsSample, IsThere}
use Rattle.flk_dat.specs.AsciiRecords.{longest_line, field_total, column, IsRow, IsLine, RowFault, LineFault, IsBlank}
use Rattle.flk_dat.specs.BinaryRecords.{record_size, number_of, stamp_of, value_of, bit_of, IsBinary, IsFirstMissing, WholeFault}
use Rattle.flk_dat.specs.DataFile.{longest_tail, line_at, after_records, StandsInFront, IsRecord, FaultInFront, RecordFault, MayFollow, AreFirst, IsAccepted, IsFirstDataFault}
use Rattle.flk_dat.specs.declared.kind.Kind.{Kind}
use Rattle.flk_dat.specs.declared.kind.Kind.TheVariants as kinds
use Rattle.flk_dat.proofs.RowLemmas.{AreIn, column_number, column_stamp, column_analog, column_digital}
use Rattle.flk_dat.proofs.Sequences.{length_more, present_more}
use Rattle.flk_dat.proofs.StreamLemmas.{first_none, first_more}
use Rattle.flk_dat.proofs.FieldCases.{follows_cases, fields_cases}

-- a list of what is there at each place
record Filled {A : Type 0} (P : ℕ → A → Type 0) (n : ℕ) (d : A) : Type 0 where
  items : List A
  count : length items ≡ n
  each : (i : ℕ) → i < n → P i (get_or items i d)

fill : {A : Type 0} (P : ℕ → A → Type 0) (n : ℕ) (d : A) → ((i : ℕ) → i < n → (x : A) × P i x) → Filled P n d
fill {A} P zero d some = record { items = []; count = refl; each = λ i lt. absurd (omega (arith, lt)) }
fill {A} P (suc n) d some =
    let so = fill P n d (λ i lt. some i (omega (arith, lt))) in
    let next = some n (omega arith) in
    record {
      items = so.items ++ next.0 ∷ [];
      count = omega (arith, so.count, length-append so.items (next.0 ∷ []));
      each = λ i lt.
          elim (cases_lt i n) [
            | inl less ↦ subst (P i) (sym (get_or_append_left so.items (next.0 ∷ []) d i (omega (arith, less, so.count)))) (so.each i less)
            | inr more ↦
                let same : n ≡ i = omega (arith, lt, more) in
                let place : get_or (so.items ++ next.0 ∷ []) n d ≡ next.0 = ap (λ (k : ℕ). get_or (so.items ++ next.0 ∷ []) k d) (sym so.count) ∙ get_or-append_seam so.items next.0 [] d in
                subst (λ (k : ℕ). P k (get_or (so.items ++ next.0 ∷ []) k d)) same (subst (P n) (sym place) next.1)
          ];
    }

-- ---- lines

number_out : (before : Option ℕ) (f : List ℕ) → IsIn (Number before) f → (n : ℕ) × IsNumber f n × Follows before n
unfolding IsIn
number_out before f is = is

stamp_out : (f : List ℕ) → IsIn Stamp f → (s : Option ℕ) × IsStamp f s
unfolding IsIn
stamp_out f is = is

analog_out : (selected : Bool) (f : List ℕ) → IsIn (Analog selected) f → (z : ℤ) × IsSample f z × IsThere selected z
unfolding IsIn
analog_out selected f is = is

digital_out : (f : List ℕ) → IsIn Digital f → (b : Bool) × IsBit f b
unfolding IsIn
digital_out f is = is

-- a record that stands there and is good
record Good (form : Form) (selected : List Bool) (before : Option ℕ) (Stands : DataRecord → Type 0) : Type 0 where
  value : DataRecord
  is : Stands value
  follows : Follows before value.number
  present : IsPresent form selected value

row_good : (selected : List Bool) (digital : ℕ) (before : Option ℕ) (parts : List (List ℕ)) → length parts ≡ field_total (length selected) digital → AreIn (column selected before) parts (field_total (length selected) digital)
    → Good Ascii selected before (IsRow (length selected) digital parts)
row_good selected digital before parts count are =
    let number = number_out before (get_or parts 0 []) (subst (λ (s : Set). IsIn s (get_or parts 0 [])) (column_number selected before) (are 0 (omega arith))) in
    let stamp = stamp_out (get_or parts 1 []) (subst (λ (s : Set). IsIn s (get_or parts 1 [])) (column_stamp selected before) (are 1 (omega arith))) in
    let P : ℕ → ℤ → Type 0 = λ i z. IsSample (get_or parts (2 + i) []) z × IsThere (get_or selected i false) z in
    let values = fill P (length selected) (pos 0)
    (λ i lt. let out = analog_out (get_or selected i false) (get_or parts (2 + i) []) (subst (λ (s : Set). IsIn s (get_or parts (2 + i) [])) (column_analog selected before i lt) (are (2 + i) (omega (arith, lt)))) in (out.0, (out.1, out.2))) in
    let Q : ℕ → Bool → Type 0 = λ i b. IsBit (get_or parts (2 + length selected + i) []) b in
    let bits = fill Q digital false
    (λ i lt. digital_out (get_or parts (2 + length selected + i) []) (subst (λ (s : Set). IsIn s (get_or parts (2 + length selected + i) [])) (column_digital selected before i) (are (2 + length selected + i) (omega (arith, lt))))) in
    record {
      value = record { number = number.0; stamp = stamp.0; analog = values.items; digital = bits.items };
      is = record {
        count = count;
        number = number.1;
        stamp = stamp.1;
        analog_count = values.count;
        analog_values = λ i lt. (values.each i lt).0;
        digital_count = bits.count;
        digital_values = bits.each;
      };
      follows = number.2;
      present = λ i chosen.
          elim (cases_lt i (length selected)) [
            | inl lt ↦ (values.each i lt).1 chosen
            | inr out ↦ absurd (true≢false (sym chosen ∙ get_or_past selected i false out))
          ];
    }

abbrev RowCases : (selected : List Bool) → (digital : ℕ) → (before : Option ℕ) → List (List ℕ) → Type 0
RowCases selected digital before parts = Good Ascii selected before (IsRow (length selected) digital parts) ⊎ ((field : ℕ) × (kind : Kind) × RowFault selected digital before parts field kind)

row_cases : (selected : List Bool) (digital : ℕ) (before : Option ℕ) (parts : List (List ℕ)) → RowCases selected digital before parts
row_cases selected digital before parts =
    let total = field_total (length selected) digital in
    elim (cases_Bool (eqb (length parts) total)) [
      | inr other ↦ inr (0, kinds.Fields, inl ((λ e. true≢false (sym (eq-eqb (length parts) total e) ∙ other)), refl, refl))
      | inl same ↦
          let count = eqb-true (length parts) total same in
          elim (fields_cases (column selected before) parts total) [
            | inl are ↦ inl (row_good selected digital before parts count are)
            | inr out ↦ inr (out.0 + 1, out.1, inr (count, out.0, refl, out.2))
          ]
    ]

abbrev LineCases : (selected : List Bool) → (digital : ℕ) → (before : Option ℕ) → List ℕ → Type 0
LineCases selected digital before line = Good Ascii selected before (IsLine (length selected) digital line) ⊎ ((field : ℕ) × (kind : Kind) × LineFault selected digital before line field kind)

line_cases : (selected : List Bool) (digital : ℕ) (before : Option ℕ) (line : List ℕ) → LineCases selected digital before line
line_cases selected digital before line =
    elim (cases_lt longest_line (length line)) [
      | inl long ↦ inr (0, kinds.Length, inl (long, refl, refl))
      | inr short ↦ elim (row_cases selected digital before (fields line)) [
        | inl good ↦ inl (record { value = good.value; is = record { short = short; row = good.is }; follows = good.follows; present = good.present })
        | inr out ↦ inr (out.0, out.1, inr (short, out.2))
      ]
    ]

blank_cases : (rest : List ℕ) → IsBlank rest ⊎ (IsBlank rest → ⊥)
blank_cases rest =
    elim (cases_lt longest_line (length rest)) [
      | inl long ↦ inr (λ blank. omega (arith, long, blank.short))
      | inr short ↦ elim (cases_Bool (list_all (is_byte 32) rest)) [
        | inl spaces ↦ inl (record { short = short; spaces = spaces })
        | inr other ↦ inr (λ blank. true≢false (sym blank.spaces ∙ other))
      ]
    ]

-- ---- binary records

-- none of the first n channels that are selected has a missing value
abbrev NoneMissing : Form → List Bool → List ℕ → ℕ → Type 0
NoneMissing form selected bytes n = (j : ℕ) → j < n → get_or selected j false ≡ true → value_of form bytes j ≢ missing_value form

same_pos : (n m : ℕ) → pos n ≡ pos m → n ≡ m
same_pos n m e = cc

same_negsuc : (n m : ℕ) → negsuc n ≡ negsuc m → n ≡ m
same_negsuc n m e = cc

same_or_not : (z y : ℤ) → (z ≡ y) ⊎ (z ≡ y → ⊥)
same_or_not (pos n) (negsuc m) = inr (λ e. cc)
same_or_not (negsuc n) (pos m) = inr (λ e. cc)
same_or_not (pos n) (pos m) =
    elim (cases_Bool (eqb n m)) [
      | inl same ↦ inl (ap (λ (k : ℕ). pos k) (eqb-true n m same))
      | inr other ↦ inr (λ e. true≢false (sym (eq-eqb n m (same_pos n m e)) ∙ other))
    ]
same_or_not (negsuc n) (negsuc m) =
    elim (cases_Bool (eqb n m)) [
      | inl same ↦ inl (ap (λ (k : ℕ). negsuc k) (eqb-true n m same))
      | inr other ↦ inr (λ e. true≢false (sym (eq-eqb n m (same_negsuc n m e)) ∙ other))
    ]

missing_here : (form : Form) (selected : List Bool) (bytes : List ℕ) (i : ℕ) → ((get_or selected i false ≡ true) × (value_of form bytes i ≡ missing_value form))
    ⊎ ((get_or selected i false ≡ true) → (value_of form bytes i ≡ missing_value form) → ⊥)
missing_here form selected bytes i =
    elim (cases_Bool (get_or selected i false)) [
      | inr off ↦ inr (λ on e. true≢false (sym on ∙ off))
      | inl on ↦ elim (same_or_not (value_of form bytes i) (missing_value form)) [
        | inl e ↦ inl (on, e)
        | inr other ↦ inr (λ chosen e. other e)
      ]
    ]

missing_cases : (form : Form) (selected : List Bool) (bytes : List ℕ) (n : ℕ) → n ≤ length selected → NoneMissing form selected bytes n ⊎ ((i : ℕ) × IsFirstMissing form selected bytes i)
missing_cases form selected bytes zero le = inl (λ j lt. absurd (omega (arith, lt)))
missing_cases form selected bytes (suc n) le =
    elim (missing_cases form selected bytes n (omega (arith, le))) [
      | inr out ↦ inr out
      | inl so ↦ elim (missing_here form selected bytes n) [
        | inl here ↦ inr (n, record { within = omega (arith, le); left = so; chosen = here.0; missing = here.1 })
        | inr none ↦ inl (λ j lt.
            elim (cases_lt j n) [
              | inl less ↦ so j less
              | inr more ↦ let same : n ≡ j = omega (arith, lt, more) in subst (λ (k : ℕ). get_or selected k false ≡ true → value_of form bytes k ≢ missing_value form) same none
            ])
      ]
    ]

abbrev BinaryCases : Form → (selected : List Bool) → (digital : ℕ) → (before : Option ℕ) → List ℕ → Type 0
BinaryCases form selected digital before bytes = Good form selected before (IsBinary form (length selected) digital bytes) ⊎ ((field : ℕ) × (kind : Kind) × WholeFault form selected before bytes field kind)

binary_good : (form : Form) (selected : List Bool) (digital : ℕ) (before : Option ℕ) (bytes : List ℕ) → record_size form (length selected) digital ≤ length bytes → Follows before (number_of bytes) → NoneMissing form selected bytes (length selected)
    → Good form selected before (IsBinary form (length selected) digital bytes)
binary_good form selected digital before bytes whole follows none =
    let P : ℕ → ℤ → Type 0 = λ i z. z ≡ value_of form bytes i in
    let values = fill P (length selected) (pos 0) (λ i lt. (value_of form bytes i, refl)) in
    let Q : ℕ → Bool → Type 0 = λ i b. b ≡ bit_of form (length selected) bytes i in
    let bits = fill Q digital false (λ i lt. (bit_of form (length selected) bytes i, refl)) in
    record {
      value = record { number = number_of bytes; stamp = Some (stamp_of bytes); analog = values.items; digital = bits.items };
      is = record { whole = whole; number = refl; stamp = refl; analog_count = values.count; analog_values = values.each; digital_count = bits.count; digital_values = bits.each };
      follows = follows;
      present = λ i chosen e.
          elim (cases_lt i (length selected)) [
            | inl lt ↦ none i lt chosen (sym (values.each i lt) ∙ e)
            | inr out ↦ true≢false (sym chosen ∙ get_or_past selected i false out)
          ];
    }

binary_cases : (form : Form) (selected : List Bool) (digital : ℕ) (before : Option ℕ) (bytes : List ℕ) → record_size form (length selected) digital ≤ length bytes → BinaryCases form selected digital before bytes
binary_cases form selected digital before bytes whole =
    elim (follows_cases before (number_of bytes)) [
      | inr jump ↦ inr (1, kinds.Order, inl (jump, refl, refl))
      | inl follows ↦ elim (missing_cases form selected bytes (length selected) (omega arith)) [
        | inl none ↦ inl (binary_good form selected digital before bytes whole follows none)
        | inr out ↦ inr (out.0 + 3, kinds.Missing, inr (follows, out.0, refl, out.1, refl))
      ]
    ]

-- ---- both forms

front_cases : (form : Form) (l : Layout) (k : ℕ) (before : Option ℕ) (rest : List ℕ) → Good form l.selected before (StandsInFront form l k rest) ⊎ ((field : ℕ) × (kind : Kind) × FaultInFront form l k before rest field kind)
front_cases Ascii l k before rest =
    elim (blank_cases rest) [
      | inl blank ↦ inr (0, kinds.Short, inl (blank, refl, refl))
      | inr there ↦ elim (line_cases l.selected l.digital before (line_at l.records k rest)) [
        | inl good ↦ inl good
        | inr out ↦ inr (out.0, out.1, inr (there, out.2))
      ]
    ]
front_cases Binary l k before rest =
    elim (cases_lt (length rest) (record_size Binary (length l.selected) l.digital)) [
      | inl few ↦ inr (0, kinds.Short, inl (few, refl, refl))
      | inr whole ↦ elim (binary_cases Binary l.selected l.digital before rest whole) [
        | inl good ↦ inl good
        | inr out ↦ inr (out.0, out.1, inr (whole, out.2))
      ]
    ]

record_cases : (l : Layout) (k : ℕ) (before : Option ℕ) (rest : List ℕ) → Good l.form l.selected before (IsRecord l k rest) ⊎ ((field : ℕ) × (kind : Kind) × RecordFault l k before rest field kind)
unfolding IsRecord RecordFault
record_cases l k before rest = front_cases l.form l k before rest

follow_cases : (form : Form) (rest : List ℕ) → MayFollow form rest ⊎ (MayFollow form rest → ⊥)
follow_cases Ascii rest =
    elim (cases_lt longest_tail (length rest)) [
      | inl long ↦ inr (λ f. omega (arith, long, f.1))
      | inr short ↦ elim (tail_cases rest) [
        | inl tail ↦ inl (tail, short)
        | inr other ↦ inr (λ f. other f.0)
      ]
    ]
follow_cases Binary [] = inl refl
follow_cases Binary (b ∷ bs) = inr (λ e. cc)

-- the bytes begin with so many good records
record Reached (l : Layout) (bytes : List ℕ) (k : ℕ) : Type 0 where
  records : List DataRecord
  count : length records ≡ k
  first : AreFirst l bytes records
  present : ArePresent l records

abbrev HasFirstFault : Layout → List ℕ → Type 0
HasFirstFault l bytes = (row : ℕ) × (field : ℕ) × (kind : Kind) × IsFirstDataFault l bytes row field kind

reach : (l : Layout) (bytes : List ℕ) (k : ℕ) → k ≤ l.records → Reached l bytes k ⊎ HasFirstFault l bytes
reach l bytes zero le = inl (record { records = []; count = refl; first = first_none l bytes; present = λ j lt. absurd (omega (arith, lt)) })
reach l bytes (suc k) le =
    elim (reach l bytes k (omega (arith, le))) [
      | inr out ↦ inr out
      | inl so ↦
          let rs = so.records in
          let lt : length rs < l.records = omega (arith, le, so.count) in
          elim (record_cases l (length rs) (last_number rs) (after_records l (length rs) bytes)) [
            | inl good ↦ inl (record {
              records = rs ++ good.value ∷ [];
              count = omega (arith, length_more rs good.value, so.count);
              first = first_more l bytes rs good.value so.first lt good.is good.follows;
              present = present_more l rs good.value so.present good.present;
            })
            | inr out ↦ inr (length rs + 1, out.0, out.1, (rs, refl, record { first = so.first; present = so.present; here = inl (lt, out.2) }))
          ]
    ]

pub accepted_or_first_fault : (l : Layout) (bytes : List ℕ) → ((rs : List DataRecord) × IsAccepted l bytes rs) ⊎ ((row : ℕ) × (field : ℕ) × (kind : Kind) × IsFirstDataFault l bytes row field kind)
accepted_or_first_fault l bytes =
    elim (reach l bytes l.records (omega arith)) [
      | inr out ↦ inr out
      | inl so ↦ elim (follow_cases l.form (after_records l l.records bytes)) [
        | inl end ↦ inl (so.records, record { file = record { count = so.count; first = so.first; end = end }; present = so.present })
        | inr more ↦ inr (length so.records + 1, 0, kinds.Long, (so.records, refl, record { first = so.first; present = so.present; here = inr (so.count, (refl, refl, more)) }))
      ]
    ]
