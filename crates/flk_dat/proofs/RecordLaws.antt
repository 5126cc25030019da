-- A record at the front of bytes is one, or has one fault.
use Rattle.std.proofs.Common.{◌≡◌, ◌≢◌, ℕ, zero, suc, ◌+◌, ◌-◌, ◌<◌, ◌≤◌, Bool, true, false, cond, eqb, List, [], ◌∷◌, length, get_or, take, Option, Some, None, refl, sym, ap, subst, ◌∙◌, arith, inl, inr, ℤ, pos, length-append}
use Rattle.std.specs.List.{list_all, count_by, before_first, position_or_len}
use Rattle.std.proofs.lemmas.Bool.{cases_lt, cases_Bool, and_parts, and_from, eqb-true, ne_eqb}
use Rattle.std.proofs.lemmas.List.{ext_get_or}
use Rattle.flk_text.specs.WholeNumber.{IsWholeForm}
use Rattle.flk_text.specs.Fields.{fields}
use Rattle.flk_text.specs.Lines.{is_byte, without_cr}
use Rattle.flk_text.proofs.FieldLemmas.{fields_count}
use Rattle.flk_text.proofs.DecimalLaws.{whole_once}
use Rattle.flk_field.specs.Values.{IsWholeFrom, IsBit}
use Rattle.flk_field.specs.declared.form.Form.{Form}
use Rattle.flk_field.specs.declared.form.Form.TheVariants.{Ascii, Binary}
use Rattle.flk_field.proofs.FieldJudges.{whole_form}
use Rattle.flk_field.proofs.FieldLaws.{whole_from_once, bit_once}
use Rattle.flk_dat.specs.Records.{DataRecord, Layout, Follows, IsPresent}
use Rattle.flk_dat.specs.SampleFields.{most_number, most_stamp, IsStamp, IsSample, Set, Number, Stamp, Analog, Digital, IsIn, Refuses, NoWhole, NoSample}
use Rattle.flk_dat.specs.AsciiRecords.{field_total, IsRow, IsLine, column, IsFirstOut, RowFault, LineFault, IsBlank}
use Rattle.flk_dat.specs.BinaryRecords.{IsBinary, IsFirstMissing, WholeFault, BinaryFault}
use Rattle.flk_dat.specs.DataFile.{line_at, StandsInFront, IsRecord, FaultInFront, RecordFault}
use Rattle.flk_dat.specs.declared.kind.Kind.{Kind}
use Rattle.flk_dat.specs.Streams.{ends_line}
use Rattle.flk_dat.proofs.LineEnds.{line_is}
use Rattle.flk_dat.proofs.RowLemmas.{AreIn, number_in, stamp_in, analog_in, digital_in, head_are_in, analog_are_in, digital_are_in}

-- ---- fields

-- no whole number is written by nothing
whole_of_nothing : IsWholeForm [] → ⊥
whole_of_nothing w = omega (arith, w.2.some, ap length w.2.text_is, length-append w.2.sign w.2.digits)

stamp_once : (f : List ℕ) (s t : Option ℕ) → IsStamp f s → IsStamp f t → s ≡ t
stamp_once f None None a b = refl
stamp_once f None (Some n) a b = absurd (whole_of_nothing (subst IsWholeForm a (whole_form f (pos n) b.value)))
stamp_once f (Some n) None a b = absurd (whole_of_nothing (subst IsWholeForm b (whole_form f (pos n) a.value)))
stamp_once f (Some n) (Some m) a b = ap (λ (k : ℕ). Some k) (whole_from_once 0 most_stamp f n m a b)

in_whole : (most : ℕ) (f : List ℕ) (n : ℕ) (kind : Kind) → IsWholeFrom 0 most f n → NoWhole most f kind → ⊥
in_whole most f n kind is (inl none) = none.1 (whole_form f (pos n) is.value)
in_whole most f n kind is (inr none) = none.2 n is

one_whole : (most : ℕ) (f : List ℕ) (k j : Kind) → NoWhole most f k → NoWhole most f j → k ≡ j
one_whole most f k j (inl a) (inl b) = a.0 ∙ sym b.0
one_whole most f k j (inl a) (inr b) = absurd (a.1 b.1)
one_whole most f k j (inr a) (inl b) = absurd (b.1 a.1)
one_whole most f k j (inr a) (inr b) = a.0 ∙ sym b.0

in_sample : (f : List ℕ) (z : ℤ) (kind : Kind) → IsSample f z → NoSample f kind → ⊥
in_sample f z kind is (inl none) = none.1 (whole_form f z is.value)
in_sample f z kind is (inr none) = none.2 z is

one_sample : (f : List ℕ) (k j : Kind) → NoSample f k → NoSample f j → k ≡ j
one_sample f k j (inl a) (inl b) = a.0 ∙ sym b.0
one_sample f k j (inl a) (inr b) = absurd (a.1 b.1)
one_sample f k j (inr a) (inl b) = absurd (b.1 a.1)
one_sample f k j (inr a) (inr b) = a.0 ∙ sym b.0

no_bit : (f : List ℕ) (b : Bool) (kind : Kind) → IsBit f b → NoWhole 1 f kind → ⊥
no_bit f b kind is out = in_whole 1 f (cond b 1 0) kind is out

stamp_refused : (f : List ℕ) (s : Option ℕ) (kind : Kind) → IsStamp f s → f ≢ [] → NoWhole most_stamp f kind → ⊥
stamp_refused f None kind is some out = some is
stamp_refused f (Some n) kind is some out = in_whole most_stamp f n kind is out

-- a field in its set isn't refused
in_or_out : (s : Set) (f : List ℕ) (kind : Kind) → IsIn s f → Refuses s f kind → ⊥
unfolding IsIn Refuses
in_or_out (Number before) f kind is (inl out) = in_whole most_number f is.0 kind is.1 out
in_or_out (Number before) f kind is (inr out) = out.3 (subst (Follows before) (whole_from_once 0 most_number f is.0 out.1 is.1 out.2) is.2)
in_or_out Stamp f kind is out = stamp_refused f is.0 kind is.1 out.0 out.1
in_or_out (Analog selected) f kind is (inl out) = in_sample f is.0 kind is.1 out
in_or_out (Analog selected) f kind is (inr out) = is.2 out.1 (whole_once f is.0 (pos 99999) is.1.value out.2.value)
in_or_out Digital f kind is out = no_bit f is.0 kind is.1 out

-- a field that is refused has one kind
one_kind : (s : Set) (f : List ℕ) (k j : Kind) → Refuses s f k → Refuses s f j → k ≡ j
unfolding Refuses
one_kind (Number before) f k j (inl a) (inl b) = one_whole most_number f k j a b
one_kind (Number before) f k j (inl a) (inr b) = absurd (in_whole most_number f b.1 k b.2 a)
one_kind (Number before) f k j (inr a) (inl b) = absurd (in_whole most_number f a.1 j a.2 b)
one_kind (Number before) f k j (inr a) (inr b) = a.0 ∙ sym b.0
one_kind Stamp f k j a b = one_whole most_stamp f k j a.1 b.1
one_kind (Analog selected) f k j (inl a) (inl b) = one_sample f k j a b
one_kind (Analog selected) f k j (inl a) (inr b) = absurd (in_sample f (pos 99999) k b.2 a)
one_kind (Analog selected) f k j (inr a) (inl b) = absurd (in_sample f (pos 99999) j a.2 b)
one_kind (Analog selected) f k j (inr a) (inr b) = a.0 ∙ sym b.0
one_kind Digital f k j a b = one_whole 1 f k j a b

-- ---- lines

row_once : (analog digital : ℕ) (parts : List (List ℕ)) (r s : DataRecord) → IsRow analog digital parts r → IsRow analog digital parts s → r ≡ s
row_once analog digital parts r s a b =
    let number = whole_from_once 0 most_number (get_or parts 0 []) r.number s.number a.number b.number in
    let stamp = stamp_once (get_or parts 1 []) r.stamp s.stamp a.stamp b.stamp in
    let values : r.analog ≡ s.analog = ext_get_or (pos 0) r.analog s.analog (a.analog_count ∙ sym b.analog_count)
    (λ i lt.
    let below : i < analog = omega (arith, lt, a.analog_count) in
    whole_once (get_or parts (2 + i) []) (get_or r.analog i (pos 0)) (get_or s.analog i (pos 0)) (a.analog_values i below).value (b.analog_values i below).value) in
    let bits : r.digital ≡ s.digital = ext_get_or false r.digital s.digital (a.digital_count ∙ sym b.digital_count)
    (λ i lt.
    let below : i < digital = omega (arith, lt, a.digital_count) in
    bit_once (get_or parts (2 + analog + i) []) (get_or r.digital i false) (get_or s.digital i false) (a.digital_values i below) (b.digital_values i below)) in
    rw (number, stamp, values, bits) refl

-- the fields of a good row are in their sets
row_in : (selected : List Bool) (digital : ℕ) (before : Option ℕ) (parts : List (List ℕ)) (r : DataRecord) → IsRow (length selected) digital parts r → Follows before r.number → IsPresent Ascii selected r
    → AreIn (column selected before) parts (field_total (length selected) digital)
row_in selected digital before parts r row follows present =
    let head = head_are_in selected before parts (number_in before (get_or parts 0 []) r.number row.number follows) (stamp_in (get_or parts 1 []) r.stamp row.stamp) in
    let all : length selected ≤ length selected = omega arith in
    let front = analog_are_in selected before parts (length selected) all head
    (λ j lt. analog_in (get_or selected j false) (get_or parts (2 + j) []) (get_or r.analog j (pos 0)) (row.analog_values j lt) (present j)) in
    digital_are_in selected before parts digital front (λ j lt. digital_in (get_or parts (2 + length selected + j) []) (get_or r.digital j false) (row.digital_values j lt))

row_or_fault : (selected : List Bool) (digital : ℕ) (before : Option ℕ) (parts : List (List ℕ)) (r : DataRecord) (field : ℕ) (kind : Kind) → IsRow (length selected) digital parts r → Follows before r.number
    → IsPresent Ascii selected r → RowFault selected digital before parts field kind → ⊥
row_or_fault selected digital before parts r field kind row follows present (inl other) = other.0 row.count
row_or_fault selected digital before parts r field kind row follows present (inr out) =
    let f = out.3 in
    in_or_out (column selected before out.1) (get_or parts out.1 []) kind (row_in selected digital before parts r row follows present out.1 f.within) f.here

one_out : (sets : ℕ → Set) (count : ℕ) (parts : List (List ℕ)) (i j : ℕ) (k l : Kind) → IsFirstOut sets count parts i k → IsFirstOut sets count parts j l → (i ≡ j) × (k ≡ l)
one_out sets count parts i j k l a b =
    elim (cases_lt i j) [
      | inl less ↦ absurd (in_or_out (sets i) (get_or parts i []) k (b.left i less) a.here)
      | inr more ↦ elim (cases_lt j i) [
        | inl less ↦ absurd (in_or_out (sets j) (get_or parts j []) l (a.left j less) b.here)
        | inr most ↦
            let same : i ≡ j = omega (arith, more, most) in
            (same, one_kind (sets j) (get_or parts j []) k l (subst (λ (n : ℕ). Refuses (sets n) (get_or parts n []) k) same a.here) b.here)
      ]
    ]

one_row_fault : (selected : List Bool) (digital : ℕ) (before : Option ℕ) (parts : List (List ℕ)) (p q : ℕ) (k j : Kind) → RowFault selected digital before parts p k → RowFault selected digital before parts q j → (p ≡ q) × (k ≡ j)
one_row_fault selected digital before parts p q k j (inl a) (inl b) = (a.1 ∙ sym b.1, a.2 ∙ sym b.2)
one_row_fault selected digital before parts p q k j (inl a) (inr b) = absurd (a.0 b.0)
one_row_fault selected digital before parts p q k j (inr a) (inl b) = absurd (b.0 a.0)
one_row_fault selected digital before parts p q k j (inr a) (inr b) =
    let both = one_out (column selected before) (field_total (length selected) digital) parts a.1 b.1 k j a.3 b.3 in
    (a.2 ∙ ap (λ (n : ℕ). n + 1) both.0 ∙ sym b.2, both.1)

one_line_fault : (selected : List Bool) (digital : ℕ) (before : Option ℕ) (line : List ℕ) (p q : ℕ) (k j : Kind) → LineFault selected digital before line p k → LineFault selected digital before line q j → (p ≡ q) × (k ≡ j)
one_line_fault selected digital before line p q k j (inl a) (inl b) = (a.1 ∙ sym b.1, a.2 ∙ sym b.2)
one_line_fault selected digital before line p q k j (inl a) (inr b) = absurd (omega (arith, a.0, b.0))
one_line_fault selected digital before line p q k j (inr a) (inl b) = absurd (omega (arith, a.0, b.0))
one_line_fault selected digital before line p q k j (inr a) (inr b) = one_row_fault selected digital before (fields line) p q k j a.1 b.1

line_or_fault : (selected : List Bool) (digital : ℕ) (before : Option ℕ) (line : List ℕ) (r : DataRecord) (field : ℕ) (kind : Kind) → IsLine (length selected) digital line r → Follows before r.number → IsPresent Ascii selected r
    → LineFault selected digital before line field kind → ⊥
line_or_fault selected digital before line r field kind is follows present (inl long) = omega (arith, is.short, long.0)
line_or_fault selected digital before line r field kind is follows present (inr fault) = row_or_fault selected digital before (fields line) r field kind is.row follows present fault.1

-- ---- binary records

binary_once : (form : Form) (analog digital : ℕ) (bytes : List ℕ) (r s : DataRecord) → IsBinary form analog digital bytes r → IsBinary form analog digital bytes s → r ≡ s
binary_once form analog digital bytes r s a b =
    let number : r.number ≡ s.number = a.number ∙ sym b.number in
    let stamp : r.stamp ≡ s.stamp = a.stamp ∙ sym b.stamp in
    let values : r.analog ≡ s.analog = ext_get_or (pos 0) r.analog s.analog (a.analog_count ∙ sym b.analog_count)
    (λ i lt.
    let below : i < analog = omega (arith, lt, a.analog_count) in
    a.analog_values i below ∙ sym (b.analog_values i below)) in
    let bits : r.digital ≡ s.digital = ext_get_or false r.digital s.digital (a.digital_count ∙ sym b.digital_count)
    (λ i lt.
    let below : i < digital = omega (arith, lt, a.digital_count) in
    a.digital_values i below ∙ sym (b.digital_values i below)) in
    rw (number, stamp, values, bits) refl

whole_or_fault : (form : Form) (selected : List Bool) (digital : ℕ) (before : Option ℕ) (bytes : List ℕ) (r : DataRecord) (field : ℕ) (kind : Kind) → IsBinary form (length selected) digital bytes r → Follows before r.number → IsPresent form selected r
    → WholeFault form selected before bytes field kind → ⊥
whole_or_fault form selected digital before bytes r field kind b follows present (inl order) = order.0 (subst (Follows before) b.number follows)
whole_or_fault form selected digital before bytes r field kind b follows present (inr missing) =
    let m = missing.3 in
    present missing.1 m.chosen (b.analog_values missing.1 m.within ∙ m.missing)

one_missing : (form : Form) (selected : List Bool) (bytes : List ℕ) (i j : ℕ) → IsFirstMissing form selected bytes i → IsFirstMissing form selected bytes j → i ≡ j
one_missing form selected bytes i j a b =
    elim (cases_lt i j) [
      | inl less ↦ absurd (b.left i less a.chosen a.missing)
      | inr more ↦ elim (cases_lt j i) [
        | inl less ↦ absurd (a.left j less b.chosen b.missing)
        | inr most ↦ omega (arith, more, most)
      ]
    ]

one_whole_fault : (form : Form) (selected : List Bool) (before : Option ℕ) (bytes : List ℕ) (p q : ℕ) (k j : Kind) → WholeFault form selected before bytes p k → WholeFault form selected before bytes q j → (p ≡ q) × (k ≡ j)
one_whole_fault form selected before bytes p q k j (inl a) (inl b) = (a.1 ∙ sym b.1, a.2 ∙ sym b.2)
one_whole_fault form selected before bytes p q k j (inl a) (inr b) = absurd (a.0 b.0)
one_whole_fault form selected before bytes p q k j (inr a) (inl b) = absurd (b.0 a.0)
one_whole_fault form selected before bytes p q k j (inr a) (inr b) = (a.2 ∙ ap (λ (n : ℕ). n + 3) (one_missing form selected bytes a.1 b.1 a.3 b.3) ∙ sym b.2, a.4 ∙ sym b.4)

one_binary_fault : (form : Form) (selected : List Bool) (digital : ℕ) (before : Option ℕ) (bytes : List ℕ) (p q : ℕ) (k j : Kind) → BinaryFault form selected digital before bytes p k → BinaryFault form selected digital before bytes q j → (p ≡ q) × (k ≡ j)
one_binary_fault form selected digital before bytes p q k j (inl a) (inl b) = (a.1 ∙ sym b.1, a.2 ∙ sym b.2)
one_binary_fault form selected digital before bytes p q k j (inl a) (inr b) = absurd (omega (arith, a.0, b.0))
one_binary_fault form selected digital before bytes p q k j (inr a) (inl b) = absurd (omega (arith, a.0, b.0))
one_binary_fault form selected digital before bytes p q k j (inr a) (inr b) = one_whole_fault form selected before bytes p q k j a.1 b.1

-- ---- both forms

spaces_taken : (n : ℕ) (xs : List ℕ) → list_all (is_byte 32) xs ≡ true → list_all (is_byte 32) (take n xs) ≡ true
spaces_taken zero xs all = refl
spaces_taken (suc n) [] all = refl
spaces_taken (suc n) (x ∷ xs) all =
    let p = and_parts (is_byte 32 x) (list_all (is_byte 32) xs) all in
    and_from (is_byte 32 x) (list_all (is_byte 32) (take n xs)) p.0 (spaces_taken n xs p.1)

no_commas : (xs : List ℕ) → list_all (is_byte 32) xs ≡ true → count_by (is_byte 44) xs ≡ 0
no_commas [] all = refl
no_commas (x ∷ xs) all =
    let p = and_parts (is_byte 32 x) (list_all (is_byte 32) xs) all in
    let space : x ≡ 32 = eqb-true x 32 p.0 in
    let off : is_byte 44 x ≡ false = ne_eqb x 44 (λ e. omega (arith, space, e)) in
    rw off (no_commas xs p.1)

spaces_without_cr : (xs : List ℕ) → list_all (is_byte 32) xs ≡ true → list_all (is_byte 32) (without_cr xs) ≡ true
spaces_without_cr xs all =
    elim (cases_Bool (eqb (get_or xs (length xs - 1) 0) 13)) [
      | inl cr ↦ rw cr (spaces_taken (length xs - 1) xs all)
      | inr other ↦ rw other all
    ]

-- nothing but spaces is no line of a record
blank_is_no_line : (l : Layout) (k : ℕ) (rest : List ℕ) (r : DataRecord) → IsBlank rest → IsLine (length l.selected) l.digital (line_at l.records k rest) r → ⊥
blank_is_no_line l k rest r blank line =
    let p = ends_line (eqb (k + 1) l.records) in
    let spaces : list_all (is_byte 32) (line_at l.records k rest) ≡ true =
    subst (λ (x : List ℕ). list_all (is_byte 32) x ≡ true) (sym (line_is l.records k rest)) (spaces_without_cr (before_first p rest) (spaces_taken (position_or_len p rest) rest blank.spaces)) in
    omega (arith, line.row.count, fields_count (line_at l.records k rest), no_commas (line_at l.records k rest) spaces)

front_once : (form : Form) (l : Layout) (k : ℕ) (rest : List ℕ) (r s : DataRecord) → StandsInFront form l k rest r → StandsInFront form l k rest s → r ≡ s
front_once Ascii l k rest r s a b = row_once (length l.selected) l.digital (fields (line_at l.records k rest)) r s a.row b.row
front_once Binary l k rest r s a b = binary_once Binary (length l.selected) l.digital rest r s a b

pub record_once : (l : Layout) (k : ℕ) (rest : List ℕ) (r s : DataRecord) → IsRecord l k rest r → IsRecord l k rest s → r ≡ s
unfolding IsRecord
record_once l k rest r s a b = front_once l.form l k rest r s a b

front_or_fault : (form : Form) (l : Layout) (k : ℕ) (before : Option ℕ) (rest : List ℕ) (r : DataRecord) (field : ℕ) (kind : Kind) → StandsInFront form l k rest r → Follows before r.number → IsPresent form l.selected r
    → FaultInFront form l k before rest field kind → ⊥
front_or_fault Ascii l k before rest r field kind is follows present (inl blank) = blank_is_no_line l k rest r blank.0 is
front_or_fault Ascii l k before rest r field kind is follows present (inr fault) = line_or_fault l.selected l.digital before (line_at l.records k rest) r field kind is follows present fault.1
front_or_fault Binary l k before rest r field kind is follows present (inl short) = omega (arith, is.whole, short.0)
front_or_fault Binary l k before rest r field kind is follows present (inr fault) = whole_or_fault Binary l.selected l.digital before rest r field kind is follows present fault.1

pub record_or_fault : (l : Layout) (k : ℕ) (before : Option ℕ) (rest : List ℕ) (r : DataRecord) (field : ℕ) (kind : Kind) → IsRecord l k rest r → Follows before r.number → IsPresent l.form l.selected r
    → RecordFault l k before rest field kind → ⊥
unfolding IsRecord RecordFault
record_or_fault l k before rest r field kind is follows present fault = front_or_fault l.form l k before rest r field kind is follows present fault

one_front_fault : (form : Form) (l : Layout) (k : ℕ) (before : Option ℕ) (rest : List ℕ) (p q : ℕ) (i j : Kind) → FaultInFront form l k before rest p i → FaultInFront form l k before rest q j → (p ≡ q) × (i ≡ j)
one_front_fault Ascii l k before rest p q i j (inl a) (inl b) = (a.1 ∙ sym b.1, a.2 ∙ sym b.2)
one_front_fault Ascii l k before rest p q i j (inl a) (inr b) = absurd (b.0 a.0)
one_front_fault Ascii l k before rest p q i j (inr a) (inl b) = absurd (a.0 b.0)
one_front_fault Ascii l k before rest p q i j (inr a) (inr b) = one_line_fault l.selected l.digital before (line_at l.records k rest) p q i j a.1 b.1
one_front_fault Binary l k before rest p q i j a b = one_binary_fault Binary l.selected l.digital before rest p q i j a b

pub one_record_fault : (l : Layout) (k : ℕ) (before : Option ℕ) (rest : List ℕ) (p q : ℕ) (i j : Kind) → RecordFault l k before rest p i → RecordFault l k before rest q j → (p ≡ q) × (i ≡ j)
unfolding RecordFault
one_record_fault l k before rest p q i j a b = one_front_fault l.form l k before rest p q i j a b
