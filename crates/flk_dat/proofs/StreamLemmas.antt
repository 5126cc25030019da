-- What the bytes taken give, step by step.
use Rattle.std.proofs.Common.{◌≡◌, ℕ, ◌+◌, ◌-◌, ◌*◌, ◌<◌, false, eqb, List, [], ◌∷◌, ◌++◌, length, drop, refl, sym, ap, subst, ◌∙◌, arith, inl, inr, append_assoc, append-nil, add-one}
use Rattle.std.proofs.lemmas.Bool.{cases_Bool, ne_eqb}
use Rattle.std.proofs.lemmas.List.{drop-drop}
use Rattle.flk_text.specs.Lines.{after_line, tail_of}
use Rattle.flk_cfg.specs.Places.{after_lines}
use Rattle.flk_field.specs.declared.form.Form.{Form}
use Rattle.flk_field.specs.declared.form.Form.TheVariants.{Ascii, Binary}
use Rattle.flk_dat.specs.Records.{DataRecord, Layout, Follows, last_number, IsPresent}
use Rattle.flk_dat.specs.BinaryRecords.{record_size}
use Rattle.flk_dat.specs.DataFile.{after_rows, after_of, after_records, IsRecord, RecordFault, EndFault, MayFollow, AreFirst, IsAccepted, IsFaultAfter}
use Rattle.flk_dat.specs.Streams.{IsPartOf, HasGiven, EndsRecord}
use Rattle.flk_dat.specs.declared.kind.Kind.{Kind}
use Rattle.flk_dat.proofs.Sequences.{length_more, each_more, consecutive_more, present_more}
use Rattle.flk_dat.proofs.LineEnds.{after_by}

-- ---- from record to record

-- what follows the record at the front, which is the k-th
abbrev pub after_front : Form → Layout → ℕ → List ℕ → List ℕ
after_front Ascii l k rest = after_by (eqb (k + 1) l.records) rest
after_front Binary l k rest = drop (record_size Binary (length l.selected) l.digital) rest

rows_from : (records k : ℕ) (bytes : List ℕ) → k < records → after_rows records k bytes ≡ after_lines k bytes
rows_from records k bytes lt =
    let off : eqb k records ≡ false = ne_eqb k records (λ e. omega (arith, lt, e)) in
    rw off refl

after_rows_next : (records k : ℕ) (bytes : List ℕ) → k < records → after_rows records (k + 1) bytes ≡ after_by (eqb (k + 1) records) (after_rows records k bytes)
after_rows_next records k bytes lt =
    let here = rows_from records k bytes lt in
    let back : k + 1 - 1 ≡ k = omega arith in
    let next : after_lines (k + 1) bytes ≡ after_line (after_lines k bytes) = ap (λ (j : ℕ). after_lines j bytes) (add-one k) in
    elim (cases_Bool (eqb (k + 1) records)) [
      | inl last ↦ rw last (ap (λ (j : ℕ). tail_of (after_lines j bytes)) back ∙ ap tail_of (sym here))
      | inr other ↦ rw other (next ∙ ap after_line (sym here))
    ]

after_of_next : (form : Form) (l : Layout) (k : ℕ) (bytes : List ℕ) → k < l.records → after_of form l (k + 1) bytes ≡ after_front form l k (after_of form l k bytes)
after_of_next Ascii l k bytes lt = after_rows_next l.records k bytes lt
after_of_next Binary l k bytes lt =
    let size = record_size Binary (length l.selected) l.digital in
    let sum : size * (k + 1) ≡ size * k + size = omega arith in
    ap (λ (n : ℕ). drop n bytes) sum ∙ sym (drop-drop size (size * k) bytes)

pub after_next : (l : Layout) (k : ℕ) (bytes : List ℕ) → k < l.records → after_records l (k + 1) bytes ≡ after_front l.form l k (after_records l k bytes)
unfolding after_records
after_next l k bytes lt = after_of_next l.form l k bytes lt

after_of_none : (form : Form) (l : Layout) (bytes : List ℕ) → 0 < l.records → after_of form l 0 bytes ≡ bytes
after_of_none Ascii l bytes some = rows_from l.records 0 bytes some
after_of_none Binary l bytes some =
    let none : record_size Binary (length l.selected) l.digital * 0 ≡ 0 = omega arith in
    ap (λ (n : ℕ). drop n bytes) none

pub after_none : (l : Layout) (bytes : List ℕ) → 0 < l.records → after_records l 0 bytes ≡ bytes
unfolding after_records
after_none l bytes some = after_of_none l.form l bytes some

-- ---- the records so far

pub first_more : (l : Layout) (bytes : List ℕ) (rs : List DataRecord) (r : DataRecord) → AreFirst l bytes rs → length rs < l.records → IsRecord l (length rs) (after_records l (length rs) bytes) r
    → Follows (last_number rs) r.number → AreFirst l bytes (rs ++ r ∷ [])
first_more l bytes rs r f lt here after = record {
  within = omega (arith, lt, length_more rs r);
  each = each_more (λ k x. IsRecord l k (after_records l k bytes) x) rs r f.each here;
  order = consecutive_more rs r f.order after;
}

pub first_none : (l : Layout) (bytes : List ℕ) → AreFirst l bytes []
first_none l bytes = record { within = omega arith; each = λ k lt. absurd (omega (arith, lt)); order = λ k lt. absurd (omega (arith, lt)) }

-- ---- the bytes taken

pub given_none : (l : Layout) → 0 < l.records → HasGiven l [] [] []
given_none l some = record { first = λ more. first_none l more; present = λ k lt. absurd (omega (arith, lt)); left = λ more. after_none l more some }

pub given_held : (l : Layout) (taken : List ℕ) (given : List DataRecord) (rest piece : List ℕ) → HasGiven l taken given rest → HasGiven l (taken ++ piece) given (rest ++ piece)
given_held l taken given rest piece h = record {
  first = λ more. subst (λ (bytes : List ℕ). AreFirst l bytes given) (sym (append_assoc taken piece more)) (h.first (piece ++ more));
  present = h.present;
  left = λ more. ap (after_records l (length given)) (append_assoc taken piece more) ∙ h.left (piece ++ more) ∙ sym (append_assoc rest piece more);
}

pub given_more : (l : Layout) (taken : List ℕ) (given : List DataRecord) (rest chunk mark : List ℕ) (r : DataRecord) → HasGiven l taken given rest → length given < l.records
    → ((more : List ℕ) → IsRecord l (length given) (rest ++ (chunk ++ more)) r) → ((more : List ℕ) → after_front l.form l (length given) (rest ++ (chunk ++ more)) ≡ mark ++ more)
    → Follows (last_number given) r.number → IsPresent l.form l.selected r → HasGiven l (taken ++ chunk) (given ++ r ∷ []) mark
given_more l taken given rest chunk mark r h lt here after follows there = record {
  first = λ more.
      let is : IsRecord l (length given) (after_records l (length given) (taken ++ (chunk ++ more))) r = subst (λ (bytes : List ℕ). IsRecord l (length given) bytes r) (sym (h.left (chunk ++ more))) (here more) in
      subst (λ (bytes : List ℕ). AreFirst l bytes (given ++ r ∷ [])) (sym (append_assoc taken chunk more)) (first_more l (taken ++ (chunk ++ more)) given r (h.first (chunk ++ more)) lt is follows);
  present = present_more l given r h.present there;
  left = λ more.
      ap (λ (n : ℕ). after_records l n ((taken ++ chunk) ++ more)) (length_more given r)
      ∙ ap (after_records l (length given + 1)) (append_assoc taken chunk more)
      ∙ after_next l (length given) (taken ++ (chunk ++ more)) lt
      ∙ ap (after_front l.form l (length given)) (h.left (chunk ++ more))
      ∙ after more;
}

-- ---- faults

pub fault_due : (l : Layout) (taken : List ℕ) (given : List DataRecord) (rest chunk : List ℕ) (field : ℕ) (kind : Kind) → HasGiven l taken given rest → length given < l.records
    → RecordFault l (length given) (last_number given) (rest ++ chunk) field kind → IsFaultAfter l (taken ++ chunk) given field kind
fault_due l taken given rest chunk field kind h lt f = record {
  first = h.first chunk;
  present = h.present;
  here = inl (lt, subst (λ (bytes : List ℕ). RecordFault l (length given) (last_number given) bytes field kind) (sym (h.left chunk)) f);
}

-- what follows the last record
pub left_at_end : (l : Layout) (taken : List ℕ) (given : List DataRecord) (rest more : List ℕ) → HasGiven l taken given rest → length given ≡ l.records → after_records l l.records (taken ++ more) ≡ rest ++ more
left_at_end l taken given rest more h all = ap (λ (n : ℕ). after_records l n (taken ++ more)) (sym all) ∙ h.left more

pub fault_at_end : (l : Layout) (taken : List ℕ) (given : List DataRecord) (rest chunk : List ℕ) (field : ℕ) (kind : Kind) → HasGiven l taken given rest → length given ≡ l.records
    → EndFault l (rest ++ chunk) field kind → IsFaultAfter l (taken ++ chunk) given field kind
fault_at_end l taken given rest chunk field kind h all f = record {
  first = h.first chunk;
  present = h.present;
  here = inr (all, subst (λ (bytes : List ℕ). EndFault l bytes field kind) (sym (left_at_end l taken given rest chunk h all)) f);
}

-- ---- the end of the input

pub accepted_at_end : (l : Layout) (taken : List ℕ) (given : List DataRecord) (rest : List ℕ) → HasGiven l taken given rest → length given ≡ l.records → MayFollow l.form rest → IsAccepted l taken given
accepted_at_end l taken given rest h all end =
    let bytes : taken ++ [] ≡ taken = append-nil taken in
    let left : after_records l l.records taken ≡ rest = ap (after_records l l.records) (sym bytes) ∙ left_at_end l taken given rest [] h all ∙ append-nil rest in
    record {
      file = record {
        count = all;
        first = subst (λ (b : List ℕ). AreFirst l b given) bytes (h.first []);
        end = subst (MayFollow l.form) (sym left) end;
      };
      present = h.present;
    }

-- ---- where the last record ends

pub ends_record : (l : Layout) (taken : List ℕ) (given : List DataRecord) (rest chunk front : List ℕ) (byte : ℕ) → HasGiven l taken given rest → chunk ≡ front ++ byte ∷ []
    → IsPartOf l.form l (length given) (rest ++ front) → EndsRecord l (length given) (taken ++ chunk)
ends_record l taken given rest chunk front byte h is part = record {
  front = taken ++ front;
  byte = byte;
  is = ap (λ (x : List ℕ). taken ++ x) is ∙ sym (append_assoc taken front (byte ∷ []));
  part = subst (IsPartOf l.form l (length given)) (sym (h.left front)) part;
}
