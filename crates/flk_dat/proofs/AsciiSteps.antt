-- Lines that come in pieces.
use Rattle.std.proofs.Common.{◌≡◌, ℕ, ◌+◌, ◌-◌, ◌<◌, ◌≤◌, Bool, true, false, eqb, List, [], ◌∷◌, ◌++◌, length, get_or, take, Option, refl, sym, ap, subst, ◌∙◌, arith, inl, inr, append_assoc, length-take}
use Rattle.std.specs.List.{list_all, count_by, position_or_len}
use Rattle.std.proofs.lemmas.Bool.{cases_Bool, cases_lt, and_from, eqb-true, eq-eqb, true≢false}
use Rattle.std.proofs.lemmas.List.{take_all}
use Rattle.std.proofs.lemmas.List.Folds.{list_all-append}
use Rattle.std.specs.Prelude.{not}
use Rattle.flk_text.specs.Lines.{is_byte, without_cr}
use Rattle.flk_field.specs.declared.form.Form.{Form}
use Rattle.flk_field.specs.declared.form.Form.TheVariants.{Ascii}
use Rattle.flk_dat.specs.Records.{DataRecord, Layout}
use Rattle.flk_dat.specs.AsciiRecords.{longest_line, IsLine, LineFault, IsBlank}
use Rattle.flk_dat.specs.DataFile.{line_at, StandsInFront, IsRecord, FaultInFront, RecordFault, MayFollow}
use Rattle.flk_dat.specs.Streams.{ends_line, IsUnended, MayBegin, IsPartOf}
use Rattle.flk_dat.specs.Tails.{tail_after}
use Rattle.flk_dat.specs.Heads.{Writes, FaultOf}
use Rattle.flk_dat.specs.declared.channels.Channels.{Channels}
use Rattle.flk_dat.specs.declared.kind.Kind.{Kind}
use Rattle.flk_dat.specs.declared.kind.Kind.TheVariants as kinds
use Rattle.flk_dat.proofs.LineEnds.{unended_before, line_ended, after_ended, mark_of, end_byte, line_unended, after_unended, ended_not_blank, long_line_at, long_not_blank, after_by}
use Rattle.flk_dat.proofs.StreamLemmas.{after_front}

-- ---- records and faults of an ASCII file

pub ascii_record : (l : Layout) (k : ℕ) (rest : List ℕ) (r : DataRecord) → l.form ≡ Ascii → IsLine (length l.selected) l.digital (line_at l.records k rest) r → IsRecord l k rest r
unfolding IsRecord
ascii_record l k rest r e line = subst (λ (f : Form). StandsInFront f l k rest r) (sym e) line

pub ascii_short : (l : Layout) (k : ℕ) (before : Option ℕ) (rest : List ℕ) → l.form ≡ Ascii → IsBlank rest → RecordFault l k before rest 0 kinds.Short
unfolding RecordFault
ascii_short l k before rest e blank = subst (λ (f : Form). FaultInFront f l k before rest 0 kinds.Short) (sym e) (inl (blank, refl, refl))

pub ascii_fault : (l : Layout) (k : ℕ) (before : Option ℕ) (rest : List ℕ) (field : ℕ) (kind : Kind) → l.form ≡ Ascii → (IsBlank rest → ⊥) → LineFault l.selected l.digital before (line_at l.records k rest) field kind
    → RecordFault l k before rest field kind
unfolding RecordFault
ascii_fault l k before rest field kind e there fault = subst (λ (f : Form). FaultInFront f l k before rest field kind) (sym e) (inr (there, fault))

pub ascii_part : (l : Layout) (k : ℕ) (bytes : List ℕ) (form : Form) → form ≡ Ascii → IsUnended (eqb (k + 1) l.records) bytes → MayBegin bytes → IsPartOf form l k bytes
ascii_part l k bytes form e none begin = subst (λ (f : Form). IsPartOf f l k bytes) (sym e) (none, begin)

pub ascii_part_is : (l : Layout) (k : ℕ) (bytes : List ℕ) (form : Form) → form ≡ Ascii → IsPartOf form l k bytes → IsUnended (eqb (k + 1) l.records) bytes × MayBegin bytes
ascii_part_is l k bytes form e part = subst (λ (f : Form). IsPartOf f l k bytes) e part

pub writes_line : (form : Form) (c : Channels) (bytes : List ℕ) (r : DataRecord) → form ≡ Ascii → Writes form c bytes r → IsLine (length c.selected.items) c.digital (without_cr bytes) r
writes_line form c bytes r e is = subst (λ (f : Form). Writes f c bytes r) e is

pub fault_of_line : (form : Form) (c : Channels) (before : Option ℕ) (bytes : List ℕ) (field : ℕ) (kind : Kind) → form ≡ Ascii → FaultOf form c before bytes field kind
    → LineFault c.selected.items c.digital before (without_cr bytes) field kind
fault_of_line form c before bytes field kind e fault = subst (λ (f : Form). FaultOf f c before bytes field kind) e fault

-- ---- the pieces of a line

pub unended_more : (last : Bool) (xs ys : List ℕ) → IsUnended last xs → IsUnended last ys → IsUnended last (xs ++ ys)
unended_more last xs ys a b =
    let p : ℕ → Bool = λ b. not (ends_line last b) in
    list_all-append p xs ys ∙ and_from (list_all p xs) (list_all p ys) a b

-- the bytes of the piece up to its line's end
pub piece_before : (last : Bool) (piece : List ℕ) (n : ℕ) → n ≡ position_or_len (ends_line last) piece → IsUnended last (take n piece)
piece_before last piece n e = unended_before (ends_line last) piece n (omega (arith, e))

pub piece_unended : (last : Bool) (piece : List ℕ) → length piece ≡ position_or_len (ends_line last) piece → IsUnended last piece
piece_unended last piece e = subst (IsUnended last) (take_all (length piece) piece (omega arith)) (piece_before last piece (length piece) e)

pub regroup : (rest front more : List ℕ) (c : ℕ) → rest ++ ((front ++ c ∷ []) ++ more) ≡ (rest ++ front) ++ (c ∷ more)
regroup rest front more c = ap (λ (x : List ℕ). rest ++ x) (append_assoc front (c ∷ []) more) ∙ sym (append_assoc rest front (c ∷ more))

-- a line that isn't too long may begin one
pub good_may_begin : (body : List ℕ) → length (without_cr body) ≤ longest_line → MayBegin body
good_may_begin body short =
    elim (cases_lt longest_line (length body)) [
      | inr few ↦ inl few
      | inl more ↦ elim (cases_Bool (eqb (get_or body (length body - 1) 0) 13)) [
        | inl cr ↦
            let size : length body ≡ longest_line + 1 = omega (arith, more, rw cr at short, length-take (length body - 1) body) in
            let place : length body - 1 ≡ longest_line = omega (arith, size) in
            inr (size, ap (λ (j : ℕ). get_or body j 0) (sym place) ∙ eqb-true (get_or body (length body - 1) 0) 13 cr)
        | inr other ↦ absurd (omega (arith, more, rw other at short))
      ]
    ]

-- ---- a line whose end has come

pub line_here : (l : Layout) (k : ℕ) (rest front more : List ℕ) (c : ℕ) (r : DataRecord) → l.form ≡ Ascii → IsUnended (eqb (k + 1) l.records) (rest ++ front) → ends_line (eqb (k + 1) l.records) c ≡ true
    → IsLine (length l.selected) l.digital (without_cr (rest ++ front)) r → IsRecord l k (rest ++ ((front ++ c ∷ []) ++ more)) r
line_here l k rest front more c r e none end line =
    let same : line_at l.records k (rest ++ ((front ++ c ∷ []) ++ more)) ≡ without_cr (rest ++ front) = ap (line_at l.records k) (regroup rest front more c) ∙ line_ended l.records k (rest ++ front) more c none end in
    ascii_record l k (rest ++ ((front ++ c ∷ []) ++ more)) r e (subst (λ (x : List ℕ). IsLine (length l.selected) l.digital x r) (sym same) line)

pub line_after : (l : Layout) (k : ℕ) (rest front more : List ℕ) (c : ℕ) (form : Form) → form ≡ Ascii → IsUnended (eqb (k + 1) l.records) (rest ++ front) → ends_line (eqb (k + 1) l.records) c ≡ true
    → after_front form l k (rest ++ ((front ++ c ∷ []) ++ more)) ≡ mark_of c ++ more
line_after l k rest front more c form e none end =
    ap (λ (f : Form). after_front f l k (rest ++ ((front ++ c ∷ []) ++ more))) e ∙ ap (after_by (eqb (k + 1) l.records)) (regroup rest front more c)
    ∙ after_ended (eqb (k + 1) l.records) (rest ++ front) more c none end

pub line_fault_here : (l : Layout) (k : ℕ) (before : Option ℕ) (rest front more : List ℕ) (c field : ℕ) (kind : Kind) → l.form ≡ Ascii → IsUnended (eqb (k + 1) l.records) (rest ++ front)
    → ends_line (eqb (k + 1) l.records) c ≡ true → LineFault l.selected l.digital before (without_cr (rest ++ front)) field kind → RecordFault l k before ((rest ++ front) ++ (c ∷ more)) field kind
line_fault_here l k before rest front more c field kind e none end fault =
    ascii_fault l k before ((rest ++ front) ++ (c ∷ more)) field kind e (ended_not_blank (eqb (k + 1) l.records) (rest ++ front) more c end)
    (subst (λ (x : List ℕ). LineFault l.selected l.digital before x field kind) (sym (line_ended l.records k (rest ++ front) more c none end)) fault)

-- ---- a line that is too long

pub long_here : (l : Layout) (k : ℕ) (before : Option ℕ) (bytes more : List ℕ) (field : ℕ) (kind : Kind) → l.form ≡ Ascii → IsUnended (eqb (k + 1) l.records) bytes → (MayBegin bytes → ⊥) → field ≡ 0 → kind ≡ kinds.Length
    → RecordFault l k before (bytes ++ more) field kind
long_here l k before bytes more field kind e none long place is =
    ascii_fault l k before (bytes ++ more) field kind e (long_not_blank bytes more long) (inl (long_line_at l.records k bytes more none long, place, is))

-- ---- the mark behind a line

pub mark_none : (records k c : ℕ) → ends_line (eqb (k + 1) records) c ≡ true → k + 1 < records → mark_of c ≡ []
mark_none records k c end lt =
    elim (end_byte (eqb (k + 1) records) c end) [
      | inl lf ↦ rw (eq-eqb c 10 lf) refl
      | inr mark ↦ absurd (omega (arith, lt, eqb-true (k + 1) records mark.1))
    ]

pub mark_follows : (last : Bool) (c : ℕ) → ends_line last c ≡ true → MayFollow Ascii (mark_of c)
mark_follows last c end =
    elim (end_byte last c end) [
      | inl lf ↦ subst (λ (b : ℕ). MayFollow Ascii (mark_of b)) (sym lf) (record { bytes = refl; one = omega arith }, omega arith)
      | inr mark ↦ subst (λ (b : ℕ). MayFollow Ascii (mark_of b)) (sym mark.0) (record { bytes = refl; one = omega arith }, omega arith)
    ]

pub mark_tail : (last : Bool) (c : ℕ) → ends_line last c ≡ true → ((tail_after c).bytes ≡ length (mark_of c)) × ((tail_after c).marks ≡ count_by (is_byte 26) (mark_of c))
mark_tail last c end =
    elim (end_byte last c end) [
      | inl lf ↦ subst (λ (b : ℕ). ((tail_after b).bytes ≡ length (mark_of b)) × ((tail_after b).marks ≡ count_by (is_byte 26) (mark_of b))) (sym lf) (refl, refl)
      | inr mark ↦ subst (λ (b : ℕ). ((tail_after b).bytes ≡ length (mark_of b)) × ((tail_after b).marks ≡ count_by (is_byte 26) (mark_of b))) (sym mark.0) (refl, refl)
    ]

-- ---- the end of the input

pub line_at_end : (l : Layout) (k : ℕ) (rest : List ℕ) (r : DataRecord) → l.form ≡ Ascii → IsUnended (eqb (k + 1) l.records) rest → IsLine (length l.selected) l.digital (without_cr rest) r → IsRecord l k rest r
line_at_end l k rest r e none line = ascii_record l k rest r e (subst (λ (x : List ℕ). IsLine (length l.selected) l.digital x r) (sym (line_unended l.records k rest none)) line)

pub after_at_end : (l : Layout) (k : ℕ) (rest : List ℕ) (form : Form) → form ≡ Ascii → IsUnended (eqb (k + 1) l.records) rest → after_front form l k rest ≡ []
after_at_end l k rest form e none = ap (λ (f : Form). after_front f l k rest) e ∙ after_unended (eqb (k + 1) l.records) rest none

pub fault_in_rest : (l : Layout) (k : ℕ) (before : Option ℕ) (rest : List ℕ) (field : ℕ) (kind : Kind) → l.form ≡ Ascii → IsUnended (eqb (k + 1) l.records) rest → list_all (is_byte 32) rest ≡ false
    → LineFault l.selected l.digital before (without_cr rest) field kind → RecordFault l k before rest field kind
fault_in_rest l k before rest field kind e none off fault =
    ascii_fault l k before rest field kind e (λ blank. true≢false (sym blank.spaces ∙ off))
    (subst (λ (x : List ℕ). LineFault l.selected l.digital before x field kind) (sym (line_unended l.records k rest none)) fault)
