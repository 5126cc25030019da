-- How many bytes a reader takes without a fault: its records bound them.
use Rattle.std.proofs.Common.{ℕ, zero, suc, ◌+◌, ◌*◌, ◌<◌, ◌≤◌, Bool, true, false, eqb, List, [], ◌∷◌, ◌++◌, length, take, drop, ap, ◌∙◌, arith, inl, inr, length-take, length-drop, append-nil, add-one}
use Rattle.std.specs.List.{position_or_len, before_first}
use Rattle.std.proofs.lemmas.Bool.{cases_Bool, cases_lt}
use Rattle.flk_text.specs.Lines.{is_byte, ends_last_line, without_cr, without_lf}
use Rattle.flk_field.specs.declared.form.Form.{Form}
use Rattle.flk_field.specs.declared.form.Form.TheVariants.{Ascii, Binary}
use Rattle.flk_dat.specs.Records.{DataRecord, Layout, record_at}
use Rattle.flk_dat.specs.AsciiRecords.{longest_line}
use Rattle.flk_dat.specs.BinaryRecords.{record_size}
use Rattle.flk_dat.specs.DataFile.{longest_tail, after_records, StandsInFront, IsRecord, MayFollow, AreFirst}
use Rattle.flk_dat.specs.Streams.{ends_line, MayBegin, IsPartOf}
use Rattle.flk_dat.specs.States.{layout, Stands}
use Rattle.flk_dat.specs.declared.reader.Reader.{Reader}
use Rattle.flk_dat.proofs.LineEnds.{line_is, after_by, without_cr_length}
use Rattle.flk_dat.proofs.StreamLemmas.{after_front, after_next, after_none}

-- the layout has no more channels than a configuration may have
pub record IsNarrow (l : Layout) : Type 0 where
  pub analog : length l.selected ≤ 256
  pub digital : l.digital ≤ 256

-- ---- one record

without_lf_length : (bytes : List ℕ) → length bytes ≤ length (without_lf bytes) + 1
without_lf_length [] = omega arith
without_lf_length (b ∷ bs) =
    elim (cases_Bool (eqb b 10)) [
      | inl lf ↦ rw lf (omega arith)
      | inr other ↦ rw other (omega arith)
    ]

-- a line and what follows it are all bytes but the line's end, which is a CR and an LF at most
line_length : (last : Bool) (rest : List ℕ) → length rest ≤ length (without_cr (before_first (ends_line last) rest)) + length (after_by last rest) + 2
line_length false rest =
    let at = position_or_len (is_byte 10) rest in
    omega (arith, without_cr_length (take at rest), length-take at rest, length-drop (at + 1) rest)
line_length true rest =
    let at = position_or_len ends_last_line rest in
    omega (arith, without_cr_length (take at rest), without_lf_length (drop at rest), length-take at rest, length-drop at rest)

narrow_size : (form : Form) (l : Layout) → IsNarrow l → record_size form (length l.selected) l.digital ≤ 1064
narrow_size Ascii l narrow = omega (arith, narrow.digital)
narrow_size Binary l narrow = omega (arith, narrow.analog, narrow.digital)

front_length : (form : Form) (l : Layout) (k : ℕ) (rest : List ℕ) (r : DataRecord) → IsNarrow l → StandsInFront form l k rest r → length rest ≤ length (after_front form l k rest) + (longest_line + 2)
front_length Ascii l k rest r narrow is =
    let line = ap (λ (x : List ℕ). length x) (line_is l.records k rest) in
    omega (arith, is.short, line, line_length (eqb (k + 1) l.records) rest)
front_length Binary l k rest r narrow is = omega (arith, narrow_size Binary l narrow, length-drop (record_size Binary (length l.selected) l.digital) rest)

record_length : (l : Layout) (k : ℕ) (bytes : List ℕ) (r : DataRecord) → IsNarrow l → k < l.records → IsRecord l k (after_records l k bytes) r
    → length (after_records l k bytes) ≤ length (after_records l (k + 1) bytes) + (longest_line + 2)
unfolding IsRecord
record_length l k bytes r narrow lt is =
    let next = ap (λ (x : List ℕ). length x) (after_next l k bytes lt) in
    omega (arith, next, front_length l.form l k (after_records l k bytes) r narrow is)

-- ---- the records, and what is left behind them

records_length : (l : Layout) (bytes : List ℕ) (rs : List DataRecord) (n : ℕ) → IsNarrow l → 0 < l.records → AreFirst l bytes rs → n ≤ length rs
    → length bytes ≤ length (after_records l n bytes) + (longest_line + 2) * n
records_length l bytes rs zero narrow some first within = omega (arith, ap (λ (x : List ℕ). length x) (after_none l bytes some))
records_length l bytes rs (suc n) narrow some first within =
    let lt : n < length rs = omega (arith, within) in
    let so_far = records_length l bytes rs n narrow some first (omega (arith, within)) in
    let one = record_length l n bytes (record_at rs n) narrow (omega (arith, lt, first.within)) (first.each n lt) in
    let next = ap (λ (k : ℕ). length (after_records l k bytes)) (add-one n) in
    omega (arith, so_far, one, next)

begin_length : (bytes : List ℕ) → MayBegin bytes → length bytes ≤ longest_line + 1
begin_length bytes (inl few) = omega (arith, few)
begin_length bytes (inr cr) = omega (arith, cr.0)

part_length : (form : Form) (l : Layout) (k : ℕ) (rest : List ℕ) → IsNarrow l → IsPartOf form l k rest → length rest ≤ longest_tail
part_length Ascii l k rest narrow part = omega (arith, begin_length rest part.1)
part_length Binary l k rest narrow part = omega (arith, part, narrow_size Binary l narrow)

end_length : (form : Form) (rest : List ℕ) → MayFollow form rest → length rest ≤ longest_tail
end_length Ascii rest end = end.1
end_length Binary rest end = omega (arith, ap (λ (x : List ℕ). length x) end)

rest_length : (r : Reader) (taken : List ℕ) (given : List DataRecord) (s : Stands r taken given) → IsNarrow (layout r) → length s.rest ≤ longest_tail
rest_length r taken given s narrow =
    let within : r.given ≤ r.records = r.within in
    elim (cases_lt (length given) r.records) [
      | inl due ↦ part_length r.channels.form (layout r) (length given) s.rest narrow (s.holds.held due).1
      | inr all ↦ end_length r.channels.form s.rest (s.holds.tail (omega (arith, all, within, s.holds.count))).2
    ]

-- ---- the bytes taken

pub taken_length : (r : Reader) (taken : List ℕ) (given : List DataRecord) → Stands r taken given → length taken ≤ (longest_line + 2) * (layout r).records + longest_tail
taken_length r taken given s =
    let narrow : IsNarrow (layout r) = record { analog = r.channels.analog_few; digital = r.channels.digital_few } in
    let first = s.has.first [] in
    let records = records_length (layout r) (taken ++ []) given (length given) narrow r.some first (omega arith) in
    let left = ap (λ (x : List ℕ). length x) (s.has.left [] ∙ append-nil s.rest) in
    let all = ap (λ (x : List ℕ). length x) (append-nil taken) in
    omega (arith, records, left, all, first.within, rest_length r taken given s narrow)
