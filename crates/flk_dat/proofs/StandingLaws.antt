-- Bytes that a reader has taken without a fault have none that is sure.
use Rattle.std.proofs.Common.{◌≡◌, ◌≢◌, ℕ, zero, suc, ◌+◌, ◌<◌, ◌≤◌, Bool, true, false, eqb, List, [], ◌++◌, length, replicate, Option, refl, sym, ap, subst, ◌∙◌, arith, inl, inr, length-append, append-nil}
use Rattle.std.specs.List.{list_all}
use Rattle.std.specs.Prelude.{not}
use Rattle.std.proofs.lemmas.Bool.{cases_lt, and_from}
use Rattle.std.proofs.lemmas.List.{length-replicate}
use Rattle.flk_text.specs.Fields.{fields}
use Rattle.flk_field.specs.declared.form.Form.{Form}
use Rattle.flk_field.specs.declared.form.Form.TheVariants.{Ascii, Binary}
use Rattle.flk_dat.specs.Records.{DataRecord, Layout, last_number}
use Rattle.flk_dat.specs.SampleFields.{Set, Number, Stamp, Analog, Digital, Refuses, NoWhole, NoSample}
use Rattle.flk_dat.specs.AsciiRecords.{longest_line, LineFault, RowFault}
use Rattle.flk_dat.specs.BinaryRecords.{record_size, WholeFault}
use Rattle.flk_dat.specs.DataFile.{line_at, after_records, FaultInFront, RecordFault, AreFirst, IsFaultAfter, IsFirstDataFault}
use Rattle.flk_dat.specs.Streams.{ends_line, IsUnended, MayBegin, IsPartOf, HasGiven}
use Rattle.flk_dat.specs.States.{layout, Stands}
use Rattle.flk_dat.specs.declared.reader.Reader.{Reader}
use Rattle.flk_dat.specs.declared.kind.Kind.{Kind}
use Rattle.flk_dat.specs.declared.kind.Kind.TheVariants as kinds
use Rattle.flk_dat.proofs.LineEnds.{line_unended, short_line}
use Rattle.flk_dat.proofs.StreamLemmas.{fault_due, accepted_at_end}
use Rattle.flk_dat.proofs.StateLemmas.{rest_due}
use Rattle.flk_dat.proofs.TakingLemmas.{at_end}
use Rattle.flk_dat.proofs.AsciiSteps.{ascii_part_is, unended_more, long_here}
use Rattle.flk_dat.proofs.BinarySteps.{binary_short, part_binary, text_or_bytes}
use Rattle.flk_dat.proofs.FileLaws.{lists_once, accepted_or_fault, one_first_fault}

-- ---- kinds

no_whole_kind : (most : ℕ) (f : List ℕ) (kind : Kind) → NoWhole most f kind → kind ≡ kinds.Length → ⊥
no_whole_kind most f kind (inl a) e = cc
no_whole_kind most f kind (inr a) e = cc

no_sample_kind : (f : List ℕ) (kind : Kind) → NoSample f kind → kind ≡ kinds.Length → ⊥
no_sample_kind f kind (inl a) e = cc
no_sample_kind f kind (inr a) e = cc

-- no field is too long
refused_kind : (s : Set) (f : List ℕ) (kind : Kind) → Refuses s f kind → kind ≡ kinds.Length → ⊥
unfolding Refuses
refused_kind (Number before) f kind (inl a) e = no_whole_kind _ f kind a e
refused_kind (Number before) f kind (inr a) e = cc
refused_kind Stamp f kind a e = no_whole_kind _ f kind a.1 e
refused_kind (Analog selected) f kind (inl a) e = no_sample_kind f kind a e
refused_kind (Analog selected) f kind (inr a) e = cc
refused_kind Digital f kind a e = no_whole_kind _ f kind a e

row_kind : (selected : List Bool) (digital : ℕ) (before : Option ℕ) (parts : List (List ℕ)) (field : ℕ) (kind : Kind) → RowFault selected digital before parts field kind → kind ≡ kinds.Length → ⊥
row_kind selected digital before parts field kind (inl a) e = cc
row_kind selected digital before parts field kind (inr a) e = refused_kind _ _ kind a.3.here e

-- a line that isn't too long has no such fault
line_kind : (selected : List Bool) (digital : ℕ) (before : Option ℕ) (line : List ℕ) (field : ℕ) (kind : Kind) → length line ≤ longest_line → LineFault selected digital before line field kind → kind ≡ kinds.Length → ⊥
line_kind selected digital before line field kind short (inl a) e = omega (arith, short, a.0)
line_kind selected digital before line field kind short (inr a) e = row_kind selected digital before (fields line) field kind a.1 e

whole_kind : (form : Form) (selected : List Bool) (before : Option ℕ) (bytes : List ℕ) (field : ℕ) (kind : Kind) → WholeFault form selected before bytes field kind → kind ≡ kinds.Short → ⊥
whole_kind form selected before bytes field kind (inl a) e = cc
whole_kind form selected before bytes field kind (inr a) e = cc

-- less than a line isn't too long
part_not_long : (form : Form) (l : Layout) (k : ℕ) (before : Option ℕ) (rest : List ℕ) (field : ℕ) (kind : Kind) → form ≡ Ascii → IsUnended (eqb (k + 1) l.records) rest → MayBegin rest
    → FaultInFront form l k before rest field kind → kind ≡ kinds.Length → ⊥
part_not_long Binary l k before rest field kind form none begin fault e = cc
part_not_long Ascii l k before rest field kind form none begin (inl blank) e = cc
part_not_long Ascii l k before rest field kind form none begin (inr fault) e =
    line_kind l.selected l.digital before (line_at l.records k rest) field kind (subst (λ (x : List ℕ). length x ≤ longest_line) (sym (line_unended l.records k rest none)) (short_line rest begin)) fault.1 e

-- a record that is whole isn't short
whole_not_short : (form : Form) (l : Layout) (k : ℕ) (before : Option ℕ) (rest : List ℕ) (field : ℕ) (kind : Kind) → form ≢ Ascii → record_size form (length l.selected) l.digital ≤ length rest
    → FaultInFront form l k before rest field kind → kind ≡ kinds.Short → ⊥
whole_not_short Ascii l k before rest field kind other room fault e = absurd (other refl)
whole_not_short Binary l k before rest field kind other room (inl short) e = omega (arith, short.0, room)
whole_not_short Binary l k before rest field kind other room (inr fault) e = whole_kind Binary l.selected before rest field kind fault.1 e

-- ---- the fault of the record that is due

-- a fault at the record behind those given is one of what is left
fault_of_rest : (l : Layout) (bytes : List ℕ) (given : List DataRecord) (rest : List ℕ) (row field : ℕ) (kind : Kind) → AreFirst l bytes given → length given < l.records → after_records l (length given) bytes ≡ rest
    → row ≡ length given + 1 → IsFirstDataFault l bytes row field kind → FaultInFront l.form l (length given) (last_number given) rest field kind
unfolding RecordFault
fault_of_rest l bytes given rest row field kind first lt left at fault =
    let rs = fault.0 in
    let len : length rs ≡ length given = omega (arith, at, fault.1) in
    let same : rs ≡ given = lists_once l bytes rs given len fault.2.first first in
    let after = subst (λ (x : List DataRecord). IsFaultAfter l bytes x field kind) same fault.2 in
    elim after.here [
      | inl due ↦ subst (λ (x : List ℕ). FaultInFront l.form l (length given) (last_number given) x field kind) left due.1
      | inr all ↦ absurd (omega (arith, all.0, lt))
    ]

all_of_one : (p : ℕ → Bool) (n x : ℕ) → p x ≡ true → list_all p (replicate n x) ≡ true
all_of_one p zero x h = refl
all_of_one p (suc n) x h = and_from (p x) (list_all p (replicate n x)) h (all_of_one p n x h)

plain_byte : (last : Bool) → not (ends_line last 120) ≡ true
plain_byte false = refl
plain_byte true = refl

not_begun : (bytes : List ℕ) → longest_line + 2 ≤ length bytes → MayBegin bytes → ⊥
not_begun bytes many (inl few) = omega (arith, many, few)
not_begun bytes many (inr cr) = omega (arith, many, cr.0)

-- in an ASCII file the line may become too long, and need not
no_sure_ascii : (l : Layout) (taken : List ℕ) (given : List DataRecord) (rest : List ℕ) (n row field : ℕ) (kind : Kind) → l.form ≡ Ascii → length given < l.records → HasGiven l taken given rest
    → IsPartOf l.form l (length given) rest → longest_line + 2 ≤ n → ((more : List ℕ) → IsFirstDataFault l (taken ++ more) row field kind) → ⊥
no_sure_ascii l taken given rest n row field kind form lt has part many sure =
    let k = length given in
    let long = replicate n 120 in
    let is = ascii_part_is l k rest l.form form part in
    let size : length (rest ++ long) ≡ length rest + n = length-append rest long ∙ ap (λ (m : ℕ). length rest + m) (length-replicate n 120) in
    let none : IsUnended (eqb (k + 1) l.records) (rest ++ long) =
    unended_more (eqb (k + 1) l.records) rest long is.0 (all_of_one (λ b. not (ends_line (eqb (k + 1) l.records) b)) n 120 (plain_byte (eqb (k + 1) l.records))) in
    let too_long : MayBegin (rest ++ long) → ⊥ = not_begun (rest ++ long) (omega (arith, size, many)) in
    let fault : RecordFault l k (last_number given) (rest ++ long) 0 kinds.Length =
    subst (λ (x : List ℕ). RecordFault l k (last_number given) x 0 kinds.Length) (append-nil (rest ++ long)) (long_here l k (last_number given) (rest ++ long) [] 0 kinds.Length form none too_long refl refl) in
    let here : IsFirstDataFault l (taken ++ long) (k + 1) 0 kinds.Length = (given, refl, fault_due l taken given rest long 0 kinds.Length has lt fault) in
    let one = one_first_fault l (taken ++ long) row (k + 1) field 0 kind kinds.Length (sure long) here in
    let left : after_records l k (taken ++ []) ≡ rest = has.left [] ∙ append-nil rest in
    part_not_long l.form l k (last_number given) rest field kind form is.0 is.1 (fault_of_rest l (taken ++ []) given rest row field kind (has.first []) lt left one.0 (sure [])) one.2

-- in a binary file the record may stay short, and need not
no_sure_binary : (l : Layout) (taken : List ℕ) (given : List DataRecord) (rest : List ℕ) (n row field : ℕ) (kind : Kind) → l.form ≢ Ascii → length given < l.records → HasGiven l taken given rest
    → IsPartOf l.form l (length given) rest → record_size l.form (length l.selected) l.digital ≤ n → ((more : List ℕ) → IsFirstDataFault l (taken ++ more) row field kind) → ⊥
no_sure_binary l taken given rest n row field kind other lt has part many sure =
    let k = length given in
    let more = replicate n 0 in
    let few : length rest < record_size l.form (length l.selected) l.digital = part_binary l.form l k rest other part in
    let size : length (rest ++ more) ≡ length rest + n = length-append rest more ∙ ap (λ (m : ℕ). length rest + m) (length-replicate n 0) in
    let short : RecordFault l k (last_number given) (rest ++ []) 0 kinds.Short =
    subst (λ (x : List ℕ). RecordFault l k (last_number given) x 0 kinds.Short) (sym (append-nil rest)) (binary_short l k (last_number given) rest other few) in
    let here : IsFirstDataFault l (taken ++ []) (k + 1) 0 kinds.Short = (given, refl, fault_due l taken given rest [] 0 kinds.Short has lt short) in
    let one = one_first_fault l (taken ++ []) row (k + 1) field 0 kind kinds.Short (sure []) here in
    let room : record_size l.form (length l.selected) l.digital ≤ length (rest ++ more) = omega (arith, size, many) in
    whole_not_short l.form l k (last_number given) (rest ++ more) field kind other room (fault_of_rest l (taken ++ more) given (rest ++ more) row field kind (has.first more) lt (has.left more) one.0 (sure more)) one.2

no_sure_due : (form : Form) (l : Layout) (taken : List ℕ) (given : List DataRecord) (rest : List ℕ) (row field : ℕ) (kind : Kind) → l.form ≡ form → length given < l.records → HasGiven l taken given rest
    → IsPartOf l.form l (length given) rest → ((more : List ℕ) → IsFirstDataFault l (taken ++ more) row field kind) → ⊥
no_sure_due Ascii l taken given rest row field kind form lt has part sure = no_sure_ascii l taken given rest (longest_line + 2) row field kind form lt has part (omega arith) sure
no_sure_due Binary l taken given rest row field kind form lt has part sure = no_sure_binary l taken given rest (record_size l.form (length l.selected) l.digital) row field kind (λ e. text_or_bytes (sym form ∙ e)) lt has part (omega arith) sure

pub no_sure_fault : (r : Reader) (taken : List ℕ) (given : List DataRecord) (row field : ℕ) (kind : Kind) → Stands r taken given → ((more : List ℕ) → IsFirstDataFault (layout r) (taken ++ more) row field kind) → ⊥
no_sure_fault r taken given row field kind s sure =
    elim (cases_lt r.given r.records) [
      | inl due ↦
          let h = rest_due r taken given s due in
          no_sure_due r.channels.form (layout r) taken given r.rest row field kind refl (omega (arith, due, s.holds.count)) h.0 (subst (λ (k : ℕ). IsPartOf r.channels.form (layout r) k r.rest) s.holds.count h.1) sure
      | inr all ↦
          let whole : r.given ≡ r.records = omega (arith, all, r.within) in
          let e = at_end r taken given whole s in
          let accepted = accepted_at_end (layout r) taken given e.rest e.has e.all e.follows in
          accepted_or_fault (layout r) taken given row field kind accepted (subst (λ (x : List ℕ). IsFirstDataFault (layout r) x row field kind) (append-nil taken) (sure []))
    ]
