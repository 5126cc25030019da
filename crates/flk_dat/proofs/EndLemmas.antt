-- What the reader answers at the end of the input.
use Rattle.std.proofs.Common.{◌≡◌, ◌≢◌, ℕ, ◌+◌, ◌<◌, ◌≤◌, Bool, true, false, List, [], ◌∷◌, ◌++◌, length, Option, refl, sym, ap, subst, ◌∙◌, arith, inl, length-append, append-nil}
use Rattle.std.specs.List.{list_all, count_by}
use Rattle.std.proofs.lemmas.Bool.{and_parts}
use Rattle.std.proofs.lemmas.Grind.{common_steps}
use Rattle.std.proofs.lemmas.List.Folds.{list_all-append}
use Rattle.flk_text.specs.Lines.{is_byte, without_cr}
use Rattle.flk_text.specs.Tail.{is_tail_byte}
use Rattle.flk_field.specs.declared.form.Form.{Form}
use Rattle.flk_field.specs.declared.form.Form.TheVariants.{Ascii}
use Rattle.flk_dat.specs.Records.{DataRecord, Rows, Layout, Follows, last_number, IsPresent, ArePresent}
use Rattle.flk_dat.specs.AsciiRecords.{IsLine, LineFault}
use Rattle.flk_dat.specs.DataFile.{after_records, IsRecord, RecordFault, MayFollow, AreFirst, IsAccepted, IsFaultAfter}
use Rattle.flk_dat.specs.Streams.{added}
use Rattle.flk_dat.specs.States.{layout, Stands}
use Rattle.flk_dat.specs.Takings.{Keeps, Ends, Falls}
use Rattle.flk_dat.specs.declared.reader.Reader.{Reader}
use Rattle.flk_dat.specs.declared.kind.Kind.{Kind}
use Rattle.flk_dat.specs.declared.kind.Kind.TheVariants as kinds
use Rattle.flk_dat.specs.declared.kind.Fault.{Fault}
use Rattle.flk_dat.proofs.Sequences.{length_more, present_more, added_is, grows_by}
use Rattle.flk_dat.proofs.LineEnds.{spaces_blank}
use Rattle.flk_dat.proofs.StreamLemmas.{after_front, after_next, first_more}
use Rattle.flk_dat.proofs.StateLemmas.{rest_due}
use Rattle.flk_dat.proofs.TakingLemmas.{IsHeld}
use Rattle.flk_dat.proofs.AsciiSteps.{ascii_part_is, ascii_short, line_at_end, after_at_end, fault_in_rest}

-- ---- tails

count_front : (p : ℕ → Bool) (xs ys : List ℕ) → count_by p xs ≤ count_by p (xs ++ ys)
count_front p xs ys = grind (arith, common_steps)

pub follow_front : (xs ys : List ℕ) → MayFollow Ascii (xs ++ ys) → MayFollow Ascii xs
follow_front xs ys f =
    let bytes = and_parts (list_all is_tail_byte xs) (list_all is_tail_byte ys) (sym (list_all-append is_tail_byte xs ys) ∙ f.0.bytes) in
    (record { bytes = bytes.0; one = omega (arith, f.0.one, count_front (is_byte 26) xs ys) }, omega (arith, f.1, length-append xs ys))

pub no_more : (piece rest more : List ℕ) → 0 < length piece → rest ++ (piece ++ more) ≡ [] → ⊥
no_more piece rest more some e = omega (arith, some, ap length e, length-append rest (piece ++ more), length-append piece more)

-- ---- the rest where a record is due

pub spaces_fall : (old : Reader) → old.channels.form ≡ Ascii → list_all (is_byte 32) old.rest ≡ true → IsHeld old old.rest → RecordFault (layout old) old.given old.before old.rest 0 kinds.Short
spaces_fall old form spaces held =
    ascii_short (layout old) old.given old.before old.rest form (spaces_blank old.rest (ascii_part_is (layout old) old.given old.rest old.channels.form form held).1 spaces)

pub line_falls : (old : Reader) (field : ℕ) (kind : Kind) → old.channels.form ≡ Ascii → list_all (is_byte 32) old.rest ≡ false
    → LineFault old.channels.selected.items old.channels.digital old.before (without_cr old.rest) field kind → IsHeld old old.rest → RecordFault (layout old) old.given old.before old.rest field kind
line_falls old field kind form off fault held =
    fault_in_rest (layout old) old.given old.before old.rest field kind form (ascii_part_is (layout old) old.given old.rest old.channels.form form held).0 off fault

-- ---- a last line without an end

-- the reader gave the record that the rest writes
pub record LineGiven (old new : Reader) (before after : Rows) (r : DataRecord) : Type 0 where
  pub form : old.channels.form ≡ Ascii
  pub due : old.given < old.records
  pub layout_same : layout new ≡ layout old
  pub count : new.given ≡ old.given + 1
  pub out : after ≡ record before { records = before.records ++ r ∷ [] }
  pub line : IsLine (length old.channels.selected.items) old.channels.digital (without_cr old.rest) r
  pub follows : Follows old.before r.number
  pub present : IsPresent Ascii old.channels.selected.items r

gained : (old new : Reader) (before after : Rows) (r : DataRecord) → LineGiven old new before after r → Keeps old new before after
gained old new before after r g = record {
  layout_same = g.layout_same;
  grows = grows_by before after (r ∷ []) (ap (λ (b : Rows). b.analog) g.out) (ap (λ (b : Rows). b.digital) g.out) (ap (λ (b : Rows). b.room) g.out) (ap (λ (b : Rows). b.records) g.out);
}

-- the bytes begin with the record too, and nothing follows it
record Reached (l : Layout) (taken : List ℕ) (given : List DataRecord) (r : DataRecord) : Type 0 where
  first : AreFirst l taken (given ++ r ∷ [])
  present : ArePresent l (given ++ r ∷ [])
  left : after_records l (length given + 1) taken ≡ []

reached : (old new : Reader) (before after : Rows) (r : DataRecord) (taken : List ℕ) (given : List DataRecord) → LineGiven old new before after r → Stands old taken given → Reached (layout old) taken given r
reached old new before after r taken given g s =
    let l = layout old in
    let h = rest_due old taken given s g.due in
    let lt : length given < old.records = omega (arith, g.due, s.holds.count) in
    let none = (ascii_part_is l old.given old.rest old.channels.form g.form h.1).0 in
    let left : after_records l (length given) taken ≡ old.rest = ap (after_records l (length given)) (sym (append-nil taken)) ∙ h.0.left [] ∙ append-nil old.rest in
    let first : AreFirst l taken given = subst (λ (b : List ℕ). AreFirst l b given) (append-nil taken) (h.0.first []) in
    let here : IsRecord l (length given) old.rest r = subst (λ (k : ℕ). IsRecord l k old.rest r) s.holds.count (line_at_end l old.given old.rest r g.form none g.line) in
    let after_rest : after_front old.channels.form l (length given) old.rest ≡ [] = subst (λ (k : ℕ). after_front old.channels.form l k old.rest ≡ []) s.holds.count (after_at_end l old.given old.rest old.channels.form g.form none) in
    record {
      first = first_more l taken given r first lt (subst (λ (b : List ℕ). IsRecord l (length given) b r) (sym left) here) (subst (λ (o : Option ℕ). Follows o r.number) s.holds.number g.follows);
      present = present_more l given r s.has.present (subst (λ (f : Form). IsPresent f old.channels.selected.items r) (sym g.form) g.present);
      left = after_next l (length given) taken lt ∙ ap (after_front old.channels.form l (length given)) left ∙ after_rest;
    }

pub line_ends : (old new : Reader) (before after : Rows) (r : DataRecord) → LineGiven old new before after r → new.given ≡ new.records → Ends old new before after
line_ends old new before after r g all =
    let records : new.records ≡ old.records = ap (λ (l : Layout). l.records) g.layout_same in
    let more : added before after ≡ r ∷ [] = added_is before after (r ∷ []) (ap (λ (b : Rows). b.records) g.out) in
    record {
      keeps = gained old new before after r g;
      accepted = λ taken given s.
          let x = reached old new before after r taken given g s in
          let last : length given + 1 ≡ old.records = omega (arith, all, records, g.count, s.holds.count) in
          let end : after_records (layout old) old.records taken ≡ [] = ap (λ (k : ℕ). after_records (layout old) k taken) (sym last) ∙ x.left in
          let nothing : MayFollow old.channels.form [] = subst (λ (f : Form). MayFollow f []) (sym g.form) (record { bytes = refl; one = omega arith }, omega arith) in
          let whole : IsAccepted (layout old) taken (given ++ r ∷ []) = record {
            file = record { count = length_more given r ∙ last; first = x.first; end = subst (MayFollow old.channels.form) (sym end) nothing };
            present = x.present;
          } in
          subst (λ (rs : List DataRecord). IsAccepted (layout old) taken (given ++ rs)) (sym more) whole;
    }

pub next_missing : (old new : Reader) (before after : Rows) (r : DataRecord) (f : Fault) → LineGiven old new before after r → new.given ≢ new.records → new.given ≤ new.records → f ≡ record { field = 0; kind = kinds.Short }
    → Falls old new before after f
next_missing old new before after r f g other within is =
    let records : new.records ≡ old.records = ap (λ (l : Layout). l.records) g.layout_same in
    let more : added before after ≡ r ∷ [] = added_is before after (r ∷ []) (ap (λ (b : Rows). b.records) g.out) in
    let l = layout old in
    record {
      keeps = gained old new before after r g;
      count = λ taken given s. g.count ∙ omega (arith, s.holds.count, length_more given r) ∙ ap (λ (rs : List DataRecord). length (given ++ rs)) (sym more);
      here = λ taken given s.
          let x = reached old new before after r taken given g s in
          let n = length_more given r in
          let lt : length (given ++ r ∷ []) < old.records = omega (arith, other, within, records, g.count, s.holds.count, n) in
          let left : after_records l (length (given ++ r ∷ [])) taken ≡ [] = ap (λ (k : ℕ). after_records l k taken) n ∙ x.left in
          let short : RecordFault l (length (given ++ r ∷ [])) (last_number (given ++ r ∷ [])) [] 0 kinds.Short =
          ascii_short l (length (given ++ r ∷ [])) (last_number (given ++ r ∷ [])) [] g.form (record { short = omega arith; spaces = refl }) in
          let fault : IsFaultAfter l taken (given ++ r ∷ []) 0 kinds.Short = record {
            first = x.first;
            present = x.present;
            here = inl (lt, subst (λ (b : List ℕ). RecordFault l (length (given ++ r ∷ [])) (last_number (given ++ r ∷ [])) b 0 kinds.Short) (sym left) short);
          } in
          subst (λ (rs : List DataRecord). IsFaultAfter l taken (given ++ rs) f.field f.kind) (sym more)
          (subst (λ (y : Fault). IsFaultAfter l taken (given ++ r ∷ []) y.field y.kind) (sym is) fault);
    }
