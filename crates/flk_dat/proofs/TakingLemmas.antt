-- What one call of the reader does, from what it did to the reader's parts.
use Rattle.std.proofs.Common.{◌≡◌, ℕ, ◌<◌, ◌≤◌, List, [], ◌∷◌, ◌++◌, length, take, Option, refl, sym, ap, subst, ◌∙◌, arith, inl, inr, append_assoc, append-nil}
use Rattle.std.proofs.lemmas.List.{take_all}
use Rattle.std.specs.List.{count_by}
use Rattle.flk_text.specs.Lines.{is_byte}
use Rattle.flk_field.specs.declared.form.Form.{Form}
use Rattle.flk_dat.specs.Records.{DataRecord, Rows, Layout, Follows, IsPresent}
use Rattle.flk_dat.specs.DataFile.{IsRecord, RecordFault, EndFault, MayFollow, IsAccepted, IsFaultAfter}
use Rattle.flk_dat.specs.Streams.{IsPartOf, HasGiven, added}
use Rattle.flk_dat.specs.States.{layout, Stands}
use Rattle.flk_dat.specs.Takings.{Takes, Stops, Ends, Falls}
use Rattle.flk_dat.specs.declared.reader.Reader.{Reader}
use Rattle.flk_dat.specs.declared.kind.Kind.TheVariants as kinds
use Rattle.flk_dat.specs.declared.kind.Fault.{Fault}
use Rattle.flk_dat.proofs.Sequences.{length_more, added_is, added_none, grows_by, grows_same}
use Rattle.flk_dat.proofs.StreamLemmas.{after_front, given_held, fault_due, fault_at_end, accepted_at_end, ends_record}
use Rattle.flk_dat.proofs.StateLemmas.{Stays, Given, rest_due, stands_held, stands_given}

-- what is held is less than the record that is due
abbrev pub IsHeld : Reader → List ℕ → Type 0
IsHeld r bytes = IsPartOf r.channels.form (layout r) r.given bytes

nothing_added : (given : List DataRecord) (b : Rows) → given ++ added b b ≡ given
nothing_added given b = ap (λ (x : List DataRecord). given ++ x) (added_none b b refl) ∙ append-nil given

all_taken : (piece : List ℕ) → take (length piece) piece ≡ piece
all_taken piece = take_all (length piece) piece (omega arith)

-- ---- bytes that are held

pub takes_held : (old new : Reader) (b : Rows) (piece : List ℕ) → Stays old new → old.given < old.records → new.rest ≡ old.rest ++ piece → (IsHeld old old.rest → IsHeld old (old.rest ++ piece)) → 0 < length piece
    → Takes old new b b piece (length piece)
takes_held old new b piece stays due is part some = record {
  keeps = record { layout_same = stays.layout_same; grows = grows_same b };
  some = some;
  within = omega arith;
  stands = λ taken given s.
      subst (λ (x : List ℕ). Stands new (taken ++ x) (given ++ added b b)) (sym (all_taken piece))
      (subst (λ (x : List DataRecord). Stands new (taken ++ piece) x) (sym (nothing_added given b)) (stands_held old new taken given piece stays due is (part (rest_due old taken given s due).1) s));
  ends = inl (refl, refl);
}

-- ---- a record that is whole

-- the record that n bytes of the piece make whole
pub record Whole (old : Reader) (piece : List ℕ) (n : ℕ) (mark : List ℕ) (r : DataRecord) : Type 0 where
  pub some : 0 < n
  pub within : n ≤ length piece
  pub here : IsHeld old old.rest → (more : List ℕ) → IsRecord (layout old) old.given (old.rest ++ (take n piece ++ more)) r
  pub after : IsHeld old old.rest → (more : List ℕ) → after_front old.channels.form (layout old) old.given (old.rest ++ (take n piece ++ more)) ≡ mark ++ more
  pub follows : Follows old.before r.number
  pub present : IsPresent old.channels.form (layout old).selected r
  pub front : List ℕ
  pub byte : ℕ
  pub last : take n piece ≡ front ++ byte ∷ []
  pub part : IsHeld old old.rest → IsHeld old (old.rest ++ front)

pub takes_whole : (old new : Reader) (before after : Rows) (piece : List ℕ) (n : ℕ) (mark : List ℕ) (r : DataRecord) → Given old new r.number mark → old.given < old.records
    → after ≡ record before { records = before.records ++ r ∷ [] } → Whole old piece n mark r → Takes old new before after piece n
takes_whole old new before after piece n mark r g due out w =
    let records : after.records ≡ before.records ++ r ∷ [] = ap (λ (b : Rows). b.records) out in
    let more : added before after ≡ r ∷ [] = added_is before after (r ∷ []) records in
    record {
      keeps = record {
        layout_same = g.layout_same;
        grows = grows_by before after (r ∷ []) (ap (λ (b : Rows). b.analog) out) (ap (λ (b : Rows). b.digital) out) (ap (λ (b : Rows). b.room) out) records;
      };
      some = w.some;
      within = w.within;
      stands = λ taken given s.
          let held = (rest_due old taken given s due).1 in
          subst (λ (x : List DataRecord). Stands new (taken ++ take n piece) (given ++ x)) (sym more)
          (stands_given old new taken given (take n piece) mark r g due (w.here held) (w.after held) w.follows w.present s);
      ends = inr (
        ap length records ∙ length_more before.records r,
        λ taken given s.
            let has = rest_due old taken given s due in
            ends_record (layout old) taken given old.rest (take n piece) w.front w.byte has.0 w.last (subst (λ (k : ℕ). IsPartOf old.channels.form (layout old) k (old.rest ++ w.front)) s.holds.count (w.part has.1)),
      );
    }

-- ---- a fault of the record that is due

pub stops_due : (old new : Reader) (b : Rows) (piece : List ℕ) (f : Fault) → layout new ≡ layout old → new.given ≡ old.given → old.given < old.records
    → (IsHeld old old.rest → (more : List ℕ) → RecordFault (layout old) old.given old.before (old.rest ++ (piece ++ more)) f.field f.kind) → Stops old new b b piece f
stops_due old new b piece f same count due fault = record {
  keeps = record { layout_same = same; grows = grows_same b };
  count = λ taken given s. count ∙ s.holds.count ∙ ap length (sym (nothing_added given b));
  sure = λ taken given s more.
      let has = rest_due old taken given s due in
      let lt : length given < old.records = omega (arith, due, s.holds.count) in
      let here = subst (λ (o : Option ℕ). RecordFault (layout old) (length given) o (old.rest ++ (piece ++ more)) f.field f.kind) s.holds.number
      (subst (λ (k : ℕ). RecordFault (layout old) k old.before (old.rest ++ (piece ++ more)) f.field f.kind) s.holds.count (fault has.1 more)) in
      subst (λ (x : List DataRecord). IsFaultAfter (layout old) ((taken ++ piece) ++ more) x f.field f.kind) (sym (nothing_added given b))
      (subst (λ (x : List ℕ). IsFaultAfter (layout old) x given f.field f.kind) (sym (append_assoc taken piece more)) (fault_due (layout old) taken given old.rest (piece ++ more) f.field f.kind has.0 lt here));
}

pub falls_due : (old new : Reader) (b : Rows) (f : Fault) → layout new ≡ layout old → new.given ≡ old.given → old.given < old.records
    → (IsHeld old old.rest → RecordFault (layout old) old.given old.before old.rest f.field f.kind) → Falls old new b b f
falls_due old new b f same count due fault = record {
  keeps = record { layout_same = same; grows = grows_same b };
  count = λ taken given s. count ∙ s.holds.count ∙ ap length (sym (nothing_added given b));
  here = λ taken given s.
      let has = rest_due old taken given s due in
      let lt : length given < old.records = omega (arith, due, s.holds.count) in
      let whole : RecordFault (layout old) old.given old.before (old.rest ++ []) f.field f.kind =
      subst (λ (x : List ℕ). RecordFault (layout old) old.given old.before x f.field f.kind) (sym (append-nil old.rest)) (fault has.1) in
      let here = subst (λ (o : Option ℕ). RecordFault (layout old) (length given) o (old.rest ++ []) f.field f.kind) s.holds.number
      (subst (λ (k : ℕ). RecordFault (layout old) k old.before (old.rest ++ []) f.field f.kind) s.holds.count whole) in
      subst (λ (x : List DataRecord). IsFaultAfter (layout old) taken x f.field f.kind) (sym (nothing_added given b))
      (subst (λ (x : List ℕ). IsFaultAfter (layout old) x given f.field f.kind) (append-nil taken) (fault_due (layout old) taken given old.rest [] f.field f.kind has.0 lt here));
}

-- a block that is as before
pub stops_same : (old new : Reader) (before after : Rows) (piece : List ℕ) (f : Fault) → after ≡ before → Stops old new before before piece f → Stops old new before after piece f
stops_same old new before after piece f same stops = subst (λ (b : Rows). Stops old new before b piece f) (sym same) stops

pub falls_same : (old new : Reader) (before after : Rows) (f : Fault) → after ≡ before → Falls old new before before f → Falls old new before after f
falls_same old new before after f same falls = subst (λ (b : Rows). Falls old new before b f) (sym same) falls

-- ---- behind the last record

-- all records are given, and what has come of the tail may follow them
pub record AtEnd (r : Reader) (taken : List ℕ) (given : List DataRecord) : Type 0 where
  pub rest : List ℕ
  pub all : length given ≡ r.records
  pub has : HasGiven (layout r) taken given rest
  pub bytes : r.tail.bytes ≡ length rest
  pub marks : r.tail.marks ≡ count_by (is_byte 26) rest
  pub follows : MayFollow r.channels.form rest

pub at_end : (r : Reader) (taken : List ℕ) (given : List DataRecord) → r.given ≡ r.records → Stands r taken given → AtEnd r taken given
at_end r taken given all s =
    let e : length given ≡ r.records = sym s.holds.count ∙ all in
    let t = s.holds.tail e in
    record { rest = s.rest; all = e; has = s.has; bytes = t.0; marks = t.1; follows = t.2 }

-- the tail that is kept stands for the rest with the piece at its end
pub record TailGrows (old new : Reader) (piece : List ℕ) : Type 0 where
  pub grows : (rest : List ℕ) → old.tail.bytes ≡ length rest → old.tail.marks ≡ count_by (is_byte 26) rest → MayFollow old.channels.form rest
      → (new.tail.bytes ≡ length (rest ++ piece)) × (new.tail.marks ≡ count_by (is_byte 26) (rest ++ piece)) × MayFollow old.channels.form (rest ++ piece)

pub takes_tail : (old new : Reader) (b : Rows) (piece : List ℕ) → Stays old new → old.given ≡ old.records → TailGrows old new piece → 0 < length piece → Takes old new b b piece (length piece)
takes_tail old new b piece stays all grows some =
    let records : new.records ≡ old.records = ap (λ (l : Layout). l.records) stays.layout_same in
    let form : new.channels.form ≡ old.channels.form = ap (λ (l : Layout). l.form) stays.layout_same in
    record {
      keeps = record { layout_same = stays.layout_same; grows = grows_same b };
      some = some;
      within = omega arith;
      stands = λ taken given s.
          let e = at_end old taken given all s in
          let t = grows.grows e.rest e.bytes e.marks e.follows in
          let next : Stands new (taken ++ piece) given = record {
            going = stays.fault ∙ s.going;
            rest = e.rest ++ piece;
            has = subst (λ (l : Layout). HasGiven l (taken ++ piece) given (e.rest ++ piece)) (sym stays.layout_same) (given_held (layout old) taken given e.rest piece e.has);
            holds = record {
              count = stays.given ∙ s.holds.count;
              number = stays.before ∙ s.holds.number;
              held = λ lt. absurd (omega (arith, lt, records, e.all));
              tail = λ _. (t.0, t.1, subst (λ (f : Form). MayFollow f (e.rest ++ piece)) (sym form) t.2);
            };
          } in
          subst (λ (x : List ℕ). Stands new (taken ++ x) (given ++ added b b)) (sym (all_taken piece)) (subst (λ (x : List DataRecord). Stands new (taken ++ piece) x) (sym (nothing_added given b)) next);
      ends = inl (refl, refl);
    }

pub stops_tail : (old : Reader) (b : Rows) (piece : List ℕ) (f : Fault) → old.given ≡ old.records → f ≡ record { field = 0; kind = kinds.Long }
    → ((rest : List ℕ) → old.tail.bytes ≡ length rest → old.tail.marks ≡ count_by (is_byte 26) rest → MayFollow old.channels.form rest → (more : List ℕ) → MayFollow old.channels.form (rest ++ (piece ++ more)) → ⊥) → Stops old old b b piece f
stops_tail old b piece f all is none = record {
  keeps = record { layout_same = refl; grows = grows_same b };
  count = λ taken given s. s.holds.count ∙ ap length (sym (nothing_added given b));
  sure = λ taken given s more.
      let e = at_end old taken given all s in
      let fault : EndFault (layout old) (e.rest ++ (piece ++ more)) f.field f.kind = (ap (λ (x : Fault). x.field) is, ap (λ (x : Fault). x.kind) is, none e.rest e.bytes e.marks e.follows more) in
      subst (λ (x : List DataRecord). IsFaultAfter (layout old) ((taken ++ piece) ++ more) x f.field f.kind) (sym (nothing_added given b))
      (subst (λ (x : List ℕ). IsFaultAfter (layout old) x given f.field f.kind) (sym (append_assoc taken piece more)) (fault_at_end (layout old) taken given e.rest (piece ++ more) f.field f.kind e.has e.all fault));
}

pub ends_all : (r : Reader) (b : Rows) → r.given ≡ r.records → Ends r r b b
ends_all r b all = record {
  keeps = record { layout_same = refl; grows = grows_same b };
  accepted = λ taken given s.
      let e = at_end r taken given all s in
      subst (IsAccepted (layout r) taken) (sym (nothing_added given b)) (accepted_at_end (layout r) taken given e.rest e.has e.all e.follows);
}

pub takes_held_at : (old new : Reader) (b : Rows) (piece : List ℕ) (n : ℕ) → n ≡ length piece → Stays old new → old.given < old.records → new.rest ≡ old.rest ++ piece → (IsHeld old old.rest → IsHeld old (old.rest ++ piece)) → 0 < length piece
    → Takes old new b b piece n
takes_held_at old new b piece n e stays due is part some = subst (Takes old new b b piece) (sym e) (takes_held old new b piece stays due is part some)
