-- What the reader does with the bytes of an ASCII line.
use Rattle.std.proofs.Common.{◌≡◌, ℕ, suc, ◌+◌, ◌<◌, Bool, true, eqb, List, [], ◌∷◌, ◌++◌, length, get_or, take, drop, sym, ap, subst, ◌∙◌, arith, append_assoc}
use Rattle.std.specs.List.{position_or_len}
use Rattle.std.proofs.lemmas.List.{take_more}
use Rattle.std.proofs.lemmas.List.Sums.{passes_at_first}
use Rattle.std.proofs.Math.Seq.{split_at}
use Rattle.flk_text.specs.Lines.{without_cr}
use Rattle.flk_field.specs.declared.form.Form.{Form}
use Rattle.flk_field.specs.declared.form.Form.TheVariants.{Ascii}
use Rattle.flk_dat.specs.Records.{DataRecord, Follows, IsPresent}
use Rattle.flk_dat.specs.AsciiRecords.{IsLine, LineFault}
use Rattle.flk_dat.specs.DataFile.{IsRecord, RecordFault, MayFollow}
use Rattle.flk_dat.specs.Streams.{ends_line, IsUnended, MayBegin}
use Rattle.flk_dat.specs.Tails.{tail_after}
use Rattle.flk_dat.specs.States.{layout}
use Rattle.flk_dat.specs.Takings.{Gives}
use Rattle.flk_dat.specs.declared.reader.Reader.{Reader}
use Rattle.flk_dat.specs.declared.tail.Tail.{Tail}
use Rattle.flk_dat.specs.declared.kind.Kind.{Kind}
use Rattle.flk_dat.specs.declared.kind.Kind.TheVariants as kinds
use Rattle.flk_dat.proofs.LineEnds.{mark_of}
use Rattle.flk_dat.proofs.StreamLemmas.{after_front}
use Rattle.flk_dat.proofs.StateLemmas.{Given}
use Rattle.flk_dat.proofs.TakingLemmas.{IsHeld, Whole}
use Rattle.flk_dat.proofs.AsciiSteps.{ascii_part, ascii_part_is, unended_more, piece_before, piece_unended, good_may_begin, line_here, line_after, line_fault_here, long_here, mark_none, mark_follows, mark_tail}

-- whether the line that is due is the last record's
abbrev pub is_last : Reader → Bool
is_last r = eqb (r.given + 1) r.records

-- where the line of the piece ends
abbrev pub end_of : Reader → List ℕ → ℕ
end_of r piece = position_or_len (ends_line (is_last r)) piece

pub end_ends : (r : Reader) (piece : List ℕ) (n : ℕ) → n ≡ end_of r piece → n < length piece → ends_line (is_last r) (get_or piece n 0) ≡ true
end_ends r piece n e lt =
    subst (λ (k : ℕ). ends_line (is_last r) (get_or piece k 0) ≡ true) (sym e) (passes_at_first (ends_line (is_last r)) piece 0 (omega (arith, e, lt)))

held_before : (old : Reader) (piece : List ℕ) (n : ℕ) → old.channels.form ≡ Ascii → n ≡ end_of old piece → IsHeld old old.rest → IsUnended (is_last old) (old.rest ++ take n piece)
held_before old piece n form e held = unended_more (is_last old) old.rest (take n piece) (ascii_part_is (layout old) old.given old.rest old.channels.form form held).0 (piece_before (is_last old) piece n e)

-- the line that the piece ends
pub line_whole : (old : Reader) (piece : List ℕ) (n : ℕ) (r : DataRecord) → old.channels.form ≡ Ascii → n ≡ end_of old piece → n < length piece
    → IsLine (length old.channels.selected.items) old.channels.digital (without_cr (old.rest ++ take n piece)) r → Follows old.before r.number → IsPresent Ascii old.channels.selected.items r
    → Whole old piece (n + 1) (mark_of (get_or piece n 0)) r
line_whole old piece n r form e lt line follows present =
    let c = get_or piece n 0 in
    let end = end_ends old piece n e lt in
    let more : take (n + 1) piece ≡ take n piece ++ c ∷ [] = take_more piece n 0 lt in
    record {
      some = omega arith;
      within = omega (arith, lt);
      here = λ held rest. subst (λ (x : List ℕ). IsRecord (layout old) old.given (old.rest ++ (x ++ rest)) r) (sym more) (line_here (layout old) old.given old.rest (take n piece) rest c r form (held_before old piece n form e held) end line);
      after = λ held rest. subst (λ (x : List ℕ). after_front old.channels.form (layout old) old.given (old.rest ++ (x ++ rest)) ≡ mark_of c ++ rest) (sym more)
          (line_after (layout old) old.given old.rest (take n piece) rest c old.channels.form form (held_before old piece n form e held) end);
      follows = follows;
      present = subst (λ (f : Form). IsPresent f old.channels.selected.items r) (sym form) present;
      front = take n piece;
      byte = c;
      last = more;
      part = λ held. ascii_part (layout old) old.given (old.rest ++ take n piece) old.channels.form form (held_before old piece n form e held) (good_may_begin (old.rest ++ take n piece) line.short);
    }

-- the fault of the line that the piece ends
pub line_stops : (old : Reader) (piece : List ℕ) (n field : ℕ) (kind : Kind) → old.channels.form ≡ Ascii → n ≡ end_of old piece → n < length piece
    → LineFault old.channels.selected.items old.channels.digital old.before (without_cr (old.rest ++ take n piece)) field kind
    → IsHeld old old.rest → (more : List ℕ) → RecordFault (layout old) old.given old.before (old.rest ++ (piece ++ more)) field kind
line_stops old piece n field kind form e lt fault held more =
    let c = get_or piece n 0 in
    let back = drop (suc n) piece in
    let cut : piece ≡ take n piece ++ (c ∷ back) = split_at piece n 0 lt in
    let same : old.rest ++ (piece ++ more) ≡ (old.rest ++ take n piece) ++ (c ∷ (back ++ more)) =
    ap (λ (x : List ℕ). old.rest ++ (x ++ more)) cut ∙ ap (λ (x : List ℕ). old.rest ++ x) (append_assoc (take n piece) (c ∷ back) more) ∙ sym (append_assoc old.rest (take n piece) (c ∷ (back ++ more))) in
    subst (λ (x : List ℕ). RecordFault (layout old) old.given old.before x field kind) (sym same)
    (line_fault_here (layout old) old.given old.before old.rest (take n piece) (back ++ more) c field kind form (held_before old piece n form e held) (end_ends old piece n e lt) fault)

-- a piece in which no line ends
pub line_held : (old : Reader) (piece : List ℕ) → old.channels.form ≡ Ascii → length piece ≡ end_of old piece → MayBegin (old.rest ++ piece) → IsHeld old old.rest → IsHeld old (old.rest ++ piece)
line_held old piece form e begin held =
    ascii_part (layout old) old.given (old.rest ++ piece) old.channels.form form (unended_more (is_last old) old.rest piece (ascii_part_is (layout old) old.given old.rest old.channels.form form held).0 (piece_unended (is_last old) piece e)) begin

pub line_too_long : (old : Reader) (piece : List ℕ) (field : ℕ) (kind : Kind) → old.channels.form ≡ Ascii → length piece ≡ end_of old piece → (MayBegin (old.rest ++ piece) → ⊥) → field ≡ 0 → kind ≡ kinds.Length
    → IsHeld old old.rest → (more : List ℕ) → RecordFault (layout old) old.given old.before (old.rest ++ (piece ++ more)) field kind
line_too_long old piece field kind form e long place is held more =
    let none = unended_more (is_last old) old.rest piece (ascii_part_is (layout old) old.given old.rest old.channels.form form held).0 (piece_unended (is_last old) piece e) in
    subst (λ (x : List ℕ). RecordFault (layout old) old.given old.before x field kind) (append_assoc old.rest piece more)
    (long_here (layout old) old.given old.before (old.rest ++ piece) more field kind form none long place is)

-- the reader when the line's record is given
pub line_given : (old mid new : Reader) (number : ℕ) (tail : Tail) (c : ℕ) → old.channels.form ≡ Ascii → layout mid ≡ layout old → mid.fault ≡ old.fault → mid.given ≡ old.given → mid.rest ≡ [] → Gives mid new number tail
    → tail ≡ tail_after c → ends_line (is_last old) c ≡ true → Given old new number (mark_of c)
line_given old mid new number tail c form same fault count none g is end =
    let t = mark_tail (is_last old) c end in
    record {
      layout_same = g.layout_same ∙ same;
      fault = g.fault ∙ fault;
      given = g.given ∙ ap (λ (k : ℕ). k + 1) count;
      before = g.before;
      rest = g.rest ∙ none;
      tail_bytes = ap (λ (x : Tail). x.bytes) (g.tail ∙ is) ∙ t.0;
      tail_marks = ap (λ (x : Tail). x.marks) (g.tail ∙ is) ∙ t.1;
      none = λ lt. mark_none old.records old.given c end lt;
      follows = subst (λ (f : Form). MayFollow f (mark_of c)) (sym form) (mark_follows (is_last old) c end);
    }
