-- Binary records that come in pieces. What is said here holds of each form but ASCII.
use Rattle.std.proofs.Common.{◌≡◌, ◌≢◌, ℕ, ◌+◌, ◌-◌, ◌*◌, ◌/◌, ◌<◌, ◌≤◌, ◌^◌, ◌%◌, Bool, eqb, List, [], ◌∷◌, ◌++◌, length, get_or, take, drop, Option, Some, refl, sym, ap, subst, ◌∙◌, arith, inl, inr, length-append, length-drop, length-take, append_assoc}
use Rattle.std.proofs.lemmas.List.{take_more, drop-append-le, take-append-drop}
use Rattle.std.proofs.Math.Seq.{drop-append_seam}
use Rattle.std.proofs.Math.Nat.{mul-le-mul_right}
use Rattle.byteorder.specs.Endian.{little_number}
use Rattle.byteorder.specs.Numbers.{little_from-append}
use Rattle.flk_field.specs.declared.form.Form.{Form}
use Rattle.flk_field.specs.declared.form.Form.TheVariants.{Ascii, Binary}
use Rattle.flk_dat.specs.Records.{DataRecord, Layout, Follows, IsPresent}
use Rattle.flk_dat.specs.BinaryRecords.{value_width, signed_value, record_size, number_of, stamp_of, value_of, word_of, IsBinary, WholeFault, BinaryFault}
use Rattle.flk_dat.specs.DataFile.{StandsInFront, IsRecord, FaultInFront, RecordFault, MayFollow}
use Rattle.flk_dat.specs.Streams.{IsPartOf}
use Rattle.flk_dat.specs.States.{layout}
use Rattle.flk_dat.specs.Heads.{Writes, FaultOf}
use Rattle.flk_dat.specs.declared.channels.Channels.{Channels}
use Rattle.flk_dat.specs.Takings.{Gives}
use Rattle.flk_dat.specs.declared.reader.Reader.{Reader}
use Rattle.flk_dat.specs.declared.tail.Tail.{Tail}
use Rattle.flk_dat.specs.declared.kind.Kind.{Kind}
use Rattle.flk_dat.specs.declared.kind.Kind.TheVariants as kinds
use Rattle.flk_dat.proofs.StreamLemmas.{after_front}
use Rattle.flk_dat.proofs.StateLemmas.{Given}
use Rattle.flk_dat.proofs.TakingLemmas.{IsHeld, Whole}

-- ---- bytes behind a record change nothing in it

number_at_more : (n at : ℕ) (xs ys : List ℕ) → at + n ≤ length xs → little_number n (drop at (xs ++ ys)) ≡ little_number n (drop at xs)
number_at_more n at xs ys room =
    ap (little_number n) (drop-append-le at xs ys (omega (arith, room))) ∙ little_from-append n (drop at xs) ys (omega (arith, room, length-drop at xs))

pub number_of_more : (xs ys : List ℕ) → 8 ≤ length xs → number_of (xs ++ ys) ≡ number_of xs
unfolding number_of
number_of_more xs ys room = little_from-append 4 xs ys (omega (arith, room))

pub stamp_of_more : (xs ys : List ℕ) → 8 ≤ length xs → stamp_of (xs ++ ys) ≡ stamp_of xs
unfolding stamp_of
stamp_of_more xs ys room = number_at_more 4 4 xs ys (omega (arith, room))

value_within : (w i n : ℕ) → i < n → w * i + w ≤ w * n
value_within w i n lt =
    let up : (i + 1) * w ≤ n * w = mul-le-mul_right w (omega (arith, lt)) in
    omega (arith, up)

pub value_of_more : (form : Form) (analog digital : ℕ) (xs ys : List ℕ) (i : ℕ) → record_size form analog digital ≤ length xs → i < analog
    → value_of form (xs ++ ys) i ≡ value_of form xs i
unfolding value_of
value_of_more form analog digital xs ys i room lt =
    let w = value_width form in
    ap (signed_value form) (number_at_more w (8 + w * i) xs ys (omega (arith, room, value_within w i analog lt)))

pub word_of_more : (form : Form) (analog digital : ℕ) (xs ys : List ℕ) (i : ℕ) → record_size form analog digital ≤ length xs → i < digital
    → word_of form analog (xs ++ ys) i ≡ word_of form analog xs i
unfolding word_of
word_of_more form analog digital xs ys i room lt =
    number_at_more 2 (8 + value_width form * analog + 2 * (i / 16)) xs ys (omega (arith, room, lt))

pub binary_more : (form : Form) (analog digital : ℕ) (xs ys : List ℕ) (r : DataRecord) → IsBinary form analog digital xs r
    → IsBinary form analog digital (xs ++ ys) r
binary_more form analog digital xs ys r b =
    let room : 8 ≤ length xs = omega (arith, b.whole) in
    record {
      whole = omega (arith, b.whole, length-append xs ys);
      number = b.number ∙ sym (number_of_more xs ys room);
      stamp = b.stamp ∙ ap (λ (n : ℕ). Some n) (sym (stamp_of_more xs ys room));
      analog_count = b.analog_count;
      analog_values = λ i lt. b.analog_values i lt ∙ sym (value_of_more form analog digital xs ys i b.whole lt);
      digital_count = b.digital_count;
      digital_values = λ i lt. b.digital_values i lt ∙ ap (λ (w : ℕ). eqb (w / 2 ^ (i % 16) % 2) 1) (sym (word_of_more form analog digital xs ys i b.whole lt));
    }

pub whole_fault_more : (form : Form) (selected : List Bool) (digital : ℕ) (before : Option ℕ) (xs ys : List ℕ) (field : ℕ) (kind : Kind) → record_size form (length selected) digital ≤ length xs
    → WholeFault form selected before xs field kind → WholeFault form selected before (xs ++ ys) field kind
whole_fault_more form selected digital before xs ys field kind room (inl order) =
    let same = number_of_more xs ys (omega (arith, room)) in
    inl (λ f. order.0 (subst (Follows before) same f), order.1, order.2)
whole_fault_more form selected digital before xs ys field kind room (inr missing) =
    let same = number_of_more xs ys (omega (arith, room)) in
    let m = missing.3 in
    let value : (i : ℕ) → i < length selected → value_of form (xs ++ ys) i ≡ value_of form xs i = λ i lt. value_of_more form (length selected) digital xs ys i room lt in
    inr (
      subst (Follows before) (sym same) missing.0,
      missing.1,
      missing.2,
      record {
        within = m.within;
        left = λ j lt chosen e. m.left j lt chosen (sym (value j (omega (arith, lt, m.within))) ∙ e);
        chosen = m.chosen;
        missing = value missing.1 m.within ∙ m.missing;
      },
      missing.4,
    )

-- ---- records and faults of a binary file

pub text_or_bytes : Binary ≡ Ascii → ⊥
text_or_bytes e = cc

stands_binary : (form : Form) (l : Layout) (k : ℕ) (rest : List ℕ) (r : DataRecord) → form ≢ Ascii → IsBinary form (length l.selected) l.digital rest r → StandsInFront form l k rest r
stands_binary Ascii l k rest r other is = absurd (other refl)
stands_binary Binary l k rest r other is = is

fault_binary : (form : Form) (l : Layout) (k : ℕ) (before : Option ℕ) (rest : List ℕ) (field : ℕ) (kind : Kind) → form ≢ Ascii
    → BinaryFault form l.selected l.digital before rest field kind → FaultInFront form l k before rest field kind
fault_binary Ascii l k before rest field kind other fault = absurd (other refl)
fault_binary Binary l k before rest field kind other fault = fault

after_binary : (form : Form) (l : Layout) (k : ℕ) (rest : List ℕ) → form ≢ Ascii → after_front form l k rest ≡ drop (record_size form (length l.selected) l.digital) rest
after_binary Ascii l k rest other = absurd (other refl)
after_binary Binary l k rest other = refl

pub binary_part : (form : Form) (l : Layout) (k : ℕ) (bytes : List ℕ) → form ≢ Ascii → length bytes < record_size form (length l.selected) l.digital → IsPartOf form l k bytes
binary_part Ascii l k bytes other few = absurd (other refl)
binary_part Binary l k bytes other few = few

pub part_binary : (form : Form) (l : Layout) (k : ℕ) (bytes : List ℕ) → form ≢ Ascii → IsPartOf form l k bytes → length bytes < record_size form (length l.selected) l.digital
part_binary Ascii l k bytes other part = absurd (other refl)
part_binary Binary l k bytes other part = part

-- nothing follows the last record
pub nothing_binary : (form : Form) (rest : List ℕ) → form ≢ Ascii → MayFollow form rest → rest ≡ []
nothing_binary Ascii rest other is = absurd (other refl)
nothing_binary Binary rest other is = is

nothing_follows : (form : Form) → form ≢ Ascii → MayFollow form []
nothing_follows Ascii other = absurd (other refl)
nothing_follows Binary other = refl

pub writes_binary : (form : Form) (c : Channels) (bytes : List ℕ) (r : DataRecord) → form ≢ Ascii → Writes form c bytes r → IsBinary form (length c.selected.items) c.digital bytes r
writes_binary Ascii c bytes r other is = absurd (other refl)
writes_binary Binary c bytes r other is = is

pub fault_of_whole : (form : Form) (c : Channels) (before : Option ℕ) (bytes : List ℕ) (field : ℕ) (kind : Kind) → form ≢ Ascii → FaultOf form c before bytes field kind
    → WholeFault form c.selected.items before bytes field kind
fault_of_whole Ascii c before bytes field kind other fault = absurd (other refl)
fault_of_whole Binary c before bytes field kind other fault = fault

pub binary_record : (l : Layout) (k : ℕ) (rest : List ℕ) (r : DataRecord) → l.form ≢ Ascii → IsBinary l.form (length l.selected) l.digital rest r → IsRecord l k rest r
unfolding IsRecord
binary_record l k rest r other b = stands_binary l.form l k rest r other b

pub binary_short : (l : Layout) (k : ℕ) (before : Option ℕ) (rest : List ℕ) → l.form ≢ Ascii → length rest < record_size l.form (length l.selected) l.digital → RecordFault l k before rest 0 kinds.Short
unfolding RecordFault
binary_short l k before rest other few = fault_binary l.form l k before rest 0 kinds.Short other (inl (few, refl, refl))

pub binary_fault : (l : Layout) (k : ℕ) (before : Option ℕ) (rest : List ℕ) (field : ℕ) (kind : Kind) → l.form ≢ Ascii → record_size l.form (length l.selected) l.digital ≤ length rest
    → WholeFault l.form l.selected before rest field kind → RecordFault l k before rest field kind
unfolding RecordFault
binary_fault l k before rest field kind other room f = fault_binary l.form l k before rest field kind other (inr (room, f))

-- ---- the reader

-- the bytes of the reader's records
abbrev pub size_of : Reader → ℕ
size_of r = record_size r.channels.form (length r.channels.selected.items) r.channels.digital

-- the bytes of the piece up to the record's end
pub record_whole : (old : Reader) (piece : List ℕ) (n : ℕ) (r : DataRecord) → old.channels.form ≢ Ascii → length old.rest < size_of old → n ≡ size_of old - length old.rest → n ≤ length piece
    → IsBinary old.channels.form (length old.channels.selected.items) old.channels.digital (old.rest ++ take n piece) r → Follows old.before r.number → IsPresent old.channels.form old.channels.selected.items r → Whole old piece n [] r
record_whole old piece n r other few due within b follows present =
    let some : 0 < n = omega (arith, few, due) in
    let before : n - 1 < length piece = omega (arith, some, within) in
    let back : n - 1 + 1 ≡ n = omega (arith, some) in
    let last : take n piece ≡ take (n - 1) piece ++ get_or piece (n - 1) 0 ∷ [] = ap (λ (k : ℕ). take k piece) (sym back) ∙ take_more piece (n - 1) 0 before in
    let size : length (old.rest ++ take n piece) ≡ size_of old = omega (arith, length-append old.rest (take n piece), length-take n piece, within, due, few) in
    record {
      some = some;
      within = within;
      here = λ held more. subst (λ (x : List ℕ). IsRecord (layout old) old.given x r) (append_assoc old.rest (take n piece) more)
          (binary_record (layout old) old.given ((old.rest ++ take n piece) ++ more) r other (binary_more old.channels.form (length old.channels.selected.items) old.channels.digital (old.rest ++ take n piece) more r b));
      after = λ held more.
          after_binary old.channels.form (layout old) old.given (old.rest ++ (take n piece ++ more)) other
          ∙ ap (drop (size_of old)) (sym (append_assoc old.rest (take n piece) more)) ∙ ap (λ (k : ℕ). drop k ((old.rest ++ take n piece) ++ more)) (sym size) ∙ drop-append_seam (old.rest ++ take n piece) more;
      follows = follows;
      present = present;
      front = take (n - 1) piece;
      byte = get_or piece (n - 1) 0;
      last = last;
      part = λ held. binary_part old.channels.form (layout old) old.given (old.rest ++ take (n - 1) piece) other (omega (arith, length-append old.rest (take (n - 1) piece), length-take (n - 1) piece, within, due, few));
    }

pub record_stops : (old : Reader) (piece : List ℕ) (n field : ℕ) (kind : Kind) → old.channels.form ≢ Ascii → length old.rest < size_of old → n ≡ size_of old - length old.rest → n ≤ length piece
    → WholeFault old.channels.form old.channels.selected.items old.before (old.rest ++ take n piece) field kind → IsHeld old old.rest → (more : List ℕ) → RecordFault (layout old) old.given old.before (old.rest ++ (piece ++ more)) field kind
record_stops old piece n field kind other few due within f held more =
    let size : length (old.rest ++ take n piece) ≡ size_of old = omega (arith, length-append old.rest (take n piece), length-take n piece, within, due, few) in
    let full : size_of old ≤ length (old.rest ++ take n piece) = omega (arith, size) in
    let more2 = drop n piece ++ more in
    let same : old.rest ++ (piece ++ more) ≡ (old.rest ++ take n piece) ++ more2 =
    ap (λ (x : List ℕ). old.rest ++ (x ++ more)) (sym (take-append-drop n piece)) ∙ ap (λ (x : List ℕ). old.rest ++ x) (append_assoc (take n piece) (drop n piece) more) ∙ sym (append_assoc old.rest (take n piece) more2) in
    subst (λ (x : List ℕ). RecordFault (layout old) old.given old.before x field kind) (sym same)
    (binary_fault (layout old) old.given old.before ((old.rest ++ take n piece) ++ more2) field kind other (omega (arith, size, length-append (old.rest ++ take n piece) more2))
    (whole_fault_more old.channels.form old.channels.selected.items old.channels.digital old.before (old.rest ++ take n piece) more2 field kind full f))

pub record_held : (old : Reader) (piece : List ℕ) → old.channels.form ≢ Ascii → length old.rest + length piece < size_of old → IsHeld old old.rest → IsHeld old (old.rest ++ piece)
record_held old piece other few held = binary_part old.channels.form (layout old) old.given (old.rest ++ piece) other (omega (arith, few, length-append old.rest piece))

pub record_given : (old mid new : Reader) (number : ℕ) (tail : Tail) → old.channels.form ≢ Ascii → layout mid ≡ layout old → mid.fault ≡ old.fault → mid.given ≡ old.given → mid.rest ≡ [] → Gives mid new number tail
    → tail ≡ record { bytes = 0; marks = 0 } → Given old new number []
record_given old mid new number tail other same fault count none g is = record {
  layout_same = g.layout_same ∙ same;
  fault = g.fault ∙ fault;
  given = g.given ∙ ap (λ (k : ℕ). k + 1) count;
  before = g.before;
  rest = g.rest ∙ none;
  tail_bytes = ap (λ (x : Tail). x.bytes) (g.tail ∙ is);
  tail_marks = ap (λ (x : Tail). x.marks) (g.tail ∙ is);
  none = λ lt. refl;
  follows = nothing_follows old.channels.form other;
}
