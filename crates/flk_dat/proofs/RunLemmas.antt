-- Binary records that are whole in a piece, one after another.
use Rattle.std.proofs.Common.{◌≡◌, ◌≢◌, ℕ, ◌+◌, ◌-◌, ◌<◌, ◌≤◌, List, [], ◌++◌, length, take, drop, sym, ap, subst, ◌∙◌, arith, length-drop}
use Rattle.flk_field.specs.declared.form.Form.TheVariants.{Ascii, Binary}
use Rattle.flk_dat.specs.Records.{Rows, Layout}
use Rattle.flk_dat.specs.BinaryRecords.{record_size, IsBinary, WholeFault}
use Rattle.flk_dat.specs.States.{layout}
use Rattle.flk_dat.specs.Heads.{Gains, FaultOf}
use Rattle.flk_dat.specs.Takings.{Takes, Taking, TakesSome, Stops, Gives}
use Rattle.flk_dat.specs.declared.reader.Reader.{Reader}
use Rattle.flk_dat.specs.declared.tail.Tail.{Tail}
use Rattle.flk_dat.specs.declared.kind.Fault.{Fault}
use Rattle.flk_dat.proofs.StateLemmas.{Given}
use Rattle.flk_dat.proofs.TakingLemmas.{takes_whole, stops_due, stops_same}
use Rattle.flk_dat.proofs.BinarySteps.{text_or_bytes, size_of, writes_binary, fault_of_whole, record_whole, record_stops, record_given}
use Rattle.flk_dat.proofs.LoopLemmas.{left_of, left_is, taking_then, stops_then, some_of}

-- the same reader, but for what is known of it
pub record IsSameReader (r s : Reader) : Type 0 where
  pub layout_same : layout s ≡ layout r
  pub fault : s.fault ≡ r.fault
  pub given : s.given ≡ r.given
  pub rest : s.rest ≡ r.rest

-- nothing is held, and the next bytes are the record that is due
pub record IsNext (r : Reader) (piece bytes : List ℕ) : Type 0 where
  pub form : r.channels.form ≢ Ascii
  pub rest : r.rest ≡ []
  pub due : r.given < r.records
  pub whole : size_of r ≤ length piece
  pub bytes_are : bytes ≡ take (size_of r) piece

whole_due : (r : Reader) (piece bytes : List ℕ) → IsNext r piece bytes → size_of r ≡ size_of r - length r.rest
whole_due r piece bytes is = omega (arith, ap length is.rest)

record_taken : (r same s : Reader) (a b : Rows) (piece bytes : List ℕ) (number : ℕ) (tail : Tail) → IsSameReader r same → IsNext r piece bytes → Gains r.channels r.before bytes a b number → Gives same s number tail → tail ≡ record { bytes = 0; marks = 0 }
    → Takes r s a b piece (size_of r)
record_taken r same s a b piece bytes number tail alike is gains gives end =
    let n = size_of r in
    let written = writes_binary r.channels.form r.channels bytes gains.given is.form gains.good.writes in
    let read = subst (λ (x : List ℕ). IsBinary r.channels.form (length r.channels.selected.items) r.channels.digital x gains.given) (is.bytes_are ∙ ap (λ (x : List ℕ). x ++ take n piece) (sym is.rest)) written in
    let given = record_given r same s number tail is.form alike.layout_same alike.fault alike.given (alike.rest ∙ is.rest) gives end in
    takes_whole r s a b piece n [] gains.given (subst (λ (k : ℕ). Given r s k []) (sym gains.number) given) is.due gains.records
    (record_whole r piece n gains.given is.form (r.part is.form) (whole_due r piece bytes is) is.whole read gains.good.follows gains.good.present)

record_refused : (r s : Reader) (a b : Rows) (piece bytes : List ℕ) (f : Fault) → IsSameReader r s → IsNext r piece bytes → b ≡ a → FaultOf r.channels.form r.channels r.before bytes f.field f.kind → Stops r s a b piece f
record_refused r s a b piece bytes f alike is none fault =
    let n = size_of r in
    let here = subst (λ (x : List ℕ). WholeFault r.channels.form r.channels.selected.items r.before x f.field f.kind) (is.bytes_are ∙ ap (λ (x : List ℕ). x ++ take n piece) (sym is.rest)) (fault_of_whole r.channels.form r.channels r.before bytes f.field f.kind is.form fault) in
    stops_same r s a b piece f none (stops_due r s a piece f alike.layout_same alike.given is.due (record_stops r piece n f.field f.kind is.form (r.part is.form) (whole_due r piece bytes is) is.whole here))

-- ---- after n bytes of the piece: the layout of a record stays

pub size_stays : (r s : Reader) → layout s ≡ layout r → size_of s ≡ r.channels.size
size_stays r s same = ap (λ (l : Layout). record_size l.form (length l.selected) l.digital) same ∙ sym r.channels.size_is

pub next_is : (r s : Reader) (piece : List ℕ) (n m : ℕ) → layout s ≡ layout r → r.channels.form ≡ Binary → s.rest ≡ [] → s.given < s.records → n + r.channels.size ≤ length piece → m ≡ r.channels.size → IsNext s (left_of piece n) (take m (drop n piece))
next_is r s piece n m same binary rest due whole count = record {
  form = λ e. text_or_bytes (sym binary ∙ sym (ap (λ (l : Layout). l.form) same) ∙ e);
  rest = rest;
  due = due;
  whole = omega (arith, size_stays r s same, ap length (left_is piece n), length-drop n piece, whole);
  bytes_are = ap (λ (k : ℕ). take k (drop n piece)) (count ∙ sym (size_stays r s same)) ∙ ap (λ (x : List ℕ). take (size_of s) x) (sym (left_is piece n));
}

pub run_then : (r s same t : Reader) (a b c : Rows) (piece bytes : List ℕ) (n number : ℕ) (tail : Tail) → IsSameReader s same → Taking r s a b piece n → length b.records < b.room → IsNext s (left_of piece n) bytes → Gains s.channels s.before bytes b c number → Gives same t number tail
    → tail ≡ record { bytes = 0; marks = 0 } → Taking r t a c piece (n + r.channels.size)
run_then r s same t a b c piece bytes n number tail alike p room is gains gives end =
    subst (λ (k : ℕ). Taking r t a c piece (n + k)) (size_stays r s p.keeps.layout_same)
    (taking_then r s t a b c piece n (size_of s) p room (some_of s t b c (left_of piece n) (size_of s) room (record_taken s same t b c (left_of piece n) bytes number tail alike is gains gives end)))

pub run_stops : (r s t : Reader) (a b c : Rows) (piece bytes : List ℕ) (n : ℕ) (f : Fault) → IsSameReader s t → Taking r s a b piece n → IsNext s (left_of piece n) bytes → c ≡ b → FaultOf s.channels.form s.channels s.before bytes f.field f.kind → Stops r t a c piece f
run_stops r s t a b c piece bytes n f alike p is none fault = stops_then r s t a b c piece n f p (record_refused s t b c (left_of piece n) bytes f alike is none fault)

-- the run is some bytes
pub run_some : (r s : Reader) (a b : Rows) (piece : List ℕ) (n : ℕ) → Taking r s a b piece (n + r.channels.size) → TakesSome r s a b piece (n + r.channels.size)
run_some r s a b piece n p = record { taking = p; some = omega (arith, r.channels.size_is) }
