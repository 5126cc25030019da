-- Steps one after another over a piece.
use Rattle.std.proofs.Common.{◌≡◌, ℕ, ◌+◌, ◌-◌, ◌<◌, ◌≤◌, List, ◌++◌, length, take, drop, sym, ap, subst, ◌∙◌, arith, inl, inr, length-append, length-drop, append_assoc}
use Rattle.std.specs.Prelude.{MatchResult, Result, Ok, Err}
use Rattle.std.proofs.lemmas.Bool.{cases_lt}
use Rattle.std.proofs.Math.Seq.{take-add}
use Rattle.std.proofs.lemmas.List.{take_all, take-append-drop}
use Rattle.flk_dat.specs.Records.{DataRecord, Rows, Layout}
use Rattle.flk_dat.specs.DataFile.{IsFaultAfter}
use Rattle.flk_dat.specs.Streams.{EndsRecord, added, Grows}
use Rattle.flk_dat.specs.States.{layout, Stands, FitsBlock}
use Rattle.flk_dat.specs.Takings.{Keeps, Takes, Taking, TakesSome, TakesAll, Stops}
use Rattle.flk_dat.specs.declared.reader.Reader.{Reader}
use Rattle.flk_dat.specs.declared.kind.Fault.{Fault}
use Rattle.flk_dat.proofs.Sequences.{added_then, added_length, grows_then}

pub keeps_then : (r s t : Reader) (a b c : Rows) → Keeps r s a b → Keeps s t b c → Keeps r t a c
keeps_then r s t a b c p q = record { layout_same = q.layout_same ∙ p.layout_same; grows = grows_then a b c p.grows q.grows }

pub fits_same : (r s : Reader) (a b : Rows) → layout s ≡ layout r → Grows a b → FitsBlock r a → FitsBlock s b
fits_same r s a b same g f = record {
  analog = g.analog ∙ f.analog ∙ ap (λ (l : Layout). length l.selected) (sym same);
  digital = g.digital ∙ f.digital ∙ ap (λ (l : Layout). l.digital) (sym same);
}

-- the piece that is left
abbrev pub left_of : List ℕ → ℕ → List ℕ
left_of piece n = take (length piece - n) (drop n piece)

pub left_is : (piece : List ℕ) (n : ℕ) → left_of piece n ≡ drop n piece
left_is piece n = take_all (length piece - n) (drop n piece) (omega (arith, length-drop n piece))

bytes_then : (taken piece : List ℕ) (n m : ℕ) → (taken ++ take n piece) ++ take m (left_of piece n) ≡ taken ++ take (n + m) piece
bytes_then taken piece n m =
    append_assoc taken (take n piece) (take m (left_of piece n)) ∙ ap (λ (x : List ℕ). taken ++ (take n piece ++ take m x)) (left_is piece n) ∙ ap (λ (x : List ℕ). taken ++ x) (sym (take-add n m piece))

given_then : (given : List DataRecord) (a b c : Rows) → Grows a b → Grows b c → (given ++ added a b) ++ added b c ≡ given ++ added a c
given_then given a b c p q = append_assoc given (added a b) (added b c) ∙ ap (λ (x : List DataRecord). given ++ x) (sym (added_then a b c p q))

pub taking_then : (r s t : Reader) (a b c : Rows) (piece : List ℕ) (n m : ℕ) → Taking r s a b piece n → length b.records < b.room → TakesSome s t b c (left_of piece n) m → Taking r t a c piece (n + m)
taking_then r s t a b c piece n m p room q =
    let size : length (left_of piece n) ≡ length piece - n = ap length (left_is piece n) ∙ length-drop n piece in
    record {
      keeps = keeps_then r s t a b c p.keeps q.taking.keeps;
      within = omega (arith, p.within, q.taking.within, size);
      stands = λ taken given st.
          let next = q.taking.stands (taken ++ take n piece) (given ++ added a b) (p.stands taken given st) in
          subst (λ (x : List DataRecord). Stands t (taken ++ take (n + m) piece) x) (given_then given a b c p.keeps.grows q.taking.keeps.grows)
          (subst (λ (x : List ℕ). Stands t x ((given ++ added a b) ++ added b c)) (bytes_then taken piece n m) next);
      nothing = λ none.
          let same : b ≡ a = (p.nothing none).1 in
          absurd (omega (arith, none, subst (λ (x : Rows). length x.records < x.room) same room));
      idle = λ e. absurd (omega (arith, e, q.some));
      full = λ taken given st less more.
          let ended = q.taking.full (taken ++ take n piece) (given ++ added a b) (p.stands taken given st) room more in
          subst (λ (l : Layout). EndsRecord l (length (given ++ added a c) - 1) (taken ++ take (n + m) piece)) p.keeps.layout_same
          (subst (λ (x : List DataRecord). EndsRecord (layout s) (length x - 1) (taken ++ take (n + m) piece)) (given_then given a b c p.keeps.grows q.taking.keeps.grows)
          (subst (λ (x : List ℕ). EndsRecord (layout s) (length ((given ++ added a b) ++ added b c) - 1) x) (bytes_then taken piece n m) ended));
    }

-- ---- one step, as the first of many

pub some_of : (r s : Reader) (a b : Rows) (piece : List ℕ) (n : ℕ) → length a.records < a.room → Takes r s a b piece n → TakesSome r s a b piece n
some_of r s a b piece n room p = record {
  taking = record {
    keeps = p.keeps;
    within = p.within;
    stands = p.stands;
    nothing = λ none. absurd (omega (arith, none, room));
    idle = λ e. absurd (omega (arith, e, p.some));
    full = λ taken given st less more.
        elim p.ends [
          | inl none ↦ absurd (omega (arith, none.0, room, more, p.keeps.grows.room))
          | inr one ↦
              let count : length given ≡ length (given ++ added a b) - 1 = omega (arith, one.0, added_length a b p.keeps.grows, length-append given (added a b)) in
              subst (λ (k : ℕ). EndsRecord (layout r) k (taken ++ take n piece)) count (one.1 taken given st)
        ];
  };
  some = p.some;
}

pub some_taken : (r s : Reader) (a b : Rows) (piece : List ℕ) (x : Result ℕ Fault) → length a.records < a.room → MatchResult x (λ n. Takes r s a b piece n) (λ f. Stops r s a b piece f)
    → MatchResult x (λ n. TakesSome r s a b piece n) (λ f. Stops r s a b piece f)
some_taken r s a b piece (Ok n) room p = some_of r s a b piece n room p
some_taken r s a b piece (Err f) room p = p

pub stops_then : (r s t : Reader) (a b c : Rows) (piece : List ℕ) (n : ℕ) (f : Fault) → Taking r s a b piece n → Stops s t b c (left_of piece n) f → Stops r t a c piece f
stops_then r s t a b c piece n f p q = record {
  keeps = keeps_then r s t a b c p.keeps q.keeps;
  count = λ taken given st.
      q.count (taken ++ take n piece) (given ++ added a b) (p.stands taken given st) ∙ ap length (given_then given a b c p.keeps.grows q.keeps.grows);
  sure = λ taken given st more.
      let all : (taken ++ take n piece) ++ left_of piece n ≡ taken ++ piece =
      append_assoc taken (take n piece) (left_of piece n) ∙ ap (λ (x : List ℕ). taken ++ (take n piece ++ x)) (left_is piece n) ∙ ap (λ (x : List ℕ). taken ++ x) (take-append-drop n piece) in
      let sure = q.sure (taken ++ take n piece) (given ++ added a b) (p.stands taken given st) more in
      subst (λ (l : Layout). IsFaultAfter l ((taken ++ piece) ++ more) (given ++ added a c) f.field f.kind) p.keeps.layout_same
      (subst (λ (x : List DataRecord). IsFaultAfter (layout s) ((taken ++ piece) ++ more) x f.field f.kind) (given_then given a b c p.keeps.grows q.keeps.grows)
      (subst (λ (x : List ℕ). IsFaultAfter (layout s) (x ++ more) ((given ++ added a b) ++ added b c) f.field f.kind) all sure));
}

-- the block is full
pub takes_all : (r s : Reader) (a b : Rows) (piece : List ℕ) (n : ℕ) → Taking r s a b piece n → b.room ≤ length b.records → TakesAll r s a b piece n
takes_all r s a b piece n p full = record {
  taking = p;
  whole = λ less. absurd (omega (arith, full, less));
  progress = λ some less.
      elim (cases_lt 0 n) [
        | inl more ↦ more
        | inr none ↦
            let same : b ≡ a = p.idle (omega (arith, none)) in
            absurd (omega (arith, less, subst (λ (x : Rows). x.room ≤ length x.records) same full))
      ];
}
