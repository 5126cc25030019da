-- What a reader stands for after a call.
use Rattle.std.proofs.Common.{◌≡◌, ℕ, ◌+◌, ◌<◌, List, [], ◌∷◌, ◌++◌, length, Option, Some, None, refl, sym, ap, subst, ◌∙◌, arith, inl}
use Rattle.std.specs.List.{count_by}
use Rattle.flk_text.specs.Lines.{is_byte}
use Rattle.flk_field.specs.declared.form.Form.{Form}
use Rattle.flk_field.specs.declared.form.Form.TheVariants.{Ascii, Binary}
use Rattle.flk_dat.specs.Records.{DataRecord, Layout, Follows, last_number, IsPresent}
use Rattle.flk_dat.specs.DataFile.{IsRecord, MayFollow}
use Rattle.flk_dat.specs.Streams.{IsPartOf, HasGiven}
use Rattle.flk_dat.specs.States.{layout, Stands}
use Rattle.flk_dat.specs.declared.reader.Reader.{Reader}
use Rattle.flk_dat.proofs.Sequences.{length_more, last_number_more}
use Rattle.flk_dat.proofs.StreamLemmas.{after_front, given_none, given_held, given_more}

-- nothing is less than a record
pub part_nothing : (form : Form) (l : Layout) (k : ℕ) → IsPartOf form l k []
part_nothing Ascii l k = (refl, inl (omega arith))
part_nothing Binary l k = omega arith

-- what a call leaves alone while a record is due
pub record Stays (old new : Reader) : Type 0 where
  pub layout_same : layout new ≡ layout old
  pub fault : new.fault ≡ old.fault
  pub given : new.given ≡ old.given
  pub before : new.before ≡ old.before

-- the rest that the reader stands with is the one that it holds
pub rest_due : (r : Reader) (taken : List ℕ) (given : List DataRecord) (s : Stands r taken given) → r.given < r.records → HasGiven (layout r) taken given r.rest × IsPartOf r.channels.form (layout r) r.given r.rest
rest_due r taken given s due =
    let held = s.holds.held (omega (arith, due, s.holds.count)) in (
      subst (HasGiven (layout r) taken given) (sym held.0) s.has,
      subst (IsPartOf r.channels.form (layout r) r.given) (sym held.0) (subst (λ (k : ℕ). IsPartOf r.channels.form (layout r) k s.rest) (sym s.holds.count) held.1),
    )

pub stands_held : (old new : Reader) (taken : List ℕ) (given : List DataRecord) (piece : List ℕ) → Stays old new → old.given < old.records → new.rest ≡ old.rest ++ piece
    → IsPartOf old.channels.form (layout old) old.given (old.rest ++ piece) → Stands old taken given → Stands new (taken ++ piece) given
stands_held old new taken given piece stays due is part s =
    let has = given_held (layout old) taken given old.rest piece (rest_due old taken given s due).0 in
    let records : new.records ≡ old.records = ap (λ (l : Layout). l.records) stays.layout_same in
    let form : new.channels.form ≡ old.channels.form = ap (λ (l : Layout). l.form) stays.layout_same in
    let same : IsPartOf new.channels.form (layout new) (length given) (old.rest ++ piece) =
    subst (λ (l : Layout). IsPartOf l.form l (length given) (old.rest ++ piece)) (sym stays.layout_same) (subst (λ (k : ℕ). IsPartOf old.channels.form (layout old) k (old.rest ++ piece)) s.holds.count part) in
    record {
      going = stays.fault ∙ s.going;
      rest = old.rest ++ piece;
      has = subst (λ (l : Layout). HasGiven l (taken ++ piece) given (old.rest ++ piece)) (sym stays.layout_same) has;
      holds = record {
        count = stays.given ∙ s.holds.count;
        number = stays.before ∙ s.holds.number;
        held = λ lt. (is, same);
        tail = λ all. absurd (omega (arith, all, records, due, s.holds.count));
      };
    }

-- what a call changes that gives a record
pub record Given (old new : Reader) (number : ℕ) (mark : List ℕ) : Type 0 where
  pub layout_same : layout new ≡ layout old
  pub fault : new.fault ≡ old.fault
  pub given : new.given ≡ old.given + 1
  pub before : new.before ≡ Some number
  pub rest : new.rest ≡ []
  pub tail_bytes : new.tail.bytes ≡ length mark
  pub tail_marks : new.tail.marks ≡ count_by (is_byte 26) mark
  pub none : old.given + 1 < old.records → mark ≡ []
  pub follows : MayFollow old.channels.form mark

pub stands_given : (old new : Reader) (taken : List ℕ) (given : List DataRecord) (chunk mark : List ℕ) (r : DataRecord) → Given old new r.number mark → old.given < old.records
    → ((more : List ℕ) → IsRecord (layout old) old.given (old.rest ++ (chunk ++ more)) r) → ((more : List ℕ) → after_front old.channels.form (layout old) old.given (old.rest ++ (chunk ++ more)) ≡ mark ++ more)
    → Follows old.before r.number → IsPresent old.channels.form (layout old).selected r → Stands old taken given → Stands new (taken ++ chunk) (given ++ r ∷ [])
stands_given old new taken given chunk mark r g due here after follows there s =
    let l = layout old in
    let records : new.records ≡ old.records = ap (λ (x : Layout). x.records) g.layout_same in
    let form : new.channels.form ≡ old.channels.form = ap (λ (x : Layout). x.form) g.layout_same in
    let n = length_more given r in
    let lt : length given < old.records = omega (arith, due, s.holds.count) in
    let here2 : (more : List ℕ) → IsRecord l (length given) (old.rest ++ (chunk ++ more)) r = λ more. subst (λ (k : ℕ). IsRecord l k (old.rest ++ (chunk ++ more)) r) s.holds.count (here more) in
    let after2 : (more : List ℕ) → after_front old.channels.form l (length given) (old.rest ++ (chunk ++ more)) ≡ mark ++ more =
    λ more. subst (λ (k : ℕ). after_front old.channels.form l k (old.rest ++ (chunk ++ more)) ≡ mark ++ more) s.holds.count (after more) in
    let follows2 : Follows (last_number given) r.number = subst (λ (o : Option ℕ). Follows o r.number) s.holds.number follows in
    let has = given_more l taken given old.rest chunk mark r (rest_due old taken given s due).0 lt here2 after2 follows2 there in
    record {
      going = g.fault ∙ s.going;
      rest = mark;
      has = subst (λ (x : Layout). HasGiven x (taken ++ chunk) (given ++ r ∷ []) mark) (sym g.layout_same) has;
      holds = record {
        count = g.given ∙ omega (arith, s.holds.count, n);
        number = g.before ∙ sym (last_number_more given r);
        held = λ less.
            let none : mark ≡ [] = g.none (omega (arith, less, n, records, s.holds.count)) in
            (g.rest ∙ sym none, subst (IsPartOf new.channels.form (layout new) (length (given ++ r ∷ []))) (sym none) (part_nothing new.channels.form (layout new) (length (given ++ r ∷ []))));
        tail = λ all. (g.tail_bytes, g.tail_marks, subst (λ (f : Form). MayFollow f mark) (sym form) g.follows);
      };
    }

pub stands_new : (r : Reader) → r.given ≡ 0 → r.before ≡ None → r.rest ≡ [] → r.fault ≡ None → Stands r [] []
stands_new r count before rest fault = record {
  going = fault;
  rest = [];
  has = given_none (layout r) r.some;
  holds = record {
    count = count;
    number = before;
    held = λ due. (rest, part_nothing r.channels.form (layout r) 0);
    tail = λ all. absurd (omega (arith, all, r.some));
  };
}
