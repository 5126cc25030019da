-- The data of a generated recording, appended piece by piece.
use Rattle.std.proofs.Common.{◌≡◌, ℕ, true, false, ◌+◌, ◌-◌, ◌≤◌, List, [], ◌++◌, length, take, Option, Result, Ok, Err, OnErr, refl, sym, ap, ◌∙◌, subst, arith, length-append, append-nil, append_assoc}
use Rattle.std.specs.Io.KnownBytes.{Appends}
use Rattle.std.proofs.KnownBytes.{Appends-nil}
use Rattle.std.proofs.Math.Seq.{take-append-add}
use Rattle.std.proofs.lemmas.List.{take-append-le}
use Rattle.flk_io.specs.Causes.{AddsFront}
use Rattle.flk_io.proofs.Pieces.{Appends-more}
use Rattle.flk_gen.specs.Progress.{HasGiven, Continues}
use Rattle.flk_gen.specs.Recording.{records_in, generated_lines, generated_data}
use Rattle.flk_gen.specs.declared.recording.Recording.{Recording}
use Rattle.flk_gen.proofs.RecordingLemmas.{lines_none, lines_begin}

-- the lines of n records were appended
abbrev pub HasAppended : (old new : Option (List ℕ)) (seed n : ℕ) → Type 0
HasAppended old new seed n = Appends old new (generated_lines seed n)

pub none_appended_yet : (old : Option (List ℕ)) (seed : ℕ) → HasAppended old old seed 0
none_appended_yet old seed = subst (λ (bytes : List ℕ). Appends old old bytes) (sym (lines_none seed)) (Appends-nil old)

pub one_more_piece : (old mid new : Option (List ℕ)) (seed n next : ℕ) (piece : List ℕ) → HasAppended old mid seed n → Appends mid new piece
    → generated_lines seed next ≡ generated_lines seed n ++ piece → HasAppended old new seed next
one_more_piece old mid new seed n next piece before here grows = Appends-more old mid new (generated_lines seed n) piece (generated_lines seed next) before here grows

-- a front of the next piece makes a front of all
pub front_appended : (old mid new : Option (List ℕ)) (seed n next count : ℕ) (piece : List ℕ) → HasAppended old mid seed n → AddsFront mid new piece
    → generated_lines seed next ≡ generated_lines seed n ++ piece → next ≤ count → AddsFront old new (generated_lines seed count)
front_appended old mid new seed n next count piece before front grows within =
    let so_far = generated_lines seed n in
    let rest = lines_begin seed next (count - next) in
    let all = generated_lines seed count in
    let e : count ≡ next + (count - next) = omega (arith, within) in
    let whole : all ≡ so_far ++ (piece ++ rest.0) = ap (generated_lines seed) e ∙ rest.1 ∙ ap (λ (x : List ℕ). x ++ rest.0) grows ∙ append_assoc so_far piece rest.0 in
    let taken : take (length so_far + front.0) all ≡ so_far ++ take front.0 piece =
    ap (take (length so_far + front.0)) whole ∙ take-append-add so_far (piece ++ rest.0) front.0 ∙ ap (λ (x : List ℕ). so_far ++ x) (take-append-le front.0 piece rest.0 front.1) in (
      length so_far + front.0,
      omega (arith, front.1, ap length whole, length-append so_far (piece ++ rest.0), length-append piece rest.0),
      Appends-more old mid new so_far (take front.0 piece) (take (length so_far + front.0) all) before front.2 taken,
    )

-- nothing more was appended
pub front_kept : (old new : Option (List ℕ)) (seed n count : ℕ) → HasAppended old new seed n → n ≤ count → AddsFront old new (generated_lines seed count)
front_kept old new seed n count before within =
    front_appended old new new seed n n count [] before (0, omega arith, Appends-nil new) (sym (append-nil (generated_lines seed n))) within

-- so many records were given, and all of them appended
pub record HasGivenAndAppended (old new : Option (List ℕ)) (seed seconds : ℕ) (r : Recording) : Type 0 where
  pub count : ℕ
  pub given : HasGiven r seed seconds count
  pub appended : HasAppended old new seed count

pub given_none : (old : Option (List ℕ)) (seed seconds : ℕ) (r : Recording) → HasGiven r seed seconds 0 → HasGivenAndAppended old old seed seconds r
given_none old seed seconds r given = record { count = 0; given = given; appended = none_appended_yet old seed }

pub given_more : (old mid new : Option (List ℕ)) (seed seconds : ℕ) (before after : Recording) (piece : List ℕ) (so_far : HasGivenAndAppended old mid seed seconds before)
    → Continues true seed seconds so_far.count piece after → Appends mid new piece → HasGivenAndAppended old new seed seconds after
given_more old mid new seed seconds before after piece so_far goes_on here = record {
  count = goes_on.next;
  given = goes_on.given;
  appended = one_more_piece old mid new seed so_far.count goes_on.next piece so_far.appended here goes_on.lines;
}

-- all records were given
pub given_all : (old new : Option (List ℕ)) (seed seconds : ℕ) (before after : Recording) (piece : List ℕ) (so_far : HasGivenAndAppended old new seed seconds before)
    → Continues false seed seconds so_far.count piece after → HasGiven after seed seconds (records_in seconds) × Appends old new (generated_data seed seconds)
given_all old new seed seconds before after piece so_far ends =
    let end = ends.end refl in (
      subst (HasGiven after seed seconds) (end.1 ∙ end.0) ends.given,
      subst (λ (n : ℕ). HasAppended old new seed n) end.0 so_far.appended,
    )

-- an append failed
pub front_of_all : (old mid new : Option (List ℕ)) (seed seconds : ℕ) (before after : Recording) (piece : List ℕ) (so_far : HasGivenAndAppended old mid seed seconds before)
    → Continues true seed seconds so_far.count piece after → AddsFront mid new piece → AddsFront old new (generated_data seed seconds)
front_of_all old mid new seed seconds before after piece so_far goes_on front =
    front_appended old mid new seed so_far.count goes_on.next (records_in seconds) piece so_far.appended front goes_on.lines goes_on.given.workload.within

-- memory was short
pub front_so_far : (old new : Option (List ℕ)) (seed seconds : ℕ) (r : Recording) → HasGivenAndAppended old new seed seconds r → AddsFront old new (generated_data seed seconds)
front_so_far old new seed seconds r so_far = front_kept old new seed so_far.count (records_in seconds) so_far.appended so_far.given.workload.within

-- what holds in any case holds at an error
pub on_err : {T E : Type 0} (r : Result T E) (P : Type 0) → P → OnErr r P
on_err (Ok x) P p = tt
on_err (Err e) P p = p
