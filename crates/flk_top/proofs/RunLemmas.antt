-- From a composed reply, and from its writing, to what is promised of a run.
use Rattle.std.proofs.Common.{◌≡◌, ◌≢◌, ℕ, suc, ◌<◌, ◌≤◌, List, [], ◌∷◌, take, map, Option, Some, Result, Ok, Err, IfOk, IfErr, refl, sym, ap, ◌∙◌, subst, string_bytes, arith, inl, inr}
use Rattle.std.specs.Prelude.{Contains, IsErrAnd}
use Rattle.std.specs.Str.{bytes_eq}
use Rattle.std.specs.Io.KnownBytes.{Appends}
use Rattle.std.proofs.KnownBytes.{Appends-nil}
use Rattle.std.proofs.lemmas.Bool.{cases_Bool}
use Rattle.flk_io.specs.Causes.{Rose, AddsFront}
use Rattle.flk_io.specs.Told.{ShelfTold, SinkTold, OnlyReads}
use Rattle.flk_num.specs.declared.lamp.Lamp.{Lamp}
use Rattle.flk_num.specs.declared.rate.Rate.{Rate}
use Rattle.flk_top.specs.Answer.{IsDueFor, IsDue, usage, asked}
use Rattle.flk_top.specs.Command.{Asks, IsNoCommand, inputs_of, outputs_of, IsInput}
use Rattle.flk_top.specs.Faults.{usage_line}
use Rattle.flk_top.specs.Headline.{MeasuredRecording, AreAccepted, TellsLevels, ReportedRecording, AreAcceptedForReport, TellsReport}
use Rattle.flk_top.specs.Outcome.{Piece, Outcome, appended_under}
use Rattle.flk_top.specs.Replies.{outcome_of, IsExplained, IsHonest, ReadsOnly, AwaitsTurns, IsDueSomewhere, IsTold, IsBegun, IsCutOff, CountOn}
use Rattle.flk_top.specs.Run.{IsCut, read, append, write, read_and_write, memory, IsCounted, IsConfined, DoneIsDue, CutIsDue, ReadsInTurn}
use Rattle.flk_top.specs.Status.{status_number, cut_off_number}
use Rattle.flk_top.specs.Tables.{IsDueForTables}
use Rattle.flk_top.specs.Told.{Files, Agrees, TellsInputs, AreAppended, AreBegun}
use Rattle.flk_top.specs.declared.command.Command.{Command}
use Rattle.flk_top.specs.declared.command.Command.TheVariants.{Tables}
use Rattle.flk_top.specs.declared.reply.CutOff.{CutOff}
use Rattle.flk_top.specs.declared.reply.CutOff.TheVariants.{OutOfMemory, AppendFailed}
use Rattle.flk_top.specs.declared.reply.Reply.{Reply}
use Rattle.flk_top.specs.declared.reply.Status.{Status}
use Rattle.flk_top.specs.declared.reply.Status.TheVariants.{Done, Failed, Undecided, Refused, ReadFailed}
use Rattle.flk_top.proofs.AgreeingFiles.{files_with, files_agree, files_have, same_contents, contains_first}
use Rattle.flk_top.proofs.AnswerExists.{some_answer}
use Rattle.flk_top.proofs.Headline.{tells_levels}
use Rattle.flk_top.proofs.ReportHeadline.{tells_report}
use Rattle.flk_top.proofs.OneCommand.{one_command, inputs_apart}
use Rattle.flk_top.proofs.Outcomes.{is_refusal}

-- ---- only the bytes of the inputs decide

pub inputs_decided : (words : List (List ℕ)) (files others : Files) → ((name : List ℕ) → IsInput words name → others name ≡ files name) → (o : Outcome) → IsDue words files o → IsDue words others o
inputs_decided words files others same o (usage none out) = usage none out
inputs_decided words files others same o (asked q asks due) =
    let P : List (List ℕ) → Type 0 = λ contents. IsDueFor q (outputs_of q words) contents o in
    asked q asks (subst P (sym (same_contents files others (inputs_of q words) (λ name there. same name (q, asks, there)))) due)

-- ---- a reply is due

pub explained_due : (words : List (List ℕ)) (told : ShelfTold) (q : Command) (r : Reply) → Asks words q → outputs_of q words ≡ [] → IsExplained q (inputs_of q words) told r
    → r.status ≢ ReadFailed → IsDueSomewhere words told (outcome_of r)
explained_due words told q r asks silent explained fine =
    let out = explained fine in
    let names = inputs_of q words in
    let P : List (List ℕ) → Type 0 = λ contents. IsDueFor q (outputs_of q words) contents (outcome_of r) in
    let Q : List (List ℕ) → Type 0 = λ outputs. IsDueFor q outputs out.0 (outcome_of r) in (
      files_with told.left names out.0,
      files_agree told.left names out.0 out.1,
      asked q asks (subst P (sym (files_have told.left names out.0 (inputs_apart words q asks) out.1)) (subst Q (sym silent) out.2)),
    )

pub usage_due : (words : List (List ℕ)) (told : ShelfTold) (r : Reply) → IsNoCommand words → r.status ≡ Refused → string_bytes r.text ≡ usage_line → IsDueSomewhere words told (outcome_of r)
usage_due words told r none status text = (files_with told.left [] [], files_agree told.left [] [] tt, usage none (is_refusal r usage_line status text))

-- some outcome is due for some files that agree
pub some_due : (words : List (List ℕ)) (told : ShelfTold) → (o : Outcome) × IsDueSomewhere words told o
some_due words told =
    let files = files_with told.left [] [] in
    let due = some_answer words files in
    (due.0, (files, files_agree told.left [] [] tt, due.1))

-- ---- nothing was appended

under_none : (name : List ℕ) (piece : Piece) → appended_under name (record { name = piece.name; bytes = take 0 piece.bytes } ∷ []) ≡ []
under_none name piece = elim (cases_Bool (bytes_eq piece.name name)) [ inl here ↦ rw here refl | inr other ↦ rw other refl ]

nothing_appended : (old new : ShelfTold) (name : List ℕ) → OnlyReads old new → Appends (old.added name) (new.added name) []
nothing_appended old new name reads =
    subst (λ (x : Option (List ℕ)). Appends (old.added name) x []) (sym (reads.nothing_added name)) (Appends-nil (old.added name))

pub none_begun : (old new : ShelfTold) (pieces : List Piece) → OnlyReads old new → AreBegun old.added new.added pieces
none_begun old new [] reads = ([], refl, λ name. nothing_appended old new name reads)
none_begun old new (piece ∷ pieces) reads = (
  record { name = piece.name; bytes = take 0 piece.bytes } ∷ [],
  inl (0, omega arith, refl),
  λ name. subst (λ (bytes : List ℕ). Appends (old.added name) (new.added name) bytes) (sym (under_none name piece)) (nothing_appended old new name reads),
)

pub none_appended : (old new : ShelfTold) → OnlyReads old new → AreAppended old.added new.added []
none_appended old new reads = λ name. nothing_appended old new name reads

-- ---- the status

pub known_status : (s : Status) (n : ℕ) → n ≡ status_number s → n ≤ 6
known_status Done n is = omega (arith, is)
known_status Failed n is = omega (arith, is)
known_status Undecided n is = omega (arith, is)
known_status Refused n is = omega (arith, is)
known_status ReadFailed n is = omega (arith, is)

-- only a failed read is told by 4, and nothing composed by more
not_failed : (s : Status) (n : ℕ) → n ≡ status_number s → n < 4 → s ≢ ReadFailed
not_failed Done n is less same = cc
not_failed Failed n is less same = cc
not_failed Undecided n is less same = cc
not_failed Refused n is less same = cc
not_failed ReadFailed n is less same = omega (arith, is, less)

read_failed : (s : Status) (n : ℕ) → n ≡ status_number s → 4 ≤ n → s ≡ ReadFailed
read_failed Done n is four = absurd (omega (arith, is, four))
read_failed Failed n is four = absurd (omega (arith, is, four))
read_failed Undecided n is four = absurd (omega (arith, is, four))
read_failed Refused n is four = absurd (omega (arith, is, four))
read_failed ReadFailed n is four = refl

failed_number : (s : Status) (n : ℕ) → n ≡ status_number s → s ≡ ReadFailed → n ≡ 4
failed_number s n is same = is ∙ ap status_number same

-- ---- the text was written whole

pub done_due : (words : List (List ℕ)) (n : ℕ) (old new : ShelfTold) (was is : SinkTold) (r : Reply) → n ≡ status_number r.status
    → (r.status ≢ ReadFailed → IsTold words old new r) → Appends was.written is.written (string_bytes r.text) → DoneIsDue words n old new was is
done_due words n old new was is r number told appends = λ less.
    let found = told (not_failed r.status n number less) in
    let P : List ℕ → Type 0 = λ text. Appends was.written is.written text in
    (found.1.0, found.0, found.1.1, found.1.2, record { status = number ∙ sym found.2.status; text = subst P (sym found.2.text) appends; pieces = found.3 })

pub done_cut : (words : List (List ℕ)) (n : ℕ) (old new : ShelfTold) (was is : SinkTold) (r : Reply) → n ≡ status_number r.status → IsHonest old new r
    → (r.status ≡ ReadFailed → ((name : List ℕ) × IsInput words name) × IsBegun words old new) → Appends was.written is.written (string_bytes r.text) → CutIsDue words n old new was is
done_cut words n old new was is r number honest begun appends = λ four.
    let failed = read_failed r.status n number four in
    let there = begun failed in
    let due = there.1 in
    let P : List ℕ → Type 0 = λ text. Appends was.written is.written text in (
      due.1.0,
      due.0,
      due.1.1,
      due.1.2,
      read there.0.0 there.0.1 (failed_number r.status n number failed) (honest.rose failed) (subst P (honest.text failed) appends) due.2,
    )

pub done_counted : (n : ℕ) (old new : ShelfTold) (was is : SinkTold) (r : Reply) → n ≡ status_number r.status → CountOn old new → new.append_faults ≡ old.append_faults → IsHonest old new r
    → is.faults ≡ was.faults → IsCounted n old new was is
done_counted n old new was is r number counts appends honest kept = record {
  reads_later = counts.reads.later;
  appends_later = counts.appends.later;
  writes_later = omega (arith, kept);
  reads_stay = λ less. honest.quiet (not_failed r.status n number less);
  appends_stay = λ less. appends;
  writes_stay = λ less. kept;
  read_failed = λ rose. four_at r.status number honest.quiet rose;
  append_failed = λ rose. absurd (omega (arith, rose, appends));
  append_silent = λ rose. absurd (omega (arith, rose, appends));
  write_failed = λ rose. absurd (omega (arith, rose, kept));
}
  where
    four_at : (s : Status) → n ≡ status_number s → (s ≢ ReadFailed → new.read_faults ≡ old.read_faults) → old.read_faults < new.read_faults → 4 ≤ n
    four_at Done is quiet rose = absurd (omega (arith, rose, quiet (λ same. cc)))
    four_at Failed is quiet rose = absurd (omega (arith, rose, quiet (λ same. cc)))
    four_at Undecided is quiet rose = absurd (omega (arith, rose, quiet (λ same. cc)))
    four_at Refused is quiet rose = absurd (omega (arith, rose, quiet (λ same. cc)))
    four_at ReadFailed is quiet rose = omega (arith, is)

-- ---- the write failed

pub written_cut : (words : List (List ℕ)) (old new : ShelfTold) (was is : SinkTold) (r : Reply) → IsHonest old new r
    → (r.status ≢ ReadFailed → IsTold words old new r) → (r.status ≡ ReadFailed → ((name : List ℕ) × IsInput words name) × IsBegun words old new)
    → Rose was.faults is.faults → AddsFront was.written is.written (string_bytes r.text) → CutIsDue words 5 old new was is
written_cut words old new was is r honest told begun rose front = λ four. by_status r.status refl
  where
    whole : r.status ≢ ReadFailed → (files : Files) × (o : Outcome) × Agrees old files × IsDue words files o × IsCut words o 5 old new was is
    whole fine =
        let found = told fine in
        let P : List ℕ → Type 0 = λ text. AddsFront was.written is.written text in
        (found.1.0, found.0, found.1.1, found.1.2, write refl rose (subst P (sym found.2.text) front) found.3)

    by_status : (s : Status) → r.status ≡ s → (files : Files) × (o : Outcome) × Agrees old files × IsDue words files o × IsCut words o 5 old new was is
    by_status Done same = whole (λ failed. cc)
    by_status Failed same = whole (λ failed. cc)
    by_status Undecided same = whole (λ failed. cc)
    by_status Refused same = whole (λ failed. cc)
    by_status ReadFailed same =
        let there = begun same in
        let due = there.1 in
        let P : List ℕ → Type 0 = λ text. AddsFront was.written is.written text in (
          due.1.0,
          due.0,
          due.1.1,
          due.1.2,
          read_and_write there.0.0 there.0.1 refl (honest.rose same) rose (subst P (honest.text same) front) due.2,
        )

pub written_counted : (old new : ShelfTold) (was is : SinkTold) → CountOn old new → new.append_faults ≡ old.append_faults → was.faults ≤ is.faults → IsCounted 5 old new was is
written_counted old new was is counts appends later = record {
  reads_later = counts.reads.later;
  appends_later = counts.appends.later;
  writes_later = later;
  reads_stay = λ less. absurd (omega (arith, less));
  appends_stay = λ less. appends;
  writes_stay = λ less. absurd (omega (arith, less));
  read_failed = λ rose. omega arith;
  append_failed = λ rose. refl;
  append_silent = λ rose. absurd (omega (arith, rose, appends));
  write_failed = λ rose. refl;
}

-- ---- there is no text

pub cut_off_cut : (words : List (List ℕ)) (n : ℕ) (old new : ShelfTold) (was : SinkTold) (e : CutOff) → n ≡ cut_off_number e → IsCutOff words old new e → CutIsDue words n old new was was
cut_off_cut words n old new was OutOfMemory number off = λ four.
    let due = off.0 in
    (due.1.0, due.0, due.1.1, due.1.2, memory number refl due.2)
cut_off_cut words n old new was AppendFailed number off = λ four.
    let due = off.2 in
    (due.0, off.1, due.1, due.2, append off.3 number off.0 refl off.4)

pub cut_off_counted : (words : List (List ℕ)) (n : ℕ) (old new : ShelfTold) (was : SinkTold) (e : CutOff) → n ≡ cut_off_number e → CountOn old new → IsCutOff words old new e → IsCounted n old new was was
cut_off_counted words n old new was e number counts off = record {
  reads_later = counts.reads.later;
  appends_later = counts.appends.later;
  writes_later = omega arith;
  reads_stay = λ less. absurd (omega (arith, five e number, less));
  appends_stay = λ less. absurd (omega (arith, five e number, less));
  writes_stay = λ less. refl;
  read_failed = λ rose. omega (arith, five e number);
  append_failed = λ rose. failed e number off rose;
  append_silent = λ rose. refl;
  write_failed = λ rose. absurd (omega (arith, rose));
}
  where
    five : (e : CutOff) → n ≡ cut_off_number e → 5 ≤ n
    five OutOfMemory is = omega (arith, is)
    five AppendFailed is = omega (arith, is)

    failed : (e : CutOff) → n ≡ cut_off_number e → IsCutOff words old new e → old.append_faults < new.append_faults → n ≡ 5
    failed OutOfMemory is off rose = absurd (omega (arith, rose, off.1))
    failed AppendFailed is off rose = is

-- ---- the answer of a command that appends nothing

pub reply_told : (words : List (List ℕ)) (old new : ShelfTold) (r : Reply) → OnlyReads old new → (r.status ≢ ReadFailed → IsDueSomewhere words old (outcome_of r))
    → r.status ≢ ReadFailed → IsTold words old new r
reply_told words old new r reads due fine = (outcome_of r, due fine, record { status = refl; text = refl }, none_appended old new reads)

pub nothing_begun : (words : List (List ℕ)) (old new : ShelfTold) → OnlyReads old new → IsBegun words old new
nothing_begun words old new reads =
    let due = some_due words old in
    (due.0, due.1, none_begun old new due.0.pieces reads)

pub reads_count : (old new : ShelfTold) → OnlyReads old new → CountOn old new
reads_count old new reads = record {
  reads = reads.count;
  appends = record { later = omega (arith, reads.append_faults); stands = λ end. reads.append_faults };
}

pub no_reply : {T E : Type 0} (r : Result T E) (P : T → Type 0) (Q : E → Type 0) → IsErrAnd r Q → IfOk r P
no_reply (Ok x) P Q is = absurd is
no_reply (Err e) P Q is = tt

pub memory_short : {T : Type 0} (words : List (List ℕ)) (old new : ShelfTold) (r : Result T CutOff) → OnlyReads old new → IsErrAnd r (λ e. e ≡ OutOfMemory)
    → IfErr r (IsCutOff words old new)
memory_short words old new (Ok x) reads is = absurd is
memory_short words old new (Err e) reads is = subst (IsCutOff words old new) (sym is) (nothing_begun words old new reads, reads.append_faults)

-- ---- the levels of accepted files

pub done_levels : (words : List (List ℕ)) (n : ℕ) (old new : ShelfTold) (was is : SinkTold) → DoneIsDue words n old new was is
    → n < 4 → (files : Files) → TellsInputs words old files → (m : MeasuredRecording) → AreAccepted words files m
    → (text : List ℕ) × TellsLevels m n text × Appends was.written is.written text
done_levels words n old new was is done less files tells m accepted =
    let out = done less in
    let same = inputs_decided words out.0 files (λ name input. sym (out.2 name (files name) (tells name input))) out.1 out.3 in
    let told = tells_levels words files m out.1 accepted same in
    let P : ℕ → Type 0 = λ s. TellsLevels m s out.1.text in
    (out.1.text, subst P (sym out.4.status) told, out.4.text)

-- ---- the report of accepted files

pub done_report : (words : List (List ℕ)) (n : ℕ) (old new : ShelfTold) (was is : SinkTold) → DoneIsDue words n old new was is
    → n < 4 → (files : Files) → TellsInputs words old files → (m : ReportedRecording) → AreAcceptedForReport words files m
    → (text : List ℕ) × TellsReport m n text × Appends was.written is.written text
done_report words n old new was is done less files tells m accepted =
    let out = done less in
    let same = inputs_decided words out.0 files (λ name input. sym (out.2 name (files name) (tells name input))) out.1 out.3 in
    let told = tells_report words files m out.1 accepted same in
    let P : ℕ → Type 0 = λ s. TellsReport m s out.1.text in
    (out.1.text, subst P (sym out.4.status) told, out.4.text)

-- ---- the names

pub confined_same : (words : List (List ℕ)) (told : ShelfTold) → IsConfined words told told
confined_same words told = record { left = λ name never. refl; added = λ name never. refl; reads = λ never. refl; appends = λ never. refl }

pub confined_reads : (words : List (List ℕ)) (old new : ShelfTold) (q : Command) (first : List ℕ) (names : List (List ℕ)) → Asks words q → inputs_of q words ≡ first ∷ names
    → OnlyReads old new → ReadsOnly (inputs_of q words) old new → IsConfined words old new
confined_reads words old new q first names asks some reads only = record {
  left = λ name never. only name (λ there. never (q, asks, there));
  added = λ name never. reads.nothing_added name;
  reads = λ never. absurd (never first (q, asks, subst (λ (ns : List (List ℕ)). Contains ns first) (sym some) (contains_first names first)));
  appends = λ never. reads.append_faults;
}

pub turns_same : (words : List (List ℕ)) (told : ShelfTold) → ReadsInTurn words told told
turns_same words told = λ files tells q asks i less never. refl

told_names : (old : ShelfTold) (files : Files) (names : List (List ℕ)) → ((name : List ℕ) → Contains names name → old.left name ≡ Some (files name)) → map old.left names ≡ map Some (map files names)
told_names old files [] tells = refl
told_names old files (n ∷ names) tells =
    let here = tells n (contains_first names n) in
    let rest = told_names old files names (λ name there. tells name (suc there.0, omega (arith, there.1), there.2)) in
    rw (here, rest) refl

pub turns_await : (words : List (List ℕ)) (old new : ShelfTold) (q : Command) → Asks words q → AwaitsTurns q (inputs_of q words) old new → ReadsInTurn words old new
turns_await words old new q asks awaits = λ files tells p also i less never.
    let same = one_command words q p asks also in
    let P : Command → Type 0 = λ x. AwaitsTurns x (inputs_of x words) old new in
    (subst P same awaits) (map files (inputs_of p words)) (told_names old files (inputs_of p words) (λ name there. tells name (p, also, there))) i less never

-- ---- a failed read is of an input

pub input_read : {E : Type 0} (words : List (List ℕ)) (q : Command) (first : List ℕ) (names : List (List ℕ)) (r : Result Reply E) → Asks words q → inputs_of q words ≡ first ∷ names
    → IfOk r (λ x. x.status ≡ ReadFailed → (name : List ℕ) × IsInput words name)
input_read words q first names (Ok x) asks some = λ failed. (first, (q, asks, subst (λ (ns : List (List ℕ)). Contains ns first) (sym some) (contains_first names first)))
input_read words q first names (Err e) asks some = tt

pub explained_all : {E : Type 0} (words : List (List ℕ)) (told : ShelfTold) (q : Command) (r : Result Reply E) → Asks words q → outputs_of q words ≡ [] → IfOk r (IsExplained q (inputs_of q words) told)
    → IfOk r (λ x. x.status ≢ ReadFailed → IsDueSomewhere words told (outcome_of x))
explained_all words told q (Ok x) asks silent h = λ fine. explained_due words told q x asks silent h fine
explained_all words told q (Err e) asks silent h = tt

-- ---- the commands that read nothing

pub tables_replies : {E : Type 0} (words : List (List ℕ)) (told : ShelfTold) (lamp : Lamp) (rate : Rate) (r : Result Reply E) → Asks words (Tables lamp rate)
    → IfOk r (λ x. IsDueForTables lamp rate (outcome_of x)) → IfOk r (λ x. x.status ≢ ReadFailed → IsDueSomewhere words told (outcome_of x))
tables_replies words told lamp rate (Ok x) asks h = λ fine. explained_due words told (Tables lamp rate) x asks refl (λ again. ([], tt, h)) fine
tables_replies words told lamp rate (Err e) asks h = tt
