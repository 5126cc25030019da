-- What a reply tells of the reads that failed.
use Rattle.std.proofs.Common.{◌≡◌, ◌≢◌, List, ℕ, Result, Ok, Err, IfOk, ◌∙◌, string_bytes}
use Rattle.flk_io.specs.Causes.{Rose}
use Rattle.flk_io.specs.Told.{ShelfTold}
use Rattle.flk_top.specs.Faults.{read_line}
use Rattle.flk_top.specs.Replies.{IsHonest}
use Rattle.flk_top.specs.declared.reply.Reply.{Reply}
use Rattle.flk_top.specs.declared.reply.Status.TheVariants.{Done, Refused, ReadFailed}

-- a reply to a failed read explains nothing
pub failed_told : {E : Type 0} (P : Reply → Type 0) (text : List ℕ) (r : Result Reply E) → IfOk r (λ x. (x.status ≡ ReadFailed) × (string_bytes x.text ≡ text)) → IfOk r (λ x. x.status ≢ ReadFailed → P x)
failed_told P text (Ok x) h = λ fine. absurd (fine h.0)
failed_told P text (Err e) h = tt

pub failed_honest : {E : Type 0} (old new : ShelfTold) (r : Result Reply E) → IfOk r (λ x. (x.status ≡ ReadFailed) × (string_bytes x.text ≡ read_line)) → Rose old.read_faults new.read_faults → IfOk r (IsHonest old new)
failed_honest old new (Ok x) h rose = record { text = λ failed. h.1; rose = λ failed. rose; quiet = λ fine. absurd (fine h.0) }
failed_honest old new (Err e) h rose = tt

pub refused_honest : {E : Type 0} (text : List ℕ) (old new : ShelfTold) (r : Result Reply E) → IfOk r (λ x. (x.status ≡ Refused) × (string_bytes x.text ≡ text)) → new.read_faults ≡ old.read_faults → IfOk r (IsHonest old new)
refused_honest text old new (Ok x) h same = record {
  text = λ failed. let refused = h.0 in cc;
  rose = λ failed. let refused = h.0 in cc;
  quiet = λ fine. same;
}
refused_honest text old new (Err e) h same = tt

pub done_honest : {E : Type 0} (text : List ℕ) (old new : ShelfTold) (r : Result Reply E) → IfOk r (λ x. (x.status ≡ Done) × (string_bytes x.text ≡ text)) → new.read_faults ≡ old.read_faults → IfOk r (IsHonest old new)
done_honest text old new (Ok x) h same = record {
  text = λ failed. let done = h.0 in cc;
  rose = λ failed. let done = h.0 in cc;
  quiet = λ fine. same;
}
done_honest text old new (Err e) h same = tt

-- what is honest of the second reading is honest of both
pub honest_on : {E : Type 0} (old mid new : ShelfTold) (r : Result Reply E) → mid.read_faults ≡ old.read_faults → IfOk r (IsHonest mid new) → IfOk r (IsHonest old new)
honest_on old mid new (Ok x) same h = record {
  text = h.text;
  rose = λ failed. rw same at (h.rose failed);
  quiet = λ other. h.quiet other ∙ same;
}
honest_on old mid new (Err e) same h = tt
