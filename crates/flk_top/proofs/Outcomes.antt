-- That there is an outcome, outcomes that are equal, and the outcome of a reply.
use Rattle.std.proofs.Common.{◌≡◌, ℕ, List, [], sym, ap, ◌∙◌, string_bytes}
use Rattle.flk_top.specs.Outcome.{Outcome, completed, refusal}
use Rattle.flk_top.specs.Status.{status_number}
use Rattle.flk_top.specs.Replies.{outcome_of}
use Rattle.flk_top.specs.declared.reply.Reply.{Reply}
use Rattle.flk_top.specs.declared.reply.Status.TheVariants.{Done, Refused}

abbrev pub HasOutcome : (Outcome → Type 0) → Type 0
HasOutcome due = (o : Outcome) × due o

-- two refusals of one line
pub agreed : {o p : Outcome} {xs ys : List ℕ} → o ≡ refusal xs → p ≡ refusal ys → xs ≡ ys → o ≡ p
agreed h k same = h ∙ ap refusal same ∙ sym k

pub same_outcome : (s n : ℕ) (xs ys : List ℕ) → s ≡ n → xs ≡ ys → ◌≡◌ {A = Outcome} (record { status = s; text = xs; pieces = [] }) (record { status = n; text = ys; pieces = [] })
same_outcome s n xs ys number line = λ i. record { status = number i; text = line i; pieces = [] }

pub is_refusal : (r : Reply) (line : List ℕ) → r.status ≡ Refused → string_bytes r.text ≡ line → outcome_of r ≡ refusal line
is_refusal r line status text = same_outcome (status_number r.status) 2 (string_bytes r.text) line (ap status_number status) text

pub is_completed : (r : Reply) (text : List ℕ) → r.status ≡ Done → string_bytes r.text ≡ text → outcome_of r ≡ completed text
is_completed r text status is = same_outcome (status_number r.status) 0 (string_bytes r.text) text (ap status_number status) is
