-- What `gen` appends, name by name, and what its end tells.
use Rattle.std.proofs.Common.{◌≡◌, ◌≢◌, ◌⊎◌, ℕ, List, [], ◌∷◌, take, Option, Result, Ok, Err, IfOk, IfErr, OnErr, refl, sym, ◌∙◌, subst, arith, inl, inr, append-nil}
use Rattle.std.specs.Prelude.{Contains, IsErrOf}
use Rattle.std.specs.Io.KnownBytes.{Appends}
use Rattle.std.proofs.KnownBytes.{Appends-nil}
use Rattle.flk_field.proofs.SetCases.{same_text}
use Rattle.flk_io.specs.Causes.{Rose, OthersStay, AddsFront}
use Rattle.flk_io.specs.Told.{ShelfTold, OnlyAppends, AppendsUnder}
use Rattle.flk_top.specs.Answer.{asked}
use Rattle.flk_top.specs.Command.{Asks, outputs_of, gen_configuration_name, gen_data_name}
use Rattle.flk_top.specs.GenDue.{gen_outcome}
use Rattle.flk_top.specs.Outcome.{Piece, Outcome, appended_under}
use Rattle.flk_top.specs.Replies.{IsDueSomewhere, Tells, IsTold, IsCutOff, AppendsOnly, HasAppendCause}
use Rattle.flk_top.specs.Run.{IsConfined}
use Rattle.flk_top.specs.Told.{AreAppended, AreBegun}
use Rattle.flk_top.specs.declared.command.Command.TheVariants.{Gen}
use Rattle.flk_top.specs.declared.command.GenCommand.{GenCommand}
use Rattle.flk_top.specs.declared.reply.CutOff.{CutOff}
use Rattle.flk_top.specs.declared.reply.CutOff.TheVariants.{OutOfMemory, AppendFailed}
use Rattle.flk_top.specs.declared.reply.Reply.{Reply}
use Rattle.flk_top.specs.declared.reply.Status.TheVariants.{ReadFailed}
use Rattle.flk_top.proofs.AgreeingFiles.{is_itself, is_other, files_with, files_agree, contains_first, contains_next}

-- ---- two names

-- what is told of what was added
abbrev Added : Type 0
Added = List ℕ → Option (List ℕ)

abbrev pub two_pieces : (a b x y : List ℕ) → List Piece
two_pieces a b x y = record { name = a; bytes = x } ∷ record { name = b; bytes = y } ∷ []

first_under : (a b x y : List ℕ) → a ≢ b → appended_under a (two_pieces a b x y) ≡ x
first_under a b x y differ = rw (is_itself a, is_other b a (λ e. differ (sym e))) (append-nil x)

second_under : (a b x y : List ℕ) → a ≢ b → appended_under b (two_pieces a b x y) ≡ y
second_under a b x y differ = rw (is_itself b, is_other a b differ) (append-nil y)

other_under : (name a b x y : List ℕ) → a ≢ name → b ≢ name → appended_under name (two_pieces a b x y) ≡ []
other_under name a b x y first second = rw (is_other a name first, is_other b name second) refl

pub both_appended : (old mid new : Added) (a b x y : List ℕ) → a ≢ b → Appends (old a) (mid a) x → OthersStay a old mid → Appends (mid b) (new b) y → OthersStay b mid new
    → AreAppended old new (two_pieces a b x y)
both_appended old mid new a b x y differ first others second rest = λ name. elim (same_text name a) [
  | inl is_first ↦ subst (Under) (sym is_first) at_first
  | inr not_first ↦ elim (same_text name b) [
    | inl is_second ↦ subst (Under) (sym is_second) at_second
    | inr not_second ↦ at_other name not_first not_second
  ]
]
  where
    Under : List ℕ → Type 0
    Under name = Appends (old name) (new name) (appended_under name (two_pieces a b x y))

    at_first : Under a
    at_first =
        let P : List ℕ → Type 0 = λ bytes. Appends (old a) (new a) bytes in
        let Q : Option (List ℕ) → Type 0 = λ now. Appends (old a) now x in
        subst P (sym (first_under a b x y differ)) (subst Q (sym (rest a differ)) first)

    at_second : Under b
    at_second =
        let P : List ℕ → Type 0 = λ bytes. Appends (old b) (new b) bytes in
        let Q : Option (List ℕ) → Type 0 = λ before. Appends before (new b) y in
        subst P (sym (second_under a b x y differ)) (subst Q (others b (λ e. differ (sym e))) second)

    at_other : (name : List ℕ) → name ≢ a → name ≢ b → Under name
    at_other name not_first not_second =
        let P : List ℕ → Type 0 = λ bytes. Appends (old name) (new name) bytes in
        let Q : Option (List ℕ) → Type 0 = λ now. Appends (old name) now [] in
        let under = other_under name a b x y (λ e. not_first (sym e)) (λ e. not_second (sym e)) in
        subst P (sym under) (subst Q (sym (rest name not_second ∙ others name not_first)) (Appends-nil (old name)))

one_under : (a x : List ℕ) → appended_under a (record { name = a; bytes = x } ∷ []) ≡ x
one_under a x = rw (is_itself a) (append-nil x)

none_under : (name a x : List ℕ) → a ≢ name → appended_under name (record { name = a; bytes = x } ∷ []) ≡ []
none_under name a x other = rw (is_other a name other) refl

-- a front of the first piece, and nothing of the second
pub first_begun : (old new : Added) (a b x y : List ℕ) → AddsFront (old a) (new a) x → OthersStay a old new → AreBegun old new (two_pieces a b x y)
first_begun old new a b x y front others = (record { name = a; bytes = take front.0 x } ∷ [], inl (front.0, front.1, refl), added)
  where
    Under : List ℕ → Type 0
    Under name = Appends (old name) (new name) (appended_under name (record { name = a; bytes = take front.0 x } ∷ []))

    at_first : Under a
    at_first =
        let P : List ℕ → Type 0 = λ bytes. Appends (old a) (new a) bytes in
        subst P (sym (one_under a (take front.0 x))) front.2

    at_other : (name : List ℕ) → name ≢ a → Under name
    at_other name not_first =
        let P : List ℕ → Type 0 = λ bytes. Appends (old name) (new name) bytes in
        let Q : Option (List ℕ) → Type 0 = λ now. Appends (old name) now [] in
        subst P (sym (none_under name a (take front.0 x) (λ e. not_first (sym e)))) (subst Q (sym (others name not_first)) (Appends-nil (old name)))

    added : AreAppended old new (record { name = a; bytes = take front.0 x } ∷ [])
    added = λ name. elim (same_text name a) [ inl is_first ↦ subst (Under) (sym is_first) at_first | inr not_first ↦ at_other name not_first ]

pub nothing_begun_yet : (old : Added) (a b x y : List ℕ) → AreBegun old old (two_pieces a b x y)
nothing_begun_yet old a b x y = first_begun old old a b x y (0, omega arith, Appends-nil (old a)) (λ name other. refl)

-- the first piece whole, and a front of the second
pub second_begun : (old mid new : Added) (a b x y : List ℕ) → a ≢ b → Appends (old a) (mid a) x → OthersStay a old mid → AddsFront (mid b) (new b) y → OthersStay b mid new
    → AreBegun old new (two_pieces a b x y)
second_begun old mid new a b x y differ first others front rest =
    let last = record { name = b; bytes = take front.0 y } ∷ [] in (
      two_pieces a b x (take front.0 y),
      inr (last, inl (front.0, front.1, refl), refl),
      both_appended old mid new a b x (take front.0 y) differ first others front.2 rest,
    )

-- both pieces whole
pub all_begun : (old new : Added) (a b x y : List ℕ) → AreAppended old new (two_pieces a b x y) → AreBegun old new (two_pieces a b x y)
all_begun old new a b x y added =
    let last = record { name = b; bytes = y } ∷ [] in
    (two_pieces a b x y, inr (last, inr ([], refl, refl), refl), added)

pub two_appended_only : (old mid new : ShelfTold) (a b : List ℕ) → AppendsUnder a old mid → AppendsUnder b mid new → AppendsOnly (a ∷ b ∷ []) old new
two_appended_only old mid new a b first second = λ name never.
    second name (λ same. never (contains_next (b ∷ []) a name (subst (λ (n : List ℕ). Contains (n ∷ []) name) same (contains_first [] name))))
    ∙ first name (λ same. never (subst (λ (n : List ℕ). Contains (n ∷ b ∷ []) name) same (contains_first (b ∷ []) name)))

pub one_appended_only : (old new : ShelfTold) (a b : List ℕ) → AppendsUnder a old new → AppendsOnly (a ∷ b ∷ []) old new
one_appended_only old new a b first = λ name never.
    first name (λ same. never (subst (λ (n : List ℕ). Contains (n ∷ b ∷ []) name) same (contains_first (b ∷ []) name)))

-- ---- the same of equal names and bytes

pub appended_as : (old new : Added) (n a bytes x : List ℕ) → n ≡ a → bytes ≡ x → Appends (old n) (new n) bytes → Appends (old a) (new a) x
appended_as old new n a bytes x is_a is_x h =
    subst (λ (m : List ℕ). Appends (old m) (new m) x) is_a (subst (λ (all : List ℕ). Appends (old n) (new n) all) is_x h)

pub front_as : (old new : Added) (n a bytes x : List ℕ) → n ≡ a → bytes ≡ x → AddsFront (old n) (new n) bytes → AddsFront (old a) (new a) x
front_as old new n a bytes x is_a is_x h =
    subst (λ (m : List ℕ). AddsFront (old m) (new m) x) is_a (subst (λ (all : List ℕ). AddsFront (old n) (new n) all) is_x h)

pub others_as : (old new : Added) (n a : List ℕ) → n ≡ a → OthersStay n old new → OthersStay a old new
others_as old new n a is_a h = subst (λ (m : List ℕ). OthersStay m old new) is_a h

-- ---- the cause of an end

pub cause_after : {T : Type 0} (old mid new : ShelfTold) (r : Result T CutOff) → mid.append_faults ≡ old.append_faults → HasAppendCause mid new r → HasAppendCause old new r
cause_after old mid new r same cause = record {
  rose = λ failed. subst (λ (n : ℕ). Rose n new.append_faults) same (cause.rose failed);
  kept = elim cause.kept [ inl failed ↦ inl failed | inr kept ↦ inr (kept ∙ same) ];
}

-- ---- from the reply of `gen` to what is promised of an answer

gen_due : (words : List (List ℕ)) (told : ShelfTold) (command : GenCommand) → Asks words (Gen command)
    → IsDueSomewhere words told (gen_outcome command (gen_configuration_name words) (gen_data_name words))
gen_due words told command asks = (files_with told.left [] [], files_agree told.left [] [] tt, asked (Gen command) asks refl)

abbrev outcome_in : List (List ℕ) → GenCommand → Outcome
outcome_in words command = gen_outcome command (gen_configuration_name words) (gen_data_name words)

abbrev pub IsGenDone : List (List ℕ) → GenCommand → (old new : ShelfTold) → Reply → Type 0
IsGenDone words command old new r = Tells r (outcome_in words command) × AreAppended old.added new.added (outcome_in words command).pieces

pub gen_told : {E : Type 0} (words : List (List ℕ)) (old new : ShelfTold) (command : GenCommand) (r : Result Reply E) → Asks words (Gen command)
    → IfOk r (IsGenDone words command old new) → IfOk r (λ x. x.status ≢ ReadFailed → IsTold words old new x)
gen_told words old new command (Ok x) asks done = λ fine. (outcome_in words command, gen_due words old command asks, done.0, done.1)
gen_told words old new command (Err e) asks done = tt

pub gen_cut_off : {T : Type 0} (words : List (List ℕ)) (old new : ShelfTold) (command : GenCommand) (r : Result T CutOff) → Asks words (Gen command)
    → OnErr r (AreBegun old.added new.added (outcome_in words command).pieces) → HasAppendCause old new r → IfErr r (IsCutOff words old new)
gen_cut_off {T = T} words old new command (Ok x) asks begun cause = tt
gen_cut_off {T = T} words old new command (Err AppendFailed) asks begun cause = (cause.rose refl, outcome_in words command, gen_due words old command asks, (λ none. cc), begun)
gen_cut_off {T = T} words old new command (Err OutOfMemory) asks begun cause = ((outcome_in words command, gen_due words old command asks, begun), kept cause.kept)
  where
    kept : (IsErrOf {T = T} {E = CutOff} (Err OutOfMemory) AppendFailed) ⊎ (new.append_faults ≡ old.append_faults) → new.append_faults ≡ old.append_faults
    kept (inl failed) = absurd (cc)
    kept (inr same) = same

pub gen_confined : (words : List (List ℕ)) (old new : ShelfTold) (command : GenCommand) → Asks words (Gen command) → OnlyAppends old new → AppendsOnly (outputs_of (Gen command) words) old new
    → IsConfined words old new
gen_confined words old new command asks appends only = record {
  left = λ name never. appends.nothing_taken name;
  added = λ name never. only name (λ there. never (Gen command, asks, there));
  reads = λ never. appends.read_faults;
  appends = λ never. absurd (never (gen_configuration_name words) (Gen command, asks, contains_first (gen_data_name words ∷ []) (gen_configuration_name words)));
}
