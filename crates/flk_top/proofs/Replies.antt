-- From what was read and found to what is due.
use Rattle.std.proofs.Common.{◌≡◌, ◌≢◌, ℕ, zero, suc, ◌<◌, ◌≤◌, List, [], ◌∷◌, length, length-append, map, ◌+◌, Option, Some, None, Result, Ok, Err, IfOk, refl, sym, ap, ◌∙◌, subst, string_bytes, arith}
use Rattle.std.specs.Prelude.{slice_index_or, Contains}
use Rattle.std.specs.List.{AllZip}
use Rattle.flk_io.specs.Causes.{TakesAll, TakesFront}
use Rattle.flk_io.specs.Told.{ShelfTold, ReadsUnder}
use Rattle.flk_num.specs.declared.stop.Stop.TheVariants.{Fault}
use Rattle.flk_cfg.specs.File.{IsFileAnswer}
use Rattle.flk_cfg.specs.declared.config.Analog.{Analog}
use Rattle.flk_cfg.specs.declared.config.Config.{Config}
use Rattle.flk_cfg.specs.Kinds.{kind_number}
use Rattle.flk_cfg.specs.declared.kind.CfgFault.{CfgFault}
use Rattle.flk_field.specs.declared.kind.Kind.TheVariants.{Length}
use Rattle.flk_top.specs.Answer.{ComesToTurn}
use Rattle.flk_top.specs.CheckDue.{IsDueForSummary, no_configuration as unread, read}
use Rattle.flk_top.specs.Command.{Asks, IsCheck, configuration_name, data_name}
use Rattle.flk_top.specs.Configuration.{configuration_limit, IsConfiguration, IsConfigurationFault, too_long, first_fault}
use Rattle.flk_top.specs.Faults.{configuration_line, match_line}
use Rattle.flk_top.specs.LevelsDue.{IsDueForRecording, no_configuration, no_match, matched}
use Rattle.flk_top.specs.Matching.{IsChannelMatchFault}
use Rattle.flk_top.specs.Measuring.{IsMatched}
use Rattle.flk_top.specs.Outcome.{refusal}
use Rattle.flk_top.specs.Replies.{outcome_of, IsExplained, ReadsOnly, AwaitsTurns}
use Rattle.flk_top.specs.Told.{MayHold}
use Rattle.flk_top.specs.declared.command.Command.{Command}
use Rattle.flk_top.specs.declared.command.Command.TheVariants.{Levels, Check}
use Rattle.flk_top.specs.declared.command.LevelsCommand.{LevelsCommand}
use Rattle.flk_top.specs.declared.matching.Matched.{Matched}
use Rattle.flk_scale.specs.declared.fault.MatchFault.{MatchFault}
use Rattle.flk_top.specs.declared.reply.Reply.{Reply}
use Rattle.flk_top.specs.declared.reply.Status.TheVariants.{Refused, ReadFailed}
use Rattle.flk_top.proofs.AgreeingFiles.{told_or_none, may_be_told, contains_first, contains_next, MayHold-all}
use Rattle.flk_top.proofs.Outcomes.{is_refusal}

-- ---- the configuration

-- what may be there where more was read than the limit
pub too_long_may_be : (old new : Option (List ℕ)) (limit : ℕ) → TakesFront old new (limit + 1) → (bytes : List ℕ) × MayHold old bytes × (limit < length bytes)
too_long_may_be None new limit took = (took.0, (λ held is. cc), omega (arith, took.1))
too_long_may_be (Some xs) None limit took = absurd took.2
too_long_may_be (Some xs) (Some ys) limit took =
    let count : length xs ≡ length took.0 + length ys = ap length took.2 ∙ length-append took.0 ys in
    (xs, may_be_told (Some xs), omega (arith, took.1, count))

-- the reply is a refusal of bytes that may stand there
abbrev pub IsRefusedConfiguration : Option (List ℕ) → Reply → Type 0
IsRefusedConfiguration left r =
    (bytes : List ℕ) × (line : List ℕ) × MayHold left bytes × IsConfigurationFault bytes line × (outcome_of r ≡ refusal line)

pub too_long_refused : (left after : Option (List ℕ)) (r : Reply) → TakesFront left after (configuration_limit + 1)
    → (r.status ≡ Refused) × (string_bytes r.text ≡ configuration_line 0 0 (kind_number Length)) → IsRefusedConfiguration left r
too_long_refused left after r took told =
    let found = too_long_may_be left after configuration_limit took in
    (found.0, string_bytes r.text, found.1, too_long found.2 told.1, is_refusal r (string_bytes r.text) told.0 refl)

pub fault_refused : (left after : Option (List ℕ)) (bytes : List ℕ) (fault : CfgFault) (r : Reply) → TakesAll left after bytes → length bytes ≤ configuration_limit
    → IsFileAnswer bytes (Err (Fault fault)) → (r.status ≡ Refused) × (string_bytes r.text ≡ configuration_line fault.line fault.field fault.kind) → IsRefusedConfiguration left r
fault_refused left after bytes fault r took small is told =
    let line : string_bytes r.text ≡ configuration_line fault.line fault.field (kind_number is.0) = told.1 ∙ ap (λ k. configuration_line fault.line fault.field k) is.1 in
    (bytes, string_bytes r.text, MayHold-all left after bytes took, first_fault fault.line fault.field is.0 small is.2 line, is_refusal r (string_bytes r.text) told.0 refl)

-- ---- two files that differ in name

-- the names of the two files
abbrev pub two_names : List (List ℕ) → List (List ℕ)
two_names words = configuration_name words ∷ data_name words ∷ []

-- what is left under the second file is as at entry once the first was read
pub data_untouched : (words : List (List ℕ)) (old new : ShelfTold) (name : List ℕ) → name ≡ configuration_name words → configuration_name words ≢ data_name words → ReadsUnder name old new
    → new.left (data_name words) ≡ old.left (data_name words)
data_untouched words old new name is names others = others (data_name words) (λ same. names (sym (same ∙ is)))

-- these two may be the contents of the two files
two_contents : (words : List (List ℕ)) (told : ShelfTold) (name bytes rest : List ℕ) → name ≡ configuration_name words → MayHold (told.left name) bytes → MayHold (told.left (data_name words)) rest
    → AllZip MayHold (map told.left (two_names words)) (bytes ∷ rest ∷ [])
two_contents words told name bytes rest is first second = (subst (λ (n : List ℕ). MayHold (told.left n) bytes) is first, (second, tt))

-- the data as they are told, or none
abbrev any_data : (words : List (List ℕ)) (told : ShelfTold) → List ℕ
any_data words told = told_or_none (told.left (data_name words))

moved_data : (words : List (List ℕ)) (old new : ShelfTold) (data_word rest : List ℕ) → data_word ≡ data_name words → new.left (data_name words) ≡ old.left (data_name words)
    → MayHold (new.left data_word) rest → MayHold (old.left (data_name words)) rest
moved_data words old new data_word rest there same may =
    subst (λ (left : Option (List ℕ)). MayHold left rest) (ap new.left there ∙ same) may

-- nothing is read under a name that is none of the two
pub two_only : (words : List (List ℕ)) (old mid new : ShelfTold) (name data_word : List ℕ) → name ≡ configuration_name words → data_word ≡ data_name words
    → ReadsUnder name old mid → ReadsUnder data_word mid new → ReadsOnly (two_names words) old new
two_only words old mid new name data_word is there first second = λ other never.
    second other (λ same. never (contains_next (data_name words ∷ []) (configuration_name words) other (subst (λ (n : List ℕ). Contains (n ∷ []) other) (same ∙ there) (contains_first [] other))))
    ∙ first other (λ same. never (subst (λ (n : List ℕ). Contains (n ∷ data_name words ∷ []) other) (same ∙ is) (contains_first (data_name words ∷ []) other)))

pub one_only : (words : List (List ℕ)) (old new : ShelfTold) (name : List ℕ) → name ≡ configuration_name words → ReadsUnder name old new → ReadsOnly (two_names words) old new
one_only words old new name is first = λ other never.
    first other (λ same. never (subst (λ (n : List ℕ). Contains (n ∷ data_name words ∷ []) other) (same ∙ is) (contains_first (data_name words ∷ []) other)))

-- ---- levels

pub levels_unread : (words : List (List ℕ)) (told : ShelfTold) (name : List ℕ) (command : LevelsCommand) (r : Reply) → name ≡ configuration_name words
    → (r.status ≢ ReadFailed → IsRefusedConfiguration (told.left name) r)
    → IsExplained (Levels command) (two_names words) told r
levels_unread words told name command r is refused = λ fine.
    let out = refused fine in
    (out.0 ∷ any_data words told ∷ [], two_contents words told name out.0 (any_data words told) is out.2 (may_be_told (told.left (data_name words))), no_configuration out.1 out.3 out.4)

pub levels_unmatched : {E : Type 0} (words : List (List ℕ)) (told : ShelfTold) (name : List ℕ) (command : LevelsCommand) (c : Config) (fault : MatchFault) (r : Result Reply E) → name ≡ configuration_name words
    → (bytes : List ℕ) × MayHold (told.left name) bytes × IsConfiguration bytes c → IsChannelMatchFault c command.channel fault
    → IfOk r (λ x. (x.status ≡ Refused) × (string_bytes x.text ≡ match_line fault)) → IfOk r (IsExplained (Levels command) (two_names words) told)
levels_unmatched words told name command c fault (Ok x) is found failed reply = λ fine. (
  found.0 ∷ any_data words told ∷ [],
  two_contents words told name found.0 (any_data words told) is found.1 (may_be_told (told.left (data_name words))),
  no_match c fault found.2 failed (is_refusal x (match_line fault) reply.0 reply.1),
)
levels_unmatched words told name command c fault (Err e) is found failed reply = tt

pub levels_explained : {E : Type 0} (words : List (List ℕ)) (old new : ShelfTold) (name data_word : List ℕ) (command : LevelsCommand) (c : Config) (a : Analog) (m : Matched) (r : Result Reply E)
    → Asks words (Levels command) → name ≡ configuration_name words → data_word ≡ data_name words → ReadsUnder name old new
    → (bytes : List ℕ) × MayHold (old.left name) bytes × IsConfiguration bytes c → IsMatched c command a m
    → IfOk r (λ x. x.status ≢ ReadFailed → (bytes : List ℕ) × MayHold (new.left data_word) bytes × ((a : Analog) → IsMatched c command a m
    → IsDueForRecording command.channel command.supply.nominal_mv command.supply.uncertainty_uv c a m.lamp bytes (outcome_of x)))
    → IfOk r (IsExplained (Levels command) (two_names words) old)
levels_explained words old new name data_word command c a m (Ok x) asks is there others found matches reply = λ fine.
    let out = reply fine in
    let rest = moved_data words old new data_word out.0 there (data_untouched words old new name is asks.names others) out.1 in
    (found.0 ∷ out.0 ∷ [], two_contents words old name found.0 out.0 is found.1 rest, matched c a m.lamp found.2 matches.matches (out.2 a matches))
levels_explained words old new name data_word command c a m (Err e) asks is there others found matches reply = tt

-- ---- check

pub check_unread : (words : List (List ℕ)) (told : ShelfTold) (name : List ℕ) (r : Reply) → name ≡ configuration_name words
    → (r.status ≢ ReadFailed → IsRefusedConfiguration (told.left name) r)
    → IsExplained Check (two_names words) told r
check_unread words told name r is refused = λ fine.
    let out = refused fine in
    (out.0 ∷ any_data words told ∷ [], two_contents words told name out.0 (any_data words told) is out.2 (may_be_told (told.left (data_name words))), unread out.1 out.3 out.4)

pub check_explained : {E : Type 0} (words : List (List ℕ)) (old new : ShelfTold) (name data_word : List ℕ) (c : Config) (r : Result Reply E)
    → IsCheck words → name ≡ configuration_name words → data_word ≡ data_name words → ReadsUnder name old new
    → (bytes : List ℕ) × MayHold (old.left name) bytes × IsConfiguration bytes c
    → IfOk r (λ x. x.status ≢ ReadFailed → (bytes : List ℕ) × MayHold (new.left data_word) bytes × IsDueForSummary c bytes (outcome_of x))
    → IfOk r (IsExplained Check (two_names words) old)
check_explained words old new name data_word c (Ok x) asks is there others found reply = λ fine.
    let out = reply fine in
    let rest = moved_data words old new data_word out.0 there (data_untouched words old new name is asks.names others) out.1 in
    (found.0 ∷ out.0 ∷ [], two_contents words old name found.0 out.0 is found.1 rest, read c found.2 out.2)
check_explained words old new name data_word c (Err e) asks is there others found reply = tt

-- ---- turns

-- where the data don't come to their turn, they are as at entry
pub data_await : (q : Command) (words : List (List ℕ)) (old new : ShelfTold) → new.left (data_name words) ≡ old.left (data_name words) → AwaitsTurns q (two_names words) old new
data_await q words old new same = λ contents tells i less never. turns contents i less never
  where
    turns : (contents : List (List ℕ)) (i : ℕ) → i < 2 → ¬ ComesToTurn q contents i → new.left (slice_index_or (two_names words) i []) ≡ old.left (slice_index_or (two_names words) i [])
    turns contents zero less never = absurd (never tt)
    turns contents (suc zero) less never = same
    turns contents (suc (suc i)) less never = absurd (omega (arith, less))

-- the contents that are told are those that were read
told_first : (words : List (List ℕ)) (told : ShelfTold) (name bytes x : List ℕ) (contents : List (List ℕ)) → name ≡ configuration_name words → MayHold (told.left name) bytes
    → map told.left (two_names words) ≡ map Some (x ∷ contents) → bytes ≡ x
told_first words told name bytes x contents is may tells =
    may x (ap told.left is ∙ head)
  where
    first : List (Option (List ℕ)) → Option (List ℕ)
    first [] = None
    first (y ∷ ys) = y

    head : told.left (configuration_name words) ≡ Some x
    head = ap first tells

pub levels_in_turn : (words : List (List ℕ)) (old new : ShelfTold) (name : List ℕ) (command : LevelsCommand) (c : Config) (a : Analog) (m : Matched) → name ≡ configuration_name words
    → (bytes : List ℕ) × MayHold (old.left name) bytes × IsConfiguration bytes c → IsMatched c command a m → AwaitsTurns (Levels command) (two_names words) old new
levels_in_turn words old new name command c a m is found matches = turns
  where
    turns : AwaitsTurns (Levels command) (two_names words) old new
    turns contents tells zero less never = absurd (never tt)
    turns [] tells (suc i) less never = cc
    turns (x ∷ contents) tells (suc i) less never =
        let same = told_first words old name found.0 x contents is found.1 tells in
        absurd (never (c, a, m.lamp, subst (λ (y : List ℕ). IsConfiguration y c) same found.2, matches.matches))

pub check_in_turn : (words : List (List ℕ)) (old new : ShelfTold) (name : List ℕ) (c : Config) → name ≡ configuration_name words
    → (bytes : List ℕ) × MayHold (old.left name) bytes × IsConfiguration bytes c → AwaitsTurns Check (two_names words) old new
check_in_turn words old new name c is found = turns
  where
    turns : AwaitsTurns Check (two_names words) old new
    turns contents tells zero less never = absurd (never tt)
    turns [] tells (suc i) less never = cc
    turns (x ∷ contents) tells (suc i) less never =
        let same = told_first words old name found.0 x contents is found.1 tells in
        absurd (never (c, subst (λ (y : List ℕ). IsConfiguration y c) same found.2))
