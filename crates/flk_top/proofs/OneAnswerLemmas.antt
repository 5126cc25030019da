-- The answer is one: words and files have one outcome.
use Rattle.std.proofs.Common.{◌≡◌, ℕ, ◌+◌, List, [], ◌∷◌, map, sym, ap, ◌∙◌, subst, inl, inr}
use Rattle.flk_num.specs.Rate.{half_at}
use Rattle.flk_num.specs.declared.lamp.Lamp.{Lamp}
use Rattle.flk_cfg.specs.declared.config.Analog.{Analog}
use Rattle.flk_cfg.specs.declared.config.Config.{Config}
use Rattle.flk_dat.specs.Records.{record_at, layout_of}
use Rattle.flk_dat.proofs.FileLaws.{file_once, accepted_or_fault_after, one_fault_after}
use Rattle.flk_top.specs.Answer.{IsDueFor, IsDue, usage, asked}
use Rattle.flk_top.specs.CheckDue.{IsDueForSummary, file_fault, checked, IsDueForCheck, no_configuration as unread, read}
use Rattle.flk_top.specs.Command.{inputs_of, outputs_of}
use Rattle.flk_top.specs.Configuration.{IsConfiguration}
use Rattle.flk_top.specs.Faults.{match_line, range_line}
use Rattle.flk_top.specs.Levels.{AreHalfPeriodLevels}
use Rattle.flk_top.specs.LevelsDue.{IsDueForRecording, data_fault, over_range, measured, IsDueForLevels, no_configuration, no_match, matched}
use Rattle.flk_top.specs.Matching.{IsChannelMatchFault, recorded_voltages}
use Rattle.flk_top.specs.Outcome.{Outcome, completed}
use Rattle.flk_top.specs.Text.{check_text}
use Rattle.flk_top.specs.Told.{Files}
use Rattle.flk_top.specs.declared.command.Command.{Command}
use Rattle.flk_top.specs.declared.command.Command.TheVariants.{Levels, Check, Tables, Report, Gen}
use Rattle.flk_top.specs.declared.command.LevelsCommand.{LevelsCommand}
use Rattle.flk_scale.specs.declared.fault.MatchFault.{MatchFault}
use Rattle.flk_scale.proofs.MatchingLemmas.{measured_has_no_fault, one_fault}
use Rattle.flk_top.proofs.Headline.{configuration_or_fault, one_configuration_fault, one_configuration, data_line_same, over_or_fault, over_or_accepted, one_over, same_recording, measured_or_fault}
use Rattle.flk_top.proofs.LevelsOnce.{levels_text_same}
use Rattle.flk_top.proofs.OneCommand.{one_command}
use Rattle.flk_top.proofs.Outcomes.{agreed}
use Rattle.flk_top.proofs.ReportOnce.{one_report}
use Rattle.flk_top.proofs.TablesLemmas.{one_table}

-- ---- the fault of the tests on a configuration

one_match_fault : (c : Config) (channel : ℕ) (f g : MatchFault) → IsChannelMatchFault c channel f → IsChannelMatchFault c channel g → f ≡ g
one_match_fault c channel f g (inl h) (inl k) = one_fault c channel f g h k
one_match_fault c channel f g (inl h) (inr k) = absurd (measured_has_no_fault c channel f k.0 h)
one_match_fault c channel f g (inr h) (inl k) = absurd (measured_has_no_fault c channel g h.0 k)
one_match_fault c channel f g (inr h) (inr k) = h.1.0 ∙ sym k.1.0

same_match_line : (bytes : List ℕ) (channel : ℕ) (x y : Config) (f g : MatchFault) → IsConfiguration bytes x → IsConfiguration bytes y
    → IsChannelMatchFault x channel f → IsChannelMatchFault y channel g → match_line f ≡ match_line g
same_match_line bytes channel x y f g is that failed other =
    ap match_line (one_match_fault y channel f g (subst (λ i. IsChannelMatchFault i channel f) (one_configuration bytes x y is that) failed) other)

-- ---- the data

one_recording : (channel nominal uncertainty : ℕ) (c : Config) (a : Analog) (lamp : Lamp) (bytes : List ℕ) (o p : Outcome)
    → IsDueForRecording channel nominal uncertainty c a lamp bytes o → IsDueForRecording channel nominal uncertainty c a lamp bytes p → o ≡ p
one_recording channel nominal uncertainty c a lamp bytes o p (data_fault rs field kind fault within out) (data_fault ss place again other fine also) =
    agreed out also (data_line_same rs ss field place kind again (one_fault_after (layout_of c (channel ∷ [])) bytes rs ss field place kind again fault other))
one_recording channel nominal uncertainty c a lamp bytes o p (data_fault rs field kind fault within out) (over_range ss i first present over also) =
    absurd (over_or_fault (layout_of c (channel ∷ [])) bytes a channel nominal ss rs i field kind first present over fault within)
one_recording channel nominal uncertainty c a lamp bytes o p (data_fault rs field kind fault within out) (measured ss found is fine are also) =
    absurd (accepted_or_fault_after (layout_of c (channel ∷ [])) bytes ss rs field kind is fault)
one_recording channel nominal uncertainty c a lamp bytes o p (over_range rs i first present over out) (data_fault ss field kind fault within also) =
    absurd (over_or_fault (layout_of c (channel ∷ [])) bytes a channel nominal rs ss i field kind first present over fault within)
one_recording channel nominal uncertainty c a lamp bytes o p (over_range rs i first present over out) (over_range ss j front there again also) =
    agreed out also (ap (λ k. range_line (k + 1) channel) (one_over (layout_of c (channel ∷ [])) bytes a channel nominal rs ss i j first front over again))
one_recording channel nominal uncertainty c a lamp bytes o p (over_range rs i first present over out) (measured ss found is fine are also) =
    absurd (over_or_accepted (layout_of c (channel ∷ [])) bytes a channel nominal rs ss i first is over fine)
one_recording channel nominal uncertainty c a lamp bytes o p (measured rs found is within are out) (data_fault ss field kind fault fine also) =
    absurd (accepted_or_fault_after (layout_of c (channel ∷ [])) bytes rs ss field kind is fault)
one_recording channel nominal uncertainty c a lamp bytes o p (measured rs found is within are out) (over_range ss i first present over also) =
    absurd (over_or_accepted (layout_of c (channel ∷ [])) bytes a channel nominal ss rs i first is over within)
one_recording channel nominal uncertainty c a lamp bytes o p (measured rs found is within are out) (measured ss other that fine those also) =
    let same = file_once (layout_of c (channel ∷ [])) bytes rs ss is.file that.file in
    let moved = subst (λ zs. AreHalfPeriodLevels (half_at lamp c.rate) nominal uncertainty (recorded_voltages a channel zs) found) same are in
    out ∙ ap completed (levels_text_same channel (half_at lamp c.rate) nominal uncertainty (recorded_voltages a channel ss) found other moved those) ∙ sym also

one_summary : (c : Config) (bytes : List ℕ) (o p : Outcome) → IsDueForSummary c bytes o → IsDueForSummary c bytes p → o ≡ p
one_summary c bytes o p (file_fault rs field kind fault out) (file_fault ss place again other also) =
    agreed out also (data_line_same rs ss field place kind again (one_fault_after (layout_of c []) bytes rs ss field place kind again fault other))
one_summary c bytes o p (file_fault rs field kind fault out) (checked ss is also) = absurd (accepted_or_fault_after (layout_of c []) bytes ss rs field kind is fault)
one_summary c bytes o p (checked rs is out) (file_fault ss field kind fault also) = absurd (accepted_or_fault_after (layout_of c []) bytes rs ss field kind is fault)
one_summary c bytes o p (checked rs is out) (checked ss that also) =
    let same = file_once (layout_of c []) bytes rs ss is.file that.file in
    out ∙ ap (λ zs. completed (check_text c (record_at zs 0).number)) same ∙ sym also

-- ---- the commands

one_levels : (command : LevelsCommand) (bytes rest : List ℕ) (o p : Outcome) → IsDueForLevels command bytes rest o → IsDueForLevels command bytes rest p → o ≡ p
one_levels command bytes rest o p (no_configuration line fault out) (no_configuration text other also) = agreed out also (one_configuration_fault bytes line text fault other)
one_levels command bytes rest o p (no_configuration line fault out) (no_match c f is failed also) = absurd (configuration_or_fault bytes line c is fault)
one_levels command bytes rest o p (no_configuration line fault out) (matched c a lamp is matches due) = absurd (configuration_or_fault bytes line c is fault)
one_levels command bytes rest o p (no_match c f is failed out) (no_configuration line fault also) = absurd (configuration_or_fault bytes line c is fault)
one_levels command bytes rest o p (no_match c f is failed out) (no_match d g that other also) = agreed out also (same_match_line bytes command.channel c d f g is that failed other)
one_levels command bytes rest o p (no_match c f is failed out) (matched d a lamp that matches due) = absurd (measured_or_fault bytes command.channel d c a lamp f that is matches failed)
one_levels command bytes rest o p (matched c a lamp is matches due) (no_configuration line fault also) = absurd (configuration_or_fault bytes line c is fault)
one_levels command bytes rest o p (matched c a lamp is matches due) (no_match d g that failed also) = absurd (measured_or_fault bytes command.channel c d a lamp g is that matches failed)
one_levels command bytes rest o p (matched c a lamp is matches due) (matched d b other that others told) =
    let nominal = command.supply.nominal_mv in
    let uncertainty = command.supply.uncertainty_uv in
    one_recording command.channel nominal uncertainty d b other rest o p
    (same_recording bytes rest command.channel nominal uncertainty c d a b lamp other o is that matches others due) told

one_check : (bytes rest : List ℕ) (o p : Outcome) → IsDueForCheck bytes rest o → IsDueForCheck bytes rest p → o ≡ p
one_check bytes rest o p (unread line fault out) (unread text other also) = agreed out also (one_configuration_fault bytes line text fault other)
one_check bytes rest o p (unread line fault out) (read c is due) = absurd (configuration_or_fault bytes line c is fault)
one_check bytes rest o p (read c is due) (unread line fault out) = absurd (configuration_or_fault bytes line c is fault)
one_check bytes rest o p (read c is due) (read d that other) =
    one_summary d rest o p (subst (λ (x : Config). IsDueForSummary x rest o) (one_configuration bytes c d is that) due) other

one_due_for : (q : Command) (outputs contents : List (List ℕ)) (o p : Outcome) → IsDueFor q outputs contents o → IsDueFor q outputs contents p → o ≡ p
one_due_for (Levels command) (name ∷ names) contents o p h k = absurd h
one_due_for (Levels command) [] [] o p h k = absurd h
one_due_for (Levels command) [] (x ∷ []) o p h k = absurd h
one_due_for (Levels command) [] (x ∷ y ∷ []) o p h k = one_levels command x y o p h k
one_due_for (Levels command) [] (x ∷ y ∷ z ∷ more) o p h k = absurd h
one_due_for Check (name ∷ names) contents o p h k = absurd h
one_due_for Check [] [] o p h k = absurd h
one_due_for Check [] (x ∷ []) o p h k = absurd h
one_due_for Check [] (x ∷ y ∷ []) o p h k = one_check x y o p h k
one_due_for Check [] (x ∷ y ∷ z ∷ more) o p h k = absurd h
one_due_for (Tables lamp rate) (name ∷ names) contents o p h k = absurd h
one_due_for (Tables lamp rate) [] [] o p h k = one_table lamp rate o p h k
one_due_for (Tables lamp rate) [] (x ∷ more) o p h k = absurd h
one_due_for (Report command) (name ∷ names) contents o p h k = absurd h
one_due_for (Report command) [] [] o p h k = absurd h
one_due_for (Report command) [] (x ∷ []) o p h k = absurd h
one_due_for (Report command) [] (x ∷ y ∷ []) o p h k = absurd h
one_due_for (Report command) [] (x ∷ y ∷ z ∷ []) o p h k = one_report x y z o p h k
one_due_for (Report command) [] (x ∷ y ∷ z ∷ w ∷ more) o p h k = absurd h
one_due_for (Gen command) [] contents o p h k = absurd h
one_due_for (Gen command) (name ∷ []) contents o p h k = absurd h
one_due_for (Gen command) (name ∷ other ∷ []) [] o p h k = h ∙ sym k
one_due_for (Gen command) (name ∷ other ∷ []) (x ∷ more) o p h k = absurd h
one_due_for (Gen command) (name ∷ other ∷ third ∷ names) contents o p h k = absurd h

pub one_answer : (words : List (List ℕ)) (files : Files) (o p : Outcome) → IsDue words files o → IsDue words files p → o ≡ p
one_answer words files o p (usage none out) (usage never also) = out ∙ sym also
one_answer words files o p (usage none out) (asked q asks due) = absurd (none q asks)
one_answer words files o p (asked q asks due) (usage none out) = absurd (none q asks)
one_answer words files o p (asked q asks due) (asked r also other) =
    let P : Command → Type 0 = λ x. IsDueFor x (outputs_of x words) (map files (inputs_of x words)) o in
    one_due_for r (outputs_of r words) (map files (inputs_of r words)) o p (subst P (one_command words q r asks also) due) other
