-- Files that are accepted have one answer, which tells their levels.
use Rattle.std.proofs.Common.{◌≡◌, ℕ, ◌+◌, ◌<◌, List, [], ◌∷◌, length, map, pos, refl, sym, ap, ◌∙◌, subst, arith, ⊎_elim, inl, inr}
use Rattle.std.proofs.lemmas.Bool.{cases_lt}
use Rattle.std.proofs.lemmas.List.{length-map, get_or-map}
use Rattle.flk_exact.specs.Fraction.{Fraction, whole}
use Rattle.flk_num.specs.Rate.{half_at}
use Rattle.flk_num.specs.declared.lamp.Lamp.{Lamp}
use Rattle.flk_cfg.specs.declared.config.Analog.{Analog}
use Rattle.flk_cfg.specs.declared.config.Config.{Config}
use Rattle.flk_cfg.proofs.ConfigLaws.{one_config, config_or_fault}
use Rattle.flk_cfg.proofs.LineLaws.{one_first_fault}
use Rattle.flk_scale.specs.Voltage.{recorded_voltage, IsOverRange}
use Rattle.flk_dat.specs.Records.{DataRecord, Layout, no_record, record_at, layout_of, Follows, last_number, ArePresent}
use Rattle.flk_dat.specs.DataFile.{AreFirst, after_records, IsAccepted, IsFaultAfter}
use Rattle.flk_dat.specs.Kinds.{data_kind_number as record_kind}
use Rattle.flk_dat.specs.declared.kind.Kind.{Kind}
use Rattle.flk_dat.proofs.Sequences.{follows_at}
use Rattle.flk_dat.proofs.RecordLaws.{record_or_fault}
use Rattle.flk_dat.proofs.FileLaws.{each_once, file_once, accepted_or_fault_after}
use Rattle.flk_scale.proofs.MatchingLemmas.{one_channel, measured_has_no_fault, one_lamp}
use Rattle.flk_top.specs.Command.{inputs_of, outputs_of, configuration_name, data_name}
use Rattle.flk_top.specs.Configuration.{IsConfiguration, IsConfigurationFault, too_long, first_fault}
use Rattle.flk_top.specs.Matching.{Matches, IsChannelMatchFault, sample_of, recorded_voltages}
use Rattle.flk_scale.specs.Range.{voltage_at, IsFirstOver, IsWithinRange}
use Rattle.flk_top.specs.Faults.{data_line}
use Rattle.flk_top.specs.Levels.{AreHalfPeriodLevels}
use Rattle.flk_top.specs.LevelsDue.{IsDueForRecording, data_fault, over_range, measured, IsDueForLevels, no_configuration, no_match, matched}
use Rattle.flk_top.specs.Outcome.{Outcome, completed}
use Rattle.flk_top.specs.Text.{levels_text}
use Rattle.flk_top.specs.Told.{Files}
use Rattle.flk_top.specs.Answer.{IsDueFor, IsDue, usage, asked}
use Rattle.flk_top.specs.Headline.{MeasuredRecording, AreAccepted, TellsLevels}
use Rattle.flk_top.specs.declared.command.Command.{Command}
use Rattle.flk_top.specs.declared.command.Command.TheVariants.{Levels}
use Rattle.flk_scale.specs.declared.fault.MatchFault.{MatchFault}
use Rattle.flk_top.proofs.OneCommand.{one_command}

-- ---- the configuration

-- a configuration has no fault
pub configuration_or_fault : (bytes text : List ℕ) (c : Config) → IsConfiguration bytes c → IsConfigurationFault bytes text → ⊥
configuration_or_fault bytes text c is (too_long long told) = absurd (omega (arith, long, is.small))
configuration_or_fault bytes text c is (first_fault line field kind small fault told) = config_or_fault bytes c line field kind is.writes fault

pub one_configuration : (bytes : List ℕ) (c d : Config) → IsConfiguration bytes c → IsConfiguration bytes d → c ≡ d
one_configuration bytes c d h k = one_config bytes c d h.writes k.writes

pub one_configuration_fault : (bytes xs ys : List ℕ) → IsConfigurationFault bytes xs → IsConfigurationFault bytes ys → xs ≡ ys
one_configuration_fault bytes xs ys (too_long long text) (too_long more line) = text ∙ sym line
one_configuration_fault bytes xs ys (too_long long text) (first_fault l f k small fault line) = absurd (omega (arith, long, small))
one_configuration_fault bytes xs ys (first_fault l f k small fault text) (too_long more line) = absurd (omega (arith, more, small))
one_configuration_fault bytes xs ys (first_fault l f k small fault text) (first_fault m g h few other line) =
    let same = one_first_fault bytes l m f g k h fault other in
    text ∙ rw (same.0, same.1, same.2) refl ∙ sym line

-- a channel that can be measured fails no test
pub match_or_fault : (c : Config) (channel : ℕ) (a : Analog) (lamp : Lamp) (fault : MatchFault) → Matches c channel a lamp → IsChannelMatchFault c channel fault → ⊥
match_or_fault c channel a lamp fault h (inl fails) = measured_has_no_fault c channel fault (a, h.there, h.scale) fails
match_or_fault c channel a lamp fault h (inr fails) = fails.1.1 lamp h.frequency

-- ---- the data

pub data_line_same : (rs ss : List DataRecord) (field place : ℕ) (kind again : Kind) → (rs ≡ ss) × (field ≡ place) × (kind ≡ again)
    → data_line (length rs + 1) field (record_kind kind) ≡ data_line (length ss + 1) place (record_kind again)
data_line_same rs ss field place kind again same = rw (same.0, same.1, same.2) refl

-- the k-th recorded voltage is that of the k-th record
pub voltage_of_record : (a : Analog) (channel : ℕ) (rs ss : List DataRecord) (k : ℕ) → k < length rs → k < length ss → record_at rs k ≡ record_at ss k
    → voltage_at (recorded_voltages a channel rs) k ≡ voltage_at (recorded_voltages a channel ss) k
voltage_of_record a channel rs ss k p q same =
    let f : DataRecord → Fraction = λ r. recorded_voltage a (sample_of channel r) in
    get_or-map f rs k no_record (whole (pos 0)) p ∙ ap f same ∙ sym (get_or-map f ss k no_record (whole (pos 0)) q)

-- where good records go on there is no fault
pub record_there : (l : Layout) (bytes : List ℕ) (rs ss : List DataRecord) (field : ℕ) (kind : Kind) → IsFaultAfter l bytes rs field kind → AreFirst l bytes ss → ArePresent l ss → length rs < length ss → ⊥
record_there l bytes rs ss field kind f b present less =
    elim f.here [
      | inl due ↦
          let follows : Follows (last_number rs) (record_at ss (length rs)).number
          = follows_at ss rs (length rs) b.order less refl (λ i few. each_once l bytes rs ss f.first b i few (omega (arith, few, less))) in
          record_or_fault l (length rs) (last_number rs) (after_records l (length rs) bytes) (record_at ss (length rs)) field kind (b.each (length rs) less) follows (present (length rs) less) due.1
      | inr all ↦ absurd (omega (arith, all.0, less, b.within))
    ]

-- a voltage over range is that of a record that is there
there_is : (a : Analog) (channel nominal : ℕ) (rs : List DataRecord) (i : ℕ) → IsFirstOver nominal (recorded_voltages a channel rs) i → i < length rs
there_is a channel nominal rs i first = omega (arith, first.there, length-map rs (λ r. recorded_voltage a (sample_of channel r)))

-- it is over range in each list of the first records that has it
over_in : (l : Layout) (bytes : List ℕ) (a : Analog) (channel nominal : ℕ) (rs ss : List DataRecord) (i : ℕ) → AreFirst l bytes rs → AreFirst l bytes ss → IsFirstOver nominal (recorded_voltages a channel rs) i → i < length ss
    → IsOverRange nominal (voltage_at (recorded_voltages a channel ss) i)
over_in l bytes a channel nominal rs ss i p q first less =
    let there = there_is a channel nominal rs i first in
    subst (IsOverRange nominal) (voltage_of_record a channel rs ss i there less (each_once l bytes rs ss p q i there less)) first.over

-- no list within range has it
pub over_or_within : (l : Layout) (bytes : List ℕ) (a : Analog) (channel nominal : ℕ) (rs ss : List DataRecord) (i : ℕ) → AreFirst l bytes rs → AreFirst l bytes ss → IsFirstOver nominal (recorded_voltages a channel rs) i
    → IsWithinRange nominal (recorded_voltages a channel ss) → i < length ss → ⊥
over_or_within l bytes a channel nominal rs ss i p q first within less =
    within i (omega (arith, less, length-map ss (λ r. recorded_voltage a (sample_of channel r)))) (over_in l bytes a channel nominal rs ss i p q first less)

-- nor do accepted bytes within range
pub over_or_accepted : (l : Layout) (bytes : List ℕ) (a : Analog) (channel nominal : ℕ) (rs ss : List DataRecord) (i : ℕ) → AreFirst l bytes rs → IsAccepted l bytes ss → IsFirstOver nominal (recorded_voltages a channel rs) i
    → IsWithinRange nominal (recorded_voltages a channel ss) → ⊥
over_or_accepted l bytes a channel nominal rs ss i p is first within =
    over_or_within l bytes a channel nominal rs ss i p is.file.first first within (omega (arith, there_is a channel nominal rs i first, p.within, is.file.count))

-- so it comes before each fault that has only voltages within range before it
pub over_or_fault : (l : Layout) (bytes : List ℕ) (a : Analog) (channel nominal : ℕ) (rs ss : List DataRecord) (i field : ℕ) (kind : Kind) → AreFirst l bytes rs → ArePresent l rs → IsFirstOver nominal (recorded_voltages a channel rs) i
    → IsFaultAfter l bytes ss field kind → IsWithinRange nominal (recorded_voltages a channel ss) → ⊥
over_or_fault l bytes a channel nominal rs ss i field kind p present first fault within =
    let there = there_is a channel nominal rs i first in
    ⊎_elim
    (λ less. over_or_within l bytes a channel nominal rs ss i p fault.first first within less)
    (λ most. record_there l bytes ss rs field kind fault p present (omega (arith, most, there)))
    (cases_lt i (length ss))

-- the first voltage over range is one
pub one_over : (l : Layout) (bytes : List ℕ) (a : Analog) (channel nominal : ℕ) (rs ss : List DataRecord) (i j : ℕ) → AreFirst l bytes rs → AreFirst l bytes ss
    → IsFirstOver nominal (recorded_voltages a channel rs) i → IsFirstOver nominal (recorded_voltages a channel ss) j → i ≡ j
one_over l bytes a channel nominal rs ss i j p q h k =
    let there = there_is a channel nominal rs i h in
    let here = there_is a channel nominal ss j k in
    ⊎_elim
    (λ less. absurd (k.first i less (over_in l bytes a channel nominal rs ss i p q h (omega (arith, less, here)))))
    (λ most. ⊎_elim (λ less. absurd (h.first j less (over_in l bytes a channel nominal ss rs j q p k (omega (arith, less, there))))) (λ least. omega (arith, most, least)) (cases_lt j i))
    (cases_lt i j)

-- ---- the answer

-- a configuration has one channel of a number, and one lamp
pub one_match : (c d : Config) (channel : ℕ) (a b : Analog) (m n : Lamp) → c ≡ d → Matches c channel a m → Matches d channel b n → (a ≡ b) × (m ≡ n)
one_match c d channel a b m n same h k =
    let moved = subst (λ x. Matches x channel a m) same h in
    (one_channel d channel a b moved.there k.there, one_lamp d.lf.n m n moved.frequency k.frequency)

pub recording_moved : (channel nominal uncertainty : ℕ) (x y : Config) (a b : Analog) (m n : Lamp) (bytes : List ℕ) (o : Outcome) → x ≡ y → a ≡ b → m ≡ n
    → IsDueForRecording channel nominal uncertainty x a m bytes o → IsDueForRecording channel nominal uncertainty y b n bytes o
recording_moved channel nominal uncertainty x y a b m n bytes o e f g h =
    subst (λ (i : Lamp). IsDueForRecording channel nominal uncertainty y b i bytes o) g
    (subst (λ (i : Analog). IsDueForRecording channel nominal uncertainty y i m bytes o) f
    (subst (λ (i : Config). IsDueForRecording channel nominal uncertainty i a m bytes o) e h))

-- a channel that is measured has no fault of the tests
pub measured_or_fault : (bytes : List ℕ) (channel : ℕ) (x y : Config) (a : Analog) (m : Lamp) (fault : MatchFault)
    → IsConfiguration bytes x → IsConfiguration bytes y → Matches x channel a m → IsChannelMatchFault y channel fault → ⊥
measured_or_fault bytes channel x y a m fault is that matches failed =
    match_or_fault y channel a m fault (subst (λ i. Matches i channel a m) (one_configuration bytes x y is that) matches) failed

-- two readings of one configuration have one channel to measure
pub same_recording : (bytes rest : List ℕ) (channel nominal uncertainty : ℕ) (x y : Config) (a b : Analog) (m n : Lamp) (o : Outcome)
    → IsConfiguration bytes x → IsConfiguration bytes y → Matches x channel a m → Matches y channel b n
    → IsDueForRecording channel nominal uncertainty x a m rest o → IsDueForRecording channel nominal uncertainty y b n rest o
same_recording bytes rest channel nominal uncertainty x y a b m n o is that matches others told =
    let same = one_configuration bytes x y is that in
    let both = one_match x y channel a b m n same matches others in
    recording_moved channel nominal uncertainty x y a b m n rest o same both.0 both.1 told

-- the status and the text of an outcome that is done
done_is : (o : Outcome) (text : List ℕ) → o ≡ completed text → (o.status ≡ 0) × (o.text ≡ text)
done_is o text is = (ap (λ (p : Outcome). p.status) is, ap (λ (p : Outcome). p.text) is)

recording_told : (m : MeasuredRecording) (bytes : List ℕ) (o : Outcome) → IsAccepted (layout_of m.configuration (m.command.channel ∷ [])) bytes m.records
    → IsWithinRange m.command.supply.nominal_mv (recorded_voltages m.analog m.command.channel m.records)
    → IsDueForRecording m.command.channel m.command.supply.nominal_mv m.command.supply.uncertainty_uv m.configuration m.analog m.lamp bytes o → TellsLevels m o.status o.text
recording_told m bytes o is within (data_fault ss field kind fault fine refused) =
    absurd (accepted_or_fault_after (layout_of m.configuration (m.command.channel ∷ [])) bytes m.records ss field kind is fault)
recording_told m bytes o is within (over_range ss i first present over refused) =
    absurd (over_or_accepted (layout_of m.configuration (m.command.channel ∷ [])) bytes m.analog m.command.channel m.command.supply.nominal_mv ss m.records i first is over within)
recording_told m bytes o is within (measured ss found that fine are done) =
    let same = file_once (layout_of m.configuration (m.command.channel ∷ [])) bytes ss m.records that.file is.file in
    let told = done_is o (levels_text m.command.channel found) done in
    record {
      levels = found;
      are_levels = subst (λ xs. AreHalfPeriodLevels (half_at m.lamp m.configuration.rate) m.command.supply.nominal_mv m.command.supply.uncertainty_uv (recorded_voltages m.analog m.command.channel xs) found) same are;
      status_is = told.0;
      text_is = told.1;
    }

levels_told : (words : List (List ℕ)) (files : Files) (m : MeasuredRecording) (o : Outcome) → AreAccepted words files m
    → IsDueForLevels m.command (files (configuration_name words)) (files (data_name words)) o → TellsLevels m o.status o.text
levels_told words files m o h (no_configuration line fault refused) = absurd (configuration_or_fault (files (configuration_name words)) line m.configuration h.configuration fault)
levels_told words files m o h (no_match c fault is failed refused) =
    absurd (measured_or_fault (files (configuration_name words)) m.command.channel m.configuration c m.analog m.lamp fault h.configuration is h.matches failed)
levels_told words files m o h (matched c a lamp is matches due) =
    recording_told m (files (data_name words)) o h.data_file h.within
    (same_recording (files (configuration_name words)) (files (data_name words)) m.command.channel m.command.supply.nominal_mv m.command.supply.uncertainty_uv c m.configuration a m.analog lamp m.lamp o
    is h.configuration matches h.matches due)

pub tells_levels : (words : List (List ℕ)) (files : Files) (m : MeasuredRecording) (o : Outcome) → AreAccepted words files m → IsDue words files o → TellsLevels m o.status o.text
tells_levels words files m o h (usage none refused) = absurd (none (Levels m.command) h.asks)
tells_levels words files m o h (asked q asks due) =
    let P : Command → Type 0 = λ p. IsDueFor p (outputs_of p words) (map files (inputs_of p words)) o in
    levels_told words files m o h (subst P (one_command words q (Levels m.command) asks h.asks) due)
