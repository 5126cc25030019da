-- From the records of the data to what is due for them.
use Rattle.std.proofs.Common.{◌≡◌, ◌≢◌, ℕ, ◌+◌, ◌-◌, ◌<◌, List, [], ◌∷◌, ◌++◌, length, map, pos, Option, Some, None, Result, Ok, Err, IfSome, IfOk, IsSome, refl, sym, ap, ◌∙◌, subst, arith, string_bytes}
use Rattle.std.specs.Prelude.{slice_index_or}
use Rattle.std.proofs.lemmas.List.{map-append}
use Rattle.flk_exact.specs.Fraction.{Fraction}
use Rattle.flk_num.specs.Rate.{half_at}
use Rattle.flk_cfg.specs.declared.config.Analog.{Analog}
use Rattle.flk_cfg.specs.declared.config.Config.{Config}
use Rattle.flk_scale.specs.Voltage.{recorded_voltage}
use Rattle.flk_scale.specs.Scale.{nominal_of, uncertainty_of}
use Rattle.flk_dat.specs.Kinds.{data_kind_number as kind_number}
use Rattle.flk_dat.specs.Records.{DataRecord, record_at, layout_of, ArePresent}
use Rattle.flk_dat.specs.DataFile.{AreFirst, IsAccepted}
use Rattle.flk_dat.specs.Streams.{EndsInFault}
use Rattle.flk_dat.specs.declared.kind.DatFault.{DatFault}
use Rattle.flk_top.specs.CheckDue.{IsDueForSummary, file_fault, checked}
use Rattle.flk_top.specs.Checking.{IsFirstNumber}
use Rattle.flk_top.specs.Faults.{data_line, range_line}
use Rattle.flk_scale.specs.Range.{IsFirstOver, IsWithinRange}
use Rattle.flk_top.specs.Levels.{AreHalfPeriodLevels}
use Rattle.flk_top.specs.LevelsDue.{IsDueForRecording, data_fault, over_range, measured}
use Rattle.flk_top.specs.Matching.{recorded_voltages}
use Rattle.flk_top.specs.Measuring.{half_of, told_voltage, HasMeasured, IsSameMeasurement, IsMatched}
use Rattle.flk_top.specs.Replies.{outcome_of}
use Rattle.flk_top.specs.Text.{levels_text, check_text}
use Rattle.flk_top.specs.Told.{MayHold}
use Rattle.flk_top.specs.declared.command.LevelsCommand.{LevelsCommand}
use Rattle.flk_top.specs.declared.matching.Matched.{Matched}
use Rattle.flk_top.specs.declared.measure.Levels.{Levels}
use Rattle.flk_top.specs.declared.measure.Measure.{Measure}
use Rattle.flk_top.specs.declared.reply.Reply.{Reply}
use Rattle.flk_top.specs.declared.reply.Status.TheVariants.{Done, Refused, ReadFailed}
use Rattle.flk_top.proofs.Outcomes.{is_refusal, is_completed}

-- the state stands for the voltages of these records
abbrev pub MeasureStands : Measure → List DataRecord → Type 0
MeasureStands m rs = HasMeasured m (map (told_voltage m) rs)

-- the measurement is made for the channel that can be measured
pub record IsMadeFor (m : Measure) (matched : Matched) (channel : ℕ) : Type 0 where
  pub matched_is : m.matched ≡ matched
  pub channel_is : m.channel ≡ channel - 1

-- what a measurement takes for the voltages of a record are those that the channel records
told_recorded : (m : Measure) (c : Config) (command : LevelsCommand) (a : Analog) (matched : Matched) → IsMatched c command a matched → IsMadeFor m matched command.channel
    → (rs : List DataRecord) → map (told_voltage m) rs ≡ recorded_voltages a command.channel rs
told_recorded m c command a matched h made [] = refl
told_recorded m c command a matched h made (r ∷ rs) =
    let x = slice_index_or r.analog (command.channel - 1) (pos 0) in
    let first : told_voltage m r ≡ recorded_voltage a x = rw (made.matched_is, made.channel_is) (h.scale.voltage x) in
    let f : Fraction → List Fraction = λ v. v ∷ map (told_voltage m) rs in
    let g : List Fraction → List Fraction = λ vs. recorded_voltage a x ∷ vs in
    ap f first ∙ ap g (told_recorded m c command a matched h made rs)

nominal_is : (m : Measure) (c : Config) (command : LevelsCommand) (a : Analog) (matched : Matched) → IsMatched c command a matched → IsMadeFor m matched command.channel → nominal_of m.matched.scale ≡ command.supply.nominal_mv
nominal_is m c command a matched h made = ap (λ (i : Matched). nominal_of i.scale) made.matched_is ∙ h.scale.nominal

uncertainty_is : (m : Measure) (c : Config) (command : LevelsCommand) (a : Analog) (matched : Matched) → IsMatched c command a matched → IsMadeFor m matched command.channel → uncertainty_of m.matched.scale ≡ command.supply.uncertainty_uv
uncertainty_is m c command a matched h made = ap (λ (i : Matched). uncertainty_of i.scale) made.matched_is ∙ h.scale.uncertainty

within_recorded : (m : Measure) (c : Config) (command : LevelsCommand) (a : Analog) (matched : Matched) (rs : List DataRecord) → IsMatched c command a matched → IsMadeFor m matched command.channel → MeasureStands m rs
    → IsWithinRange command.supply.nominal_mv (recorded_voltages a command.channel rs)
within_recorded m c command a matched rs h made stands =
    subst (λ (n : ℕ). IsWithinRange n (recorded_voltages a command.channel rs)) (nominal_is m c command a matched h made)
    (subst (IsWithinRange (nominal_of m.matched.scale)) (told_recorded m c command a matched h made rs) stands.within)

over_recorded : (m : Measure) (c : Config) (command : LevelsCommand) (a : Analog) (matched : Matched) (rs : List DataRecord) (i : ℕ) → IsMatched c command a matched → IsMadeFor m matched command.channel → IsFirstOver (nominal_of m.matched.scale) (map (told_voltage m) rs) i
    → IsFirstOver command.supply.nominal_mv (recorded_voltages a command.channel rs) i
over_recorded m c command a matched rs i h made first =
    subst (λ (n : ℕ). IsFirstOver n (recorded_voltages a command.channel rs) i) (nominal_is m c command a matched h made)
    (subst (λ (vs : List Fraction). IsFirstOver (nominal_of m.matched.scale) vs i) (told_recorded m c command a matched h made rs) first)

levels_recorded : (m : Measure) (c : Config) (command : LevelsCommand) (a : Analog) (matched : Matched) (rs : List DataRecord) (found : Levels) → IsMatched c command a matched → IsMadeFor m matched command.channel
    → AreHalfPeriodLevels (half_of m.matched) (nominal_of m.matched.scale) (uncertainty_of m.matched.scale) (map (told_voltage m) rs) found
    → AreHalfPeriodLevels (half_at matched.lamp c.rate) command.supply.nominal_mv command.supply.uncertainty_uv (recorded_voltages a command.channel rs) found
levels_recorded m c command a matched rs found h made are =
    let half : half_of m.matched ≡ half_at matched.lamp c.rate = ap half_of made.matched_is ∙ ap (half_at matched.lamp) h.rate in
    subst (λ (n : ℕ). AreHalfPeriodLevels n command.supply.nominal_mv command.supply.uncertainty_uv (recorded_voltages a command.channel rs) found) half
    (subst (λ (n : ℕ). AreHalfPeriodLevels (half_of m.matched) n command.supply.uncertainty_uv (recorded_voltages a command.channel rs) found) (nominal_is m c command a matched h made)
    (subst (λ (n : ℕ). AreHalfPeriodLevels (half_of m.matched) (nominal_of m.matched.scale) n (recorded_voltages a command.channel rs) found) (uncertainty_is m c command a matched h made)
    (subst (λ (vs : List Fraction). AreHalfPeriodLevels (half_of m.matched) (nominal_of m.matched.scale) (uncertainty_of m.matched.scale) vs found) (told_recorded m c command a matched h made rs) are)))

pub data_line_is : (p q field a b : ℕ) → p ≡ q → a ≡ b → data_line p field a ≡ data_line q field b
data_line_is p q field a b h k = rw (h, k) refl

pub made_same : (old new : Measure) (matched : Matched) (channel : ℕ) → IsSameMeasurement old new → IsMadeFor old matched channel → IsMadeFor new matched channel
made_same old new matched channel same made = record { matched_is = same.matched ∙ made.matched_is; channel_is = same.channel ∙ made.channel_is }

-- the records of a block were taken
pub stands_more : (old new : Measure) (rs more : List DataRecord) → IsSameMeasurement old new → MeasureStands old rs
    → ((recorded : List Fraction) → HasMeasured old recorded → HasMeasured new (recorded ++ map (told_voltage old) more)) → MeasureStands new (rs ++ more)
stands_more old new rs more same h step =
    let f = told_voltage old in
    let told : told_voltage new ≡ f = rw (same.matched, same.channel) refl in
    rw told (subst (HasMeasured new) (sym (map-append f rs more)) (step (map f rs) h))

-- ---- the levels

-- Unless it tells of a failed read, the reply is due for some bytes, which are those told where they are told.
abbrev pub IsRecordingReply : LevelsCommand → Config → Matched → Option (List ℕ) → Reply → Type 0
IsRecordingReply command c matched left r =
    r.status ≢ ReadFailed → (bytes : List ℕ) × MayHold left bytes × ((a : Analog) → IsMatched c command a matched
    → IsDueForRecording command.channel command.supply.nominal_mv command.supply.uncertainty_uv c a matched.lamp bytes (outcome_of r))

pub fault_told : {E : Type 0} (command : LevelsCommand) (c : Config) (matched : Matched) (m : Measure) (left : Option (List ℕ)) (f : DatFault) (rs : List DataRecord) (r : Result Reply E) → IsMadeFor m matched command.channel
    → MeasureStands m rs → (bytes : List ℕ) × MayHold left bytes × EndsInFault (layout_of c (command.channel ∷ [])) bytes rs f
    → IfOk r (λ x. (x.status ≡ Refused) × (string_bytes x.text ≡ data_line f.row f.field f.kind)) → IfOk r (IsRecordingReply command c matched left)
fault_told command c matched m left f rs (Ok x) made stands ends reply = λ fine.
    let fault = ends.2 in (
      ends.0,
      ends.1,
      λ a matches.
          data_fault rs f.field fault.kind fault.here (within_recorded m c command a matched rs matches made stands)
          (is_refusal x (data_line (length rs + 1) f.field (kind_number fault.kind)) reply.0 (reply.1 ∙ data_line_is f.row (length rs + 1) f.field f.kind (kind_number fault.kind) fault.row fault.number)),
    )
fault_told command c matched m left f rs (Err e) made stands ends reply = tt

pub range_told : {E : Type 0} (command : LevelsCommand) (c : Config) (matched : Matched) (m : Measure) (left : Option (List ℕ)) (i : ℕ) (rs more : List DataRecord) (r : Result Reply E) → IsMadeFor m matched command.channel
    → MeasureStands m rs → ((recorded : List Fraction) → HasMeasured m recorded → IsFirstOver (nominal_of m.matched.scale) (recorded ++ map (told_voltage m) more) i)
    → (bytes : List ℕ) × MayHold left bytes × AreFirst (layout_of c (command.channel ∷ [])) bytes (rs ++ more) × ArePresent (layout_of c (command.channel ∷ [])) (rs ++ more)
    → IfOk r (λ x. (x.status ≡ Refused) × (string_bytes x.text ≡ range_line (i + 1) command.channel)) → IfOk r (IsRecordingReply command c matched left)
range_told command c matched m left i rs more (Ok x) made stands over begins reply = λ fine.
    let f = told_voltage m in
    let first = subst (λ (vs : List Fraction). IsFirstOver (nominal_of m.matched.scale) vs i) (sym (map-append f rs more)) (over (map f rs) stands) in (
      begins.0,
      begins.1,
      λ a matches.
          over_range (rs ++ more) i begins.2 begins.3 (over_recorded m c command a matched (rs ++ more) i matches made first) (is_refusal x (range_line (i + 1) command.channel) reply.0 reply.1),
    )
range_told command c matched m left i rs more (Err e) made stands over begins reply = tt

pub levels_told : {E : Type 0} (command : LevelsCommand) (c : Config) (matched : Matched) (m : Measure) (left : Option (List ℕ)) (found : Levels) (rs : List DataRecord) (r : Result Reply E) → IsMadeFor m matched command.channel
    → MeasureStands m rs
    → ((recorded : List Fraction) → HasMeasured m recorded → AreHalfPeriodLevels (half_of m.matched) (nominal_of m.matched.scale) (uncertainty_of m.matched.scale) recorded found)
    → (bytes : List ℕ) × MayHold left bytes × IsAccepted (layout_of c (command.channel ∷ [])) bytes rs
    → IfOk r (λ x. (x.status ≡ Done) × (string_bytes x.text ≡ levels_text command.channel found)) → IfOk r (IsRecordingReply command c matched left)
levels_told command c matched m left found rs (Ok x) made stands are accepted reply = λ fine. (
  accepted.0,
  accepted.1,
  λ a matches.
      measured rs found accepted.2 (within_recorded m c command a matched rs matches made stands)
      (levels_recorded m c command a matched rs found matches made (are (map (told_voltage m) rs) stands)) (is_completed x (levels_text command.channel found) reply.0 reply.1),
)
levels_told command c matched m left found rs (Err e) made stands are accepted reply = tt

-- ---- the summary

abbrev pub IsSummaryReply : Config → Option (List ℕ) → Reply → Type 0
IsSummaryReply c left r = r.status ≢ ReadFailed → (bytes : List ℕ) × MayHold left bytes × IsDueForSummary c bytes (outcome_of r)

pub file_told : {E : Type 0} (c : Config) (left : Option (List ℕ)) (f : DatFault) (rs : List DataRecord) (r : Result Reply E)
    → (bytes : List ℕ) × MayHold left bytes × EndsInFault (layout_of c []) bytes rs f
    → IfOk r (λ x. (x.status ≡ Refused) × (string_bytes x.text ≡ data_line f.row f.field f.kind)) → IfOk r (IsSummaryReply c left)
file_told c left f rs (Ok x) ends reply = λ fine.
    let fault = ends.2 in (
      ends.0,
      ends.1,
      file_fault rs f.field fault.kind fault.here
          (is_refusal x (data_line (length rs + 1) f.field (kind_number fault.kind)) reply.0 (reply.1 ∙ data_line_is f.row (length rs + 1) f.field f.kind (kind_number fault.kind) fault.row fault.number)),
    )
file_told c left f rs (Err e) ends reply = tt

-- accepted data have a first record
pub is_first : (c : Config) (first : Option ℕ) (bytes : List ℕ) (rs : List DataRecord) → 0 < c.endsamp → IsAccepted (layout_of c []) bytes rs → IsFirstNumber first rs → IsSome first
is_first c None bytes rs some accepted none = absurd (omega (arith, some, accepted.file.count, none))
is_first c (Some n) bytes rs some accepted first = refl

pub summary_told : {E : Type 0} (c : Config) (left : Option (List ℕ)) (first : Option ℕ) (rs : List DataRecord) (r : Result Reply E) → 0 < c.endsamp → IsFirstNumber first rs
    → (bytes : List ℕ) × MayHold left bytes × IsAccepted (layout_of c []) bytes rs
    → IfOk r (λ x. (x.status ≡ Done) × IfSome first (λ n. string_bytes x.text ≡ check_text c n)) → IfOk r (IsSummaryReply c left)
summary_told c left None rs r some number accepted reply = absurd (omega (arith, some, accepted.2.file.count, number))
summary_told c left (Some n) rs (Ok x) some number accepted reply = λ fine.
    (accepted.0, accepted.1, checked rs accepted.2 (is_completed x (check_text c (record_at rs 0).number) reply.0 (reply.1 ∙ ap (check_text c) number.1)))
summary_told c left (Some n) rs (Err e) some number accepted reply = tt
