use Rattle.std.proofs.Common.{◌≡◌, ◌+◌, ℕ, arith, inl, inr, subst}
use Rattle.flk_num.specs.declared.stop.Stop.TheVariants as stop
use Rattle.flk_field.specs.Sets.{IsGoodLine}
use Rattle.flk_cfg.specs.Table.{ChannelCounts, title_row, analog_row, digital_row}
use Rattle.flk_cfg.specs.Places.{HasLine}
use Rattle.flk_cfg.specs.File.{IsConfig, IsFirstFault}
use Rattle.flk_cfg.specs.Reading.{StandsAt, FirstOf}
use Rattle.flk_cfg.specs.SettingParts.{setting_at, AreSettingLines}
use Rattle.flk_cfg.proofs.Rows.{good_title, row_digital, row_setting}
use Rattle.flk_num.proofs.StopLemmas.{stop_exit, stop_weaker}
use Rattle.flk_cfg.proofs.Whole.{GoodThird, good_none, good_run, good_analogs, good_digitals, good_settings, third_fault, rows_analog, whole_config}
use Rattle.flk_cfg.specs.declared.counts.Counts.{Counts}
use Rattle.flk_cfg.proofs.file.read_config.Goals as goal

abbrev counted : Counts → ChannelCounts
counted c = record { analog = c.analog; digital = c.digital }

pub returns-in_err-title : goal.returns-in_err-title
returns-in_err-title c =
    let bytes = c.args.bytes.now in
    let s0 : StandsAt c.new-reader.result c.args.bytes.now 0 = c.new-reader.ensures in
    stop_exit c.from_residual.result (λ x. IsConfig c.args.bytes.now x) (λ f. IsFirstFault c.args.bytes.now f.line f.field f.kind) c.in_err-title.field-0.0 c.from_residual.ensures.1 (stop_weaker _ _ c.in_err-title.field-0.0 (c.in_err-title.ensures.title bytes 0 s0) (λ f out. inl out))

pub returns-in_err-counts : goal.returns-in_err-counts
returns-in_err-counts c =
    let bytes = c.args.bytes.now in
    let s0 : StandsAt c.new-reader.result c.args.bytes.now 0 = c.new-reader.ensures in
    let s1 = c.in_ok-title.ensures.stands bytes 0 s0 in
    let title = c.in_ok-title.ensures.title bytes 0 s0 in
    let first : HasLine c.args.bytes.now 0 (IsGoodLine title_row) = (title.0, title.1, good_title title.0 _ _ title.2) in
    stop_exit c.from_residual-in_err-counts.result (λ x. IsConfig c.args.bytes.now x) (λ f. IsFirstFault c.args.bytes.now f.line f.field f.kind) (stop.Fault c.in_err-counts.field-0.0) c.from_residual-in_err-counts.ensures.1 (inr (first, inl (c.in_err-counts.ensures.counts bytes 1 s1)))

pub returns-in_err-analog : goal.returns-in_err-analog
returns-in_err-analog c =
    let bytes = c.args.bytes.now in
    let s0 : StandsAt c.new-reader.result c.args.bytes.now 0 = c.new-reader.ensures in
    let s1 = c.in_ok-title.ensures.stands bytes 0 s0 in
    let title = c.in_ok-title.ensures.title bytes 0 s0 in
    let first : HasLine c.args.bytes.now 0 (IsGoodLine title_row) = (title.0, title.1, good_title title.0 _ _ title.2) in
    let s2 = c.in_ok-counts.ensures.stands bytes 1 s1 in
    let counts = c.in_ok-counts.ensures.counts bytes 1 s1 in
    let count = counted c.in_ok-counts.counts in
    let na = c.in_ok-counts.counts.analog in
    let nd = c.in_ok-counts.counts.digital in
    stop_exit c.from_residual-in_err-analog.result (λ x. IsConfig c.args.bytes.now x) (λ f. IsFirstFault c.args.bytes.now f.line f.field f.kind) c.in_err-analog.field-0.0 c.from_residual-in_err-analog.ensures.1
    (stop_weaker _ _ c.in_err-analog.field-0.0 (c.in_err-analog.ensures.channels bytes 2 s2)
    (λ f out. inr (first, inr (count, counts, third_fault bytes count 0 na (λ i. analog_row (i + 1)) f (good_none bytes count) (rows_analog count) (omega arith) out))))

pub returns-in_err-digital : goal.returns-in_err-digital
returns-in_err-digital c =
    let bytes = c.args.bytes.now in
    let s0 : StandsAt c.new-reader.result c.args.bytes.now 0 = c.new-reader.ensures in
    let s1 = c.in_ok-title.ensures.stands bytes 0 s0 in
    let title = c.in_ok-title.ensures.title bytes 0 s0 in
    let first : HasLine c.args.bytes.now 0 (IsGoodLine title_row) = (title.0, title.1, good_title title.0 _ _ title.2) in
    let s2 = c.in_ok-counts.ensures.stands bytes 1 s1 in
    let counts = c.in_ok-counts.ensures.counts bytes 1 s1 in
    let count = counted c.in_ok-counts.counts in
    let na = c.in_ok-counts.counts.analog in
    let nd = c.in_ok-counts.counts.digital in
    let s3 = c.in_ok-analog.ensures.stands bytes 2 s2 in
    let analogs = c.in_ok-analog.ensures.channels bytes 2 s2 in
    let good1 : GoodThird c.args.bytes.now (counted c.in_ok-counts.counts) (0 + c.in_ok-counts.counts.analog) =
    good_run bytes count 0 na (λ i. analog_row (i + 1)) (good_none bytes count) (rows_analog count) (good_analogs bytes 2 na _ analogs.0 analogs.1) in
    let good2 : GoodThird c.args.bytes.now (counted c.in_ok-counts.counts) c.in_ok-counts.counts.analog =
    λ i lt. good1 i (omega (arith, lt)) in
    stop_exit c.from_residual-in_err-digital.result (λ x. IsConfig c.args.bytes.now x) (λ f. IsFirstFault c.args.bytes.now f.line f.field f.kind) c.in_err-digital.field-0.0 c.from_residual-in_err-digital.ensures.1
    (stop_weaker _ _ c.in_err-digital.field-0.0 (c.in_err-digital.ensures.channels bytes (2 + na) s3)
    (λ f out. inr (first, inr (count, counts, third_fault bytes count na nd (λ i. digital_row (i + 1)) f good2 (row_digital count) (omega arith) out))))

pub returns-in_err-settings : goal.returns-in_err-settings
returns-in_err-settings c =
    let bytes = c.args.bytes.now in
    let s0 : StandsAt c.new-reader.result c.args.bytes.now 0 = c.new-reader.ensures in
    let s1 = c.in_ok-title.ensures.stands bytes 0 s0 in
    let title = c.in_ok-title.ensures.title bytes 0 s0 in
    let first : HasLine c.args.bytes.now 0 (IsGoodLine title_row) = (title.0, title.1, good_title title.0 _ _ title.2) in
    let s2 = c.in_ok-counts.ensures.stands bytes 1 s1 in
    let counts = c.in_ok-counts.ensures.counts bytes 1 s1 in
    let count = counted c.in_ok-counts.counts in
    let na = c.in_ok-counts.counts.analog in
    let nd = c.in_ok-counts.counts.digital in
    let s3 = c.in_ok-analog.ensures.stands bytes 2 s2 in
    let analogs = c.in_ok-analog.ensures.channels bytes 2 s2 in
    let good1 : GoodThird c.args.bytes.now (counted c.in_ok-counts.counts) (0 + c.in_ok-counts.counts.analog) =
    good_run bytes count 0 na (λ i. analog_row (i + 1)) (good_none bytes count) (rows_analog count) (good_analogs bytes 2 na _ analogs.0 analogs.1) in
    let good2 : GoodThird c.args.bytes.now (counted c.in_ok-counts.counts) c.in_ok-counts.counts.analog =
    λ i lt. good1 i (omega (arith, lt)) in
    let s4 = c.in_ok-digital.ensures.stands bytes (2 + na) s3 in
    let digitals = c.in_ok-digital.ensures.channels bytes (2 + na) s3 in
    let good3 : GoodThird c.args.bytes.now (counted c.in_ok-counts.counts) (c.in_ok-counts.counts.analog + c.in_ok-counts.counts.digital) =
    good_run bytes count na nd (λ i. digital_row (i + 1)) good2 (row_digital count) (good_digitals bytes (2 + na) nd _ digitals.0 digitals.1) in
    let moved : 2 + c.in_ok-counts.counts.analog + c.in_ok-counts.counts.digital ≡ 2 + (c.in_ok-counts.counts.analog + c.in_ok-counts.counts.digital) = omega arith in
    stop_exit c.from_residual-in_err-settings.result (λ x. IsConfig c.args.bytes.now x) (λ f. IsFirstFault c.args.bytes.now f.line f.field f.kind) (stop.Fault c.in_err-settings.field-0.0) c.from_residual-in_err-settings.ensures.1
    (inr (first, inr (count, counts, third_fault bytes count (na + nd) 6 setting_at c.in_err-settings.field-0.0 good3 (λ i lt. row_setting count i) (omega arith) (subst (λ (k : ℕ). FirstOf setting_at 6 c.args.bytes.now k c.in_err-settings.field-0.0) moved (c.in_err-settings.ensures.settings bytes (2 + na + nd) s4)))))

pub returns-in_err-timemult : goal.returns-in_err-timemult
returns-in_err-timemult c =
    let bytes = c.args.bytes.now in
    let s0 : StandsAt c.new-reader.result c.args.bytes.now 0 = c.new-reader.ensures in
    let s1 = c.in_ok-title.ensures.stands bytes 0 s0 in
    let title = c.in_ok-title.ensures.title bytes 0 s0 in
    let first : HasLine c.args.bytes.now 0 (IsGoodLine title_row) = (title.0, title.1, good_title title.0 _ _ title.2) in
    let s2 = c.in_ok-counts.ensures.stands bytes 1 s1 in
    let counts = c.in_ok-counts.ensures.counts bytes 1 s1 in
    let count = counted c.in_ok-counts.counts in
    let na = c.in_ok-counts.counts.analog in
    let nd = c.in_ok-counts.counts.digital in
    let s3 = c.in_ok-analog.ensures.stands bytes 2 s2 in
    let analogs = c.in_ok-analog.ensures.channels bytes 2 s2 in
    let good1 : GoodThird c.args.bytes.now (counted c.in_ok-counts.counts) (0 + c.in_ok-counts.counts.analog) =
    good_run bytes count 0 na (λ i. analog_row (i + 1)) (good_none bytes count) (rows_analog count) (good_analogs bytes 2 na _ analogs.0 analogs.1) in
    let good2 : GoodThird c.args.bytes.now (counted c.in_ok-counts.counts) c.in_ok-counts.counts.analog =
    λ i lt. good1 i (omega (arith, lt)) in
    let s4 = c.in_ok-digital.ensures.stands bytes (2 + na) s3 in
    let digitals = c.in_ok-digital.ensures.channels bytes (2 + na) s3 in
    let good3 : GoodThird c.args.bytes.now (counted c.in_ok-counts.counts) (c.in_ok-counts.counts.analog + c.in_ok-counts.counts.digital) =
    good_run bytes count na nd (λ i. digital_row (i + 1)) good2 (row_digital count) (good_digitals bytes (2 + na) nd _ digitals.0 digitals.1) in
    let s5 = c.in_ok-settings.ensures.stands bytes (2 + na + nd) s4 in
    let settings = c.in_ok-settings.ensures.settings bytes (2 + na + nd) s4 in
    let same : 2 + c.in_ok-counts.counts.analog + c.in_ok-counts.counts.digital ≡ 2 + (c.in_ok-counts.counts.analog + c.in_ok-counts.counts.digital) = omega arith in
    let moved = subst (λ (k : ℕ). AreSettingLines c.args.bytes.now k c.in_ok-settings.settings) same settings in
    let good4 : GoodThird c.args.bytes.now (counted c.in_ok-counts.counts) (c.in_ok-counts.counts.analog + c.in_ok-counts.counts.digital + 6) =
    good_run bytes count (na + nd) 6 setting_at good3 (λ i lt. row_setting count i) (λ i lt. good_settings bytes (2 + (na + nd)) c.in_ok-settings.settings i moved lt) in
    stop_exit c.from_residual-in_err-timemult.result (λ x. IsConfig c.args.bytes.now x) (λ f. IsFirstFault c.args.bytes.now f.line f.field f.kind) (stop.Fault c.in_err-timemult.field-0.0) c.from_residual-in_err-timemult.ensures.1 (inr (first, inr (count, counts, inr (good4, c.in_err-timemult.ensures bytes (2 + na + nd + 6) s5))))

pub returns : goal.returns
returns c =
    let bytes = c.args.bytes.now in
    let s0 : StandsAt c.new-reader.result c.args.bytes.now 0 = c.new-reader.ensures in
    let s1 = c.in_ok-title.ensures.stands bytes 0 s0 in
    let title = c.in_ok-title.ensures.title bytes 0 s0 in
    let first : HasLine c.args.bytes.now 0 (IsGoodLine title_row) = (title.0, title.1, good_title title.0 _ _ title.2) in
    let s2 = c.in_ok-counts.ensures.stands bytes 1 s1 in
    let counts = c.in_ok-counts.ensures.counts bytes 1 s1 in
    let count = counted c.in_ok-counts.counts in
    let na = c.in_ok-counts.counts.analog in
    let nd = c.in_ok-counts.counts.digital in
    let s3 = c.in_ok-analog.ensures.stands bytes 2 s2 in
    let analogs = c.in_ok-analog.ensures.channels bytes 2 s2 in
    let good1 : GoodThird c.args.bytes.now (counted c.in_ok-counts.counts) (0 + c.in_ok-counts.counts.analog) =
    good_run bytes count 0 na (λ i. analog_row (i + 1)) (good_none bytes count) (rows_analog count) (good_analogs bytes 2 na _ analogs.0 analogs.1) in
    let good2 : GoodThird c.args.bytes.now (counted c.in_ok-counts.counts) c.in_ok-counts.counts.analog =
    λ i lt. good1 i (omega (arith, lt)) in
    let s4 = c.in_ok-digital.ensures.stands bytes (2 + na) s3 in
    let digitals = c.in_ok-digital.ensures.channels bytes (2 + na) s3 in
    let good3 : GoodThird c.args.bytes.now (counted c.in_ok-counts.counts) (c.in_ok-counts.counts.analog + c.in_ok-counts.counts.digital) =
    good_run bytes count na nd (λ i. digital_row (i + 1)) good2 (row_digital count) (good_digitals bytes (2 + na) nd _ digitals.0 digitals.1) in
    let s5 = c.in_ok-settings.ensures.stands bytes (2 + na + nd) s4 in
    let settings = c.in_ok-settings.ensures.settings bytes (2 + na + nd) s4 in
    let last = c.in_ok-timemult.ensures bytes (2 + na + nd + 6) s5 in
    whole_config bytes _ count title counts analogs digitals (record {
      frequency = settings.frequency;
      rates = settings.rates;
      sampling = settings.sampling;
      first = settings.first;
      trigger = settings.trigger;
      file_type = settings.file_type;
      last = last.0;
      tail = last.1;
    })
