use Rattle.toml.specs.View.{table_view}
use Rattle.flk_num.specs.declared.stop.Stop.TheVariants as stop
use Rattle.flk_job.specs.Job.{HasJob}
use Rattle.flk_job.specs.Reading.{IsKeyFault}
use Rattle.flk_job.specs.declared.key.Key.TheVariants as keys
use Rattle.flk_job.proofs.KeyLemmas.{before_first, before_nominal, before_uncertainty, before_channels, before_dmax, before_run_in, before_interval, lamp_fault, lamp_good, nominal_fault, nominal_good, uncertainty_fault, uncertainty_good, channels_fault, channels_good, dmax_fault, dmax_good, run_in_fault, run_in_good, interval_fault}
use Rattle.flk_num.proofs.StopLemmas.{stop_exit, stop_weaker}
use Rattle.flk_job.proofs.job.job_of.Goals as goal

pub returns-in_err-lamp : goal.returns-in_err-lamp
returns-in_err-lamp c =
    let ms = table_view c.args.table.now in
    let f = c.in_err-lamp.field-0.0 in
    stop_exit c.from_residual.result (λ j. HasJob ms j) (λ x. IsKeyFault ms x) (stop.Fault f) c.from_residual.ensures.1
    (record { key = keys.Lamp; number_is = c.in_err-lamp.ensures.key; before = before_first ms; here = lamp_fault ms f.kind c.in_err-lamp.ensures.fault })

pub returns-in_err-nominal_mv : goal.returns-in_err-nominal_mv
returns-in_err-nominal_mv c =
    let ms = table_view c.args.table.now in
    let f = c.in_err-nominal_mv.field-0.0 in
    let lamp = lamp_good ms c.in_ok-lamp.lamp c.in_ok-lamp.ensures.value in
    stop_exit c.from_residual-in_err-nominal_mv.result (λ j. HasJob ms j) (λ x. IsKeyFault ms x) (stop.Fault f) c.from_residual-in_err-nominal_mv.ensures.1
    (record { key = keys.Nominal; number_is = c.in_err-nominal_mv.ensures.key; before = before_nominal ms lamp; here = nominal_fault ms f.kind c.in_err-nominal_mv.ensures.fault })

pub returns-in_err-uncertainty_uv : goal.returns-in_err-uncertainty_uv
returns-in_err-uncertainty_uv c =
    let ms = table_view c.args.table.now in
    let f = c.in_err-uncertainty_uv.field-0.0 in
    let n = c.in_ok-nominal_mv.nominal_mv in
    let lamp = lamp_good ms c.in_ok-lamp.lamp c.in_ok-lamp.ensures.value in
    let nominal = nominal_good ms n c.in_ok-nominal_mv.ensures.value c.in_ok-nominal_mv.ensures.least c.in_ok-nominal_mv.ensures.most in
    stop_exit c.from_residual-in_err-uncertainty_uv.result (λ j. HasJob ms j) (λ x. IsKeyFault ms x) (stop.Fault f) c.from_residual-in_err-uncertainty_uv.ensures.1
    (record {
      key = keys.Uncertainty;
      number_is = c.in_err-uncertainty_uv.ensures.key;
      before = before_uncertainty ms lamp nominal;
      here = uncertainty_fault ms n f.kind c.in_ok-nominal_mv.ensures.value c.in_err-uncertainty_uv.ensures.fault;
    })

pub returns-in_err-channels : goal.returns-in_err-channels
returns-in_err-channels c =
    let ms = table_view c.args.table.now in
    let n = c.in_ok-nominal_mv.nominal_mv in
    let lamp = lamp_good ms c.in_ok-lamp.lamp c.in_ok-lamp.ensures.value in
    let nominal = nominal_good ms n c.in_ok-nominal_mv.ensures.value c.in_ok-nominal_mv.ensures.least c.in_ok-nominal_mv.ensures.most in
    let uncertainty = uncertainty_good ms n c.in_ok-uncertainty_uv.uncertainty_uv c.in_ok-nominal_mv.ensures.value c.in_ok-uncertainty_uv.ensures.value c.in_ok-uncertainty_uv.ensures.most in
    stop_exit c.from_residual-in_err-channels.result (λ j. HasJob ms j) (λ x. IsKeyFault ms x) c.in_err-channels.field-0.0 c.from_residual-in_err-channels.ensures.1
    (stop_weaker _ _ c.in_err-channels.field-0.0 c.in_err-channels.ensures
    (λ f h. record { key = keys.Channels; number_is = h.0; before = before_channels ms lamp nominal uncertainty; here = channels_fault ms f.kind h.1 }))

pub returns-in_err-dmax_percent : goal.returns-in_err-dmax_percent
returns-in_err-dmax_percent c =
    let ms = table_view c.args.table.now in
    let f = c.in_err-dmax_percent.field-0.0 in
    let n = c.in_ok-nominal_mv.nominal_mv in
    let lamp = lamp_good ms c.in_ok-lamp.lamp c.in_ok-lamp.ensures.value in
    let nominal = nominal_good ms n c.in_ok-nominal_mv.ensures.value c.in_ok-nominal_mv.ensures.least c.in_ok-nominal_mv.ensures.most in
    let uncertainty = uncertainty_good ms n c.in_ok-uncertainty_uv.uncertainty_uv c.in_ok-nominal_mv.ensures.value c.in_ok-uncertainty_uv.ensures.value c.in_ok-uncertainty_uv.ensures.most in
    let channels = channels_good ms c.in_ok-channels.channels c.in_ok-channels.ensures.0 c.in_ok-channels.ensures.1 in
    stop_exit c.from_residual-in_err-dmax_percent.result (λ j. HasJob ms j) (λ x. IsKeyFault ms x) (stop.Fault f) c.from_residual-in_err-dmax_percent.ensures.1
    (record {
      key = keys.Dmax;
      number_is = c.in_err-dmax_percent.ensures.key;
      before = before_dmax ms (before_channels ms lamp nominal uncertainty) channels;
      here = dmax_fault ms f.kind c.in_err-dmax_percent.ensures.fault;
    })

pub returns-in_err-run_in_s : goal.returns-in_err-run_in_s
returns-in_err-run_in_s c =
    let ms = table_view c.args.table.now in
    let f = c.in_err-run_in_s.field-0.0 in
    let n = c.in_ok-nominal_mv.nominal_mv in
    let lamp = lamp_good ms c.in_ok-lamp.lamp c.in_ok-lamp.ensures.value in
    let nominal = nominal_good ms n c.in_ok-nominal_mv.ensures.value c.in_ok-nominal_mv.ensures.least c.in_ok-nominal_mv.ensures.most in
    let uncertainty = uncertainty_good ms n c.in_ok-uncertainty_uv.uncertainty_uv c.in_ok-nominal_mv.ensures.value c.in_ok-uncertainty_uv.ensures.value c.in_ok-uncertainty_uv.ensures.most in
    let channels = channels_good ms c.in_ok-channels.channels c.in_ok-channels.ensures.0 c.in_ok-channels.ensures.1 in
    let dmax = dmax_good ms c.in_ok-dmax_percent.dmax_percent c.in_ok-dmax_percent.ensures.value c.in_ok-dmax_percent.ensures.set in
    stop_exit c.from_residual-in_err-run_in_s.result (λ j. HasJob ms j) (λ x. IsKeyFault ms x) (stop.Fault f) c.from_residual-in_err-run_in_s.ensures.1
    (record {
      key = keys.RunIn;
      number_is = c.in_err-run_in_s.ensures.key;
      before = before_run_in ms (before_dmax ms (before_channels ms lamp nominal uncertainty) channels) dmax;
      here = run_in_fault ms f.kind c.in_err-run_in_s.ensures.fault;
    })

pub returns-in_err-interval_s : goal.returns-in_err-interval_s
returns-in_err-interval_s c =
    let ms = table_view c.args.table.now in
    let f = c.in_err-interval_s.field-0.0 in
    let n = c.in_ok-nominal_mv.nominal_mv in
    let lamp = lamp_good ms c.in_ok-lamp.lamp c.in_ok-lamp.ensures.value in
    let nominal = nominal_good ms n c.in_ok-nominal_mv.ensures.value c.in_ok-nominal_mv.ensures.least c.in_ok-nominal_mv.ensures.most in
    let uncertainty = uncertainty_good ms n c.in_ok-uncertainty_uv.uncertainty_uv c.in_ok-nominal_mv.ensures.value c.in_ok-uncertainty_uv.ensures.value c.in_ok-uncertainty_uv.ensures.most in
    let channels = channels_good ms c.in_ok-channels.channels c.in_ok-channels.ensures.0 c.in_ok-channels.ensures.1 in
    let dmax = dmax_good ms c.in_ok-dmax_percent.dmax_percent c.in_ok-dmax_percent.ensures.value c.in_ok-dmax_percent.ensures.set in
    let run_in = run_in_good ms c.in_ok-run_in_s.run_in_s c.in_ok-run_in_s.ensures.value c.in_ok-run_in_s.ensures.most in
    stop_exit c.from_residual-in_err-interval_s.result (λ j. HasJob ms j) (λ x. IsKeyFault ms x) (stop.Fault f) c.from_residual-in_err-interval_s.ensures.1
    (record {
      key = keys.Interval;
      number_is = c.in_err-interval_s.ensures.key;
      before = before_interval ms (before_run_in ms (before_dmax ms (before_channels ms lamp nominal uncertainty) channels) dmax) run_in;
      here = interval_fault ms f.kind c.in_err-interval_s.ensures.fault;
    })
