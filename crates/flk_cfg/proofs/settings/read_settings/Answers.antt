use Rattle.std.proofs.Common.{◌≡◌, ◌+◌, ◌<◌, ℕ, arith, subst}
use Rattle.flk_cfg.specs.SettingParts.{setting_at, AreSettingLines}
use Rattle.flk_cfg.specs.Reading.{FirstOf}
use Rattle.flk_cfg.specs.Rows.{IsLineFrequency}
use Rattle.flk_cfg.specs.Places.{HasLine}
use Rattle.flk_cfg.proofs.Rows.{good_frequency, good_rates, good_sampling, good_stamp, good_form}
use Rattle.flk_cfg.proofs.Steps.{progress_start, progress_step, progress_fault}
use Rattle.flk_num.proofs.StopLemmas.{err_exit}
use Rattle.flk_cfg.proofs.settings.read_settings.Goals as goal

pub returns-in_err-lf-clause-settings : goal.returns-in_err-lf-clause-settings
returns-in_err-lf-clause-settings c = λ bytes k s.
    let p0 = progress_start setting_at bytes k c.args.reader.now s in
    let here : 0 < 6 = omega arith in
    err_exit c.from_residual.result (λ x. AreSettingLines bytes k x) (λ f. FirstOf setting_at 6 bytes k f) c.in_err-lf.field-0.0 c.from_residual.ensures.1
    (progress_fault setting_at 6 bytes k 0 c.args.reader.now c.in_err-lf.field-0.0 here p0 (c.in_err-lf.ensures.line bytes (k + 0) p0.stands))

pub returns-in_err-read_rates-clause-settings : goal.returns-in_err-read_rates-clause-settings
returns-in_err-read_rates-clause-settings c = λ bytes k s.
    let p0 = progress_start setting_at bytes k c.args.reader.now s in
    let l0 = c.in_ok-lf.ensures.line bytes (k + 0) p0.stands in
    let p1 = progress_step setting_at bytes k 0 c.args.reader.now c.read_frequency.new.reader p0 c.in_ok-lf.ensures.stands (l0.0, l0.1, good_frequency l0.0 c.in_ok-lf.lf.n l0.2) in
    let here : 1 < 6 = omega arith in
    err_exit c.from_residual-in_err-read_rates.result (λ x. AreSettingLines bytes k x) (λ f. FirstOf setting_at 6 bytes k f) c.in_err-read_rates.field-0.0 c.from_residual-in_err-read_rates.ensures.1
    (progress_fault setting_at 6 bytes k 1 c.read_frequency.new.reader c.in_err-read_rates.field-0.0 here p1 (c.in_err-read_rates.ensures.line bytes (k + 1) p1.stands))

pub returns-in_err-sampling-clause-settings : goal.returns-in_err-sampling-clause-settings
returns-in_err-sampling-clause-settings c = λ bytes k s.
    let p0 = progress_start setting_at bytes k c.args.reader.now s in
    let l0 = c.in_ok-lf.ensures.line bytes (k + 0) p0.stands in
    let p1 = progress_step setting_at bytes k 0 c.args.reader.now c.read_frequency.new.reader p0 c.in_ok-lf.ensures.stands (l0.0, l0.1, good_frequency l0.0 c.in_ok-lf.lf.n l0.2) in
    let l1 = c.in_ok-read_rates.ensures.line bytes (k + 1) p1.stands in
    let p2 = progress_step setting_at bytes k 1 c.read_frequency.new.reader c.read_rates.new.reader p1 c.in_ok-read_rates.ensures.stands (l1.0, l1.1, good_rates l1.0 l1.2) in
    let here : 2 < 6 = omega arith in
    err_exit c.from_residual-in_err-sampling.result (λ x. AreSettingLines bytes k x) (λ f. FirstOf setting_at 6 bytes k f) c.in_err-sampling.field-0.0 c.from_residual-in_err-sampling.ensures.1
    (progress_fault setting_at 6 bytes k 2 c.read_rates.new.reader c.in_err-sampling.field-0.0 here p2 (c.in_err-sampling.ensures.line bytes (k + 2) p2.stands))

pub returns-in_err-first-clause-settings : goal.returns-in_err-first-clause-settings
returns-in_err-first-clause-settings c = λ bytes k s.
    let p0 = progress_start setting_at bytes k c.args.reader.now s in
    let l0 = c.in_ok-lf.ensures.line bytes (k + 0) p0.stands in
    let p1 = progress_step setting_at bytes k 0 c.args.reader.now c.read_frequency.new.reader p0 c.in_ok-lf.ensures.stands (l0.0, l0.1, good_frequency l0.0 c.in_ok-lf.lf.n l0.2) in
    let l1 = c.in_ok-read_rates.ensures.line bytes (k + 1) p1.stands in
    let p2 = progress_step setting_at bytes k 1 c.read_frequency.new.reader c.read_rates.new.reader p1 c.in_ok-read_rates.ensures.stands (l1.0, l1.1, good_rates l1.0 l1.2) in
    let l2 = c.in_ok-sampling.ensures.line bytes (k + 2) p2.stands in
    let p3 = progress_step setting_at bytes k 2 c.read_rates.new.reader c.read_sampling.new.reader p2 c.in_ok-sampling.ensures.stands (l2.0, l2.1, good_sampling l2.0 c.in_ok-sampling.sampling.rate c.in_ok-sampling.sampling.endsamp l2.2) in
    let here : 3 < 6 = omega arith in
    err_exit c.from_residual-in_err-first.result (λ x. AreSettingLines bytes k x) (λ f. FirstOf setting_at 6 bytes k f) c.in_err-first.field-0.0 c.from_residual-in_err-first.ensures.1
    (progress_fault setting_at 6 bytes k 3 c.read_sampling.new.reader c.in_err-first.field-0.0 here p3 (c.in_err-first.ensures.line bytes (k + 3) p3.stands))

pub returns-in_err-trigger-clause-settings : goal.returns-in_err-trigger-clause-settings
returns-in_err-trigger-clause-settings c = λ bytes k s.
    let p0 = progress_start setting_at bytes k c.args.reader.now s in
    let l0 = c.in_ok-lf.ensures.line bytes (k + 0) p0.stands in
    let p1 = progress_step setting_at bytes k 0 c.args.reader.now c.read_frequency.new.reader p0 c.in_ok-lf.ensures.stands (l0.0, l0.1, good_frequency l0.0 c.in_ok-lf.lf.n l0.2) in
    let l1 = c.in_ok-read_rates.ensures.line bytes (k + 1) p1.stands in
    let p2 = progress_step setting_at bytes k 1 c.read_frequency.new.reader c.read_rates.new.reader p1 c.in_ok-read_rates.ensures.stands (l1.0, l1.1, good_rates l1.0 l1.2) in
    let l2 = c.in_ok-sampling.ensures.line bytes (k + 2) p2.stands in
    let p3 = progress_step setting_at bytes k 2 c.read_rates.new.reader c.read_sampling.new.reader p2 c.in_ok-sampling.ensures.stands (l2.0, l2.1, good_sampling l2.0 c.in_ok-sampling.sampling.rate c.in_ok-sampling.sampling.endsamp l2.2) in
    let l3 = c.in_ok-first.ensures.line bytes (k + 3) p3.stands in
    let p4 = progress_step setting_at bytes k 3 c.read_sampling.new.reader c.read_stamp.new.reader p3 c.in_ok-first.ensures.stands (l3.0, l3.1, good_stamp l3.0 c.in_ok-first.first l3.2) in
    let here : 4 < 6 = omega arith in
    err_exit c.from_residual-in_err-trigger.result (λ x. AreSettingLines bytes k x) (λ f. FirstOf setting_at 6 bytes k f) c.in_err-trigger.field-0.0 c.from_residual-in_err-trigger.ensures.1
    (progress_fault setting_at 6 bytes k 4 c.read_stamp.new.reader c.in_err-trigger.field-0.0 here p4 (c.in_err-trigger.ensures.line bytes (k + 4) p4.stands))

pub returns-in_err-form-clause-settings : goal.returns-in_err-form-clause-settings
returns-in_err-form-clause-settings c = λ bytes k s.
    let p0 = progress_start setting_at bytes k c.args.reader.now s in
    let l0 = c.in_ok-lf.ensures.line bytes (k + 0) p0.stands in
    let p1 = progress_step setting_at bytes k 0 c.args.reader.now c.read_frequency.new.reader p0 c.in_ok-lf.ensures.stands (l0.0, l0.1, good_frequency l0.0 c.in_ok-lf.lf.n l0.2) in
    let l1 = c.in_ok-read_rates.ensures.line bytes (k + 1) p1.stands in
    let p2 = progress_step setting_at bytes k 1 c.read_frequency.new.reader c.read_rates.new.reader p1 c.in_ok-read_rates.ensures.stands (l1.0, l1.1, good_rates l1.0 l1.2) in
    let l2 = c.in_ok-sampling.ensures.line bytes (k + 2) p2.stands in
    let p3 = progress_step setting_at bytes k 2 c.read_rates.new.reader c.read_sampling.new.reader p2 c.in_ok-sampling.ensures.stands (l2.0, l2.1, good_sampling l2.0 c.in_ok-sampling.sampling.rate c.in_ok-sampling.sampling.endsamp l2.2) in
    let l3 = c.in_ok-first.ensures.line bytes (k + 3) p3.stands in
    let p4 = progress_step setting_at bytes k 3 c.read_sampling.new.reader c.read_stamp.new.reader p3 c.in_ok-first.ensures.stands (l3.0, l3.1, good_stamp l3.0 c.in_ok-first.first l3.2) in
    let l4 = c.in_ok-trigger.ensures.line bytes (k + 4) p4.stands in
    let p5 = progress_step setting_at bytes k 4 c.read_stamp.new.reader c.read_stamp-2.new.reader p4 c.in_ok-trigger.ensures.stands (l4.0, l4.1, good_stamp l4.0 c.in_ok-trigger.trigger l4.2) in
    let here : 5 < 6 = omega arith in
    err_exit c.from_residual-in_err-form.result (λ x. AreSettingLines bytes k x) (λ f. FirstOf setting_at 6 bytes k f) c.in_err-form.field-0.0 c.from_residual-in_err-form.ensures.1
    (progress_fault setting_at 6 bytes k 5 c.read_stamp-2.new.reader c.in_err-form.field-0.0 here p5 (c.in_err-form.ensures.line bytes (k + 5) p5.stands))

pub returns-clause-stands : goal.returns-clause-stands
returns-clause-stands c = λ bytes k s.
    let p0 = progress_start setting_at bytes k c.args.reader.now s in
    let l0 = c.in_ok-lf.ensures.line bytes (k + 0) p0.stands in
    let p1 = progress_step setting_at bytes k 0 c.args.reader.now c.read_frequency.new.reader p0 c.in_ok-lf.ensures.stands (l0.0, l0.1, good_frequency l0.0 c.in_ok-lf.lf.n l0.2) in
    let l1 = c.in_ok-read_rates.ensures.line bytes (k + 1) p1.stands in
    let p2 = progress_step setting_at bytes k 1 c.read_frequency.new.reader c.read_rates.new.reader p1 c.in_ok-read_rates.ensures.stands (l1.0, l1.1, good_rates l1.0 l1.2) in
    let l2 = c.in_ok-sampling.ensures.line bytes (k + 2) p2.stands in
    let p3 = progress_step setting_at bytes k 2 c.read_rates.new.reader c.read_sampling.new.reader p2 c.in_ok-sampling.ensures.stands (l2.0, l2.1, good_sampling l2.0 c.in_ok-sampling.sampling.rate c.in_ok-sampling.sampling.endsamp l2.2) in
    let l3 = c.in_ok-first.ensures.line bytes (k + 3) p3.stands in
    let p4 = progress_step setting_at bytes k 3 c.read_sampling.new.reader c.read_stamp.new.reader p3 c.in_ok-first.ensures.stands (l3.0, l3.1, good_stamp l3.0 c.in_ok-first.first l3.2) in
    let l4 = c.in_ok-trigger.ensures.line bytes (k + 4) p4.stands in
    let p5 = progress_step setting_at bytes k 4 c.read_stamp.new.reader c.read_stamp-2.new.reader p4 c.in_ok-trigger.ensures.stands (l4.0, l4.1, good_stamp l4.0 c.in_ok-trigger.trigger l4.2) in
    let l5 = c.in_ok-form.ensures.line bytes (k + 5) p5.stands in
    let p6 = progress_step setting_at bytes k 5 c.read_stamp-2.new.reader c.read_file_type.new.reader p5 c.in_ok-form.ensures.stands (l5.0, l5.1, good_form l5.0 c.in_ok-form.form l5.2) in
    p6.stands

pub returns-clause-settings : goal.returns-clause-settings
returns-clause-settings c = λ bytes k s.
    let p0 = progress_start setting_at bytes k c.args.reader.now s in
    let l0 = c.in_ok-lf.ensures.line bytes (k + 0) p0.stands in
    let p1 = progress_step setting_at bytes k 0 c.args.reader.now c.read_frequency.new.reader p0 c.in_ok-lf.ensures.stands (l0.0, l0.1, good_frequency l0.0 c.in_ok-lf.lf.n l0.2) in
    let l1 = c.in_ok-read_rates.ensures.line bytes (k + 1) p1.stands in
    let p2 = progress_step setting_at bytes k 1 c.read_frequency.new.reader c.read_rates.new.reader p1 c.in_ok-read_rates.ensures.stands (l1.0, l1.1, good_rates l1.0 l1.2) in
    let l2 = c.in_ok-sampling.ensures.line bytes (k + 2) p2.stands in
    let p3 = progress_step setting_at bytes k 2 c.read_rates.new.reader c.read_sampling.new.reader p2 c.in_ok-sampling.ensures.stands (l2.0, l2.1, good_sampling l2.0 c.in_ok-sampling.sampling.rate c.in_ok-sampling.sampling.endsamp l2.2) in
    let l3 = c.in_ok-first.ensures.line bytes (k + 3) p3.stands in
    let p4 = progress_step setting_at bytes k 3 c.read_sampling.new.reader c.read_stamp.new.reader p3 c.in_ok-first.ensures.stands (l3.0, l3.1, good_stamp l3.0 c.in_ok-first.first l3.2) in
    let l4 = c.in_ok-trigger.ensures.line bytes (k + 4) p4.stands in
    let p5 = progress_step setting_at bytes k 4 c.read_stamp.new.reader c.read_stamp-2.new.reader p4 c.in_ok-trigger.ensures.stands (l4.0, l4.1, good_stamp l4.0 c.in_ok-trigger.trigger l4.2) in
    let l5 = c.in_ok-form.ensures.line bytes (k + 5) p5.stands in
    let p6 = progress_step setting_at bytes k 5 c.read_stamp-2.new.reader c.read_file_type.new.reader p5 c.in_ok-form.ensures.stands (l5.0, l5.1, good_form l5.0 c.in_ok-form.form l5.2) in
    let zero : k + 0 ≡ k = omega arith in
    record {
      frequency = subst (λ (n : ℕ). HasLine bytes n (λ parts. IsLineFrequency parts c.in_ok-lf.lf.n)) zero l0;
      rates = l1;
      sampling = l2;
      first = l3;
      trigger = l4;
      file_type = l5;
    }
