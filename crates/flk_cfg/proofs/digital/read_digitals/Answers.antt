use Rattle.std.proofs.Common.{◌≡◌, ◌+◌, ◌++◌, ◌∷◌, [], ℕ, List, length, length-append, ap, arith, subst, sym}
use Rattle.flk_cfg.specs.Table.{digital_row}
use Rattle.flk_cfg.specs.File.{AreDigitals}
use Rattle.flk_cfg.specs.Reading.{FirstOf, StandsAt}
use Rattle.flk_cfg.specs.declared.config.Digital.{Digital}
use Rattle.flk_cfg.proofs.Rows.{good_digital}
use Rattle.flk_cfg.proofs.Steps.{progress_start, progress_step, progress_fault, digitals_more}
use Rattle.flk_num.proofs.StopLemmas.{stop_exit, stop_weaker}
use Rattle.flk_cfg.proofs.digital.read_digitals.Goals as goal

pub loop-i-init : goal.loop-i-init
loop-i-init c = record {
  number = omega arith;
  count = ap length c.new-channels.ensures;
  progress = λ bytes k s. progress_start (λ j. digital_row (j + 1)) bytes k c.args.reader.now s;
  channels = λ bytes k s j d lt. absurd (omega (arith, lt, ap length c.new-channels.ensures));
}

pub loop-i-preserved : goal.loop-i-preserved
loop-i-preserved c =
    let i = c.loop-i.i in
    let sofar = c.loop-i.channels in
    let item = c.in_ok-read_digital.field-0 in
    record {
      number = omega (arith, c.in_ok-read_digital.ensures.number, c.loop-i.invariant.number);
      count = omega (arith, ap length c.in_ok-push.ensures.ok, length-append sofar (item ∷ []), c.loop-i.invariant.count);
      progress = λ bytes k s.
          let p = c.loop-i.invariant.progress bytes k s in
          let h = c.in_ok-read_digital.ensures.channel bytes (k + i) p.stands in
          progress_step (λ j. digital_row (j + 1)) bytes k i c.loop-i.reader c.read_digital.new.reader p c.in_ok-read_digital.ensures.stands (h.0, h.1, good_digital (i + 1) h.0 item h.2);
      channels = λ bytes k s.
          let p = c.loop-i.invariant.progress bytes k s in
          let h = c.in_ok-read_digital.ensures.channel bytes (k + i) p.stands in
          let more : AreDigitals bytes k (sofar ++ item ∷ []) = digitals_more bytes k i sofar item c.loop-i.invariant.count (c.loop-i.invariant.channels bytes k s) h in
          subst (λ (x : List Digital). AreDigitals bytes k x) (sym c.in_ok-push.ensures.ok) more;
    }

pub returns-in_err-read_digital-clause-channels : goal.returns-in_err-read_digital-clause-channels
returns-in_err-read_digital-clause-channels c = λ bytes k s.
    let p = c.loop-i.invariant.progress bytes k s in
    let out = c.in_err-read_digital.ensures.channel bytes (k + c.loop-i.i) p.stands in
    stop_exit c.from_residual.result (λ cs. (length cs ≡ c.args.count) × AreDigitals bytes k cs) (λ f. FirstOf (λ j. digital_row (j + 1)) c.args.count bytes k f) c.in_err-read_digital.field-0.0 c.from_residual.ensures.1
    (stop_weaker _ _ c.in_err-read_digital.field-0.0 out (λ f o. progress_fault (λ j. digital_row (j + 1)) c.args.count bytes k c.loop-i.i c.loop-i.reader f c.loop-i-test.true p o))

pub returns-clause-stands : goal.returns-clause-stands
returns-clause-stands c = λ bytes k s.
    let same : c.loop-i.i ≡ c.args.count = omega (arith, c.loop-i-test.false, c.loop-i.auto.i-end) in
    let p = c.loop-i.invariant.progress bytes k s in
    subst (λ (n : ℕ). StandsAt c.loop-i.reader bytes (k + n)) same p.stands

pub returns-clause-channels : goal.returns-clause-channels
returns-clause-channels c = λ bytes k s.
    let same : c.loop-i.i ≡ c.args.count = omega (arith, c.loop-i-test.false, c.loop-i.auto.i-end) in
    (omega (arith, same, c.loop-i.invariant.count), c.loop-i.invariant.channels bytes k s)
