use Rattle.flk_cfg.proofs.analog.check_numbers.Goals as goal

pub returns : goal.returns
returns c = record {
  a_is = c.in_ok-decimal.ensures.1;
  b_is = c.in_ok-decimal-2.ensures.1;
  skew_is = c.in_ok-decimal_or_zero.ensures.1;
  min_is = c.in_ok-decimal-3.ensures.1;
  max_is = c.in_ok-decimal-4.ensures.1;
  primary_is = c.in_ok-decimal-5.ensures.1;
  secondary_is = c.in_ok-decimal-6.ensures.1;
  ps_is = c.in_ok-side.ensures.1;
}
