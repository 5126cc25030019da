use Rattle.flk_cfg.proofs.valid.has_analog_values.Goals as goal

pub returns-then-has_numbers : goal.returns-then-has_numbers
returns-then-has_numbers c = (λ so. (c.has_numbers.ensures.0 c.if-has_numbers.true, c.is_side.ensures.0 so), λ all. c.is_side.ensures.1 all.1)
