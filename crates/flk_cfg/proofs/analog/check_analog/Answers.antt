use Rattle.std.proofs.Common.{inr}
use Rattle.std.proofs.lemmas.Result.{MatchResult-weaker}
use Rattle.flk_field.specs.Sets.{IsIn}
use Rattle.flk_cfg.proofs.analog.check_analog.Goals as goal

pub returns : goal.returns
unfolding IsIn
returns c =
    let names = c.in_ok-check_names.ensures in
    MatchResult-weaker c.check_numbers.result c.check_numbers.ensures (λ n are. record { position_is = c.in_ok-position.ensures.1; names = names; uu = c.in_ok-text.ensures.1; numbers = are })
    (λ f out. record {
      line = out.line;
      here = inr (c.in_ok-position.ensures.0, inr (names.id, inr (names.ph, inr (names.ccbm, inr (c.in_ok-text.ensures.0, out.here)))));
    })
