use Rattle.std.proofs.Common.{inl, inr}
use Rattle.std.proofs.lemmas.Result.{MatchResult-weaker}
use Rattle.flk_field.specs.Sets.{IsIn}
use Rattle.flk_cfg.proofs.digital.check_digital.Goals as goal

pub returns : goal.returns
unfolding IsIn
returns c =
    let names = c.in_ok-check_names.ensures in
    MatchResult-weaker c.bit.result c.bit.ensures (λ b is. record { position_is = c.in_ok-position.ensures.1; names = names; normal_is = is.1 }) (λ f out. record {
      line = out.line;
      here = inr (c.in_ok-position.ensures.0, inr (names.id, inr (names.ph, inr (names.ccbm, inl (out.field, out.kind)))));
    })
