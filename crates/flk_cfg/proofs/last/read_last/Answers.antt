use Rattle.std.proofs.Common.{◌≡◌, inr, rules, refl, sym, arith, subst, ◌∙◌}
use Rattle.flk_text.specs.Tail.{IsTail}
use Rattle.flk_text.specs.Fields.{fields}
use Rattle.flk_cfg.specs.Places.{tail_at}
use Rattle.flk_field.specs.Sets.{IsGoodLine}
use Rattle.flk_cfg.specs.Table.{last_row}
use Rattle.flk_cfg.proofs.Rows.{good_multiplier}
use Rattle.flk_cfg.proofs.last.read_last.Goals as goal

pub returns-else-is_tail : goal.returns-else-is_tail
returns-else-is_tail c = λ bytes k s.
    let tail : c.rest.result.now ≡ tail_at bytes k = c.rest.ensures ∙ c.in_ok-line.ensures.tail bytes k s in
    let none : IsTail c.rest.result.now → ⊥ = search rules in
    let good : IsGoodLine last_row (fields c.in_ok-line.line.now) = subst (IsGoodLine last_row) c.in_ok-of.ensures.0 (good_multiplier _ _ c.in_ok-value.ensures) in
    inr ((fields c.in_ok-line.line.now, c.in_ok-line.ensures.line bytes k s, good), (omega (arith, c.in_ok-line.ensures.number, s.number), refl, refl, λ t. none (subst IsTail (sym tail) t)))
