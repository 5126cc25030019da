use Rattle.std.proofs.Common.{◌≢◌, ℕ, List, [], length, eqb, sym, ap, ◌∙◌}
use Rattle.std.proofs.lemmas.Bool.{true≢false}
use Rattle.flk_dat.proofs.fields.time_stamp.Goals as goal

pub returns : goal.returns
returns c =
    let some : c.args.field.now ≢ [] = λ e. true≢false (sym (c.is_empty.ensures ∙ ap (λ (f : List ℕ). eqb (length f) 0) e) ∙ c.if-is_empty.false) in
    c.stamp_of.ensures c.args.field.now c.whole.ensures.answer some
