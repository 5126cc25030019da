use Rattle.std.proofs.Common.{◌≡◌, ◌+◌, ◌-◌, inr, arith, ◌∙◌, ap, subst, ℕ, get_or, []}
use Rattle.flk_text.specs.Fields.{fields}
use Rattle.flk_text.proofs.FieldLemmas.{IsFrom, IsFrom-start, IsFrom-next, IsFrom-end, IsFrom-field, fields_length}
use Rattle.flk_text.proofs.fields.field.Goals as goal

pub loop-init : goal.loop-init
loop-init c = IsFrom-start c.args.line.now

pub returns-in-None : goal.returns-in-None
returns-in-None c = inr (omega (arith, fields_length c.args.line.now, IsFrom-end c.args.line.now c.loop.rest.now (c.loop.counter - 1) c.in-None.ensures c.loop.invariant, c.loop.auto.counter, c.loop-test.true))

pub loop-preserved : goal.loop-preserved
loop-preserved c =
    let n : c.loop.counter - 1 + 1 ≡ c.loop.counter + 1 - 1 = omega (arith, c.loop.auto.counter) in
    subst (IsFrom c.args.line.now c.in-Some.after.now) n (IsFrom-next c.args.line.now c.loop.rest.now c.in-Some.after.now (c.loop.counter - 1) c.in-Some.ensures.0 c.in-Some.ensures.1 c.loop.invariant)

pub returns : goal.returns
returns c =
    let f = IsFrom-field c.args.line.now c.loop.rest.now (c.loop.counter - 1) c.loop.invariant in
    let same : c.loop.counter ≡ c.args.i = omega (arith, c.loop-test.false, c.loop.auto.counter, c.loop.auto.counter-end, c.if-i-eq0.false) in
    (omega (arith, c.if-i-eq0.false), omega (arith, f.0, same, c.if-i-eq0.false), c.first_field.ensures ∙ f.1 ∙ ap (λ (k : ℕ). get_or (fields c.args.line.now) (k - 1) []) same)
