use Rattle.std.proofs.Common.{◌≢◌, ◌<◌, refl, sym, ◌∙◌, arith}
use Rattle.flk_field.specs.declared.form.Form.TheVariants.{Ascii}
use Rattle.flk_dat.specs.States.{layout}
use Rattle.flk_dat.specs.declared.kind.Kind.TheVariants as kinds
use Rattle.flk_dat.specs.declared.kind.Fault.{Fault}
use Rattle.flk_dat.proofs.TakingLemmas.{ends_all, falls_due}
use Rattle.flk_dat.proofs.BinarySteps.{binary_short, text_or_bytes}
use Rattle.flk_dat.proofs.reader.Reader.end.Goals as goal

pub returns-then-self : goal.returns-then-self
returns-then-self c = ends_all c.args.self.now c.args.out.now c.if-self.true

pub returns-in-Binary : goal.returns-in-Binary
returns-in-Binary c =
    let old = c.args.self.now in
    let f : Fault = record { field = 0; kind = kinds.Short } in
    let other : old.channels.form ≢ Ascii = λ e. text_or_bytes (sym c.in-Binary.is ∙ e) in
    let due : old.given < old.records = omega (arith, old.within, c.if-self.false) in
    falls_due old old c.args.out.now f refl refl due (λ held. binary_short (layout old) old.given old.before old.rest other (old.part other))
