use Rattle.std.proofs.Common.{◌≡◌, ℕ, true, false, List, refl, sym, ap, subst, ◌∙◌}
use Rattle.std.specs.List.{list_all}
use Rattle.flk_text.specs.Lines.{is_byte}
use Rattle.flk_field.specs.declared.form.Form.{Form}
use Rattle.flk_dat.specs.Records.{IsPresent}
use Rattle.flk_dat.specs.Heads.{IsGood, FaultOf}
use Rattle.flk_dat.specs.declared.kind.Kind.TheVariants as kinds
use Rattle.flk_dat.specs.declared.kind.Fault.{Fault}
use Rattle.flk_dat.proofs.TakingLemmas.{falls_due, falls_same}
use Rattle.flk_dat.proofs.AsciiSteps.{writes_line, fault_of_line}
use Rattle.flk_dat.proofs.EndLemmas.{spaces_fall, line_falls, line_ends, next_missing}
use Rattle.flk_dat.proofs.reader.Reader.end_line.Goals as goal

pub returns-then-are_spaces : goal.returns-then-are_spaces
returns-then-are_spaces c =
    let old = c.args.self.now in
    let f : Fault = record { field = 0; kind = kinds.Short } in
    let spaces : list_all (is_byte 32) old.rest ≡ true = ap (list_all (is_byte 32)) (sym c.as_slice.ensures) ∙ sym c.are_spaces.ensures ∙ c.if-are_spaces.true in
    falls_due old _ c.args.out.now f refl refl c.requires.due (spaces_fall old c.requires.form spaces)

pub returns-in-Err : goal.returns-in-Err
returns-in-Err c =
    let old = c.args.self.now in
    let f = c.in-Err.fault in
    let e = c.in-Err.ensures in
    let off : list_all (is_byte 32) old.rest ≡ false = ap (list_all (is_byte 32)) (sym c.as_slice.ensures) ∙ sym c.are_spaces.ensures ∙ c.if-are_spaces.false in
    let fault = fault_of_line old.channels.form old.channels old.before old.rest f.field f.kind c.requires.form (subst (λ (x : List ℕ). FaultOf old.channels.form old.channels old.before x f.field f.kind) c.as_slice-2.ensures e.1) in
    falls_same old _ c.args.out.now c.read.new.self f e.0 (falls_due old _ c.args.out.now f refl refl c.requires.due (line_falls old f.field f.kind c.requires.form off fault))

pub returns-then-self : goal.returns-then-self
returns-then-self c =
    let old = c.args.self.now in
    let gains = c.in-Ok.ensures in
    let r = gains.given in
    let good = subst (λ (x : List ℕ). IsGood old.channels old.before x r) c.as_slice-2.ensures gains.good in
    let read = writes_line old.channels.form old.channels old.rest r c.requires.form good.writes in
    line_ends old c.count.new.self c.args.out.now c.read.new.self r (record {
      form = c.requires.form;
      due = c.requires.due;
      layout_same = c.count.ensures.layout_same;
      count = c.count.ensures.given;
      out = gains.records;
      line = read;
      follows = good.follows;
      present = subst (λ (f : Form). IsPresent f old.channels.selected.items r) c.requires.form good.present;
    }) c.if-self.true

pub returns-else-self : goal.returns-else-self
returns-else-self c =
    let old = c.args.self.now in
    let gains = c.in-Ok.ensures in
    let r = gains.given in
    let good = subst (λ (x : List ℕ). IsGood old.channels old.before x r) c.as_slice-2.ensures gains.good in
    let read = writes_line old.channels.form old.channels old.rest r c.requires.form good.writes in
    let f : Fault = record { field = 0; kind = kinds.Short } in
    next_missing old c.count.new.self c.args.out.now c.read.new.self r f (record {
      form = c.requires.form;
      due = c.requires.due;
      layout_same = c.count.ensures.layout_same;
      count = c.count.ensures.given;
      out = gains.records;
      line = read;
      follows = good.follows;
      present = subst (λ (f : Form). IsPresent f old.channels.selected.items r) c.requires.form good.present;
    }) c.if-self.false c.count.new.self.within refl

pub read-requires-clause-whole : goal.read-requires-clause-whole
read-requires-clause-whole c = λ other. absurd (other c.requires.form)
