use Rattle.std.proofs.Common.{◌++◌, refl, sym, subst}
use Rattle.flk_field.specs.declared.form.Form.{Form}
use Rattle.flk_field.specs.declared.form.Form.TheVariants.{Ascii}
use Rattle.flk_dat.specs.DataFile.{MayFollow}
use Rattle.flk_dat.specs.declared.kind.Kind.TheVariants as kinds
use Rattle.flk_dat.specs.declared.kind.Fault.{Fault}
use Rattle.flk_dat.proofs.TakingLemmas.{takes_tail, stops_tail}
use Rattle.flk_dat.proofs.EndLemmas.{follow_front, no_more}
use Rattle.flk_dat.proofs.reader.Reader.take_tail.Goals as goal
use Rattle.std.proofs.Common.{append_assoc}

pub returns-in-Some : goal.returns-in-Some
returns-in-Some c = λ b.
    let old = c.args.self.now in
    let piece = c.args.piece.now in
    takes_tail old _ b piece (record { layout_same = refl; fault = refl; given = refl; before = refl }) c.requires.all
    (record {
      grows = λ rest bytes marks follows.
          let t = c.in-Some.ensures rest bytes marks (subst (λ (f : Form). MayFollow f rest) c.in-Ascii.is follows) in
          (t.0, t.1, subst (λ (f : Form). MayFollow f (rest ++ piece)) (sym c.in-Ascii.is) t.2);
    }) c.requires.some

pub returns-in-None : goal.returns-in-None
returns-in-None c = λ b.
    let old = c.args.self.now in
    let piece = c.args.piece.now in
    let f : Fault = record { field = 0; kind = kinds.Long } in
    stops_tail old b piece f c.requires.all refl
    (λ rest bytes marks follows more end.
    c.in-None.ensures rest bytes marks (subst (λ (f : Form). MayFollow f rest) c.in-Ascii.is follows)
    (follow_front (rest ++ piece) more (subst (MayFollow Ascii) (sym (append_assoc rest piece more)) (subst (λ (f : Form). MayFollow f (rest ++ (piece ++ more))) c.in-Ascii.is end))))

pub returns-in-Binary : goal.returns-in-Binary
returns-in-Binary c = λ b.
    let old = c.args.self.now in
    let piece = c.args.piece.now in
    let f : Fault = record { field = 0; kind = kinds.Long } in
    stops_tail old b piece f c.requires.all refl
    (λ rest bytes marks follows more end. no_more piece rest more c.requires.some (subst (λ (f : Form). MayFollow f (rest ++ (piece ++ more))) c.in-Binary.is end))
