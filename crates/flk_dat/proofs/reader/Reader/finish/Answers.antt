use Rattle.std.proofs.Common.{◌+◌, ◌++◌, ℕ, sym, ap, subst, ◌∙◌}
use Rattle.flk_dat.specs.DataFile.{IsFaultAfter}
use Rattle.flk_dat.specs.Streams.{added}
use Rattle.flk_dat.specs.States.{layout}
use Rattle.flk_dat.specs.declared.kind.DatFault.{DatFault as FaultView}
use Rattle.flk_dat.proofs.reader.Reader.finish.Goals as goal

pub returns-in-Err-clause-fault : goal.returns-in-Err-clause-fault
returns-in-Err-clause-fault c = λ taken given s.
    let e = c.in-Err.ensures in
    record {
      row = ap (λ (f : FaultView). f.row) c.fail.ensures.is ∙ ap (λ (n : ℕ). n + 1) (e.count taken given s);
      kind = c.in-Err.fault.kind;
      number = ap (λ (f : FaultView). f.kind) c.fail.ensures.is;
      here = subst (λ (n : ℕ). IsFaultAfter (layout c.args.self.now) taken (given ++ added c.args.out.now c.end.new.out) n c.in-Err.fault.kind) (sym (ap (λ (f : FaultView). f.field) c.fail.ensures.is)) (e.here taken given s);
    }
