use Rattle.std.proofs.Common.{rules, FitsSigned}
use Rattle.std.specs.Int.{w64}
use Rattle.std.proofs.lemmas.Int.{to_z-of_z}
use Rattle.std.proofs.lemmas.List.{append_assoc}
use Rattle.flk_top.proofs.tables.coefs_line.Goals as goal

pub returns : goal.returns
returns c =
    let b0 : FitsSigned w64 c.args.k.now.b0 = search rules in
    let b1 : FitsSigned w64 c.args.k.now.b1 = search rules in
    let b2 : FitsSigned w64 c.args.k.now.b2 = search rules in
    let a1 : FitsSigned w64 c.args.k.now.a1 = search rules in
    let a2 : FitsSigned w64 c.args.k.now.a2 = search rules in
    simp (to_z-of_z, append_assoc) at c.format.ensures.ok
