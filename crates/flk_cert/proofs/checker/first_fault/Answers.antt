use Rattle.std.proofs.Common.{rules, ℕ, refl, arith}
use Rattle.flk_cert.specs.Certificate.{HasShape}
use Rattle.flk_cert.proofs.checker.first_fault.Goals as goal

pub contracts-requires : goal.contracts-requires
contracts-requires c =
    let shape : (i : ℕ) → HasShape c.args.k.now c.args.rows.now i = search rules in
    ((shape 0).count refl).some

pub returns-then-not-contracts-clause-small : goal.returns-then-not-contracts-clause-small
returns-then-not-contracts-clause-small c =
    let shape : (i : ℕ) → HasShape c.args.k.now c.args.rows.now i = search rules in
    let few = ((shape 0).count refl).few in
    omega (arith, few)
