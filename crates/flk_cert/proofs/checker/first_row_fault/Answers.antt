use Rattle.std.proofs.Common.{rules, ◌≡◌, ◌≤◌, ℕ, length, refl, subst, arith, ⊎_elim}
use Rattle.std.proofs.lemmas.Bool.{cases_lt}
use Rattle.flk_cert.specs.Judged.{AllAreMet, IsFirstOnRow}
use Rattle.flk_cert.proofs.FaultLemmas.{row_fault, all_fit}
use Rattle.flk_cert.proofs.checker.first_row_fault.Goals as goal

pub returns-in-Some-clause-some : goal.returns-in-Some-clause-some
returns-in-Some-clause-some c =
    let on_row : IsFirstOnRow c.args.k.now c.args.rows.now c.in-Some.cause c.loop-row.row = search rules in
    row_fault c.args.k.now c.args.rows.now c.in-Some.cause c.loop-row.row c.requires.judged c.loop-row-test.true c.loop-row.invariant on_row

pub returns-in-Some-clause-small : goal.returns-in-Some-clause-small
returns-in-Some-clause-small c =
    let few = ((c.requires.judged.shape 0).count refl).few in
    omega (arith, few, c.loop-row-test.true)

pub loop-row-preserved : goal.loop-row-preserved
loop-row-preserved c =
    let here : AllAreMet c.args.k.now c.args.rows.now c.loop-row.row = search rules in
    λ j below. ⊎_elim (λ l. c.loop-row.invariant j l) (λ m. let e : c.loop-row.row ≡ j = omega (arith, below, m) in subst (λ (n : ℕ). AllAreMet c.args.k.now c.args.rows.now n) e here) (cases_lt j c.loop-row.row)

pub returns-clause-none : goal.returns-clause-none
returns-clause-none c =
    let all : length c.args.rows.now ≤ c.loop-row.row = c.loop-row-test.false in
    all_fit c.args.k.now c.args.rows.now c.requires.judged (λ j below. c.loop-row.invariant j (omega (arith, below, all)))
