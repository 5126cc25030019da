use Rattle.std.proofs.Common.{◌≡◌, ℕ, Bool, List, ◌∷◌, length, map, ℤ, FitsSigned, to_z, subst, arith}
use Rattle.std.specs.Int.{w64}
use Rattle.std.proofs.lemmas.Int.{to_z-of_z}
use Rattle.flk_cert.specs.declared.gain.Gain.{Gain}
use Rattle.flk_cert.specs.Gain.{coefs_of}
use Rattle.flk_section.specs.RoundedCascade.{last_output}
use Rattle.flk_section.specs.RowSection.{gain_of}
use Rattle.flk_section.specs.Row.{StandInRow, Midway}
use Rattle.flk_section.proofs.RowLemmas.{midway_end}
use Rattle.flk_section.proofs.row.step_any.Goals as goal
use Rattle.flk_section.proofs.row.step_any.Goals.{After-loop-i}

-- all sections were stepped
whole : (c : After-loop-i) (from_one : Bool) (Xs : List ℤ) → StandInRow from_one c.args.sections.now Xs
    → StandInRow from_one c.loop-i.sections (c.args.mid ∷ Xs) × (to_z w64 c.loop-i.signal-bits ≡ last_output (map coefs_of (map gain_of c.loop-i.sections)) from_one Xs c.args.mid)
whole c from_one Xs stand =
    let ss = c.loop-i.sections in
    let X : ℤ = to_z w64 c.loop-i.signal-bits in
    let fits_mid : FitsSigned w64 c.args.mid = c.ranges.mid in
    let begun : (from_one : Bool) (Xs : List ℤ) → StandInRow from_one c.args.sections.now Xs → Midway c.loop-i.i from_one ss c.args.mid Xs X =
    simp to_z-of_z at c.loop-i.invariant.midway in
    let all : c.loop-i.i ≡ length ss = omega (arith, c.loop-i.auto.sections, c.loop-i.auto.i-end, c.loop-i-test.false) in
    midway_end from_one ss c.args.mid Xs X (subst (λ (n : ℕ). Midway n from_one ss c.args.mid Xs X) all (begun from_one Xs stand))

pub returns-clause-stand : goal.returns-clause-stand
returns-clause-stand c = λ from_one Xs stand. (whole c from_one Xs stand).0

pub returns-clause-output : goal.returns-clause-output
returns-clause-output c = λ from_one Xs stand.
    subst (λ (gs : List Gain). to_z w64 c.loop-i.signal-bits ≡ last_output (map coefs_of gs) from_one Xs c.args.mid) c.loop-i.invariant.gains (whole c from_one Xs stand).1
