use Rattle.std.proofs.Common.{rules, ◌≡◌, ℕ, suc, Bool, List, ◌∷◌, length, map, ℤ, FitsSigned, sym, subst}
use Rattle.std.specs.Int.{w64}
use Rattle.std.proofs.lemmas.Int.{to_z-of_z}
use Rattle.flk_cert.specs.declared.gain.Gain.{Gain}
use Rattle.flk_cert.specs.Gain.{coefs_of}
use Rattle.flk_section.specs.declared.row_section.RowSection.{RowSection}
use Rattle.flk_section.specs.RoundedCascade.{last_output}
use Rattle.flk_section.specs.RowSection.{gain_of}
use Rattle.flk_section.specs.Row.{StandInRow, Midway}
use Rattle.flk_section.proofs.RowLemmas.{midway_start, midway_end}
use Rattle.flk_section.proofs.row.step_design.Goals as goal
use Rattle.flk_section.proofs.row.step_design.Goals.{After-step_at}

-- one more section took the signal
abbrev Passes : ℕ → (ss ts : List RowSection) → (Y Z : ℤ) → Type 0
Passes i ss ts Y Z = (from_one : Bool) (X : ℤ) (Xs : List ℤ) → Midway i from_one ss X Xs Y → Midway (suc i) from_one ts X Xs Z

-- all sections were stepped
whole : (c : After-step_at) (from_one : Bool) (Xs : List ℤ) → StandInRow from_one c.args.sections.now Xs
    → StandInRow from_one c.step_at.new.sections (c.args.mid ∷ Xs) × (c.step_at.result ≡ last_output (map coefs_of (map gain_of c.step_at.new.sections)) from_one Xs c.args.mid)
whole c from_one Xs stand =
    let X : ℤ = c.args.mid in
    let fits_mid : FitsSigned w64 X = c.ranges.mid in
    let fits_first : FitsSigned w64 c.step_at-first.result = search rules in
    let fits_second : FitsSigned w64 c.step_at-second.result = search rules in
    let fits_third : FitsSigned w64 c.step_at-third.result = search rules in
    let fits_fourth : FitsSigned w64 c.step_at-fourth.result = search rules in
    let fits_fifth : FitsSigned w64 c.step_at-fifth.result = search rules in
    let fits_sixth : FitsSigned w64 c.step_at-sixth.result = search rules in
    let fits_last : FitsSigned w64 c.step_at.result = search rules in
    let first : Passes 0 c.args.sections.now c.step_at-first.new.sections X c.step_at-first.result = simp to_z-of_z at c.step_at-first.ensures.midway in
    let second : Passes 1 c.step_at-first.new.sections c.step_at-second.new.sections c.step_at-first.result c.step_at-second.result = simp to_z-of_z at c.step_at-second.ensures.midway in
    let third : Passes 2 c.step_at-second.new.sections c.step_at-third.new.sections c.step_at-second.result c.step_at-third.result = simp to_z-of_z at c.step_at-third.ensures.midway in
    let fourth : Passes 3 c.step_at-third.new.sections c.step_at-fourth.new.sections c.step_at-third.result c.step_at-fourth.result = simp to_z-of_z at c.step_at-fourth.ensures.midway in
    let fifth : Passes 4 c.step_at-fourth.new.sections c.step_at-fifth.new.sections c.step_at-fourth.result c.step_at-fifth.result = simp to_z-of_z at c.step_at-fifth.ensures.midway in
    let sixth : Passes 5 c.step_at-fifth.new.sections c.step_at-sixth.new.sections c.step_at-fifth.result c.step_at-sixth.result = simp to_z-of_z at c.step_at-sixth.ensures.midway in
    let last : Passes 6 c.step_at-sixth.new.sections c.step_at.new.sections c.step_at-sixth.result c.step_at.result = simp to_z-of_z at c.step_at.ensures.midway in
    let seven : length c.step_at.new.sections ≡ 7 = search rules in
    let end : Midway 7 from_one c.step_at.new.sections X Xs c.step_at.result =
    last from_one X Xs (sixth from_one X Xs (fifth from_one X Xs (fourth from_one X Xs (third from_one X Xs (second from_one X Xs (first from_one X Xs (midway_start from_one c.args.sections.now X Xs stand))))))) in
    midway_end from_one c.step_at.new.sections X Xs c.step_at.result (subst (λ (n : ℕ). Midway n from_one c.step_at.new.sections X Xs c.step_at.result) (sym seven) end)

pub returns-clause-stand : goal.returns-clause-stand
returns-clause-stand c = λ from_one Xs stand. (whole c from_one Xs stand).0

pub returns-clause-output : goal.returns-clause-output
returns-clause-output c = λ from_one Xs stand.
    let fits : FitsSigned w64 c.step_at.result = search rules in
    let gains : map gain_of c.step_at.new.sections ≡ map gain_of c.args.sections.now = search rules in
    simp to_z-of_z (subst (λ (gs : List Gain). c.step_at.result ≡ last_output (map coefs_of gs) from_one Xs c.args.mid) gains (whole c from_one Xs stand).1)
