use Rattle.std.proofs.Common.{rules, ◌≡◌, pos, neg_ℤ, ◌*ℤ◌, FitsSigned, sym}
use Rattle.std.specs.Prelude.{if◌then◌else◌}
use Rattle.std.specs.Int.{w64}
use Rattle.std.proofs.lemmas.Int.{to_z-of_z}
use Rattle.flk_cert.specs.Gain.{coefs_of}
use Rattle.flk_section.proofs.RangeLemmas.{start_is}
use Rattle.flk_section.proofs.row_section.RowSection.new.Goals as goal

pub returns-clause-stands : goal.returns-clause-stands
returns-clause-stands c =
    let k = coefs_of c.args.gain in
    let e : c.first_state.result ≡ (if c.args.from_one then neg_ℤ (pos 65536 *ℤ k.b0) else pos 0) = search rules in
    let fits : FitsSigned w64 c.first_state.result = search rules in
    simp to_z-of_z (sym (start_is k c.args.from_one c.first_state.result e))
