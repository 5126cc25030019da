use Rattle.std.proofs.Common.{rules, ◌≡◌, ◌^◌, ◌<◌, [], ℤ, pos, neg_ℤ, ◌*ℤ◌, FitsSigned, sym}
use Rattle.std.specs.Prelude.{if◌then◌else◌}
use Rattle.std.specs.Int.{w128}
use Rattle.std.specs.Int.RustNames.{unsigned_abs}
use Rattle.std.proofs.lemmas.Int.{to_z-of_z}
use Rattle.std.proofs.lemmas.List.Elements.{All-nil}
use Rattle.flk_cert.specs.Gain.{coefs_of}
use Rattle.flk_section.proofs.RangeLemmas.{start_is}
use Rattle.flk_section.proofs.section.Section.new.Goals as goal

pub invariant_of-result : goal.invariant_of-result
invariant_of-result c =
    let k = coefs_of c.args.gain in
    let e : c.from.result ≡ (if c.args.from_one then neg_ℤ (pos 65536 *ℤ k.b0) else pos 0) = search rules in
    let fits : FitsSigned w128 c.from.result = search rules in
    let is = start_is k c.args.from_one c.from.result e in
    record { rests = c.requires; reached = ∣ record { inputs = []; small = All-nil (λ (X : ℤ). unsigned_abs X < 2 ^ 60); is = simp to_z-of_z is } ∣₁ }

pub returns-clause-stands : goal.returns-clause-stands
returns-clause-stands c =
    let k = coefs_of c.args.gain in
    let e : c.from.result ≡ (if c.args.from_one then neg_ℤ (pos 65536 *ℤ k.b0) else pos 0) = search rules in
    let fits : FitsSigned w128 c.from.result = search rules in
    simp to_z-of_z (sym (start_is k c.args.from_one c.from.result e))
