use Rattle.std.proofs.Common.{rules, arith, ◌≤◌, ◌^◌, ◌+ℤ◌, ◌*ℤ◌}
use Rattle.std.specs.Prelude.{IsTrue, ◌↔◌}
use Rattle.std.specs.Int.RustNames.{unsigned_abs}
use Rattle.std.proofs.lemmas.Int.{ints}
use Rattle.flk_scale.specs.Samples.{IsAmong}
use Rattle.flk_scale.specs.Unit.{microvolts}
use Rattle.flk_scale.proofs.ScaleLemmas.{sign_is, sample_size}
use Rattle.flk_scale.proofs.UnitLemmas.{microvolts_some}
use Rattle.flk_scale.proofs.scale.Scale.negative.Goals as goal

pub returns : goal.returns
returns c =
    let s = c.args.self.now in
    let x = c.args.x in
    let among : IsTrue c.has.result ↔ IsAmong s.negative x = search rules in
    let range = s.negative_is x c.ranges.x in
    let small : unsigned_abs (x *ℤ s.factor +ℤ s.offset) ≤ 2 ^ 125 = sample_size x s.factor s.offset (omega (arith, ints)) s.factor_small s.offset_small in
    sign_is (x *ℤ s.factor +ℤ s.offset) (microvolts s.unit) c.has.result (microvolts_some s.unit) small
    (λ h. range.0 (among.0 h), λ h. among.1 (range.1 h))
