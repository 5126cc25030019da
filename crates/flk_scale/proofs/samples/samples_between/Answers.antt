use Rattle.std.proofs.Common.{rules, arith, FitsSigned, ◌≡◌, pos, neg_ℤ}
use Rattle.std.specs.Prelude.{IsTrue, ◌↔◌}
use Rattle.flk_exact.specs.Rounding.{IsBetween}
use Rattle.std.specs.Int.{w128}
use Rattle.std.proofs.lemmas.Int.{ints, to_z-of_z}
use Rattle.flk_scale.specs.Samples.{AreSamplesBetween}
use Rattle.flk_scale.proofs.SamplesLemmas.{turned_range, level_range}
use Rattle.flk_scale.proofs.samples.samples_between.Goals as goal

pub returns-then-a-gt0 : goal.returns-then-a-gt0
returns-then-a-gt0 c =
    let fits_a : FitsSigned w128 c.args.a = c.ranges.a in
    let fits_b : FitsSigned w128 c.args.b = c.ranges.b in
    let fits_low : FitsSigned w128 c.args.low = c.ranges.low in
    let fits_high : FitsSigned w128 c.args.high = c.ranges.high in
    simp to_z-of_z at c.rising.ensures

pub returns-then-a-lt0 : goal.returns-then-a-lt0
returns-then-a-lt0 c =
    let a : c.negated.result ≡ neg_ℤ c.args.a = search rules in
    let b : c.negated-then-a-lt0.result ≡ neg_ℤ c.args.b = search rules in
    let high : c.negated-then-a-lt0-2.result ≡ neg_ℤ c.args.high = search rules in
    let low : c.negated-then-a-lt0-3.result ≡ neg_ℤ c.args.low = search rules in
    let fits_a : FitsSigned w128 c.negated.result = search rules in
    let fits_b : FitsSigned w128 c.negated-then-a-lt0.result = search rules in
    let fits_high : FitsSigned w128 c.negated-then-a-lt0-2.result = search rules in
    let fits_low : FitsSigned w128 c.negated-then-a-lt0-3.result = search rules in
    let are : AreSamplesBetween c.negated.result c.negated-then-a-lt0.result c.negated-then-a-lt0-2.result c.negated-then-a-lt0-3.result c.rising-then-a-lt0.result = simp to_z-of_z at c.rising-then-a-lt0.ensures in λ x fits.
    let turned = turned_range c.args.a c.args.b c.args.low c.args.high x in
    let is = rw (a, b, high, low) at (are x fits) in
    (λ among. turned.0 (is.0 among), λ between. is.1 (turned.1 between))

pub returns : goal.returns
returns c = λ x fits.
    let none : c.args.a ≡ pos 0 = omega (arith, ints) in
    let level = level_range c.args.a c.args.b c.args.low c.args.high x none in
    let is : IsTrue c.is_between.result ↔ IsBetween c.args.low c.args.high c.args.b = search rules in
    let among = c.level.ensures x fits in
    (λ h. level.0 (is.0 (among.0 h)), λ h. among.1 (is.1 (level.1 h)))
