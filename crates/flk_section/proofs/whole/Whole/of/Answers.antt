use Rattle.std.proofs.Common.{rules, ◌≡◌, ◌^◌, ◌<◌, length, map, ℤ, pos, ◌≤ℤ◌, ◌<ℤ◌, FitsSigned, refl, sym, ap, subst, ◌∙◌, arith}
use Rattle.std.specs.Int.{w128}
use Rattle.std.proofs.lemmas.Int.{ints, to_z-of_z}
use Rattle.std.proofs.lemmas.Bool.{true≢false}
use Rattle.flk_section.specs.Points.{greatest_point}
use Rattle.flk_section.specs.Radius.{radius_by, FitsCascade}
use Rattle.flk_cert.specs.Gain.{gain_numbers}
use Rattle.flk_section.specs.Chain.{first_input_in, first_rounding_in}
use Rattle.flk_section.proofs.Held.{kept, none_iff}
use Rattle.flk_section.proofs.ReachedLemmas.{first_small}
use Rattle.flk_section.proofs.WholeLemmas.{not_limited, rule_of, rule_at, large_input, large_rounding, first_of_by, radius_is, large_radius, has_bound, rule_bounds, numbers_are}
use Rattle.flk_section.proofs.whole.Whole.of.Goals as goal

pub returns-in_err-chain-clause-some : goal.returns-in_err-chain-clause-some
returns-in_err-chain-clause-some c =
    none_iff c.from_residual.result c.from_residual.ensures
    (not_limited c.args.gains.now c.behind_first.result.now c.behind_first.ensures (λ h. let t = c.in_err-chain.ensures.some.1 h in cc))

pub returns-then-chain-ge-INPUT_LIMIT-clause-some : goal.returns-then-chain-ge-INPUT_LIMIT-clause-some
returns-then-chain-ge-INPUT_LIMIT-clause-some c =
    let gains = c.args.gains.now in
    let later = c.behind_first.result.now in
    let e = c.behind_first.ensures in
    let b = c.in_ok-chain.chain in
    let rule = rule_of gains later b e c.in_ok-chain.ensures.value in
    let large : pos (2 ^ 36) ≤ℤ b.input = search rules in
    (λ h. absurd (true≢false (sym h)), λ h. absurd (large_input gains b.input b.rounding rule large h))

pub returns-then-chain-ge-ROUNDING_LIMIT-clause-some : goal.returns-then-chain-ge-ROUNDING_LIMIT-clause-some
returns-then-chain-ge-ROUNDING_LIMIT-clause-some c =
    let gains = c.args.gains.now in
    let later = c.behind_first.result.now in
    let e = c.behind_first.ensures in
    let b = c.in_ok-chain.chain in
    let rule = rule_of gains later b e c.in_ok-chain.ensures.value in
    let large : pos (2 ^ 40) ≤ℤ b.rounding = search rules in
    (λ h. absurd (true≢false (sym h)), λ h. absurd (large_rounding gains b.input b.rounding rule large h))

pub next_radius-requires-clause-radius_small : goal.next_radius-requires-clause-radius_small
next_radius-requires-clause-radius_small c =
    let gains = c.args.gains.now in
    let later = c.behind_first.result.now in
    let e = c.behind_first.ensures in
    let b = c.in_ok-chain.chain in
    let rule = rule_of gains later b e c.in_ok-chain.ensures.value in
    let some : 0 < length gains = search rules in
    let li = c.in_ok-chain.ensures.value.range_input.low in
    let lt = c.in_ok-chain.ensures.value.range_rounding.low in
    let si : b.input <ℤ pos (2 ^ 36) = search rules in
    let st : b.rounding <ℤ pos (2 ^ 40) = search rules in
    let fits_bi : FitsSigned w128 b.input = omega (arith, ints, li, si) in
    let fits_bt : FitsSigned w128 b.rounding = omega (arith, ints, lt, st) in
    let fits_input : FitsSigned w128 c.input.result = search rules in
    let fits_rounding : FitsSigned w128 c.rounding.result = search rules in
    let by : c.next_radius-first.result ≡ radius_by c.input.result c.rounding.result (pos greatest_point) = simp to_z-of_z at c.next_radius-first.ensures.value in
    let first = first_of_by gains c.index-gains-0.result c.index-gains-0-2.result (pos greatest_point) c.input.result c.rounding.result c.next_radius-first.result some c.input.ensures.value c.rounding.ensures.value by in
    let fits_first : FitsSigned w128 c.next_radius-first.result = search rules in
    simp to_z-of_z (subst (λ (z : ℤ). z <ℤ pos (2 ^ 60)) (sym first) (first_small gains (pos greatest_point) some c.requires.radii))

pub returns-then-next_radius-ge-RADIUS_LIMIT-clause-some : goal.returns-then-next_radius-ge-RADIUS_LIMIT-clause-some
returns-then-next_radius-ge-RADIUS_LIMIT-clause-some c =
    let gains = c.args.gains.now in
    let later = c.behind_first.result.now in
    let e = c.behind_first.ensures in
    let b = c.in_ok-chain.chain in
    let rule = rule_of gains later b e c.in_ok-chain.ensures.value in
    let some : 0 < length gains = search rules in
    let li = c.in_ok-chain.ensures.value.range_input.low in
    let lt = c.in_ok-chain.ensures.value.range_rounding.low in
    let si : b.input <ℤ pos (2 ^ 36) = search rules in
    let st : b.rounding <ℤ pos (2 ^ 40) = search rules in
    let fits_bi : FitsSigned w128 b.input = omega (arith, ints, li, si) in
    let fits_bt : FitsSigned w128 b.rounding = omega (arith, ints, lt, st) in
    let fits_input : FitsSigned w128 c.input.result = search rules in
    let fits_rounding : FitsSigned w128 c.rounding.result = search rules in
    let by : c.next_radius-first.result ≡ radius_by c.input.result c.rounding.result (pos greatest_point) = simp to_z-of_z at c.next_radius-first.ensures.value in
    let first = first_of_by gains c.index-gains-0.result c.index-gains-0-2.result (pos greatest_point) c.input.result c.rounding.result c.next_radius-first.result some c.input.ensures.value c.rounding.ensures.value by in
    let fits_first : FitsSigned w128 c.next_radius-first.result = search rules in
    let last : c.next_radius.result ≡ radius_by b.input b.rounding c.next_radius-first.result = simp to_z-of_z at c.next_radius.ensures.value in
    let radius = radius_is gains b.input b.rounding c.next_radius-first.result c.next_radius.result rule first last in
    let large : pos (2 ^ 60) ≤ℤ c.next_radius.result = search rules in
    (λ h. absurd (true≢false (sym h)), λ h. absurd (large_radius gains c.next_radius.result radius large h))

pub invariant_of-result : goal.invariant_of-result
invariant_of-result c =
    let gains = c.args.gains.now in
    let later = c.behind_first.result.now in
    let e = c.behind_first.ensures in
    let b = c.in_ok-chain.chain in
    let rule = rule_of gains later b e c.in_ok-chain.ensures.value in
    let some : 0 < length gains = search rules in
    let li = c.in_ok-chain.ensures.value.range_input.low in
    let lt = c.in_ok-chain.ensures.value.range_rounding.low in
    let si : b.input <ℤ pos (2 ^ 36) = search rules in
    let st : b.rounding <ℤ pos (2 ^ 40) = search rules in
    let fits_bi : FitsSigned w128 b.input = omega (arith, ints, li, si) in
    let fits_bt : FitsSigned w128 b.rounding = omega (arith, ints, lt, st) in
    let fits_input : FitsSigned w128 c.input.result = search rules in
    let fits_rounding : FitsSigned w128 c.rounding.result = search rules in
    let by : c.next_radius-first.result ≡ radius_by c.input.result c.rounding.result (pos greatest_point) = simp to_z-of_z at c.next_radius-first.ensures.value in
    let first = first_of_by gains c.index-gains-0.result c.index-gains-0-2.result (pos greatest_point) c.input.result c.rounding.result c.next_radius-first.result some c.input.ensures.value c.rounding.ensures.value by in
    let fits_first : FitsSigned w128 c.next_radius-first.result = search rules in
    let last : c.next_radius.result ≡ radius_by b.input b.rounding c.next_radius-first.result = simp to_z-of_z at c.next_radius.ensures.value in
    let radius = radius_is gains b.input b.rounding c.next_radius-first.result c.next_radius.result rule first last in
    let small : c.next_radius.result <ℤ pos (2 ^ 60) = search rules in
    let by_first = last ∙ ap (λ (z : ℤ). radius_by b.input b.rounding z) first in
    let fits : FitsCascade gains = record { inputs = c.requires.inputs; start = c.requires.start; radii = c.requires.radii } in
    let ki : kept b.input ≡ b.input = to_z-of_z w128 b.input fits_bi in
    let kt : kept b.rounding ≡ b.rounding = to_z-of_z w128 b.rounding fits_bt in
    let f : ℤ = radius_by (first_input_in (map gain_numbers gains)) (first_rounding_in (map gain_numbers gains)) (pos greatest_point) in
    let own : radius_by b.input b.rounding f <ℤ pos (2 ^ 60) = subst (λ (z : ℤ). z <ℤ pos (2 ^ 60)) by_first small in
    record {
      some = some;
      input_natural = subst (λ (z : ℤ). pos 0 ≤ℤ z) (sym ki) li;
      input_small = subst (λ (z : ℤ). z <ℤ pos (2 ^ 36)) (sym ki) si;
      rounding_natural = subst (λ (z : ℤ). pos 0 ≤ℤ z) (sym kt) lt;
      rounding_small = subst (λ (z : ℤ). z <ℤ pos (2 ^ 40)) (sym kt) st;
      radius_small = subst (λ (z : ℤ). radius_by z (kept b.rounding) f <ℤ pos (2 ^ 60)) (sym ki) (subst (λ (z : ℤ). radius_by b.input z f <ℤ pos (2 ^ 60)) (sym kt) own);
      fits = ∣ fits ∣₁;
      bounds = rule_bounds gains (kept b.input) (kept b.rounding) (rule_at gains (kept b.input) (kept b.rounding) b.input b.rounding ki kt rule);
    }

pub returns-clause-some : goal.returns-clause-some
returns-clause-some c =
    let gains = c.args.gains.now in
    let later = c.behind_first.result.now in
    let e = c.behind_first.ensures in
    let b = c.in_ok-chain.chain in
    let rule = rule_of gains later b e c.in_ok-chain.ensures.value in
    let some : 0 < length gains = search rules in
    let li = c.in_ok-chain.ensures.value.range_input.low in
    let lt = c.in_ok-chain.ensures.value.range_rounding.low in
    let si : b.input <ℤ pos (2 ^ 36) = search rules in
    let st : b.rounding <ℤ pos (2 ^ 40) = search rules in
    let fits_bi : FitsSigned w128 b.input = omega (arith, ints, li, si) in
    let fits_bt : FitsSigned w128 b.rounding = omega (arith, ints, lt, st) in
    let fits_input : FitsSigned w128 c.input.result = search rules in
    let fits_rounding : FitsSigned w128 c.rounding.result = search rules in
    let by : c.next_radius-first.result ≡ radius_by c.input.result c.rounding.result (pos greatest_point) = simp to_z-of_z at c.next_radius-first.ensures.value in
    let first = first_of_by gains c.index-gains-0.result c.index-gains-0-2.result (pos greatest_point) c.input.result c.rounding.result c.next_radius-first.result some c.input.ensures.value c.rounding.ensures.value by in
    let fits_first : FitsSigned w128 c.next_radius-first.result = search rules in
    let last : c.next_radius.result ≡ radius_by b.input b.rounding c.next_radius-first.result = simp to_z-of_z at c.next_radius.ensures.value in
    let radius = radius_is gains b.input b.rounding c.next_radius-first.result c.next_radius.result rule first last in
    let small : c.next_radius.result <ℤ pos (2 ^ 60) = search rules in
    (λ h. has_bound gains later b.input b.rounding c.next_radius.result e (c.in_ok-chain.ensures.some.0 refl) rule si st radius small, λ h. refl)

pub returns-clause-value : goal.returns-clause-value
returns-clause-value c =
    let gains = c.args.gains.now in
    let later = c.behind_first.result.now in
    let e = c.behind_first.ensures in
    let b = c.in_ok-chain.chain in
    let rule = rule_of gains later b e c.in_ok-chain.ensures.value in
    let some : 0 < length gains = search rules in
    let li = c.in_ok-chain.ensures.value.range_input.low in
    let lt = c.in_ok-chain.ensures.value.range_rounding.low in
    let si : b.input <ℤ pos (2 ^ 36) = search rules in
    let st : b.rounding <ℤ pos (2 ^ 40) = search rules in
    let fits_bi : FitsSigned w128 b.input = omega (arith, ints, li, si) in
    let fits_bt : FitsSigned w128 b.rounding = omega (arith, ints, lt, st) in
    let fits_input : FitsSigned w128 c.input.result = search rules in
    let fits_rounding : FitsSigned w128 c.rounding.result = search rules in
    let by : c.next_radius-first.result ≡ radius_by c.input.result c.rounding.result (pos greatest_point) = simp to_z-of_z at c.next_radius-first.ensures.value in
    let first = first_of_by gains c.index-gains-0.result c.index-gains-0-2.result (pos greatest_point) c.input.result c.rounding.result c.next_radius-first.result some c.input.ensures.value c.rounding.ensures.value by in
    let fits_first : FitsSigned w128 c.next_radius-first.result = search rules in
    let ki : kept b.input ≡ b.input = to_z-of_z w128 b.input fits_bi in
    let kt : kept b.rounding ≡ b.rounding = to_z-of_z w128 b.rounding fits_bt in
    record { holds = refl; numbers = numbers_are gains (kept b.input) (kept b.rounding) (rule_at gains (kept b.input) (kept b.rounding) b.input b.rounding ki kt rule) }
