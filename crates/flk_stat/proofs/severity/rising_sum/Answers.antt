use Rattle.std.proofs.Common.{rules, arith, ◌≡◌, ℕ, ◌+◌, ◌*◌, ◌^◌, List, length, get_or, take, ℤ, pos, ◌+ℤ◌, ◌*ℤ◌, ◌≤ℤ◌, to_z, sym, ap, subst, ◌∙◌, FitsSigned}
use Rattle.std.specs.Int.{w128}
use Rattle.std.proofs.lemmas.Int.{ints, to_z-of_z}
use Rattle.flk_stat.specs.declared.severity.Share.{Share}
use Rattle.flk_stat.specs.Severity.{share, shares}
use Rattle.flk_stat.specs.Ranked.{AreWithin, together, ranked_at, weighted_total, IsWeightedSum}
use Rattle.flk_stat.proofs.EndLemmas.{together_length}
use Rattle.flk_stat.proofs.SeverityLemmas.{all_shares, total_more, sum_fits, rising_total, within_itself}
use Rattle.flk_stat.proofs.severity.rising_sum.Goals as goal

pub part-sum-requires-clause-share : goal.part-sum-requires-clause-share
part-sum-requires-clause-share c = all_shares c.loop-share.share-index (share 0 0) c.loop-share-test.true

joined : (a b x y z : ℤ) → a ≡ x → b ≡ y → z ≡ x +ℤ y → a +ℤ b ≡ z
joined a b x y z p q r = omega (arith, ints, p, q, r)

natural : (sum part : ℤ) → pos 0 ≤ℤ sum → pos 0 ≤ℤ part → pos 0 ≤ℤ (sum +ℤ part)
natural sum part low part_low = omega (arith, ints, low, part_low)

small : (sum part : ℤ) (i : ℕ) → sum ≤ℤ pos (i * 2 ^ 104) → part ≤ℤ pos (2 ^ 104) → (sum +ℤ part) ≤ℤ pos ((i + 1) * 2 ^ 104)
small sum part i high part_high = omega (arith, ints, high, part_high)

pub loop-share-preserved : goal.loop-share-preserved
loop-share-preserved c =
    let xs : List ℤ = together c.args.narrow.now c.args.wide.now in
    let n : ℕ = length c.args.narrow.now + length c.args.wide.now in
    let i : ℕ = c.loop-share.share-index in
    let s : Share = get_or shares i (share 0 0) in
    let sum : ℤ = to_z w128 c.loop-share.sum-bits in
    let part : ℤ = c.part-sum.result in
    let h = c.loop-share.invariant in
    let part_fits : FitsSigned w128 part = search rules in
    let value : part ≡ pos s.weight *ℤ ranked_at xs n s.tenths = search rules in
    let part_low : pos 0 ≤ℤ part = search rules in
    let part_high : part ≤ℤ pos (2 ^ 104) = search rules in
    let fits : FitsSigned w128 (sum +ℤ part) = sum_fits sum part i c.loop-share-test.true h.low h.high part_low part_high in
    rw (to_z-of_z w128 part part_fits, to_z-of_z w128 (sum +ℤ part) fits)
    (record {
      sum =
          joined sum part (weighted_total xs n (take i shares)) (pos s.weight *ℤ ranked_at xs n s.tenths) (weighted_total xs n (take (i + 1) shares))
          h.sum value (total_more xs n i shares (share 0 0) c.loop-share-test.true);
      low = natural sum part h.low part_low;
      high = small sum part i h.high part_high;
    })

pub returns-clause-sum : goal.returns-clause-sum
returns-clause-sum c =
    let xs : List ℤ = together c.args.narrow.now c.args.wide.now in
    let n : ℕ = length c.args.narrow.now + length c.args.wide.now in
    let i : ℕ = c.loop-share.share-index in
    let sum : ℤ = to_z w128 c.loop-share.sum-bits in
    let all : length xs ≡ n = together_length c.args.narrow.now c.args.wide.now in
    let last : i ≡ 15 = omega (arith, c.loop-share-test.false, c.loop-share.auto.share-index-end) in
    let is : sum ≡ weighted_total xs n shares = c.loop-share.invariant.sum ∙ ap (λ (j : ℕ). weighted_total xs n (take j shares)) last in
    let within = subst (λ (m : ℕ). AreWithin n m shares) (sym all) (within_itself n shares c.requires.some all_shares) in
    record { is = subst (λ (m : ℕ). IsWeightedSum m shares xs sum) (sym all) (rising_total xs n shares sum c.requires.some c.requires.rises all_shares within is) }
