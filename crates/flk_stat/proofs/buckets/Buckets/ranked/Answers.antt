use Rattle.std.proofs.Common.{rules, arith, ◌≡◌, ℕ, ◌≤◌, false, List, replicate, length, get_or, refl, sym, subst}
use Rattle.flk_stat.specs.declared.severity.RankedShare.{RankedShare}
use Rattle.flk_stat.specs.Rank.{rank_of}
use Rattle.flk_stat.specs.Severity.{share, shares}
use Rattle.flk_stat.specs.Buckets.{bucket_of, kept_of, IsKeptRank}
use Rattle.flk_stat.proofs.BucketLemmas.{none_above}
use Rattle.flk_stat.proofs.PercentileLemmas.{rank_in}
use Rattle.flk_stat.proofs.SelectionLemmas.{share_ranks_rise, kept_shares_are, kept_shares_more}
use Rattle.flk_stat.proofs.SeverityLemmas.{all_shares}
use Rattle.flk_stat.proofs.buckets.Buckets.ranked.Goals as goal

pub loop-i-init : goal.loop-i-init
loop-i-init c =
    let s = c.args.self.now in
    record {
      long = refl;
      within = omega arith;
      walked = record { above = sym (none_above s.shift s.levels.now); kept = sym (none_above s.shift (kept_of (bucket_of s.shift) (replicate 4096 false) s.levels.now)) };
      above = λ k least inside.
          (let t = all_shares k (share 0 0) inside in
          (rank_in _ (length s.levels.now) t.low t.high (omega (arith, c.requires))).0);
      each = λ k d t less. absurd (omega (arith, less));
    }

pub loop-i-preserved : goal.loop-i-preserved
loop-i-preserved c =
    let s = c.args.self.now in
    let levels : List ℕ = s.levels.now in
    let b = bucket_of s.shift in
    let i : ℕ = c.loop-i.i in
    let h = c.loop-i.invariant in
    let e = c.descend-rank.ensures in
    let w = c.descend-rank.new.walk in
    let is : c.rank.result ≡ rank_of (get_or shares i (share 0 0)).tenths (length levels) = search rules in
    let rank = subst (λ (r : ℕ). IsKeptRank b levels w.marks w.place r c.descend-rank.result) is e.rank in
    let q : RankedShare = record { share = get_or shares i (share 0 0); rank = c.descend-rank.result } in
    record {
      long = search rules;
      within = e.within;
      walked = e.walked;
      above = λ k least inside.
          (let less = share_ranks_rise (length levels) i k (share 0 0) c.requires (omega (arith, least)) inside in
          omega (arith, less, is, e.above));
      each = kept_shares_more b levels c.loop-i.walk.marks w.marks c.loop-i.walk.place w.place i c.loop-i.ranked q (share 0 0) h.long c.loop-i-test.true h.each e.others refl rank;
    }

pub returns : goal.returns
returns c =
    let s = c.args.self.now in
    let w = c.loop-i.walk in
    let h = c.loop-i.invariant in
    let last : 15 ≤ c.loop-i.i = search rules in
    record {
      each = kept_shares_are (bucket_of s.shift) s.levels.now w.marks w.place c.loop-i.ranked h.long (λ k d t less. h.each k d t (omega (arith, less, last)));
    }
