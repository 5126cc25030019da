use Rattle.std.proofs.Common.{rules, arith, List, [], ◌∷◌, ◌++◌, ℤ, length-append}
use Rattle.std.specs.List.Sorted.{IsPermutation}
use Rattle.std.proofs.Math.Logic.{∥∥₁_map}
use Rattle.std.proofs.lemmas.List.Sorted.{length_permutation}
use Rattle.flk_stat.specs.ListOfEnds.{ends_of}
use Rattle.flk_stat.proofs.LevelLemmas.{lows_more, highs_more, ends_more}
use Rattle.flk_stat.proofs.levels.Levels.add.Goals as goal

pub invariant_of-self : goal.invariant_of-self
invariant_of-self c =
    let s = c.args.self.now in
    let p = c.args.p in
    let e = c.add_ends.ensures in
    let low_ends : List ℤ = ends_of s.lows in
    let high_ends : List ℤ = ends_of s.highs in
    let more_low : List ℤ = ends_of c.add_ends.new.lows in
    let more_high : List ℤ = ends_of c.add_ends.new.highs in
    let low : IsPermutation (low_ends ++ p.lo ∷ []) more_low = search rules in
    let high : IsPermutation (high_ends ++ p.hi ∷ []) more_high = search rules in
    record {
      some = s.some;
      lows_count = omega (arith, s.lows_count, c.requires.room, length_permutation (low_ends ++ p.lo ∷ []) more_low low, length-append low_ends (p.lo ∷ []));
      highs_count = omega (arith, s.highs_count, c.requires.room, length_permutation (high_ends ++ p.hi ∷ []) more_high high, length-append high_ends (p.hi ∷ []));
      lows_fit = rw e.lows_capacity s.lows_fit;
      highs_fit = rw e.highs_capacity s.highs_fit;
      levels = ∥∥₁_map s.levels (ends_more low_ends high_ends more_low more_high p low high);
    }

pub returns-clause-added : goal.returns-clause-added
returns-clause-added c = λ n ls added.
    let s = c.args.self.now in
    let p = c.args.p in
    let low_ends : List ℤ = ends_of s.lows in
    let high_ends : List ℤ = ends_of s.highs in
    let more_low : List ℤ = ends_of c.add_ends.new.lows in
    let more_high : List ℤ = ends_of c.add_ends.new.highs in
    let low : IsPermutation (low_ends ++ p.lo ∷ []) more_low = search rules in
    let high : IsPermutation (high_ends ++ p.hi ∷ []) more_high = search rules in
    record {
      size = added.size;
      count = omega (arith, added.count, c.requires.room, length-append ls (p ∷ []));
      lows = lows_more ls p low_ends more_low added.lows low;
      highs = highs_more ls p high_ends more_high added.highs high;
    }
