use Rattle.std.proofs.Common.{rules, arith, ◌≡◌, ℕ, ◌+◌, ◌*◌, ◌^◌, List, [], ◌∷◌, ◌++◌, length, map, ℤ, pos, ◌+ℤ◌, ◌≤ℤ◌, sym, subst, FitsSigned}
use Rattle.std.specs.Prelude.{Some}
use Rattle.std.specs.Int.{w128}
use Rattle.std.proofs.lemmas.Int.{to_z-of_z}
use Rattle.std.proofs.lemmas.List.Elements.{All-pop}
use Rattle.flk_stat.specs.declared.severity.RankedShare.{RankedShare}
use Rattle.flk_stat.specs.Ranked.{IsShare, IsRankIn, DoRise, IsSelected, IsRankedSum}
use Rattle.flk_stat.proofs.SeverityLemmas.{sum_fits}
use Rattle.flk_stat.proofs.SelectionLemmas.{sum_more, others_rise, others_in}
use Rattle.flk_stat.proofs.selection.+selected_sum.Goals as goal

pub selected_sum-requires : goal.selected_sum-requires
selected_sum-requires t c =
    let last : RankedShare = c.in-Some.last.now in
    let others : List RankedShare = c.in-Some.others.now in
    let levels : List ℕ = c.args.levels.now in
    let above : List ℕ = c.selected-part.result.1.now in
    let whole : c.args.wanted.now ≡ others ++ last ∷ [] = search rules in
    let fewer : length others + 1 ≡ length c.args.wanted.now = search rules in
    let selected : IsSelected last levels c.selected-part.result.0 above = search rules in
    let rise = subst DoRise whole c.requires.rise in (
      omega (arith, c.decreases, fewer),
      (
        (All-pop (λ q. IsShare q.share) c.args.wanted.now others (Some last) whole c.requires.shares).0,
        (
          others_in others last levels above rise (All-pop (IsRankIn levels) c.args.wanted.now others (Some last) whole c.requires.ranks).0 selected.place,
          (
            others_rise others last rise,
            omega (arith, c.requires.few, fewer),
          ),
        ),
      ),
    )

pub returns-clause-sum : goal.returns-clause-sum
returns-clause-sum t c =
    let last : RankedShare = c.in-Some.last.now in
    let others : List RankedShare = c.in-Some.others.now in
    let levels : List ℕ = c.args.levels.now in
    let above : List ℕ = c.selected-part.result.1.now in
    let part : ℤ = c.selected-part.result.0 in
    let rest : ℤ = c.selected_sum.result in
    let whole : c.args.wanted.now ≡ others ++ last ∷ [] = search rules in
    let fewer : length others + 1 ≡ length c.args.wanted.now = search rules in
    let selected : IsSelected last levels part above = search rules in
    let sum : IsRankedSum others (map pos above) rest = search rules in
    let part_low : pos 0 ≤ℤ part = search rules in
    let part_high : part ≤ℤ pos (2 ^ 104) = search rules in
    let rest_low : pos 0 ≤ℤ rest = search rules in
    let rest_high : rest ≤ℤ pos (length others * 2 ^ 104) = search rules in
    let part_fits : FitsSigned w128 part = search rules in
    let rest_fits : FitsSigned w128 rest = search rules in
    let fits = sum_fits rest part (length others) (omega (arith, fewer, c.requires.few)) rest_low rest_high part_low part_high in
    rw (to_z-of_z w128 rest rest_fits, to_z-of_z w128 part part_fits, to_z-of_z w128 (rest +ℤ part) fits)
    (subst (λ (qs : List RankedShare). IsRankedSum qs (map pos levels) (rest +ℤ part)) (sym whole) (sum_more others last levels above part rest selected sum))
