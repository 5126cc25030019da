use Rattle.flk_front.proofs.RunLemmas.{next_ordered, next_small}
use Rattle.flk_front.proofs.ends.mean_with.Goals as goal

pub returns-clause-ordered : goal.returns-clause-ordered
returns-clause-ordered c =
    let need = c.requires in
    rw (c.part_up.ensures, c.part_up-greatest.ensures) (next_ordered c.args.exponent c.args.mean c.args.squares need.ordered need.squares_ordered)

pub returns-clause-small : goal.returns-clause-small
returns-clause-small c =
    let need = c.requires in
    rw c.part_up-greatest.ensures (next_small c.args.exponent c.args.mean c.args.squares need.exponent_low need.exponent_high need.small need.squares_small)
