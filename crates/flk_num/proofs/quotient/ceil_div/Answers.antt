use Rattle.std.proofs.Common.{rules}
use Rattle.flk_exact.proofs.RoundingLemmas.{IsCeil-at_whole, IsCeil-at_more, ceil_of-at}
use Rattle.flk_num.proofs.quotient.ceil_div.Goals as goal

pub returns-then-rem_euclid-eq0-clause-rounding : goal.returns-then-rem_euclid-eq0-clause-rounding
returns-then-rem_euclid-eq0-clause-rounding c =
    IsCeil-at_whole _ _ _ c.rem_euclid.result c.requires (search rules) (search rules) (search rules)

pub returns-then-rem_euclid-eq0-clause-value : goal.returns-then-rem_euclid-eq0-clause-value
returns-then-rem_euclid-eq0-clause-value c = ceil_of-at _ _ _ c.requires (returns-then-rem_euclid-eq0-clause-rounding c)

pub returns-else-rem_euclid-eq0-clause-rounding : goal.returns-else-rem_euclid-eq0-clause-rounding
returns-else-rem_euclid-eq0-clause-rounding c =
    IsCeil-at_more _ _ _ c.rem_euclid.result c.requires (search rules) (search rules) (search rules)

pub returns-else-rem_euclid-eq0-clause-value : goal.returns-else-rem_euclid-eq0-clause-value
returns-else-rem_euclid-eq0-clause-value c = ceil_of-at _ _ _ c.requires (returns-else-rem_euclid-eq0-clause-rounding c)
