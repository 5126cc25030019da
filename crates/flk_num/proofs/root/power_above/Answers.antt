use Rattle.std.proofs.Common.{arith}
use Rattle.flk_num.proofs.RootLemmas.{power_large}
use Rattle.flk_num.proofs.root.power_above.Goals as goal

pub returns-clause-above : goal.returns-clause-above
returns-clause-above c = power_large c.args.v c.requires (omega (arith, c.ranges.v.fits))
