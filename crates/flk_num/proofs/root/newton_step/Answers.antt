use Rattle.flk_num.proofs.RootLemmas.{step_above}
use Rattle.flk_num.proofs.root.newton_step.Goals as goal

pub returns-clause-above : goal.returns-clause-above
returns-clause-above c = step_above c.args.v c.args.x c.requires.some
