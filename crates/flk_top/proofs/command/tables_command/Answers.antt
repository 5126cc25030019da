use Rattle.std.proofs.Common.{rules}
use Rattle.flk_num.specs.declared.rate.Rate.{Rate}
use Rattle.flk_top.specs.Command.{AsksRate}
use Rattle.flk_top.proofs.command.tables_command.Goals as goal

pub returns-in-None-clause-none : goal.returns-in-None-clause-none
returns-in-None-clause-none c = λ lamp rate is.
    let none : (rate : Rate) → ¬ AsksRate c.args.words.now rate = search rules in
    none rate is.rate_is
