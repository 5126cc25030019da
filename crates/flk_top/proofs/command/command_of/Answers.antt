use Rattle.std.proofs.Common.{rules}
use Rattle.flk_num.specs.declared.lamp.Lamp.{Lamp}
use Rattle.flk_num.specs.declared.rate.Rate.{Rate}
use Rattle.flk_top.specs.Command.{IsCheck, IsTables}
use Rattle.flk_top.proofs.WordCases.{NoLevels, NoReport, NoGen, no_command}
use Rattle.flk_top.proofs.command.command_of.Goals as goal

pub returns-in-None-clause-none : goal.returns-in-None-clause-none
returns-in-None-clause-none c =
    let words = c.args.words.now in
    let levels : NoLevels words = search rules in
    let check : ¬ IsCheck words = search rules in
    let tables : (lamp : Lamp) (rate : Rate) → ¬ IsTables words lamp rate = search rules in
    let report : NoReport words = search rules in
    let generated : NoGen words = search rules in
    no_command words levels check tables report generated
