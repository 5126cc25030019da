use Rattle.std.proofs.Common.{arith}
use Rattle.flk_change.proofs.SteadyLemmas.{late_flag}
use Rattle.flk_change.proofs.steady.Steady.newest_flag.Goals as goal

pub returns-in-Some : goal.returns-in-Some
returns-in-Some c = λ window halves h some.
    late_flag window halves c.in-Some.extremes c.flag_of.result (omega (arith, c.if-self.false, h.same_window, h.count)) (c.in-Some.ensures.extremes window halves h) c.flag_of.ensures
