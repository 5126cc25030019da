use Rattle.std.proofs.Common.{refl}
use Rattle.flk_change.proofs.PassLemmas.{hulls_end}
use Rattle.flk_change.proofs.pass.with_open.Goals as goal

pub returns : goal.returns
returns c = λ window flags h.
    let more = c.with_change.ensures in
    hulls_end window c.args.halves.now flags c.args.pass _ c.swings_of.result c.with_change.result h refl refl c.swings_of.ensures
    record { dc_low = more.dc_low; dc_high = more.dc_high; dmax_low = more.dmax_low; dmax_high = more.dmax_high; t_low = more.t_low; t_high = more.t_high }
