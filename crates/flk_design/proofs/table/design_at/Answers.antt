use Rattle.std.proofs.Common.{◌≡◌, List, sym, subst, rules}
use Rattle.flk_cert.specs.declared.coefs.Coefs.{Coefs}
use Rattle.flk_num.specs.Rate.{sampling_interval}
use Rattle.flk_num.specs.declared.lamp.Lamp.{Lamp}
use Rattle.flk_num.specs.declared.rate.Rate.{Rate}
use Rattle.flk_num.specs.declared.rate.Rate.TheVariants.{R2400, R4800}
use Rattle.flk_design.specs.Lamp.{constants_of}
use Rattle.flk_design.specs.Design.{IsDesign}
use Rattle.flk_design.proofs.table.design_at.Goals as goal

-- a design at a rate is one at a rate that is the same
at_same : (lamp : Lamp) (rate same : Rate) (sections : List Coefs) → rate ≡ same
    → IsDesign (sampling_interval same) (constants_of lamp) sections
    → IsDesign (sampling_interval rate) (constants_of lamp) sections
at_same lamp rate same sections is design =
    subst (λ (r : Rate). IsDesign (sampling_interval r) (constants_of lamp) sections) (sym is) design

pub returns-in-R2400 : goal.returns-in-R2400
returns-in-R2400 c = at_same c.args.lamp c.args.rate R2400 _ c.in-R2400.is (search rules)

pub returns-in-R4800 : goal.returns-in-R4800
returns-in-R4800 c = at_same c.args.lamp c.args.rate R4800 _ c.in-R4800.is (search rules)
