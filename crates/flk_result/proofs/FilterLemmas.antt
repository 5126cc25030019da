-- The lamp and the rate alone decide the numbers of a certified filter.
use Rattle.std.proofs.Common.{◌≡◌, List, sym, subst, ◌∙◌}
use Rattle.flk_num.specs.declared.lamp.Lamp.{Lamp}
use Rattle.flk_num.specs.declared.rate.Rate.{Rate}
use Rattle.flk_num.specs.Rate.{sampling_interval}
use Rattle.flk_cert.specs.declared.coefs.Coefs.{Coefs}
use Rattle.flk_design.specs.Lamp.{constants_of}
use Rattle.flk_design.specs.Design.{IsDesign}
use Rattle.flk_design.proofs.DesignLemmas.{design_unique}
use Rattle.flk_section.specs.declared.whole.Whole.{Whole}
use Rattle.flk_section.specs.Whole.{AreCertified}
use Rattle.flk_section.proofs.WholeLemmas.{certified_filter}
use Rattle.flk_result.specs.Conditions.{Conditions}
use Rattle.flk_result.specs.Promise.{IsCertifiedFilterOf}

pub filter_unique : (c d : Conditions) (w v : Whole) → c.lamp ≡ d.lamp → c.rate ≡ d.rate → IsCertifiedFilterOf c w → IsCertifiedFilterOf d v → c.filter ≡ d.filter
filter_unique c d w v lamp rate a b =
    let first : IsDesign (sampling_interval c.rate) (constants_of d.lamp) c.filter.coefs =
    subst (λ (l : Lamp). IsDesign (sampling_interval c.rate) (constants_of l) c.filter.coefs) lamp a.filter.design in
    let there : IsDesign (sampling_interval d.rate) (constants_of d.lamp) c.filter.coefs =
    subst (λ (r : Rate). IsDesign (sampling_interval r) (constants_of d.lamp) c.filter.coefs) rate first in
    let sections : d.filter.coefs ≡ c.filter.coefs = design_unique (sampling_interval d.rate) (constants_of d.lamp) d.filter.coefs c.filter.coefs b.filter.design there in
    let certified : AreCertified c.filter.coefs b.gains = subst (λ (ks : List Coefs). AreCertified ks b.gains) sections b.certified in
    sym a.filter.numbers ∙ certified_filter c.filter.coefs a.gains b.gains w v a.certified certified a.whole b.whole ∙ b.filter.numbers
