use Rattle.std.proofs.Common.{rules, ◌≡◌, length, sym, ◌∙◌}
use Rattle.std.specs.List.{AllZip}
use Rattle.flk_exact.proofs.ListLemmas.{AllZip-length}
use Rattle.flk_top.specs.Certified.{IsCertifiedSection}
use Rattle.flk_top.proofs.certified.certify_lamp.Goals as goal

pub gains_of-requires : goal.gains_of-requires
gains_of-requires c =
    let all : AllZip IsCertifiedSection c.design_at.result c.in_ok-sections.sections.items = search rules in
    let seven : length c.design_at.result ≡ 7 = search rules in
    let value : c.as_slice.result.now ≡ c.in_ok-sections.sections.items = search rules in
    rw value (sym (AllZip-length IsCertifiedSection c.design_at.result c.in_ok-sections.sections.items all) ∙ seven)
