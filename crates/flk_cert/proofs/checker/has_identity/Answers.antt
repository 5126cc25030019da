use Rattle.std.proofs.Common.{◌↔◌, ◌<◌, length, IsTrue, subst, arith}
use Rattle.flk_cert.specs.declared.certificate.CertRow.{CertRow}
use Rattle.flk_cert.specs.Certificate.{IsCombined, row_at}
use Rattle.flk_cert.proofs.CheckLemmas.{combined_is_identity}
use Rattle.flk_cert.proofs.checker.has_identity.Goals as goal

pub returns-else-rows-eq1 : goal.returns-else-rows-eq1
returns-else-rows-eq1 c =
    let k = c.args.k.now in
    let rows = c.args.rows.now in
    let more : 1 < length rows = omega (arith, c.requires.within, c.if-rows-eq1.false) in
    let first = subst (λ (r : CertRow). IsTrue c.is_combined.result ↔ IsCombined k r c.row_at.result) c.row_at-row.ensures c.is_combined.ensures in
    let both = subst (λ (n : CertRow). IsTrue c.is_combined.result ↔ IsCombined k (row_at rows c.args.i) n) c.row_at.ensures first in
    let same = combined_is_identity k rows c.args.i more in
    (λ t. same.1 (both.0 t), λ h. both.1 (same.0 h))
