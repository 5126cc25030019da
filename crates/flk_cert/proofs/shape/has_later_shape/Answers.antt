use Rattle.std.proofs.Common.{rules, ◌≡◌, ◌↔◌, ℕ, ◌^◌, pos, neg_ℤ, IsTrue, sym, subst, arith}
use Rattle.flk_cert.specs.declared.certificate.CertRow.{CertRow}
use Rattle.flk_cert.specs.Certificate.{HasRanges, HasForm, row_at}
use Rattle.flk_cert.proofs.CheckLemmas.{second_shape}
use Rattle.flk_cert.proofs.shape.has_later_shape.Goals as goal

pub returns-else-i-gt1 : goal.returns-else-i-gt1
returns-else-i-gt1 c =
    let k = c.args.k.now in
    let rows = c.args.rows.now in
    let one : c.args.i ≡ 1 = omega (arith, c.requires.later, c.if-i-gt1.false) in
    let row : c.row_at-row.result ≡ row_at rows c.args.i = c.row_at-row.ensures in
    let range : HasRanges c.row_at-row.result = search rules in
    let form : IsTrue c.has_form.result ↔ HasForm (neg_ℤ k.a1) (pos (2 ^ 32)) c.row_at-row.result = search rules in (
      λ t.
          second_shape k rows c.args.i one (subst (λ (r : CertRow). HasRanges r) row range) (subst (λ (r : CertRow). HasForm (neg_ℤ k.a1) (pos (2 ^ 32)) r) row (form.0 t)),
      λ s.
          let at_one = s.row_1 one (omega (arith, c.requires.within, one)) in
          let at_i = subst (λ (n : ℕ). HasForm (neg_ℤ k.a1) (pos (2 ^ 32)) (row_at rows n)) (sym one) at_one in
          form.1 (subst (λ (r : CertRow). HasForm (neg_ℤ k.a1) (pos (2 ^ 32)) r) (sym row) at_i),
    )
