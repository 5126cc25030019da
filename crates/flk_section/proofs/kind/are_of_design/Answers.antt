use Rattle.std.proofs.Common.{rules, ◌≡◌, length, get_or, below_more, sym, subst, ◌∙◌, arith}
use Rattle.std.specs.Prelude.{IsTrue}
use Rattle.std.proofs.lemmas.List.{get_or_default}
use Rattle.flk_cert.specs.declared.coefs.Coefs.{Coefs}
use Rattle.flk_cert.specs.declared.gain.Gain.{Gain}
use Rattle.flk_cert.specs.Gain.{coefs_of}
use Rattle.flk_section.specs.declared.kind.SectionKind.{SectionKind}
use Rattle.flk_section.specs.Kinds.{IsOfKind, kind_at, IsKindAt}
use Rattle.flk_section.proofs.kind.are_of_design.Goals as goal

pub loop-i-preserved : goal.loop-i-preserved
loop-i-preserved c =
    let gains = c.args.gains.now in
    let i = c.loop-i.i in
    let g = c.index-gains-i.result in
    let seven : length gains ≡ 7 = search rules in
    let here : IsKindAt i (kind_at i) gains = λ d.
    let read : c.coefs.result ≡ coefs_of (get_or gains i d) = subst (λ (z : Gain). c.coefs.result ≡ coefs_of z) (get_or_default gains i g d (omega (arith, seven, c.loop-i-test.true))) c.coefs.ensures in
    let found : IsOfKind c.kind_of_section.result c.coefs.result = c.is_of_kind.ensures.0 c.if-not-is_of_kind.false in
    subst (λ (z : Coefs). IsOfKind (kind_at i) z) read (subst (λ (z : SectionKind). IsOfKind z c.coefs.result) c.kind_of_section.ensures found) in
    record { seen = below_more (λ j. IsKindAt j (kind_at j) gains) i c.loop-i.invariant.seen here }

pub returns-then-not-is_of_kind : goal.returns-then-not-is_of_kind
returns-then-not-is_of_kind c = (
  λ h. absurd (cc),
  λ all.
      let found : IsOfKind (kind_at c.loop-i.i) c.coefs.result = subst (λ (z : Coefs). IsOfKind (kind_at c.loop-i.i) z) (sym c.coefs.ensures) (all c.loop-i.i c.loop-i-test.true c.index-gains-i.result) in
      let is : IsTrue c.is_of_kind.result = c.is_of_kind.ensures.1 (subst (λ (z : SectionKind). IsOfKind z c.coefs.result) (sym c.kind_of_section.ensures) found) in
      sym c.if-not-is_of_kind.true ∙ is,
)

pub returns : goal.returns
returns c =
    let seen = c.loop-i.invariant.seen in
    (λ h i within. seen i (omega (arith, within, c.loop-i-test.false)), λ all. search rules)
