use Rattle.std.proofs.Common.{rules, ◌≡◌, ◌^◌, ◌≤◌, ℤ, pos, ◌*ℤ◌, FitsSigned, sym, ap, subst, ◌∙◌}
use Rattle.std.specs.Int.{w128}
use Rattle.std.proofs.lemmas.Int.{to_z-of_z}
use Rattle.flk_cert.specs.Row.{IsUpTo}
use Rattle.flk_section.specs.Chain.{chain_samples}
use Rattle.flk_section.proofs.OwningLemmas.{samples_product, IsSamplesProduct}
use Rattle.flk_section.proofs.chain.all_samples.Goals as goal

made : (c : goal.After-from) → IsSamplesProduct c.chain_samples.result c.args.signals
made c =
    let small : c.chain_samples.result ≤ 4097 = search rules in
    samples_product c.chain_samples.result c.args.signals small c.requires

from_is : (c : goal.After-from) → c.from.result ≡ pos c.chain_samples.result
from_is c = search rules

pub overflow_mul-result : goal.overflow_mul-result
overflow_mul-result c =
    let m = made c in
    let e = from_is c in
    let is : FitsSigned w128 (c.from.result *ℤ c.args.signals) = subst (λ (z : ℤ). FitsSigned w128 (z *ℤ c.args.signals)) (sym e) m.fits in
    let f : FitsSigned w128 c.args.signals = search rules in
    let g : FitsSigned w128 c.from.result = search rules in
    simp to_z-of_z is

pub returns-clause-value : goal.returns-clause-value
returns-clause-value c =
    let m = made c in
    let e = from_is c in
    let f : FitsSigned w128 c.args.signals = search rules in
    let g : FitsSigned w128 c.from.result = search rules in
    let h : FitsSigned w128 (c.from.result *ℤ c.args.signals) = subst (λ (z : ℤ). FitsSigned w128 (z *ℤ c.args.signals)) (sym e) m.fits in
    let is : c.from.result *ℤ c.args.signals ≡ pos chain_samples *ℤ c.args.signals = ap (λ (z : ℤ). z *ℤ c.args.signals) (e ∙ ap pos c.chain_samples.ensures.value) in
    simp to_z-of_z is

pub returns-clause-range : goal.returns-clause-range
returns-clause-range c =
    let m = made c in
    let e = from_is c in
    let f : FitsSigned w128 c.args.signals = search rules in
    let g : FitsSigned w128 c.from.result = search rules in
    let h : FitsSigned w128 (c.from.result *ℤ c.args.signals) = subst (λ (z : ℤ). FitsSigned w128 (z *ℤ c.args.signals)) (sym e) m.fits in
    let is : IsUpTo (2 ^ 111) (c.from.result *ℤ c.args.signals) = subst (λ (z : ℤ). IsUpTo (2 ^ 111) (z *ℤ c.args.signals)) (sym e) m.range in
    simp to_z-of_z is
