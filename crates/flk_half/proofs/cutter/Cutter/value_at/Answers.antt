use Rattle.std.proofs.Common.{arith, rules, refl, ◌/◌, pos}
use Rattle.flk_exact.specs.Rounding.{IsRootFloor}
use Rattle.flk_half.proofs.CutterLemmas.{compared_value, root_value}
use Rattle.flk_half.proofs.cutter.Cutter.value_at.Goals as goal

pub returns-then-is_root : goal.returns-then-is_root
returns-then-is_root c =
    let limit = c.squared_billionths-limit in
    let compared = c.if-is_root.ensures.0 refl in
    let value = compared_value c.args.self.now.half c.args.sum limit.result c.guess-root.result
    limit.ensures compared.0 compared.1 in
    search rules

pub returns : goal.returns
returns c =
    let s = c.args.self.now in
    let limit = c.squared_billionths-limit in
    let root : IsRootFloor (pos (limit.result / s.half)) c.root_floor.result = search rules in
    let value = root_value s.half c.args.sum limit.result _ c.root_floor.result (omega arith) limit.ensures refl root in
    search rules
