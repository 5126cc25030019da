use Rattle.std.proofs.Common.{◌≡◌, ◌≤◌, ◌^◌, rules, arith}
use Rattle.std.specs.Prelude.{unsigned_abs}
use Rattle.flk_cfg.proofs.ValidLemmas.{in_set}
use Rattle.flk_cfg.proofs.valid.is_value.Goals as goal

pub returns-then-units-le-GREATEST : goal.returns-then-units-le-GREATEST
returns-then-units-le-GREATEST c =
    let u = c.unsigned_abs-units.result in
    let is : u ≡ unsigned_abs c.args.value.n = search rules in
    let few : u ≤ 10 ^ 36 = omega (arith, c.if-units-le-GREATEST.true) in
    rw (← is) (in_set u c.is_short.result few c.is_short.ensures.short c.is_short.ensures.long)
