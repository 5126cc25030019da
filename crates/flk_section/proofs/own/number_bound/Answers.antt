use Rattle.std.proofs.Common.{rules, ◌≡◌, pos}
use Rattle.std.specs.Int.RustNames.{unsigned_abs}
use Rattle.flk_section.proofs.OwningLemmas.{product_up_to}
use Rattle.flk_section.proofs.own.number_bound.Goals as goal

pub returns-clause-range : goal.returns-clause-range
returns-clause-range c =
    let size = c.abs-size.result in
    let is : size ≡ pos (unsigned_abs c.args.number) = search rules in
    let x = product_up_to size c.args.b.input c.args.number is c.requires.number c.requires.bound.input in
    let y = product_up_to size c.args.b.rounding c.args.number is c.requires.number c.requires.bound.rounding in
    record { input = x; rounding = y }
