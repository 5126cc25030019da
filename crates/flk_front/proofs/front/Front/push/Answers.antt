use Rattle.std.proofs.Common.{arith, rules, ◌≤◌}
use Rattle.flk_front.specs.Rounded.{newest_output, IsPoint}
use Rattle.flk_front.proofs.EnclosureLemmas.{point_encloses}
use Rattle.flk_front.proofs.WidthLemmas.{point_is_narrow}
use Rattle.flk_front.proofs.front.Front.push.Goals as goal

pub returns-clause-enclosure : goal.returns-clause-enclosure
returns-clause-enclosure c = λ vs us means ys y stands held adapted.
    let point : IsPoint (newest_output c.args.self.now.exponent vs c.args.v) c.point_of.result = search rules in
    point_encloses c.args.self.now.exponent vs c.args.v us means ys y c.point_of.result (omega (arith, c.args.self.now.exponent_low)) held adapted point

pub returns-clause-width : goal.returns-clause-width
returns-clause-width c = λ vs us means ys delta a r w stands adapted close covers.
    let point : IsPoint (newest_output c.args.self.now.exponent vs c.args.v) c.point_of.result = search rules in
    let order : (newest_output c.args.self.now.exponent vs c.args.v).lo ≤ (newest_output c.args.self.now.exponent vs c.args.v).hi = search rules in
    point_is_narrow c.args.self.now.exponent vs c.args.v us means ys delta a r w c.point_of.result (omega (arith, c.args.self.now.exponent_low)) (omega (arith, c.args.self.now.exponent_high)) adapted close covers point order
