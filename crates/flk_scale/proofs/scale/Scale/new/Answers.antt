use Rattle.std.proofs.Common.{rules, ◌≡◌, ◌∙◌, ap, List, ℕ, to_z, of_z}
use Rattle.std.specs.Int.{w128}
use Rattle.flk_scale.specs.Voltage.{microvolts_in}
use Rattle.flk_scale.specs.Unit.{microvolts}
use Rattle.flk_scale.proofs.ScaleLemmas.{line_made}
use Rattle.flk_scale.proofs.scale.Scale.new.Goals as goal

pub returns-clause-scale : goal.returns-clause-scale
returns-clause-scale c =
    let channel = c.args.channel.now in
    let unit : microvolts c.in-Some.unit ≡ microvolts_in channel.uu = c.in-Some.ensures.some.1 ∙ ap (λ (t : List ℕ). microvolts_in t) c.as_slice.ensures in
    let is_a : to_z w128 (of_z w128 channel.a.n) ≡ channel.a.n = search rules in
    let is_b : to_z w128 (of_z w128 channel.b.n) ≡ channel.b.n = search rules in
    record {
      voltage = λ x. c.made.ensures.voltage x ∙ line_made _ _ _ _ x _ _ is_a is_b unit;
      nominal = search rules;
      uncertainty = search rules;
    }
