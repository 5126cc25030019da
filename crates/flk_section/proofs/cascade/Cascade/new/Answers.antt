use Rattle.std.proofs.Common.{rules, ◌≡◌, pos, FitsSigned, sym, subst, ◌∙◌, arith}
use Rattle.std.specs.Int.{w128}
use Rattle.std.proofs.lemmas.Int.{ints, to_z-of_z}
use Rattle.flk_section.specs.Radius.{FirstStartsAtRest}
use Rattle.flk_section.specs.Filter.{last_radius}
use Rattle.flk_section.specs.Kinds.{AreOfDesign}
use Rattle.flk_section.specs.Whole.{numbers_of}
use Rattle.flk_section.proofs.ReachedLemmas.{whole_start, reached_first}
use Rattle.flk_section.proofs.cascade.Cascade.new.Goals as goal

pub sections_of-requires : goal.sections_of-requires
sections_of-requires c = subst FirstStartsAtRest (sym c.gains-gains.ensures) (whole_start c.args.whole)

pub invariant_of-result : goal.invariant_of-result
invariant_of-result c =
    let w = c.args.whole in
    let fits : FitsSigned w128 c.last_radius.result = search rules in
    let follows : c.last_radius.result ≡ last_radius (numbers_of w) (pos 0) = search rules in
    record {
      design = λ h. ∣ subst AreOfDesign c.gains-gains.ensures (c.are_of_design.ensures.0 h) ∣₁;
      greatest_low = omega (arith, ints);
      greatest_high = omega (arith, ints);
      follows = simp to_z-of_z follows;
      reached = reached_first w c.sections_of.result (c.sections_of.ensures.gains ∙ c.gains-gains.ensures) c.sections_of.ensures.stand;
    }
