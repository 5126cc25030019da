use Rattle.std.proofs.Common.{Bool, false}
use Rattle.std.specs.Prelude.{IsTrue}
use Rattle.flk_section.specs.Kinds.{AreOfDesign}
use Rattle.flk_section.specs.Whole.{gains_of}
use Rattle.flk_section.proofs.tests.of_any_kind.Goals as goal

never : (A : Type 0) → IsTrue false → A
never A h = absurd (cc)

pub invariant_of-any : goal.invariant_of-any
invariant_of-any c =
    let k = c.args.cascade.now in
    record {
      design = never ∥ AreOfDesign (gains_of k.whole) ∥₁;
      greatest_low = k.greatest_low;
      greatest_high = k.greatest_high;
      follows = k.follows;
      reached = k.reached;
    }
