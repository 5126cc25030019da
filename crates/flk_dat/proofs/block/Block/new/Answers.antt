use Rattle.std.proofs.Common.{length, refl, ap, ◌∙◌}
use Rattle.flk_dat.proofs.BlockLemmas.{no_rows}
use Rattle.flk_dat.proofs.block.Block.new.Goals as goal

pub returns : goal.returns
returns c =
    (record { analog = c.in_ok-new.ensures.analog ∙ ap length c.as_slice-analog.ensures; digital = c.in_ok-new.ensures.digital ∙ ap length c.as_slice-digital.ensures }, refl, no_rows c.in_ok-new.field-0)
