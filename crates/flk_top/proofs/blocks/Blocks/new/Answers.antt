use Rattle.std.proofs.Common.{arith, refl, [], rules}
use Rattle.flk_top.proofs.blocks.Blocks.new.Goals as goal

pub returns-clause-nothing : goal.returns-clause-nothing
returns-clause-nothing c =
    let block = c.in_ok-empty_block.ensures in
    record {
      fed = [];
      bytes_are = refl;
      stands = c.in_ok-new.ensures.stands;
      count = refl;
      layout_is = c.in_ok-new.ensures.layout;
      few = omega (arith, c.requires.endsamp_most);
      fits = c.in_ok-new.ensures.fits _ block.columns;
      some = omega (arith, block.room, c.requires.endsamp_some);
      in_order = omega arith;
      in_piece = omega arith;
      size = search rules;
    }
