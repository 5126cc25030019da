use Rattle.std.proofs.Common.{rules, ◌≡◌, length, sym, ◌∙◌}
use Rattle.flk_section.specs.RowSection.{gain_of}
use Rattle.flk_section.proofs.RowLemmas.{seven}
use Rattle.flk_section.proofs.cascade.sections_of.Goals as goal

pub returns-clause-gains : goal.returns-clause-gains
returns-clause-gains c =
    let n : length c.args.gains ≡ 7 = search rules in
    let held = seven c.args.gains c.index-gains-0.result c.index-gains-1.result c.index-gains-2.result c.index-gains-3.result c.index-gains-4.result c.index-gains-5.result
    c.index-gains-6.result n c.index-gains-0.is c.index-gains-1.is c.index-gains-2.is c.index-gains-3.is c.index-gains-4.is c.index-gains-5.is c.index-gains-6.is in
    let g0 : gain_of c.new.result ≡ c.index-gains-0.result = c.new.ensures.gain ∙ sym c.index-gains-0.is in
    let g1 : gain_of c.new-2.result ≡ c.index-gains-1.result = c.new-2.ensures.gain ∙ sym c.index-gains-1.is in
    let g2 : gain_of c.new-3.result ≡ c.index-gains-2.result = c.new-3.ensures.gain ∙ sym c.index-gains-2.is in
    let g3 : gain_of c.new-4.result ≡ c.index-gains-3.result = c.new-4.ensures.gain ∙ sym c.index-gains-3.is in
    let g4 : gain_of c.new-5.result ≡ c.index-gains-4.result = c.new-5.ensures.gain ∙ sym c.index-gains-4.is in
    let g5 : gain_of c.new-6.result ≡ c.index-gains-5.result = c.new-6.ensures.gain ∙ sym c.index-gains-5.is in
    let g6 : gain_of c.new-7.result ≡ c.index-gains-6.result = c.new-7.ensures.gain ∙ sym c.index-gains-6.is in
    cc
