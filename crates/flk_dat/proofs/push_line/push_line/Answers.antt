use Rattle.std.proofs.Common.{◌≡◌, ◌++◌, ◌∷◌, ℕ, Option, ap, ◌∙◌}
use Rattle.std.specs.Fmt.{decimal}
use Rattle.flk_dat.specs.Records.{record_at}
use Rattle.flk_dat.specs.Written.{stamp_text}
use Rattle.flk_dat.proofs.WrittenText.{line_pushed}
use Rattle.flk_dat.proofs.push_line.push_line.Goals as goal

pub returns : goal.returns
returns c =
    let r = record_at c.args.block.now.records c.args.row in
    let number : c.push_whole.new.out.items ≡ c.args.out.now.items ++ decimal r.number = c.push_whole.ensures.text ∙ ap (λ (n : ℕ). c.args.out.now.items ++ decimal n) (c.from.ensures ∙ c.number.ensures.number) in
    let stamp : c.push_stamp.new.out.items ≡ c.push_whole.new.out.items ++ (44 ∷ stamp_text r.stamp) =
    c.push_stamp.ensures.text ∙ ap (λ (s : Option ℕ). c.push_whole.new.out.items ++ (44 ∷ stamp_text s)) c.stamp.ensures in
    line_pushed c.args.out.now.items c.push_whole.new.out.items c.push_stamp.new.out.items c.push_values.new.out.items c.push_bits.new.out.items c.push_reserved.new.self.items c.push_reserved-2.new.self.items r
    number stamp c.push_values.ensures.text c.push_bits.ensures.text c.push_reserved.ensures.items c.push_reserved-2.ensures.items
