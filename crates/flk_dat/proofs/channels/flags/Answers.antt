use Rattle.std.proofs.Common.{◌≡◌, ◌+◌, ◌++◌, ◌∷◌, [], ℕ, Bool, List, rules, sym, ap, ◌∙◌, arith}
use Rattle.std.proofs.lemmas.List.FromFn.{map-range_with_len_more}
use Rattle.flk_dat.specs.Records.{is_among}
use Rattle.flk_dat.proofs.channels.flags.Goals as goal

pub loop-i-preserved : goal.loop-i-preserved
loop-i-preserved c =
    let i = c.loop-i.i in
    let f : ℕ → Bool = λ k. is_among c.args.numbers.now (k + 1) in
    let items : c.push.new.self.items ≡ c.loop-i.flags.items ++ c.contains.result ∷ [] = search rules in
    let is : c.contains.result ≡ is_among c.args.numbers.now (i + 1) = search rules in
    items ∙ ap (λ (b : Bool). c.loop-i.flags.items ++ b ∷ []) is ∙ ap (λ (bs : List Bool). bs ++ is_among c.args.numbers.now (i + 1) ∷ []) c.loop-i.invariant ∙ sym (map-range_with_len_more f 0 i i (omega arith))
