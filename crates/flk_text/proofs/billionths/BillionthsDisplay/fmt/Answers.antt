use Rattle.std.proofs.Common.{◌≡◌, ℕ, List, ◌++◌, ◌∷◌, ◌/◌, ◌%◌, ◌^◌, subst}
use Rattle.std.specs.Fmt.{HasWritten, decimal, styled_decimal}
use Rattle.flk_text.specs.Billionths.{billionths}
use Rattle.flk_text.proofs.BillionthsLemmas.{billionths_written}
use Rattle.flk_text.proofs.billionths.BillionthsDisplay.fmt.Goals as goal

pub returns-clause-writes : goal.returns-clause-writes
returns-clause-writes g c = λ plain ok.
    let n = c.args.self.now.0 in
    let text : decimal (n / 10 ^ 9) ++ (46 ∷ styled_decimal c.laid_out.result (n % 10 ^ 9)) ≡ billionths n = rw c.laid_out.ensures (billionths_written n) in
    let P : List ℕ → Type 0 = λ bytes. HasWritten g.W.Write.write_str_gives c.args.f.now bytes c.write.new.self in
    subst P text (c.write.ensures.writes plain ok)
