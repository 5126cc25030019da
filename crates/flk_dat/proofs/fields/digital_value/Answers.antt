use Rattle.std.proofs.Common.{ℕ, zero, suc, cond, eqb, List, arith}
use Rattle.flk_field.specs.Values.{IsWholeFrom}
use Rattle.flk_dat.proofs.fields.digital_value.Goals as goal

bit_is : (f : List ℕ) (n : ℕ) → IsWholeFrom 0 1 f n → IsWholeFrom 0 1 f (cond (eqb n 1) 1 0)
bit_is f zero is = is
bit_is f (suc zero) is = is
bit_is f (suc (suc n)) is = absurd (omega (arith, is.at_most))

pub returns-in-Ok : goal.returns-in-Ok
returns-in-Ok c = λ field answer. bit_is field c.in-Ok.value (c.in-Ok.ensures.value field answer)
