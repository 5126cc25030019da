-- The cascade as the program runs it: sections with rounded products in a row. Values are whole numbers of units, which
-- are 2^-48 each. Lists have the newest value first. The rounding is the project's own.
use Rattle.std.specs.Prelude.{Bool, false, List, [], ◌∷◌, ℤ}
use Rattle.flk_cert.specs.declared.coefs.Coefs.{Coefs}
use Rattle.flk_cert.specs.RoundedSection.{state, output, outputs}

-- the last section's output for the input X after the inputs Xs
abbrev pub last_output : List Coefs → (from_one : Bool) → (Xs : List ℤ) → ℤ → ℤ
last_output [] from_one Xs X = X
last_output (k ∷ ks) from_one Xs X = last_output ks false (outputs k from_one Xs) (output k (state k from_one Xs) X)
