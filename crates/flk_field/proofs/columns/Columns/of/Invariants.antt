use Rattle.std.proofs.Common.{◌≡◌, ◌++◌, map, take, length}
use Rattle.flk_text.specs.Fields.{fields}
use Rattle.flk_field.proofs.columns.Columns.of.Given as goal

abbrev pub invariant-loop-place : goal.invariant-loop-place
invariant-loop-place l = record { taken : fields l.line ≡ take l.place (map (λ p. p.now) l.parts) ++ l.left; size : length l.parts ≡ 13 }
