-- Filter sections in a row, exactly: the weighting filter of the flickermeter of IEC 61000-4-15 (its block 3) as a
-- chain of second-order difference equations over fractions. Lists have the newest value first.
use Rattle.std.specs.Prelude.{◌≡◌, Bool, true, false, List, [], ◌∷◌}
use Rattle.flk_exact.specs.Fraction.{Fraction}
use Rattle.flk_cert.specs.declared.coefs.Coefs.{Coefs}
use Rattle.flk_cert.specs.Section.{IsSection}
use Rattle.flk_design.specs.Lamp.{LampConstants}
use Rattle.flk_design.specs.Design.{IsDesign}

-- Each section's inputs are the outputs of the section before it. The first may start from one; the others start from
-- zeros.
abbrev pub AreSections : List Coefs → (from_one : Bool) → (xs ys : List Fraction) → Type 0
AreSections [] from_one xs ys = xs ≡ ys
AreSections (k ∷ ks) from_one xs ys = (zs : List Fraction) × IsSection k from_one xs zs × AreSections ks false zs ys

-- the cascade of these sections: its first section, the high-pass, starts from one
abbrev pub IsCascade : List Coefs → (xs ys : List Fraction) → Type 0
IsCascade ks xs ys = AreSections ks true xs ys

-- ws is the weighted signal of a lamp for the adaptor's outputs xs, where samples are T seconds apart: the output of
-- its digital sections
abbrev pub IsWeightedSignal : Fraction → LampConstants → (xs ws : List Fraction) → Type 0
IsWeightedSignal T c xs ws = (ks : List Coefs) × IsDesign T c ks × IsCascade ks xs ws
