-- The configuration with which a line is written, and the length of the line.
use Rattle.std.proofs.Common.{◌≡◌, ℕ, ◌+◌, ◌≤◌, List, ◌++◌, length, ℤ, Result, Ok, Err, OnOk, sym, ap, subst, arith, length-append}
use Rattle.std.specs.Prelude.{All}
use Rattle.flk_cfg.specs.Valid.{IsValid}
use Rattle.flk_cfg.specs.declared.config.Config.{Config}
use Rattle.flk_field.specs.declared.form.Form.TheVariants.{Ascii}
use Rattle.flk_dat.specs.Written.{written_record}
use Rattle.flk_gen.specs.Recording.{recorded, IsGenerated}
use Rattle.flk_gen.proofs.ConfigurationLemmas.{generated_valid}
use Rattle.flk_gen.proofs.RecordingLemmas.{IsSmall, recorded_short}

pub is_valid : (c : Config) → IsGenerated c → IsValid c
is_valid c is = subst IsValid (sym is.3) (generated_valid is.0 is.1 is.2)

pub line_short : {E : Type 0} (r : Result (Unit {0}) E) (old new : List ℕ) (before after place : ℕ) (zs : List ℤ)
    → OnOk r (new ≡ old ++ written_record Ascii (recorded place zs)) → before ≡ length old → after ≡ length new
    → place ≤ 19200000 → length zs ≡ 3 → All IsSmall zs → OnOk r (after ≤ before + 64)
line_short (Ok u) old new before after place zs text first last few three small =
    omega (arith, ap length text, length-append old (written_record Ascii (recorded place zs)), recorded_short place zs few three small, first, last)
line_short (Err e) old new before after place zs text first last few three small = text
