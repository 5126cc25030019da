-- The lines between those of the channels and the last one, as the reader takes them. Contracts of private functions
-- cite this file.
use Rattle.std.specs.Prelude.{ℕ, ◌+◌, List, [], get_or}
use Rattle.flk_field.specs.Sets.{Set}
use Rattle.flk_cfg.specs.Table.{setting_rows}
use Rattle.flk_cfg.specs.Rows.{IsLineFrequency, IsOneRate, IsSampling, IsStamp, IsFileType}
use Rattle.flk_cfg.specs.Places.{HasLine}
use Rattle.flk_cfg.specs.declared.settings.Settings.{Settings}

-- the row of the i-th of these lines
abbrev pub setting_at : ℕ → List Set
setting_at i = get_or setting_rows i []

pub record AreSettingLines (bytes : List ℕ) (k : ℕ) (s : Settings) : Type 0 where
  pub frequency : HasLine bytes k (λ parts. IsLineFrequency parts s.lf.n)
  pub rates : HasLine bytes (k + 1) IsOneRate
  pub sampling : HasLine bytes (k + 2) (λ parts. IsSampling parts s.rate s.endsamp)
  pub first : HasLine bytes (k + 3) (λ parts. IsStamp parts s.first)
  pub trigger : HasLine bytes (k + 4) (λ parts. IsStamp parts s.trigger)
  pub file_type : HasLine bytes (k + 5) (λ parts. IsFileType parts s.form)
