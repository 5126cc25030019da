-- What the code keeps while it makes a certificate.
use Rattle.std.specs.Prelude.{◌≡◌, ◌⊎◌, ◌↔◌, IsTrue, Bool, ℕ, ◌+◌, ◌*◌, ◌^◌, ◌<◌, ◌≤◌, List, length, sum_by}
use Rattle.std.specs.List.{All}
use Rattle.std.specs.Int.RustNames.{unsigned_abs}
use Rattle.flk_cert.specs.declared.coefs.Coefs.{Coefs}
use Rattle.flk_cert.specs.declared.certificate.CertRow.{CertRow}
use Rattle.flk_cert.specs.declared.row.Form.{Form}
use Rattle.flk_cert.specs.Make.{form_of, last_row, inner_rows, rows_of, weight, IsContracted, IsLarge, MayEnd, IsCount}

-- a row whose numbers are small enough for its bounds
pub record IsLightRow (r : CertRow) : Type 0 where
  pub x : unsigned_abs r.x < 2 ^ 44
  pub y : unsigned_abs r.y < 2 ^ 44
  pub weight : weight r ≤ 2 ^ 58

-- the rows may end with one more row, of this form, after so many that have this weight
abbrev pub MayEndWith : Coefs → ℕ → Form → ℕ → Type 0
MayEndWith k before f taken = (taken + weight (last_row k f) ≤ 2 ^ 58) ⊎ (IsLarge f ⊎ (before ≡ 4095))

-- the rows so far, of which none is the last, the form of the next row, and the weight of the rows so far
pub record IsBegun (k : Coefs) (rows : List CertRow) (f : Form) (taken : ℕ) : Type 0 where
  pub few : length rows ≤ 4095
  pub inner : rows ≡ inner_rows k (length rows)
  pub form : f ≡ form_of k (length rows)
  pub weighs : taken ≡ sum_by weight rows
  pub light : taken ≤ length rows * 2 ^ 32
  pub x : unsigned_abs f.x ≤ 2 ^ 46
  pub y : unsigned_abs f.y < 2 ^ 44
  pub narrow : All IsLightRow rows
  pub going : (n : ℕ) → 2 ≤ n → n ≤ length rows → ¬ MayEnd k n

-- all rows, with no bounds, and whether they are contracted
pub record IsPlain (k : Coefs) (rows : List CertRow) (contracted : Bool) : Type 0 where
  pub few : length rows ≤ 4096
  pub all : rows ≡ rows_of k (length rows)
  pub count : IsCount k (length rows)
  pub says : IsTrue contracted ↔ IsContracted k (length rows)
  pub narrow : IsTrue contracted → All IsLightRow rows
