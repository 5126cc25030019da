-- The certificate that is made for a section. Its rules are the project's own.
--
-- The form of row 0 is the error of the first state. Each later form is what one sample makes of the form before it,
-- rounded down to whole numbers. What the rounding leaves is `c` over 2^64 times the form of row 0; what is cut off
-- after the last row is `c` over 2^64 times the form of row 0 and `d` over 2^64 times that of row 1. Where all `c` and
-- `d` together are small, the errors stay bounded.
use Rattle.std.specs.Prelude.{◌≡◌, ◌⊎◌, ℕ, zero, suc, ◌+◌, ◌-◌, ◌*◌, ◌^◌, ◌<◌, ◌≤◌, List, [], ◌∷◌, ◌++◌, length, sum_by, ℤ, pos, neg_ℤ, ◌+ℤ◌, ◌-ℤ◌, ◌*ℤ◌, ◌≤ℤ◌}
use Rattle.std.specs.Int.RustNames.{unsigned_abs}
use Rattle.flk_exact.specs.Rounding.{floor_of, ceil_of}
use Rattle.flk_cert.specs.declared.coefs.Coefs.{Coefs}
use Rattle.flk_cert.specs.declared.certificate.CertRow.{CertRow}
use Rattle.flk_cert.specs.declared.row.Form.{Form}
use Rattle.flk_cert.specs.Row.{fed_back, input_share, rounding_share}

-- ---- the rows

-- the form of the row after this form's
abbrev pub next_form : Coefs → Form → Form
next_form k f = record { x = floor_of (fed_back k f.x f.y) (pos (2 ^ 32)); y = f.x }

-- the form of a row: that of row 0 is (2^32, 0), and so that of row 1 is (-a1, 2^32)
abbrev pub form_of : Coefs → ℕ → Form
form_of k zero = record { x = pos (2 ^ 32); y = pos 0 }
form_of k (suc i) = next_form k (form_of k i)

-- a row that another row follows, and the last row, with their bounds g and h still 0
abbrev pub inner_row : Coefs → Form → CertRow
inner_row k f = record {
  x = f.x;
  y = f.y;
  c = fed_back k f.x f.y
      -ℤ pos (2 ^ 32) *ℤ (next_form k f).x;
  d = pos 0;
  g = pos 0;
  h = pos 0;
}

abbrev pub last_row : Coefs → Form → CertRow
last_row k f = record { x = f.x; y = f.y; c = neg_ℤ (k.a2 *ℤ f.y); d = pos (2 ^ 32) *ℤ f.x; g = pos 0; h = pos 0 }

-- so many rows that another row follows
abbrev pub inner_rows : Coefs → ℕ → List CertRow
inner_rows k zero = []
inner_rows k (suc i) = inner_rows k i ++ inner_row k (form_of k i) ∷ []

-- so many rows, one at least: inner rows, and the last
abbrev pub rows_of : Coefs → ℕ → List CertRow
rows_of k count = inner_rows k (count - 1) ++ last_row k (form_of k (count - 1)) ∷ []

-- ---- how many rows

-- how much of the forms of rows 0 and 1 a row takes up
abbrev pub weight : CertRow → ℕ
weight r = unsigned_abs r.c + unsigned_abs r.d

-- so many rows take up at most a 64th: `|c| + |d|` is over 2^64
abbrev pub IsContracted : Coefs → ℕ → Type 0
IsContracted k count = 64 * sum_by weight (rows_of k count) ≤ 2 ^ 64

-- the form has a number of 2^44 or more in size
abbrev pub IsLarge : Form → Type 0
IsLarge f = (2 ^ 44 ≤ unsigned_abs f.x) ⊎ (2 ^ 44 ≤ unsigned_abs f.y)

-- the rows may end after so many
abbrev pub MayEnd : Coefs → ℕ → Type 0
MayEnd k count = IsContracted k count ⊎ (IsLarge (form_of k (count - 1)) ⊎ (count ≡ 4096))

-- the least number of rows, from 2 on, after which they may end
pub record IsCount (k : Coefs) (count : ℕ) : Type 0 where
  pub from_two : 2 ≤ count
  pub ends : MayEnd k count
  pub least : (n : ℕ) → 2 ≤ n → n < count → ¬ MayEnd k n

-- ---- the bounds g by the input's share and h by the share of rounding

abbrev pub input_share_at : Coefs → CertRow → ℕ
input_share_at k r = input_share k r.x r.y

abbrev pub rounding_share_at : Coefs → CertRow → ℕ
rounding_share_at k r = rounding_share k r.x r.y

-- the sum of the rows' shares over 2^64, each rounded up
abbrev pub total_share : (CertRow → ℕ) → List CertRow → ℤ
total_share share [] = pos 0
total_share share (r ∷ rs) = ceil_of (pos (share r)) (pos (2 ^ 64)) +ℤ total_share share rs

-- what stands for the bounds of rows 0 and 1 in what a row adds: 64/63 of the total share with one for each row
abbrev pub limit : (CertRow → ℕ) → List CertRow → ℤ
limit share rows = ceil_of (pos 64 *ℤ (total_share share rows +ℤ pos (length rows))) (pos 63)

-- the bound of the first of the rows that are left: the sum, over these rows, of what each adds
abbrev pub bound : (CertRow → ℕ) → ℤ → List CertRow → ℤ
bound share most [] = pos 0
bound share most (r ∷ rs) = ceil_of (pos (weight r) *ℤ most +ℤ pos (share r)) (pos (2 ^ 64)) +ℤ bound share most rs

-- the rows that are left with their bounds, each by the rows from it on
abbrev pub bounded_by : Coefs → ℤ → ℤ → List CertRow → List CertRow
bounded_by k input rounding [] = []
bounded_by k input rounding (r ∷ rs) =
    record r { g = bound (input_share_at k) input (r ∷ rs); h = bound (rounding_share_at k) rounding (r ∷ rs) }
    ∷ bounded_by k input rounding rs

-- the rows with their bounds
abbrev pub bounded : Coefs → List CertRow → List CertRow
bounded k rows = bounded_by k (limit (input_share_at k) rows) (limit (rounding_share_at k) rows) rows

-- ---- the certificate

-- the section is of first order
pub record IsFirstOrder (k : Coefs) : Type 0 where
  pub b2 : k.b2 ≡ pos 0
  pub a2 : k.a2 ≡ pos 0

-- g meets the condition of the one row of a certificate: `|c| * g + share <= 2^64 * g`
abbrev pub IsMet : ℤ → ℕ → ℤ → Type 0
IsMet c share g = (pos (unsigned_abs c) *ℤ g +ℤ pos share) ≤ℤ (pos (2 ^ 64) *ℤ g)

-- g is the least whole number that meets it, or 0 where `|c|` is too large
pub record IsOneBound (c : ℤ) (share : ℕ) (g : ℤ) : Type 0 where
  pub met : unsigned_abs c < 2 ^ 64 → IsMet c share g
  pub least : unsigned_abs c < 2 ^ 64 → (z : ℤ) → IsMet c share z → g ≤ℤ z
  pub none : 2 ^ 64 ≤ unsigned_abs c → g ≡ pos 0

-- the one row of a section of first order, with its bounds g and h still 0
abbrev pub one_plain : Coefs → CertRow
one_plain k = record { x = pos (2 ^ 32); y = pos 0; c = neg_ℤ (pos (2 ^ 32) *ℤ k.a1); d = pos 0; g = pos 0; h = pos 0 }

-- the same with its bounds
pub record IsOneRow (k : Coefs) (r : CertRow) : Type 0 where
  pub plain : r ≡ record (one_plain k) { g = r.g; h = r.h }
  pub g : IsOneBound r.c (input_share_at k r) r.g
  pub h : IsOneBound r.c (rounding_share_at k r) r.h

-- the rows are those of the certificate that is made for the section
pub record IsMade (k : Coefs) (rows : List CertRow) : Type 0 where
  -- a section of first order has one row
  pub one : IsFirstOrder k → (r : CertRow) × (rows ≡ r ∷ []) × IsOneRow k r
  -- another has the least number of rows after which they may end
  pub count : ¬ IsFirstOrder k → IsCount k (length rows)
  -- with their bounds where they are contracted, and without where they are not
  pub contracted : ¬ IsFirstOrder k → IsContracted k (length rows) → rows ≡ bounded k (rows_of k (length rows))
  pub others : ¬ IsFirstOrder k → ¬ IsContracted k (length rows) → rows ≡ rows_of k (length rows)
