-- When a certificate fits the coefficients of a section, and which of its conditions fails first. The conditions are
-- the project's own. The numbers of a row are named in `Row`, and 2^64 is the square of the coefficients' denominator
-- 2^32.
use Rattle.std.specs.Prelude.{◌≡◌, ◌⊎◌, ℕ, ◌+◌, ◌^◌, ◌<◌, ◌≤◌, List, length, slice_index_or, sum_by, ℤ, pos, neg_ℤ, ◌+ℤ◌, ◌-ℤ◌, ◌*ℤ◌, ◌<ℤ◌, ◌≤ℤ◌}
use Rattle.std.specs.Int.RustNames.{unsigned_abs}
use Rattle.flk_cert.specs.declared.certificate.CertRow.{CertRow}
use Rattle.flk_cert.specs.declared.coefs.Coefs.{Coefs}
use Rattle.flk_cert.specs.declared.fault.Cause.{Cause}
use Rattle.flk_cert.specs.declared.fault.Cause.TheVariants.{Shape, Contraction, Identity, Input, Rounding}
use Rattle.flk_cert.specs.Cause.{cause_number}
use Rattle.flk_cert.specs.Row.{fed_back, input_share, rounding_share}

-- Row i. Past the last row stands a row of zeros, so that the terms of the row after the last one are 0.
abbrev pub no_row : CertRow
no_row = record { x = pos 0; y = pos 0; c = pos 0; d = pos 0; g = pos 0; h = pos 0 }

abbrev pub row_at : List CertRow → ℕ → CertRow
row_at rows i = slice_index_or rows i no_row

-- a bound of a form is from 0 on, and below 2^60
pub record IsBound (g : ℤ) : Type 0 where
  pub natural : pos 0 ≤ℤ g
  pub small : g <ℤ pos (2 ^ 60)

-- the numbers of a row of which products are formed are in their ranges
pub record HasRanges (r : CertRow) : Type 0 where
  pub x : unsigned_abs r.x < 2 ^ 44
  pub y : unsigned_abs r.y < 2 ^ 44
  pub g : IsBound r.g
  pub h : IsBound r.h

-- from one row to 4096, and one row alone for a section of the first order alone
pub record HasCount (k : Coefs) (rows : List CertRow) : Type 0 where
  pub some : 0 < length rows
  pub few : length rows ≤ 4096
  pub single : length rows ≡ 1 → (k.b2 ≡ pos 0) × (k.a2 ≡ pos 0)

-- the row stands for the form `x*s1 + y*s2`
pub record HasForm (x y : ℤ) (r : CertRow) : Type 0 where
  pub first : r.x ≡ x
  pub second : r.y ≡ y

-- Shape of row i: row 0 stands for 2^32 times the first state, row 1 for `2^32*s2 - a1*s1`.
pub record HasShape (k : Coefs) (rows : List CertRow) (i : ℕ) : Type 0 where
  pub count : i ≡ 0 → HasCount k rows
  pub range : HasRanges (row_at rows i)
  pub row_0 : i ≡ 0 → HasForm (pos (2 ^ 32)) (pos 0) (row_at rows 0)
  pub row_1 : i ≡ 1 → 1 < length rows → HasForm (neg_ℤ k.a1) (pos (2 ^ 32)) (row_at rows 1)

-- Contraction: what the forms take up of the first two is below 1 for one row, and for several rows together at most a
-- quarter.
pub record Contracts (rows : List CertRow) : Type 0 where
  pub single : length rows ≡ 1 → unsigned_abs (row_at rows 0).c < 2 ^ 64
  pub several : 1 < length rows → sum_by (λ r. unsigned_abs r.c + unsigned_abs r.d) rows ≤ 2 ^ 62

-- Identity of row i: its form after a sample is the next row's form, c times the first and d times the second, all
-- before it.
--
-- One row is no special case of several. The second equation would then be `2^64*2^32 = 0`. It isn't wanted: with b2 =
-- a2 = 0 no product of the second state loses anything, and its error is 0.
pub record IsCombined (k : Coefs) (r next : CertRow) : Type 0 where
  pub first : pos (2 ^ 32) *ℤ fed_back k r.x r.y ≡ pos (2 ^ 64) *ℤ next.x +ℤ pos (2 ^ 32) *ℤ r.c -ℤ k.a1 *ℤ r.d
  pub second : pos (2 ^ 64) *ℤ r.x ≡ pos (2 ^ 64) *ℤ next.y +ℤ pos (2 ^ 32) *ℤ r.d

pub record HasIdentity (k : Coefs) (rows : List CertRow) (i : ℕ) : Type 0 where
  pub single : length rows ≡ 1 → ((row_at rows i).c ≡ neg_ℤ (pos (2 ^ 32) *ℤ k.a1)) × ((row_at rows i).d ≡ pos 0)
  pub several : 1 < length rows → IsCombined k (row_at rows i) (row_at rows (i + 1))

-- `|c|*first + |d|*second + 2^64*next + share <= 2^64*own`: the bound of the row's own form covers what it takes up of
-- the bounds of the first, the second and the next row's form, and a share
abbrev pub Covers : CertRow → (first second next : ℤ) → (share : ℕ) → (own : ℤ) → Type 0
Covers r first second next share own =
    (pos (unsigned_abs r.c) *ℤ first +ℤ pos (unsigned_abs r.d) *ℤ second +ℤ pos (2 ^ 64) *ℤ next
    +ℤ pos share) ≤ℤ (pos (2 ^ 64) *ℤ own)

-- Input of row i: its g covers the input's share.
abbrev pub CoversInput : Coefs → List CertRow → ℕ → Type 0
CoversInput k rows i =
    let r = row_at rows i in
    Covers r (row_at rows 0).g (row_at rows 1).g (row_at rows (i + 1)).g (input_share k r.x r.y) r.g

-- Rounding of row i: its h covers the share of rounding.
abbrev pub CoversRounding : Coefs → List CertRow → ℕ → Type 0
CoversRounding k rows i =
    let r = row_at rows i in
    Covers r (row_at rows 0).h (row_at rows 1).h (row_at rows (i + 1)).h (rounding_share k r.x r.y) r.h

-- The condition that a cause names, on row i. Contraction is asked of all rows together, and named at the last one.
abbrev pub Meets : Coefs → List CertRow → Cause → ℕ → Type 0
Meets k rows Shape i = HasShape k rows i
Meets k rows Contraction i = i + 1 ≡ length rows → Contracts rows
Meets k rows Identity i = i < length rows → HasIdentity k rows i
Meets k rows Input i = i < length rows → CoversInput k rows i
Meets k rows Rounding i = i < length rows → CoversRounding k rows i

-- The certificate fits the coefficients: each condition is met on each row.
abbrev pub FitsSection : Coefs → List CertRow → Type 0
FitsSection k rows = (cause : Cause) (i : ℕ) → Meets k rows cause i

-- The order in which the conditions are asked: first Shape of each row, then Contraction, then row by row Identity,
-- Input and Rounding.
abbrev pub pass : Cause → ℕ
pass Shape = 0
pass Contraction = 1
pass Identity = 2
pass Input = 2
pass Rounding = 2

pub record IsEarlier (first : Cause) (i : ℕ) (second : Cause) (j : ℕ) : Type 0 where
  pub is : (pass first < pass second) ⊎ ((pass first ≡ pass second) × ((i < j) ⊎ ((i ≡ j)
      × (cause_number first < cause_number second))))

-- This condition fails on row i, and no earlier one fails. Each certificate fits or has one first fault, since `check`
-- answers.
pub record IsFirstUnmet (k : Coefs) (rows : List CertRow) (cause : Cause) (i : ℕ) : Type 0 where
  pub fails : ¬ Meets k rows cause i
  pub first : (other : Cause) (j : ℕ) → IsEarlier other j cause i → Meets k rows other j
