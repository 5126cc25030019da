-- The bounds of the rows, from the last one back.
use Rattle.std.proofs.Common.{◌≡◌, ℕ, ◌+◌, ◌-◌, ◌*◌, ◌^◌, ◌<◌, ◌≤◌, ℤ, pos, ◌+ℤ◌, ◌*ℤ◌, List, [], ◌∷◌, ◌++◌, length, take, drop, set, get_or, refl, sym, ap, ◌∙◌, append_assoc, arith}
use Rattle.std.specs.List.{All}
use Rattle.std.proofs.lemmas.Int.{ints}
use Rattle.std.proofs.lemmas.List.{drop_more, take_more, at_drop_more, set_at, get_or_append_left, get_or-take, length-take-le}
use Rattle.std.proofs.lemmas.List.Elements.{All-get_or}
use Rattle.flk_exact.specs.Rounding.{ceil_of}
use Rattle.flk_cert.specs.declared.coefs.Coefs.{Coefs}
use Rattle.flk_cert.specs.declared.certificate.CertRow.{CertRow}
use Rattle.flk_cert.specs.Certificate.{no_row}
use Rattle.flk_cert.specs.Make.{weight, input_share_at, rounding_share_at, total_share, bound, bounded_by}
use Rattle.flk_cert.specs.Making.{IsLightRow}
use Rattle.flk_cert.specs.Row.{IsUpTo}

pub total_share_step : (share : CertRow → ℕ) (rows : List CertRow) (i : ℕ) (d : CertRow) (p s : ℤ) → i < length rows → p ≡ ceil_of s (pos (2 ^ 64)) → s ≡ pos (share (get_or rows i d))
    → total_share share (drop i rows) ≡ p +ℤ total_share share (drop (i + 1) rows)
total_share_step share rows i d p s low e f =
    at_drop_more (total_share share) rows i d low ∙ ap (λ z. z +ℤ total_share share (drop (i + 1) rows)) (sym (e ∙ ap (λ z. ceil_of z (pos (2 ^ 64))) f))

pub bound_step : (share : CertRow → ℕ) (most : ℤ) (rows : List CertRow) (i : ℕ) (d x : CertRow) (p s : ℤ) (w : ℕ) → i < length rows → x ≡ get_or rows i d → p ≡ ceil_of (pos w *ℤ most +ℤ s) (pos (2 ^ 64)) → w ≡ weight x → s ≡ pos (share x)
    → bound share most (drop i rows) ≡ p +ℤ bound share most (drop (i + 1) rows)
bound_step share most rows i d x p s w low at e f g =
    let added : p ≡ ceil_of (pos (weight (get_or rows i d)) *ℤ most +ℤ pos (share (get_or rows i d))) (pos (2 ^ 64)) = rw (e, f, g, at) refl in
    at_drop_more (bound share most) rows i d low ∙ ap (λ z. z +ℤ bound share most (drop (i + 1) rows)) (sym added)

-- a row before those that have their bounds is as it was
pub row_as_it_was : (k : Coefs) (input rounding : ℤ) (old rows : List CertRow) (i : ℕ) (d : CertRow) → i < length old → rows ≡ take (i + 1) old ++ bounded_by k input rounding (drop (i + 1) old) → get_or rows i d ≡ get_or old i d
row_as_it_was k input rounding old rows i d low e =
    let few : length (take (i + 1) old) ≡ i + 1 = length-take-le (i + 1) old (omega arith) in
    ap (λ xs. get_or xs i d) e ∙ get_or_append_left (take (i + 1) old) (bounded_by k input rounding (drop (i + 1) old)) d i (omega arith) ∙ get_or-take (i + 1) old i d (omega arith)

-- and so it is narrow, where all were
pub narrow_before : (k : Coefs) (input rounding : ℤ) (old rows : List CertRow) (left : ℕ) → 0 < left → left ≤ length old → rows ≡ take left old ++ bounded_by k input rounding (drop left old) → All IsLightRow old → IsLightRow (get_or rows (left - 1) no_row)
narrow_before k input rounding old rows left some low e all =
    let next : left - 1 + 1 ≡ left = omega arith in
    let h : IsLightRow (get_or old (left - 1) no_row) = All-get_or IsLightRow old (left - 1) no_row (omega arith) all in
    rw (row_as_it_was k input rounding old rows (left - 1) no_row (omega arith) (rw next e)) h

-- one row more has its bounds
pub bounded_more : (k : Coefs) (input rounding : ℤ) (old rows : List CertRow) (i : ℕ) (d : CertRow) (g h : ℤ) (r : CertRow) → i < length old → rows ≡ take (i + 1) old ++ bounded_by k input rounding (drop (i + 1) old)
    → g ≡ bound (input_share_at k) input (drop i old) → h ≡ bound (rounding_share_at k) rounding (drop i old) → r ≡ record (get_or rows i d) { g = g; h = h }
    → set rows i r ≡ take i old ++ bounded_by k input rounding (drop i old)
bounded_more k input rounding old rows i d g h r low e eg eh er =
    let x = get_or old i d in
    let first : drop i old ≡ x ∷ drop (i + 1) old = drop_more old i d low in
    let was : get_or rows i d ≡ x = row_as_it_was k input rounding old rows i d low e in
    let split : rows ≡ take i old ++ x ∷ bounded_by k input rounding (drop (i + 1) old) =
    e ∙ ap (λ xs. xs ++ bounded_by k input rounding (drop (i + 1) old)) (take_more old i d low) ∙ append_assoc (take i old) (x ∷ []) (bounded_by k input rounding (drop (i + 1) old)) in
    let few : length (take i old) ≡ i = length-take-le i old (omega arith) in
    let ng : g ≡ bound (input_share_at k) input (x ∷ drop (i + 1) old) = eg ∙ ap (bound (input_share_at k) input) first in
    let nh : h ≡ bound (rounding_share_at k) rounding (x ∷ drop (i + 1) old) = eh ∙ ap (bound (rounding_share_at k) rounding) first in
    let row : r ≡ record x { g = bound (input_share_at k) input (x ∷ drop (i + 1) old); h = bound (rounding_share_at k) rounding (x ∷ drop (i + 1) old) } =
    rw (er, was, ng, nh) refl in
    ap (λ xs. set xs i r) split ∙ set_at (take i old) x (bounded_by k input rounding (drop (i + 1) old)) r i few
    ∙ ap (λ y. take i old ++ y ∷ bounded_by k input rounding (drop (i + 1) old)) row
    ∙ ap (λ ys. take i old ++ bounded_by k input rounding ys) (sym first)

pub within_more : (g p : ℤ) (rows left most : ℕ) → 0 < left → left ≤ rows → IsUpTo ((rows - left) * most) g → IsUpTo most p → IsUpTo ((rows - (left - 1)) * most) (g +ℤ p)
within_more g p rows left most some low a b =
    let e : rows - (left - 1) ≡ (rows - left) + 1 = omega arith in
    record { low = omega (arith, ints, a.low, b.low); high = rw e (omega (arith, ints, a.high, b.high)) }
