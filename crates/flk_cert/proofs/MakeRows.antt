-- The rows of a section that is not of first order, one after another.
use Rattle.std.proofs.Common.{◌≡◌, ℕ, suc, ◌+◌, ◌-◌, ◌*◌, ◌^◌, ◌<◌, ◌≤◌, pos, ◌*ℤ◌, List, [], ◌∷◌, ◌++◌, length, Bool, IsTrue, refl, sym, ap, ◌∙◌, ⊎_elim, inl, inr, arith}
use Rattle.std.specs.Prelude.{◌↔◌, sum_by}
use Rattle.std.specs.Int.RustNames.{unsigned_abs}
use Rattle.std.proofs.lemmas.Bool.{cases_lt}
use Rattle.std.proofs.lemmas.Int.{ints, unsigned_abs-mul}
use Rattle.std.proofs.lemmas.List.{length_push}
use Rattle.std.proofs.lemmas.List.Elements.{All-push}
use Rattle.std.proofs.lemmas.List.Sums.{sum_by_push}
use Rattle.flk_cert.specs.declared.coefs.Coefs.{Coefs}
use Rattle.flk_cert.specs.declared.certificate.CertRow.{CertRow}
use Rattle.flk_cert.specs.declared.row.Form.{Form}
use Rattle.flk_cert.specs.Make.{next_form, form_of, inner_row, last_row, inner_rows, rows_of, weight, IsLarge, IsContracted, MayEnd, IsCount}
use Rattle.flk_cert.specs.Making.{IsLightRow, MayEndWith, IsBegun, IsPlain}

-- the rows that are begun, with the last one
with_last : (k : Coefs) (rows : List CertRow) (f : Form) (t : ℕ) → IsBegun k rows f t → rows_of k (length rows + 1) ≡ rows ++ last_row k f ∷ []
with_last k rows f t b =
    let e : length rows + 1 - 1 ≡ length rows = omega arith in
    rw (e, ← b.form, ← b.inner) refl

-- their weight
last_weight : (k : Coefs) (rows : List CertRow) (f : Form) (t : ℕ) → IsBegun k rows f t → sum_by weight (rows_of k (length rows + 1)) ≡ t + weight (last_row k f)
last_weight k rows f t b = ap (sum_by weight) (with_last k rows f t b) ∙ sum_by_push weight rows (last_row k f) ∙ ap (λ n. n + weight (last_row k f)) (sym b.weighs)

contracted_is : (k : Coefs) (rows : List CertRow) (f : Form) (t : ℕ) → IsBegun k rows f t → IsContracted k (length rows + 1) ↔ (t + weight (last_row k f) ≤ 2 ^ 58)
contracted_is k rows f t b =
    let e = last_weight k rows f t b in
    (λ h. omega (arith, e, h), λ h. omega (arith, e, h))

ends_may : (k : Coefs) (rows : List CertRow) (f : Form) (t : ℕ) → IsBegun k rows f t → MayEndWith k (length rows) f t → MayEnd k (length rows + 1)
ends_may k rows f t b h =
    let e : length rows + 1 - 1 ≡ length rows = omega arith in
    ⊎_elim (λ light. inl ((contracted_is k rows f t b).1 light))
    (λ rest. ⊎_elim (λ large. inr (inl (let l : IsLarge (form_of k (length rows)) = rw (← b.form) large in rw e l))) (λ all. inr (inr (omega (arith, all)))) rest) h

may_ends : (k : Coefs) (rows : List CertRow) (f : Form) (t : ℕ) → IsBegun k rows f t → MayEnd k (length rows + 1) → MayEndWith k (length rows) f t
may_ends k rows f t b h =
    let e : length rows + 1 - 1 ≡ length rows = omega arith in
    ⊎_elim (λ light. inl ((contracted_is k rows f t b).0 light))
    (λ rest. ⊎_elim (λ large. inr (inl (let l : IsLarge (form_of k (length rows)) = rw e at large in rw b.form l))) (λ all. inr (inr (omega (arith, all)))) rest) h

-- a form that another follows has small numbers
pub small_form : (k : Coefs) (rows : List CertRow) (f : Form) (t : ℕ) → IsBegun k rows f t → ¬ ((0 < length rows) × MayEndWith k (length rows) f t) → unsigned_abs f.x < 2 ^ 44
small_form k rows f t b going =
    ⊎_elim
    (λ some. ⊎_elim (λ less. less) (λ large. absurd (going (some, inr (inl (inl large))))) (cases_lt (unsigned_abs f.x) (2 ^ 44)))
    (λ none.
    let e : length rows ≡ 0 = omega arith in
    let x : f.x ≡ pos (2 ^ 32) = ap (λ n. n.x) (rw e at b.form) in
    omega (arith, ints, x))
    (cases_lt 0 (length rows))

-- one row more, which another follows
pub IsBegun-push : (k : Coefs) (rows new : List CertRow) (f n : Form) (t w : ℕ) (r : CertRow) → IsBegun k rows f t → ¬ ((0 < length rows) × MayEndWith k (length rows) f t) → n ≡ next_form k f → unsigned_abs n.x ≤ 2 ^ 46
    → r ≡ inner_row k f → weight r < 2 ^ 32 → w ≡ weight r → new ≡ rows ++ r ∷ [] → IsBegun k new n (t + w)
IsBegun-push k rows new f n t w r b going next x row light weigh all =
    let more : length new ≡ suc (length rows) = omega (arith, ap length all, length_push rows r) in
    let small : unsigned_abs f.x < 2 ^ 44 = small_form k rows f t b going in
    let less : length rows < 4095 =
    ⊎_elim (λ low. low)
    (λ high. let last : length rows ≡ 4095 = omega (arith, b.few) in absurd (going (omega arith, inr (inr last)))) (cases_lt (length rows) 4095) in
    let rx : r.x ≡ f.x = ap (λ s. s.x) row in
    let ry : r.y ≡ f.y = ap (λ s. s.y) row in
    let ny : n.y ≡ f.x = ap (λ m. m.y) next in
    let narrow : IsLightRow r = record { x = omega (arith, ap unsigned_abs rx); y = omega (arith, ap unsigned_abs ry, b.y); weight = omega arith } in
    let part : inner_row k (form_of k (length rows)) ≡ r = rw (← b.form) (sym row) in
    let inner : new ≡ inner_rows k (suc (length rows)) = all ∙ ap (λ xs. xs ++ r ∷ []) b.inner ∙ ap (λ s. inner_rows k (length rows) ++ s ∷ []) (sym part) in
    let form : n ≡ form_of k (suc (length rows)) = next ∙ ap (next_form k) b.form in
    record {
      few = omega arith;
      inner = rw more inner;
      form = rw more form;
      weighs = omega (arith, ap (sum_by weight) all, sum_by_push weight rows r, b.weighs, weigh);
      light = omega (arith, b.light);
      x = x;
      y = omega (arith, ap unsigned_abs ny);
      narrow = rw all (All-push IsLightRow rows r b.narrow narrow);
      going = λ m two most ends.
          ⊎_elim (λ low. b.going m two (omega arith) ends)
          (λ high.
          let e : m ≡ length rows + 1 = omega arith in
          going (omega arith, may_ends k rows f t b (rw e at ends)))
          (cases_lt m (length rows + 1));
    }

-- no row so far
pub IsBegun-none : (k : Coefs) → IsBegun k [] (form_of k 0) 0
IsBegun-none k =
    record {
      few = omega arith;
      inner = refl;
      form = refl;
      weighs = refl;
      light = omega arith;
      x = omega arith;
      y = omega arith;
      narrow = λ i d low. absurd (omega arith);
      going = λ n two none ends. absurd (omega arith);
    }

-- all rows, with the last one
pub IsPlain-last : (k : Coefs) (rows new : List CertRow) (f : Form) (t : ℕ) (r : CertRow) (contracted : Bool) → IsBegun k rows f t → (0 < length rows) × MayEndWith k (length rows) f t → (IsTrue contracted ↔ (t + weight (last_row k f) ≤ 2 ^ 58))
    → r ≡ last_row k f → new ≡ rows ++ r ∷ [] → IsPlain k new contracted
IsPlain-last k rows new f t r contracted b ends says row all =
    let more : length new ≡ length rows + 1 = omega (arith, ap length all, length_push rows r) in
    let whole : new ≡ rows_of k (length rows + 1) = all ∙ ap (λ s. rows ++ s ∷ []) row ∙ sym (with_last k rows f t b) in
    let is = contracted_is k rows f t b in
    let count : IsCount k (length rows + 1) =
    record { from_two = omega (arith, ends.0); ends = ends_may k rows f t b ends.1; least = λ n two less. b.going n two (omega arith) } in
    let told : IsTrue contracted ↔ IsContracted k (length rows + 1) = (λ yes. is.1 (says.0 yes), λ yes. says.1 (is.0 yes)) in
    record {
      few = omega (arith, b.few);
      all = rw more whole;
      count = rw more count;
      says = rw more told;
      narrow = λ yes.
          let light : t + weight (last_row k f) ≤ 2 ^ 58 = says.0 yes in
          let d : unsigned_abs (pos (2 ^ 32) *ℤ f.x) ≡ 2 ^ 32 * unsigned_abs f.x = unsigned_abs-mul (pos (2 ^ 32)) f.x in
          let last : IsLightRow (last_row k f) = record { x = omega arith; y = b.y; weight = omega arith } in
          rw (all, row) (All-push IsLightRow rows (last_row k f) b.narrow last);
    }

-- the first form with a large number has it in x
large_x : (k : Coefs) (count : ℕ) → IsCount k count → IsLarge (form_of k (count - 1)) → 2 ^ 44 ≤ unsigned_abs (form_of k (count - 1)).x
large_x k count c large =
    ⊎_elim (λ x. x)
    (λ y.
    let j : ℕ = count - 2 in
    let e : count - 1 ≡ suc j = omega (arith, c.from_two) in
    let x : 2 ^ 44 ≤ unsigned_abs (form_of k j).x = rw e at y in
    ⊎_elim
    (λ some.
    let before : suc j - 1 ≡ j = omega arith in
    let earlier : IsLarge (form_of k (suc j - 1)) = rw before (inl x) in
    absurd (c.least (suc j) (omega arith) (omega (arith, c.from_two)) (inr (inl earlier))))
    (λ none. let first : j ≡ 0 = omega arith in absurd (omega (arith, rw first at x)))
    (cases_lt 0 j))
    large

-- rows that end with a large form are not contracted
pub large_not_contracted : (k : Coefs) (count : ℕ) → IsCount k count → IsLarge (form_of k (count - 1)) → ¬ IsContracted k count
large_not_contracted k count c large light =
    let x = large_x k count c large in
    let f = form_of k (count - 1) in
    let sum : sum_by weight (rows_of k count) ≡ sum_by weight (inner_rows k (count - 1)) + weight (last_row k f) = sum_by_push weight (inner_rows k (count - 1)) (last_row k f) in
    let d : unsigned_abs (pos (2 ^ 32) *ℤ f.x) ≡ 2 ^ 32 * unsigned_abs f.x = unsigned_abs-mul (pos (2 ^ 32)) f.x in
    absurd (omega (arith, light, sum, d, x))
