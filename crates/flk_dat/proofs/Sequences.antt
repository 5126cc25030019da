-- Records in their order.
use Rattle.std.proofs.Common.{◌≡◌, ℕ, suc, ◌+◌, ◌-◌, ◌<◌, List, [], ◌∷◌, ◌++◌, length, drop, Option, Some, refl, sym, ap, subst, ◌∙◌, arith, inl, inr, length-append, append_assoc, append-nil}
use Rattle.std.proofs.lemmas.Bool.{cases_lt}
use Rattle.std.proofs.lemmas.List.{get_or_append_left}
use Rattle.std.proofs.Math.Seq.{get_or-append_seam, drop-append_seam}
use Rattle.flk_dat.specs.Records.{DataRecord, Rows, Layout, record_at, no_record, Follows, AreConsecutive, last_number, IsPresent, ArePresent}
use Rattle.flk_dat.specs.Streams.{added, Grows}

-- ---- one more record

pub length_more : (rs : List DataRecord) (r : DataRecord) → length (rs ++ r ∷ []) ≡ length rs + 1
length_more rs r = length-append rs (r ∷ [])

pub at_before : (rs : List DataRecord) (r : DataRecord) (k : ℕ) → k < length rs → record_at (rs ++ r ∷ []) k ≡ record_at rs k
at_before rs r k lt = get_or_append_left rs (r ∷ []) no_record k lt

pub at_last : (rs : List DataRecord) (r : DataRecord) (k : ℕ) → length rs ≡ k → record_at (rs ++ r ∷ []) k ≡ r
at_last rs r k e = ap (λ (j : ℕ). record_at (rs ++ r ∷ []) j) (sym e) ∙ get_or-append_seam rs r [] no_record

-- what holds of each record so far and of the next one holds of each one then
pub each_more : (P : ℕ → DataRecord → Type 0) (rs : List DataRecord) (r : DataRecord) → ((k : ℕ) → k < length rs → P k (record_at rs k)) → P (length rs) r → (k : ℕ) → k < length (rs ++ r ∷ []) → P k (record_at (rs ++ r ∷ []) k)
each_more P rs r so here k lt =
    elim (cases_lt k (length rs)) [
      | inl less ↦ subst (P k) (sym (at_before rs r k less)) (so k less)
      | inr more ↦
          let same : length rs ≡ k = omega (arith, lt, more, length_more rs r) in
          subst (P k) (sym (at_last rs r k same)) (subst (λ (j : ℕ). P j r) same here)
    ]

-- ---- the last number

pub last_number_at : (rs : List DataRecord) → 0 < length rs → last_number rs ≡ Some (record_at rs (length rs - 1)).number
last_number_at [] some = absurd (omega (arith, some))
last_number_at (r ∷ []) some = refl
last_number_at (r ∷ s ∷ rs) some =
    let e : length (r ∷ s ∷ rs) - 1 ≡ suc (length (s ∷ rs) - 1) = omega arith in
    last_number_at (s ∷ rs) (omega arith) ∙ ap (λ (k : ℕ). Some (record_at (r ∷ s ∷ rs) k).number) (sym e)

pub last_number_more : (rs : List DataRecord) (r : DataRecord) → last_number (rs ++ r ∷ []) ≡ Some r.number
last_number_more rs r =
    let n = length_more rs r in
    last_number_at (rs ++ r ∷ []) (omega (arith, n)) ∙ ap (λ (x : DataRecord). Some x.number) (at_last rs r (length (rs ++ r ∷ []) - 1) (omega (arith, n)))

-- ---- the order

pub consecutive_more : (rs : List DataRecord) (r : DataRecord) → AreConsecutive rs → Follows (last_number rs) r.number → AreConsecutive (rs ++ r ∷ [])
consecutive_more rs r order after k lt =
    let n = length_more rs r in
    let below : k < length rs = omega (arith, lt, n) in
    elim (cases_lt (k + 1) (length rs)) [
      | inl less ↦
          ap (λ (x : DataRecord). x.number) (at_before rs r (k + 1) less) ∙ order k less ∙ ap (λ (x : DataRecord). x.number + 1) (sym (at_before rs r k below))
      | inr more ↦
          let last : k + 1 ≡ length rs = omega (arith, more, below) in
          let place : length rs - 1 ≡ k = omega (arith, last) in
          let before : last_number rs ≡ Some (record_at rs k).number = last_number_at rs (omega (arith, below)) ∙ ap (λ (j : ℕ). Some (record_at rs j).number) place in
          let next : r.number ≡ (record_at rs k).number + 1 = subst (λ (o : Option ℕ). Follows o r.number) before after in
          ap (λ (x : DataRecord). x.number) (at_last rs r (k + 1) (sym last)) ∙ next ∙ ap (λ (x : DataRecord). x.number + 1) (sym (at_before rs r k below))
    ]

-- the number of a record follows the last one of those before it
pub follows_at : (rs before : List DataRecord) (k : ℕ) → AreConsecutive rs → k < length rs → length before ≡ k → ((i : ℕ) → i < k → record_at before i ≡ record_at rs i) → Follows (last_number before) (record_at rs k).number
follows_at rs [] k order lt len same = tt
follows_at rs (b ∷ bs) k order lt len same =
    let some : 0 < k = omega (arith, len) in
    let back : k - 1 + 1 ≡ k = omega (arith, some) in
    let below : k - 1 + 1 < length rs = omega (arith, lt, back) in
    let e : last_number (b ∷ bs) ≡ Some (record_at rs (k - 1)).number =
    last_number_at (b ∷ bs) (omega arith) ∙ ap (λ (j : ℕ). Some (record_at (b ∷ bs) j).number) (ap (λ (j : ℕ). j - 1) len) ∙ ap (λ (x : DataRecord). Some x.number) (same (k - 1) (omega (arith, some))) in
    let step : (record_at rs k).number ≡ (record_at rs (k - 1)).number + 1 = subst (λ (j : ℕ). (record_at rs j).number ≡ (record_at rs (k - 1)).number + 1) back (order (k - 1) below) in
    subst (λ (o : Option ℕ). Follows o (record_at rs k).number) (sym e) step

pub present_more : (l : Layout) (rs : List DataRecord) (r : DataRecord) → ArePresent l rs → IsPresent l.form l.selected r → ArePresent l (rs ++ r ∷ [])
present_more l rs r so here = each_more (λ k x. IsPresent l.form l.selected x) rs r so here

-- ---- what a block has at its end

pub added_is : (before after : Rows) (more : List DataRecord) → after.records ≡ before.records ++ more → added before after ≡ more
added_is before after more e = ap (drop (length before.records)) e ∙ drop-append_seam before.records more

pub added_none : (before after : Rows) → after.records ≡ before.records → added before after ≡ []
added_none before after e = added_is before after [] (e ∙ sym (append-nil before.records))

pub grows_by : (before after : Rows) (more : List DataRecord) → after.analog ≡ before.analog → after.digital ≡ before.digital → after.room ≡ before.room → after.records ≡ before.records ++ more → Grows before after
grows_by before after more a d room e = record { analog = a; digital = d; room = room; records = e ∙ ap (λ (x : List DataRecord). before.records ++ x) (sym (added_is before after more e)) }

pub grows_same : (b : Rows) → Grows b b
grows_same b = grows_by b b [] refl refl refl (sym (append-nil b.records))

pub added_then : (a b c : Rows) → Grows a b → Grows b c → added a c ≡ added a b ++ added b c
added_then a b c p q =
    added_is a c (added a b ++ added b c) (q.records ∙ ap (λ (x : List DataRecord). x ++ added b c) p.records ∙ append_assoc a.records (added a b) (added b c))

pub grows_then : (a b c : Rows) → Grows a b → Grows b c → Grows a c
grows_then a b c p q =
    grows_by a c (added a b ++ added b c) (q.analog ∙ p.analog) (q.digital ∙ p.digital) (q.room ∙ p.room)
    (q.records ∙ ap (λ (x : List DataRecord). x ++ added b c) p.records ∙ append_assoc a.records (added a b) (added b c))

pub added_length : (a b : Rows) → Grows a b → length b.records ≡ length a.records + length (added a b)
added_length a b p = ap length p.records ∙ length-append a.records (added a b)
