-- Bytes have one list of records, or one first fault.
use Rattle.std.proofs.Common.{◌≡◌, ℕ, ◌+◌, ◌<◌, List, length, refl, sym, ap, subst, ◌∙◌, arith, inl, inr}
use Rattle.std.proofs.lemmas.Bool.{cases_lt}
use Rattle.std.proofs.lemmas.List.{ext_get_or}
use Rattle.flk_dat.specs.Records.{DataRecord, Layout, no_record, record_at, Follows, last_number, ArePresent}
use Rattle.flk_dat.specs.DataFile.{after_records, RecordFault, AreFirst, IsFile, IsAccepted, IsFaultAfter, IsFirstDataFault}
use Rattle.flk_dat.specs.declared.kind.Kind.{Kind}
use Rattle.flk_dat.proofs.Sequences.{follows_at}
use Rattle.flk_dat.proofs.RecordLaws.{record_once, record_or_fault, one_record_fault}

-- the k-th record of bytes is one
pub each_once : (l : Layout) (bytes : List ℕ) (rs ss : List DataRecord) → AreFirst l bytes rs → AreFirst l bytes ss → (k : ℕ) → k < length rs → k < length ss → record_at rs k ≡ record_at ss k
each_once l bytes rs ss a b k p q = record_once l k (after_records l k bytes) (record_at rs k) (record_at ss k) (a.each k p) (b.each k q)

pub lists_once : (l : Layout) (bytes : List ℕ) (rs ss : List DataRecord) → length rs ≡ length ss → AreFirst l bytes rs → AreFirst l bytes ss → rs ≡ ss
lists_once l bytes rs ss len a b = ext_get_or no_record rs ss len (λ k lt. each_once l bytes rs ss a b k lt (omega (arith, lt, len)))

pub file_once : (l : Layout) (bytes : List ℕ) (rs ss : List DataRecord) → IsFile l bytes rs → IsFile l bytes ss → rs ≡ ss
file_once l bytes rs ss a b = lists_once l bytes rs ss (a.count ∙ sym b.count) a.first b.first

-- where good records go on there is no fault
record_there : (l : Layout) (bytes : List ℕ) (rs ss : List DataRecord) (field : ℕ) (kind : Kind) → AreFirst l bytes rs → AreFirst l bytes ss → ArePresent l ss → length rs < length ss
    → RecordFault l (length rs) (last_number rs) (after_records l (length rs) bytes) field kind → ⊥
record_there l bytes rs ss field kind a b present lt fault =
    let k = length rs in
    let follows : Follows (last_number rs) (record_at ss k).number = follows_at ss rs k b.order lt refl (λ i less. each_once l bytes rs ss a b i less (omega (arith, less, lt))) in
    record_or_fault l k (last_number rs) (after_records l k bytes) (record_at ss k) field kind (b.each k lt) follows (present k lt) fault

pub accepted_or_fault_after : (l : Layout) (bytes : List ℕ) (rs ss : List DataRecord) (field : ℕ) (kind : Kind) → IsAccepted l bytes rs → IsFaultAfter l bytes ss field kind → ⊥
accepted_or_fault_after l bytes rs ss field kind a f =
    elim f.here [
      | inl due ↦ record_there l bytes ss rs field kind f.first a.file.first a.present (omega (arith, due.0, a.file.count)) due.1
      | inr all ↦ all.1.2 a.file.end
    ]

pub accepted_or_fault : (l : Layout) (bytes : List ℕ) (rs : List DataRecord) (row field : ℕ) (kind : Kind) → IsAccepted l bytes rs → IsFirstDataFault l bytes row field kind → ⊥
accepted_or_fault l bytes rs row field kind a f = accepted_or_fault_after l bytes rs f.0 field kind a f.2

-- with fewer records before it a fault would be where a good record is
fewer : (l : Layout) (bytes : List ℕ) (rs ss : List DataRecord) (field place : ℕ) (kind again : Kind) → IsFaultAfter l bytes rs field kind → IsFaultAfter l bytes ss place again → length rs < length ss → ⊥
fewer l bytes rs ss field place kind again a b lt =
    elim a.here [
      | inl due ↦ record_there l bytes rs ss field kind a.first b.first b.present lt due.1
      | inr all ↦ omega (arith, all.0, lt, b.first.within)
    ]

same_list : (l : Layout) (bytes : List ℕ) (rs : List DataRecord) (field place : ℕ) (kind again : Kind) → IsFaultAfter l bytes rs field kind → IsFaultAfter l bytes rs place again → (field ≡ place) × (kind ≡ again)
same_list l bytes rs field place kind again a b =
    elim a.here [
      | inl due ↦ elim b.here [
        | inl late ↦ one_record_fault l (length rs) (last_number rs) (after_records l (length rs) bytes) field place kind again due.1 late.1
        | inr all ↦ absurd (omega (arith, due.0, all.0))
      ]
      | inr all ↦ elim b.here [
        | inl late ↦ absurd (omega (arith, late.0, all.0))
        | inr both ↦ (all.1.0 ∙ sym both.1.0, all.1.1 ∙ sym both.1.1)
      ]
    ]

pub one_fault_after : (l : Layout) (bytes : List ℕ) (rs ss : List DataRecord) (field place : ℕ) (kind again : Kind) → IsFaultAfter l bytes rs field kind → IsFaultAfter l bytes ss place again → (rs ≡ ss) × (field ≡ place) × (kind ≡ again)
one_fault_after l bytes rs ss field place kind again a b =
    elim (cases_lt (length rs) (length ss)) [
      | inl less ↦ absurd (fewer l bytes rs ss field place kind again a b less)
      | inr more ↦ elim (cases_lt (length ss) (length rs)) [
        | inl less ↦ absurd (fewer l bytes ss rs place field again kind b a less)
        | inr most ↦
            let same = lists_once l bytes rs ss (omega (arith, more, most)) a.first b.first in
            let both = same_list l bytes ss field place kind again (subst (λ (x : List DataRecord). IsFaultAfter l bytes x field kind) same a) b in
            (same, both.0, both.1)
      ]
    ]

pub one_first_fault : (l : Layout) (bytes : List ℕ) (row other field place : ℕ) (kind again : Kind) → IsFirstDataFault l bytes row field kind → IsFirstDataFault l bytes other place again → (row ≡ other) × (field ≡ place) × (kind ≡ again)
one_first_fault l bytes row other field place kind again a b =
    let all = one_fault_after l bytes a.0 b.0 field place kind again a.2 b.2 in
    (a.1 ∙ ap (λ (x : List DataRecord). length x + 1) all.0 ∙ sym b.1, all.1, all.2)
