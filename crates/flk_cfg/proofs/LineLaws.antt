-- A line is good or has one first fault, and bytes have one value or one first fault.
use Rattle.std.proofs.Common.{◌≡◌, ℕ, ◌+◌, List, [], ◌∷◌, length, sym, ap, subst, ◌∙◌, arith, inl, inr}
use Rattle.std.proofs.lemmas.Bool.{cases_order}
use Rattle.flk_field.specs.Sets.{Set, at, FaultFrom, LineFault, InFrom, IsGoodLine}
use Rattle.flk_cfg.specs.Table.{ChannelCounts, row, title_row, counts_row, last_row}
use Rattle.flk_cfg.specs.Rows.{TitleFault, AreCounts, IsCounts, CountsFault}
use Rattle.flk_cfg.specs.Places.{IsLineAt, IsLastLineAt, HasLine, HasLastLine, FaultAt, LastFaultAt}
use Rattle.flk_cfg.specs.File.{IsGoodAt, FirstFaultAt, FaultFromLast, FaultFromThird, FaultFromSecond, IsFirstFault}
use Rattle.flk_field.specs.declared.kind.Kind.{Kind}
use Rattle.flk_cfg.proofs.Rows.{good_counts}
use Rattle.flk_field.proofs.FieldLaws.{in_or_out, one_kind, whole_from_once, counted_once}

-- ---- rows

good_or_fault_from : (from : ℕ) (sets : List Set) (fs : List (List ℕ)) (place : ℕ) (k : Kind) → InFrom from sets fs → FaultFrom from sets fs place k → ⊥
good_or_fault_from from [] fs place k is out = out
good_or_fault_from from (s ∷ ss) fs place k is (inl out) = in_or_out s (at fs from) k is.0 out.1
good_or_fault_from from (s ∷ ss) fs place k is (inr out) = good_or_fault_from (from + 1) ss fs place k is.1 out.1

pub good_or_fault : (sets : List Set) (fs : List (List ℕ)) (place : ℕ) (k : Kind) → IsGoodLine sets fs → LineFault sets fs place k → ⊥
good_or_fault sets fs place k is (inl out) = out.0 is.0
good_or_fault sets fs place k is (inr out) = good_or_fault_from 1 sets fs place k is.1 out.1

one_fault_from : (from : ℕ) (sets : List Set) (fs : List (List ℕ)) (p q : ℕ) (k j : Kind) → FaultFrom from sets fs p k → FaultFrom from sets fs q j → (p ≡ q) × (k ≡ j)
one_fault_from from [] fs p q k j a b = absurd a
one_fault_from from (s ∷ ss) fs p q k j (inl a) (inl b) = (a.0 ∙ sym b.0, one_kind s (at fs from) k j a.1 b.1)
one_fault_from from (s ∷ ss) fs p q k j (inl a) (inr b) = absurd (in_or_out s (at fs from) k b.0 a.1)
one_fault_from from (s ∷ ss) fs p q k j (inr a) (inl b) = absurd (in_or_out s (at fs from) j a.0 b.1)
one_fault_from from (s ∷ ss) fs p q k j (inr a) (inr b) = one_fault_from (from + 1) ss fs p q k j a.1 b.1

pub one_fault : (sets : List Set) (fs : List (List ℕ)) (p q : ℕ) (k j : Kind) → LineFault sets fs p k → LineFault sets fs q j → (p ≡ q) × (k ≡ j)
one_fault sets fs p q k j (inl a) (inl b) = (a.1 ∙ sym b.1, a.2 ∙ sym b.2)
one_fault sets fs p q k j (inl a) (inr b) = absurd (a.0 b.0)
one_fault sets fs p q k j (inr a) (inl b) = absurd (b.0 a.0)
one_fault sets fs p q k j (inr a) (inr b) = one_fault_from 1 sets fs p q k j a.1 b.1

-- ---- the first two lines

pub title_or_fault : (fs : List (List ℕ)) (p : ℕ) (k : Kind) → IsGoodLine title_row fs → TitleFault fs p k → ⊥
title_or_fault fs p k is (inl out) = omega (arith, is.0, out.0)
title_or_fault fs p k is (inr out) = good_or_fault title_row fs p k is out.1

pub one_title_fault : (fs : List (List ℕ)) (p q : ℕ) (k j : Kind) → TitleFault fs p k → TitleFault fs q j → (p ≡ q) × (k ≡ j)
one_title_fault fs p q k j (inl a) (inl b) = (a.1 ∙ sym b.1, a.2 ∙ sym b.2)
one_title_fault fs p q k j (inl a) (inr b) = absurd (b.0 a.0)
one_title_fault fs p q k j (inr a) (inl b) = absurd (a.0 b.0)
one_title_fault fs p q k j (inr a) (inr b) = one_fault title_row fs p q k j a.1 b.1

pub counts_once : (fs : List (List ℕ)) (t a d u b e : ℕ) → AreCounts fs t a d → AreCounts fs u b e → (t ≡ u) × (a ≡ b) × (d ≡ e)
counts_once fs t a d u b e p q = (
  whole_from_once 1 512 (at fs 1) t u p.total_is q.total_is,
  counted_once 65 1 256 (at fs 2) a b p.analog_is q.analog_is,
  counted_once 68 0 256 (at fs 3) d e p.digital_is q.digital_is,
)

pub counts_or_fault : (fs : List (List ℕ)) (a d p : ℕ) (k : Kind) → IsCounts fs a d → CountsFault fs p k → ⊥
counts_or_fault fs a d p k is (inl out) = good_or_fault counts_row fs p k (good_counts fs (a + d) a d is) out
counts_or_fault fs a d p k is (inr out) =
    let same = counts_once fs (a + d) a d out.0 out.1 out.2 is out.3 in
    out.4 (omega (arith, same.0, same.1, same.2))

pub one_counts_fault : (fs : List (List ℕ)) (p q : ℕ) (k j : Kind) → CountsFault fs p k → CountsFault fs q j → (p ≡ q) × (k ≡ j)
one_counts_fault fs p q k j (inl a) (inl b) = one_fault counts_row fs p q k j a b
one_counts_fault fs p q k j (inl a) (inr b) = absurd (good_or_fault counts_row fs p k (good_counts fs b.0 b.1 b.2 b.3) a)
one_counts_fault fs p q k j (inr a) (inl b) = absurd (good_or_fault counts_row fs q j (good_counts fs a.0 a.1 a.2 a.3) b)
one_counts_fault fs p q k j (inr a) (inr b) = (a.5 ∙ sym b.5, a.6 ∙ sym b.6)

-- ---- lines by their place

pub one_line : (bytes : List ℕ) (k : ℕ) (x y : List (List ℕ)) → IsLineAt bytes k x → IsLineAt bytes k y → x ≡ y
one_line bytes k x y a b = a.is ∙ sym b.is

pub one_last_line : (bytes : List ℕ) (k : ℕ) (x y : List (List ℕ)) → IsLastLineAt bytes k x → IsLastLineAt bytes k y → x ≡ y
one_last_line bytes k x y a b = a.is ∙ sym b.is

pub line_or_fault : (bytes : List ℕ) (k p : ℕ) (i : Kind) (good : List (List ℕ) → Type 0) (fault : List (List ℕ) → ℕ → Kind → Type 0) → ((fs : List (List ℕ)) → good fs → fault fs p i → ⊥)
    → HasLine bytes k good → FaultAt bytes k fault p i → ⊥
line_or_fault bytes k p i good fault apart h (inl e) = omega (arith, h.1.there, ap length e.0)
line_or_fault bytes k p i good fault apart h (inr f) = apart f.0 (subst good (one_line bytes k h.0 f.0 h.1 f.1) h.2) f.2

pub one_line_fault : (bytes : List ℕ) (k p q : ℕ) (i j : Kind) (fault : List (List ℕ) → ℕ → Kind → Type 0) → ((fs : List (List ℕ)) → fault fs p i → fault fs q j → (p ≡ q) × (i ≡ j))
    → FaultAt bytes k fault p i → FaultAt bytes k fault q j → (p ≡ q) × (i ≡ j)
one_line_fault bytes k p q i j fault one (inl a) (inl b) = (a.1 ∙ sym b.1, a.2 ∙ sym b.2)
one_line_fault bytes k p q i j fault one (inl a) (inr b) = absurd (omega (arith, b.1.there, ap length a.0))
one_line_fault bytes k p q i j fault one (inr a) (inl b) = absurd (omega (arith, a.1.there, ap length b.0))
one_line_fault bytes k p q i j fault one (inr a) (inr b) = one b.0 (subst (λ (fs : List (List ℕ)). fault fs p i) (one_line bytes k a.0 b.0 a.1 b.1) a.2) b.2

pub last_or_fault : (bytes : List ℕ) (k p : ℕ) (i : Kind) → HasLastLine bytes k (IsGoodLine last_row) → LastFaultAt bytes k (LineFault last_row) p i → ⊥
last_or_fault bytes k p i h (inl e) = omega (arith, h.1.there, ap length e.0)
last_or_fault bytes k p i h (inr f) = good_or_fault last_row f.0 p i (subst (IsGoodLine last_row) (one_last_line bytes k h.0 f.0 h.1 f.1) h.2) f.2

one_last_fault : (bytes : List ℕ) (k p q : ℕ) (i j : Kind) → LastFaultAt bytes k (LineFault last_row) p i → LastFaultAt bytes k (LineFault last_row) q j → (p ≡ q) × (i ≡ j)
one_last_fault bytes k p q i j (inl a) (inl b) = (a.1 ∙ sym b.1, a.2 ∙ sym b.2)
one_last_fault bytes k p q i j (inl a) (inr b) = absurd (omega (arith, b.1.there, ap length a.0))
one_last_fault bytes k p q i j (inr a) (inl b) = absurd (omega (arith, a.1.there, ap length b.0))
one_last_fault bytes k p q i j (inr a) (inr b) = one_fault last_row b.0 p q i j (subst (λ (fs : List (List ℕ)). LineFault last_row fs p i) (one_last_line bytes k a.0 b.0 a.1 b.1) a.2) b.2

pub third_or_fault : (bytes : List ℕ) (count : ChannelCounts) (l p : ℕ) (i : Kind) → IsGoodAt bytes count l → FaultAt bytes (2 + l) (LineFault (row count l)) p i → ⊥
third_or_fault bytes count l p i good out = line_or_fault bytes (2 + l) p i (IsGoodLine (row count l)) (LineFault (row count l)) (λ fs. good_or_fault (row count l) fs p i) good out

one_third_fault : (bytes : List ℕ) (count : ChannelCounts) (k l p q : ℕ) (i j : Kind) → FirstFaultAt bytes count k p i → FirstFaultAt bytes count l q j → (k ≡ l) × (p ≡ q) × (i ≡ j)
one_third_fault bytes count k l p q i j a b =
    elim (cases_order k l) [
      | inl same ↦
          let here : FaultAt bytes (2 + l) (LineFault (row count l)) p i = subst (λ (m : ℕ). FaultAt bytes (2 + m) (LineFault (row count m)) p i) same a.here in
          let both = one_line_fault bytes (2 + l) p q i j (LineFault (row count l)) (λ fs. one_fault (row count l) fs p q i j) here b.here in
          (same, both.0, both.1)
      | inr (inl less) ↦ absurd (third_or_fault bytes count k p i (b.before k less) a.here)
      | inr (inr more) ↦ absurd (third_or_fault bytes count l q j (a.before l more) b.here)
    ]

-- ---- one first fault

abbrev pub Same : (l m p q : ℕ) (i j : Kind) → Type 0
Same l m p q i j = (l ≡ m) × (p ≡ q) × (i ≡ j)

from_last : (bytes : List ℕ) (k l m p q : ℕ) (i j : Kind) → FaultFromLast bytes k l p i → FaultFromLast bytes k m q j → Same l m p q i j
from_last bytes k l m p q i j (inl a) (inl b) =
    let both = one_last_fault bytes k p q i j a.1 b.1 in
    (a.0 ∙ sym b.0, both.0, both.1)
from_last bytes k l m p q i j (inl a) (inr b) = absurd (last_or_fault bytes k p i b.0 a.1)
from_last bytes k l m p q i j (inr a) (inl b) = absurd (last_or_fault bytes k q j a.0 b.1)
from_last bytes k l m p q i j (inr a) (inr b) = (a.1.0 ∙ sym b.1.0, a.1.1 ∙ sym b.1.1, a.1.2 ∙ sym b.1.2)

from_third : (bytes : List ℕ) (count : ChannelCounts) (l m p q : ℕ) (i j : Kind) → FaultFromThird bytes count l p i → FaultFromThird bytes count m q j → Same l m p q i j
from_third bytes count l m p q i j (inl a) (inl b) =
    let all = one_third_fault bytes count a.0 b.0 p q i j a.2 b.2 in
    (a.1 ∙ ap (λ (n : ℕ). n + 3) all.0 ∙ sym b.1, all.1, all.2)
from_third bytes count l m p q i j (inl a) (inr b) = absurd (third_or_fault bytes count a.0 p i (b.0 a.0 a.2.within) a.2.here)
from_third bytes count l m p q i j (inr a) (inl b) = absurd (third_or_fault bytes count b.0 q j (a.0 b.0 b.2.within) b.2.here)
from_third bytes count l m p q i j (inr a) (inr b) = from_last bytes (2 + count.analog + count.digital + 6) l m p q i j a.1 b.1

pub counts_at_once : (bytes : List ℕ) (a d b e : ℕ) → HasLine bytes 1 (λ parts. IsCounts parts a d) → HasLine bytes 1 (λ parts. IsCounts parts b e) → (a ≡ b) × (d ≡ e)
counts_at_once bytes a d b e p q =
    let same = counts_once q.0 (a + d) a d (b + e) b e (subst (λ (fs : List (List ℕ)). IsCounts fs a d) (one_line bytes 1 p.0 q.0 p.1 q.1) p.2) q.2 in
    (same.1, same.2)

abbrev counts_of : (analog digital : ℕ) → ChannelCounts
counts_of analog digital = record { analog = analog; digital = digital }

pub same_counts : (a b : ChannelCounts) → a.analog ≡ b.analog → a.digital ≡ b.digital → a ≡ b
same_counts a b analog digital = ap (λ (n : ℕ). counts_of n a.digital) analog ∙ ap (counts_of b.analog) digital

from_second : (bytes : List ℕ) (l m p q : ℕ) (i j : Kind) → FaultFromSecond bytes l p i → FaultFromSecond bytes m q j → Same l m p q i j
from_second bytes l m p q i j (inl a) (inl b) =
    let both = one_line_fault bytes 1 p q i j CountsFault (λ fs. one_counts_fault fs p q i j) a.1 b.1 in
    (a.0 ∙ sym b.0, both.0, both.1)
from_second bytes l m p q i j (inl a) (inr b) = absurd (line_or_fault bytes 1 p i (λ parts. IsCounts parts b.0.analog b.0.digital) CountsFault (λ fs. counts_or_fault fs b.0.analog b.0.digital p i) b.1 a.1)
from_second bytes l m p q i j (inr a) (inl b) = absurd (line_or_fault bytes 1 q j (λ parts. IsCounts parts a.0.analog a.0.digital) CountsFault (λ fs. counts_or_fault fs a.0.analog a.0.digital q j) a.1 b.1)
from_second bytes l m p q i j (inr a) (inr b) =
    let same = counts_at_once bytes a.0.analog a.0.digital b.0.analog b.0.digital a.1 b.1 in
    from_third bytes b.0 l m p q i j (subst (λ (count : ChannelCounts). FaultFromThird bytes count l p i) (same_counts a.0 b.0 same.0 same.1) a.2) b.2

-- bytes have at most one first fault
pub one_first_fault : (bytes : List ℕ) (l m p q : ℕ) (i j : Kind) → IsFirstFault bytes l p i → IsFirstFault bytes m q j → Same l m p q i j
one_first_fault bytes l m p q i j (inl a) (inl b) =
    let both = one_line_fault bytes 0 p q i j TitleFault (λ fs. one_title_fault fs p q i j) a.1 b.1 in
    (a.0 ∙ sym b.0, both.0, both.1)
one_first_fault bytes l m p q i j (inl a) (inr b) = absurd (line_or_fault bytes 0 p i (IsGoodLine title_row) TitleFault (λ fs. title_or_fault fs p i) b.0 a.1)
one_first_fault bytes l m p q i j (inr a) (inl b) = absurd (line_or_fault bytes 0 q j (IsGoodLine title_row) TitleFault (λ fs. title_or_fault fs q j) a.0 b.1)
one_first_fault bytes l m p q i j (inr a) (inr b) = from_second bytes l m p q i j a.1 b.1
