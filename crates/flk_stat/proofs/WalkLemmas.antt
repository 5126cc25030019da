-- What a walk over buckets counts.
use Rattle.std.proofs.Common.{◌≡◌, ℕ, ◌+◌, Bool, true, false, List, set, ap, ◌∙◌, sym, arith}
use Rattle.flk_stat.specs.declared.buckets.Walk.{Walk}
use Rattle.flk_stat.specs.Buckets.{count_in, count_above, is_marked, kept_of}
use Rattle.flk_stat.specs.Walk.{IsWalked}
use Rattle.flk_stat.proofs.BucketLemmas.{counted_below, all_kept, none_kept, marked_below}

above_next : (bucket : ℕ → ℕ) (levels : List ℕ) (place next : ℕ) → next + 1 ≡ place → count_above bucket levels next ≡ count_above bucket levels place + count_in bucket levels place
above_next bucket levels place next down =
    counted_below bucket levels next ∙ ap (λ (j : ℕ). count_above bucket levels j + count_in bucket levels j) down

kept_next : (bucket : ℕ → ℕ) (levels : List ℕ) (marks others : List Bool) (place next : ℕ) → next + 1 ≡ place → others ≡ marks
    → count_above bucket (kept_of bucket others levels) next ≡ count_above bucket (kept_of bucket marks levels) place + count_in bucket (kept_of bucket marks levels) place
kept_next bucket levels marks others place next down same =
    ap (λ (ms : List Bool). count_above bucket (kept_of bucket ms levels) next) same ∙ above_next bucket (kept_of bucket marks levels) place next down

-- down from a marked bucket
pub walked_marked : (bucket : ℕ → ℕ) (levels : List ℕ) (w t : Walk) (count : ℕ) → t.place + 1 ≡ w.place → t.marks ≡ w.marks → count ≡ count_in bucket levels w.place
    → t.above ≡ w.above + count → t.kept ≡ w.kept + count → is_marked w.marks w.place ≡ true → IsWalked bucket levels w → IsWalked bucket levels t
walked_marked bucket levels w t count down marks is above kept marked h = record {
  above = omega (arith, above, is, h.above, above_next bucket levels w.place t.place down);
  kept = omega (arith, kept, is, h.kept, kept_next bucket levels w.marks t.marks w.place t.place down marks, all_kept bucket levels w.marks w.place marked);
}

-- and from another
pub walked_free : (bucket : ℕ → ℕ) (levels : List ℕ) (w t : Walk) (count : ℕ) → t.place + 1 ≡ w.place → t.marks ≡ w.marks → count ≡ count_in bucket levels w.place
    → t.above ≡ w.above + count → t.kept ≡ w.kept → is_marked w.marks w.place ≡ false → IsWalked bucket levels w → IsWalked bucket levels t
walked_free bucket levels w t count down marks is above kept free h = record {
  above = omega (arith, above, is, h.above, above_next bucket levels w.place t.place down);
  kept = omega (arith, kept, h.kept, kept_next bucket levels w.marks t.marks w.place t.place down marks, none_kept bucket levels w.marks w.place free);
}

-- its bucket marked
pub walked_on : (bucket : ℕ → ℕ) (levels : List ℕ) (w t : Walk) → t.place ≡ w.place → t.above ≡ w.above → t.kept ≡ w.kept → t.marks ≡ set w.marks w.place true → IsWalked bucket levels w
    → IsWalked bucket levels t
walked_on bucket levels w t place above kept marks h = record {
  above = above ∙ h.above ∙ ap (count_above bucket levels) (sym place);
  kept =
      kept ∙ h.kept ∙ sym (marked_below bucket levels w.marks w.place w.place (omega arith))
      ∙ ap (λ (ms : List Bool). count_above bucket (kept_of bucket ms levels) w.place) (sym marks) ∙ ap (count_above bucket (kept_of bucket t.marks levels)) (sym place);
}
