-- What the tests know of their phases.
use Rattle.std.proofs.Common.{◌≡◌, ℕ, zero, suc, ◌+◌, ◌<◌, ◌≤◌, List, [], ◌∷◌, ◌++◌, length, get_or, ℤ, pos, None, ap, ◌∙◌, arith}
use Rattle.std.specs.Prelude.{slice_index_or}
use Rattle.std.proofs.lemmas.List.{length-map, get_or_default}
use Rattle.flk_dat.specs.Records.{DataRecord, Rows}
use Rattle.flk_result.specs.Conditions.{Conditions, AreEnough}
use Rattle.flk_phase.specs.declared.phase.Phase.{Phase}
use Rattle.flk_phase.specs.Phase.{channel_of, conditions_of, taken_of, spare_of, over_of, column_of, Stands}
use Rattle.flk_phase.specs.Taking.{IsMadeAlike, HasTaken, TakesBlock, MayTake}
use Rattle.flk_phase.proofs.TakingLemmas.{took_column}

pub column_length : (channel : ℕ) (records : List DataRecord) → length (column_of channel records) ≡ length records
column_length channel records = length-map records (λ (r : DataRecord). slice_index_or r.analog channel (pos 0))

pub may_take : (p : Phase) (b : Rows) (channel : ℕ) → channel_of p ≡ channel → channel < 2 → b.analog ≡ 2 → length b.records ≡ 48 → 48 ≤ spare_of p → taken_of p ≡ 0 → MayTake p b
may_take p b channel is low columns count spare taken = record {
  channel = omega (arith, is, low, columns);
  room = omega (arith, count, spare);
  few = omega (arith, taken, count);
}

pub both : (P : Phase → Type 0) (a b : Phase) → P a → P b → (i : ℕ) (d : Phase) → i < 2 → P (get_or (a ∷ b ∷ []) i d)
both P a b one other zero d low = one
both P a b one other (suc zero) d low = other
both P a b one other (suc (suc i)) d low = absurd (omega (arith, low))

pub still_enough : (c d : Conditions) (n m : ℕ) → d ≡ c → m ≡ n → AreEnough c n → AreEnough d m
still_enough c d n m same count h = rw (same, count) h

-- samples for which a phase stands that took a whole block of 48 records
pub record IsFull (p : Phase) : Type 0 where
  pub samples : List ℤ
  pub stands : Stands p samples
  pub enough : AreEnough (conditions_of p) (length samples)

full_block : (old new : Phase) (b : Rows) → TakesBlock old new b → length b.records ≡ 48 → Stands old [] → AreEnough (conditions_of old) 48 → over_of new ≡ None → IsFull new
full_block old new b takes count stands enough none =
    let xs = column_of (channel_of old) b.records in
    record {
      samples = [] ++ xs;
      stands = (took_column old new xs takes none).1.has.stands [] stands;
      enough = still_enough (conditions_of old) (conditions_of new) 48 (length xs) takes.alike.conditions (column_length (channel_of old) b.records ∙ count) enough;
    }

-- the phase at a place
pub full_at : (old : Phase) (all : List Phase) (i : ℕ) (b : Rows) (d e : Phase) → i < length all → ((d : Phase) → TakesBlock old (get_or all i d) b) → length b.records ≡ 48 → Stands old []
    → AreEnough (conditions_of old) 48 → over_of (get_or all i e) ≡ None → IsFull (get_or all i d)
full_at old all i b d e there takes count stands enough none =
    full_block old (get_or all i d) b (takes d) count stands enough (ap over_of (get_or_default all i d e there) ∙ none)

-- a phase that took three blocks of 48 records in all
pub full_parts : (p q r s : Phase) (first second third : List DataRecord) → IsMadeAlike p q → IsMadeAlike q r → IsMadeAlike r s → HasTaken p q (column_of (channel_of p) first)
    → HasTaken q r (column_of (channel_of q) second) → HasTaken r s (column_of (channel_of r) third) → length first + length second + length third ≡ 48 → Stands p [] → AreEnough (conditions_of p) 48
    → IsFull s
full_parts p q r s first second third a b c one two three count stands enough =
    let x = column_of (channel_of p) first in
    let y = column_of (channel_of q) second in
    let z = column_of (channel_of r) third in
    let samples = (([] ++ x) ++ y) ++ z in
    let at_end = three.stands (([] ++ x) ++ y) (two.stands ([] ++ x) (one.stands [] stands)) in
    let many : length samples ≡ 48 =
    omega (
      arith,
      at_end.taken,
      three.taken,
      two.taken,
      one.taken,
      stands.taken,
      count,
      column_length (channel_of p) first,
      column_length (channel_of q) second,
      column_length (channel_of r) third,
    )
    in
    record {
      samples = samples;
      stands = at_end;
      enough = still_enough (conditions_of p) (conditions_of s) 48 (length samples) (c.conditions ∙ (b.conditions ∙ a.conditions)) many enough;
    }
