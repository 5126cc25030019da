use Rattle.std.proofs.Common.{◌≡◌, ◌<◌, ◌+◌, ◌-◌, true, false, length, drop, get_or, reverse, arith, List, ℕ, ◌∙◌, sym}
use Rattle.std.proofs.lemmas.List.{get_or-reverse, length-reverse}
use Rattle.std.proofs.lemmas.List.Sums.{prefix_len-drop_yes, prefix_len-drop_no, prefix_len-drop_all}
use Rattle.std.proofs.lemmas.Bool.{eq-eqb, ne_eqb, cases_lt}
use Rattle.std.specs.List.{prefix_len}
use Rattle.flk_text.specs.Lines.{is_byte}
use Rattle.flk_text.proofs.fields.spaces_at_end.Goals as goal
use Rattle.std.proofs.Common.{inl, inr}

space_more : (bytes : List ℕ) (k n : ℕ) → k < length bytes → get_or bytes (length bytes - 1 - k) 0 ≡ 32 → k + prefix_len (is_byte 32) (drop k (reverse bytes)) ≡ n
    → k + 1 + prefix_len (is_byte 32) (drop (k + 1) (reverse bytes)) ≡ n
space_more bytes k n lt is so =
    let within : k < length (reverse bytes) = omega (arith, lt, length-reverse bytes) in
    let at : is_byte 32 (get_or (reverse bytes) k 0) ≡ true = eq-eqb _ 32 (get_or-reverse bytes k 0 lt ∙ is) in
    omega (arith, so, prefix_len-drop_yes (is_byte 32) (reverse bytes) k 0 within at)

space_none : (bytes : List ℕ) (k n : ℕ) → (k < length bytes → get_or bytes (length bytes - 1 - k) 0 ≡ 32 → ⊥) → k + prefix_len (is_byte 32) (drop k (reverse bytes)) ≡ n → k ≡ n
space_none bytes k n off so =
    elim (cases_lt k (length bytes)) [
      | inl lt ↦
          let within : k < length (reverse bytes) = omega (arith, lt, length-reverse bytes) in
          let at : is_byte 32 (get_or (reverse bytes) k 0) ≡ false = ne_eqb _ 32 (λ e. off lt (sym (get_or-reverse bytes k 0 lt) ∙ e)) in
          omega (arith, so, prefix_len-drop_no (is_byte 32) (reverse bytes) k 0 within at)
      | inr ge ↦ omega (arith, so, prefix_len-drop_all (is_byte 32) (reverse bytes) k (omega (arith, ge, length-reverse bytes)))
    ]

pub loop-count-preserved : goal.loop-count-preserved
loop-count-preserved c = record {
  within = omega (arith, c.loop-count-test.true);
  left = space_more c.args.bytes.now c.loop-count.count _ c.loop-count-test.true c.if-bytes-count-eq32.true c.loop-count.invariant.left;
}

pub returns-else-bytes-count-eq32-clause-count : goal.returns-else-bytes-count-eq32-clause-count
returns-else-bytes-count-eq32-clause-count c = space_none c.args.bytes.now c.loop-count.count _ (λ lt e. c.if-bytes-count-eq32.false e) c.loop-count.invariant.left
