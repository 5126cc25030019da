-- One phase more has taken a block, or one part of the phases more.
use Rattle.std.proofs.Common.{◌≡◌, ◌≢◌, ℕ, ◌+◌, ◌-◌, ◌<◌, ◌≤◌, Bool, true, List, ◌++◌, length, length-append, get_or, set, refl, sym, ap, subst, ◌∙◌, arith, ⊎_elim}
use Rattle.std.proofs.lemmas.Bool.{cases_lt}
use Rattle.std.proofs.lemmas.List.{get_or_default, get_or-set_same, get_or-set_other, get_or_append_left, get_or-append_right, get_or-append-add}
use Rattle.flk_dat.specs.Records.{Rows}
use Rattle.flk_phase.specs.declared.phase.Phase.{Phase}
use Rattle.flk_phase.specs.Taking.{TakesBlock, MayTake}
use Rattle.flk_phase.specs.Parts.{IsReady, IsWorked}

pub done_next : (old part : List Phase) (i : ℕ) (p new : Phase) (b : Rows) → i < length part
    → ((k : ℕ) (d : Phase) → i ≤ k → get_or part k d ≡ get_or old k d) → ((k : ℕ) (d : Phase) → k < i → TakesBlock (get_or old k d) (get_or part k d) b) → TakesBlock (get_or part i p) new b
    → (k : ℕ) (d : Phase) → k < i + 1 → TakesBlock (get_or old k d) (get_or (set part i new) k d) b
done_next old part i p new b there rest done step k d low =
    ⊎_elim
    (λ before.
    let other : k ≢ i = omega (arith, before) in
    subst (λ (q : Phase). TakesBlock (get_or old k d) q b) (sym (get_or-set_other part i k new d other)) (done k d before))
    (λ last.
    let here : k ≡ i = omega (arith, low, last) in
    let was : get_or part i p ≡ get_or old i d = get_or_default part i p d there ∙ rest i d (omega arith) in
    let at_place : TakesBlock (get_or old i d) (get_or (set part i new) i d) b =
    subst (λ (q : Phase). TakesBlock q (get_or (set part i new) i d) b) was (subst (λ (q : Phase). TakesBlock (get_or part i p) q b) (sym (get_or-set_same part i new d there)) step)
    in
    subst (λ (n : ℕ). TakesBlock (get_or old n d) (get_or (set part i new) n d) b) (sym here) at_place)
    (cases_lt k i)

pub rest_next : (old part : List Phase) (i : ℕ) (new : Phase) → ((k : ℕ) (d : Phase) → i ≤ k → get_or part k d ≡ get_or old k d)
    → (k : ℕ) (d : Phase) → i + 1 ≤ k → get_or (set part i new) k d ≡ get_or old k d
rest_next old part i new rest k d late =
    let other : k ≢ i = omega (arith, late) in
    get_or-set_other part i k new d other ∙ rest k d (omega (arith, late))

-- ---- a part and the rest

pub rest_ready : (admits : ℕ → Bool) (start n : ℕ) (all part rest : List Phase) (b : Rows) → all ≡ part ++ rest → length part ≡ n → IsReady admits start all b → IsReady admits (start + n) rest b
rest_ready admits start n all part rest b is count h =
    let long : length all ≡ n + length rest = omega (arith, ap (λ (ps : List Phase). length ps) is, length-append part rest, count) in
    record {
      places = omega (arith, h.places, long);
      each = λ i d less.
          let behind : get_or all (n + i) d ≡ get_or rest i d =
          ap (λ (ps : List Phase). get_or ps (n + i) d) is ∙ ap (λ (m : ℕ). get_or (part ++ rest) (m + i) d) (sym count) ∙ get_or-append-add part rest i d
          in
          subst (λ (p : Phase). MayTake p b) behind (h.each (n + i) d (omega (arith, less, long)));
      pass = λ i less.
          let place : start + (n + i) ≡ start + n + i = omega arith in
          subst (λ (m : ℕ). admits m ≡ true) place (h.pass (n + i) (omega (arith, less, long)));
    }

pub both_worked : (all part rest part' rest' : List Phase) (b : Rows) → all ≡ part ++ rest → IsWorked part part' b → IsWorked rest rest' b → IsWorked all (part' ++ rest') b
both_worked all part rest part' rest' b is first others =
    let n = length part in
    let long : length all ≡ n + length rest = omega (arith, ap (λ (ps : List Phase). length ps) is, length-append part rest) in
    record {
      count = omega (arith, long, length-append part' rest', first.count, others.count);
      each = λ i d less.
          let was : get_or (part ++ rest) i d ≡ get_or all i d = sym (ap (λ (ps : List Phase). get_or ps i d) is) in
          subst (λ (p : Phase). TakesBlock p (get_or (part' ++ rest') i d) b) was
          (⊎_elim
          (λ before.
          subst (λ (p : Phase). TakesBlock p (get_or (part' ++ rest') i d) b) (sym (get_or_append_left part rest d i before))
          (subst (λ (p : Phase). TakesBlock (get_or part i d) p b) (sym (get_or_append_left part' rest' d i (omega (arith, before, first.count)))) (first.each i d before)))
          (λ behind.
          subst (λ (p : Phase). TakesBlock p (get_or (part' ++ rest') i d) b) (sym (get_or-append_right part rest n i d refl behind))
          (subst (λ (p : Phase). TakesBlock (get_or rest (i - n) d) p b) (sym (get_or-append_right part' rest' n i d first.count behind)) (others.each (i - n) d (omega (arith, less, long, behind)))))
          (cases_lt i n));
    }
