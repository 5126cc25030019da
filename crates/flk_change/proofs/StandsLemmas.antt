-- The state of `Extreme`: what one value more does to it.
use Rattle.std.proofs.Common.{◌≡◌, inl, inr, ℕ, ◌+◌, ◌-◌, ◌<◌, ◌≤◌, List, [], ◌∷◌, ◌++◌, length, Some, ℤ, ◌<ℤ◌, refl, sym, ap, ◌∙◌, subst, arith, length-append}
use Rattle.std.specs.Int.RustNames.{unsigned_abs}
use Rattle.std.specs.List.{All}
use Rattle.std.proofs.lemmas.List.Elements.{All-push, All-drop, All-take}
use Rattle.circular_buffer.specs.Buffer.{Buffer, buffer, keep_last, last_item}
use Rattle.flk_change.specs.declared.candidates.Candidate.{Candidate}
use Rattle.flk_change.specs.declared.extreme.Extreme.{Extreme}
use Rattle.flk_change.specs.Extreme.{window_begin, Stands}
use Rattle.flk_change.specs.Candidates.{IsWithoutEarlier}
use Rattle.flk_change.proofs.CandidateLemmas.{Keeps, DropsReached, keeps_candidates, keeps_later, keeps_push, kept_few, places_are, values_are}

-- the ring in its three steps
pub record IsPushed (old new : Buffer Candidate) (count : ℕ) (v : ℤ) : Type 0 where
  pub rest : List Candidate
  pub front : List Candidate
  pub earlier : IsWithoutEarlier (count + 1 - old.capacity) old.items rest
  pub reached : DropsReached v rest front
  pub above : (c : Candidate) → last_item front ≡ Some c → v <ℤ c.value
  pub is : new ≡ buffer (keep_last old.capacity (front ++ record { place = count; value = v } ∷ [])) old.capacity

-- as the calls tell of them; u and w are the value
pub pushed_by : (old rest front new : Buffer Candidate) (begin count size : ℕ) (u v w : ℤ) → begin ≡ count + 1 - size → size ≡ old.capacity
    → rest.capacity ≡ old.capacity → IsWithoutEarlier begin old.items rest.items
    → front.capacity ≡ rest.capacity → DropsReached u rest.items front.items → ((c : Candidate) → last_item front.items ≡ Some c → u <ℤ c.value)
    → new ≡ buffer (keep_last front.capacity (front.items ++ record { place = count; value = w } ∷ [])) front.capacity → u ≡ v → w ≡ v
    → IsPushed old new count v
pushed_by old rest front new begin count size u v w first window kept earlier same reached above is is_u is_w = record {
  rest = rest.items;
  front = front.items;
  earlier = subst (λ (b : ℕ). IsWithoutEarlier b old.items rest.items) (first ∙ ap (λ (n : ℕ). count + 1 - n) window) earlier;
  reached = subst (λ (z : ℤ). DropsReached z rest.items front.items) is_u reached;
  above = subst (λ (z : ℤ). (c : Candidate) → last_item front.items ≡ Some c → z <ℤ c.value) is_u above;
  is = is ∙ ap (λ (z : ℤ). buffer (keep_last front.capacity (front.items ++ record { place = count; value = z } ∷ [])) front.capacity) is_w
      ∙ ap (λ (n : ℕ). buffer (keep_last n (front.items ++ record { place = count; value = v } ∷ [])) n) (same ∙ kept);
}

pub stands_push : (s t : Extreme) (v : ℤ) → IsPushed s.ring t.ring s.count v → t.count ≡ s.count + 1 → (window : ℕ) (values : List ℤ) → Stands s window values → Stands t window (values ++ v ∷ [])
stands_push s t v p count window values h =
    let all = values ++ v ∷ [] in
    let more : length all ≡ length values + 1 = omega (arith, length-append values (v ∷ [])) in
    let begin = window_begin window values in
    let next = window_begin window all in
    let some : 0 < window = omega (arith, s.some, h.same_window) in
    let same : s.count + 1 - s.ring.capacity ≡ next = omega (arith, h.same_window, h.count, more) in
    let earlier = subst (λ (b : ℕ). IsWithoutEarlier b s.ring.items p.rest) same p.earlier in
    let old = keeps_candidates window values s.ring.items h.places h.value in
    let rest = keeps_later begin next values s.ring.items p.rest (omega (arith, more)) (omega (arith, more)) old earlier in
    let within : next ≤ length values = omega (arith, more, some) in
    let few = kept_few next values p.rest within rest in
    let last : Candidate = record { place = length values; value = v } in
    let kept : Keeps next all (p.front ++ last ∷ []) = keeps_push next values v p.rest p.front within rest p.reached p.above in
    let room : length (p.front ++ last ∷ []) - s.ring.capacity ≡ 0 = omega (arith, length-append p.front (last ∷ []), p.reached.fewer, few, more, h.same_window) in
    let items : t.ring.items ≡ p.front ++ last ∷ [] = ap (λ (b : Buffer Candidate). b.items) p.is ∙ rw (h.count, room) refl in
    let state : Keeps next all t.ring.items = subst (Keeps next all) (sym items) kept in
    record {
      same_window = ap (λ (b : Buffer Candidate). b.capacity) p.is ∙ h.same_window;
      count = omega (arith, count, h.count, more);
      places = places_are window all t.ring.items state;
      value = values_are next all t.ring.items state;
    }

-- a value that is small comes to values that are
abbrev pub AreSmallValues : List Candidate → Type 0
AreSmallValues cs = All (λ c. unsigned_abs c.value ≤ 10000000000) cs

earlier_small : (begin : ℕ) (old new : List Candidate) → IsWithoutEarlier begin old new → AreSmallValues old → AreSmallValues new
earlier_small begin old new (inl kept) h = subst AreSmallValues (sym kept.0) h
earlier_small begin old new (inr dropped) h = subst AreSmallValues (sym dropped.0) (All-drop (λ (c : Candidate). unsigned_abs c.value ≤ 10000000000) 1 old h)

pub small_push : (old new : Buffer Candidate) (count : ℕ) (v : ℤ) → IsPushed old new count v → AreSmallValues old.items → unsigned_abs v ≤ 10000000000 → AreSmallValues new.items
small_push old new count v p h small =
    let isSmall : Candidate → Type 0 = λ c. unsigned_abs c.value ≤ 10000000000 in
    let last : Candidate = record { place = count; value = v } in
    let rest = earlier_small (count + 1 - old.capacity) old.items p.rest p.earlier h in
    let front : AreSmallValues p.front = subst AreSmallValues (sym p.reached.front) (All-take isSmall (length p.front) p.rest rest) in
    let all = All-push isSmall p.front last front small in
    subst AreSmallValues (sym (ap (λ (b : Buffer Candidate). b.items) p.is)) (All-drop isSmall (length (p.front ++ last ∷ []) - old.capacity) (p.front ++ last ∷ []) all)
