-- The values that are kept of a list: that they are the candidates, and what one value more does to them.
use Rattle.std.proofs.Common.{◌≡◌, ◌⊎◌, inl, inr, ℕ, zero, suc, ◌+◌, ◌-◌, ◌<◌, ◌≤◌, List, [], ◌∷◌, ◌++◌, length, take, drop, map, get_or, Some, None, ℤ, pos, ◌<ℤ◌, ◌≤ℤ◌, refl, sym, ap, ◌∙◌, subst, arith, length-append, length-drop, ⊎_elim}
use Rattle.std.specs.List.{All, slice_get}
use Rattle.std.proofs.lemmas.Int.{ints, by_lt_z}
use Rattle.std.proofs.lemmas.Bool.{cases_lt}
use Rattle.std.proofs.lemmas.Grind.{get_or_after_one}
use Rattle.std.proofs.lemmas.List.{get_or_append_left, get_or_push, get_or-take, get_or-drop, get_or-map, get_or_default, length-map, length-take-le, take-take, take_all}
use Rattle.std.proofs.lemmas.Option.{none-some, slice_get-get_or, slice_get_within, get_or_from_slice_get}
use Rattle.circular_buffer.specs.Buffer.{keep_last, last_item}
use Rattle.flk_exact.specs.Extreme.{IsGreatest}
use Rattle.flk_change.specs.declared.candidates.Candidate.{Candidate}
use Rattle.flk_change.specs.Extreme.{value_at, window_begin, IsCandidate, AreCandidates}
use Rattle.flk_change.specs.Candidates.{IsWithoutEarlier}

pub no_candidate : Candidate
no_candidate = record { place = 0; value = pos 0 }

abbrev pub kept_at : List Candidate → ℕ → Candidate
kept_at kept k = get_or kept k no_candidate

-- a value that is kept came no earlier than the one at place i, and is at least as great
pub record IsCovered (values : List ℤ) (kept : List Candidate) (i : ℕ) : Type 0 where
  pub index : ℕ
  pub there : index < length kept
  pub later : i ≤ (kept_at kept index).place
  pub above : value_at values i ≤ℤ (kept_at kept index).value

-- What is kept of the values from a place on: some of them with their places, in the order of the list and ever lesser, that cover them all.
pub record Keeps (begin : ℕ) (values : List ℤ) (kept : List Candidate) : Type 0 where
  pub from : (k : ℕ) → k < length kept → begin ≤ (kept_at kept k).place
  pub there : (k : ℕ) → k < length kept → (kept_at kept k).place < length values
  pub value : (k : ℕ) → k < length kept → (kept_at kept k).value ≡ value_at values (kept_at kept k).place
  pub ascending : (k l : ℕ) → k < l → l < length kept → (kept_at kept k).place < (kept_at kept l).place
  pub descending : (k l : ℕ) → k < l → l < length kept → (kept_at kept l).value <ℤ (kept_at kept k).value
  pub covers : (i : ℕ) → begin ≤ i → i < length values → IsCovered values kept i

-- the last of some
last_is : (cs : List Candidate) (k : ℕ) → length cs ≡ k + 1 → last_item cs ≡ Some (kept_at cs k)
last_is cs k count =
    let at : length cs - 1 ≡ k = omega (arith, count) in
    rw at (slice_get-get_or cs k no_candidate (omega (arith, count)))

-- the last ones are dropped up to here, where all that were dropped are at most v
pub record DropsReached (v : ℤ) (old new : List Candidate) : Type 0 where
  pub fewer : length new ≤ length old
  pub front : new ≡ take (length new) old
  pub dropped : (k : ℕ) (d : Candidate) → length new ≤ k → k < length old → (get_or old k d).value ≤ℤ v

pub drops_none : (v : ℤ) (all : List Candidate) → DropsReached v all all
drops_none v all = record {
  fewer = omega arith;
  front = sym (take_all (length all) all (omega arith));
  dropped = λ k d above below. absurd (omega (arith, above, below));
}

pub drops_last : (v : ℤ) (all old new : List Candidate) (c : Candidate) → DropsReached v all old → last_item old ≡ Some c → c.value ≤ℤ v → new ≡ take (length old - 1) old → DropsReached v all new
drops_last v all old new c h last reached is =
    let some : length old - 1 < length old = slice_get_within old (length old - 1) c last in
    let count : length new ≡ length old - 1 = ap length is ∙ length-take-le (length old - 1) old (omega arith) in
    let both : take (length old - 1) old ≡ take (length old - 1) all = ap (take (length old - 1)) h.front ∙ take-take (length old - 1) (length old) all (omega arith) in
    record {
      fewer = omega (arith, count, h.fewer);
      front = is ∙ both ∙ ap (λ (n : ℕ). take n all) (sym count);
      dropped = λ k d above below.
          ⊎_elim
          (λ inner.
          let e : length old - 1 ≡ k = omega (arith, above, count, inner) in
          let same : get_or old k d ≡ c = ap (λ (j : ℕ). get_or old j d) (sym e) ∙ get_or_from_slice_get old (length old - 1) c d last in
          let there : get_or old k d ≡ get_or all k d = ap (λ (xs : List Candidate). get_or xs k d) h.front ∙ get_or-take (length old) all k d inner in
          let is_c : c ≡ get_or all k d = sym same ∙ there in
          subst (λ (u : Candidate). u.value ≤ℤ v) is_c reached)
          (λ outer. h.dropped k d outer below)
          (cases_lt k (length old));
    }

-- there is one where there is a last one
pub some_last : (cs : List Candidate) (c : Candidate) → last_item cs ≡ Some c → 0 < length cs
some_last cs c last = omega (arith, slice_get_within cs (length cs - 1) c last)

-- ---- the window moves on by a place at most

keeps_whole : (begin next : ℕ) (values : List ℤ) (cs : List Candidate) → begin ≤ next → Keeps begin values cs → (0 < length cs → next ≤ (kept_at cs 0).place) → Keeps next values cs
keeps_whole begin next values cs later h first = record {
  from = λ k low.
      ⊎_elim
      (λ more. omega (arith, first (omega (arith, low)), h.ascending 0 k more low))
      (λ none. let zero_is : 0 ≡ k = omega (arith, none) in subst (λ (n : ℕ). next ≤ (kept_at cs n).place) zero_is (first (omega (arith, low))))
      (cases_lt 0 k);
  there = h.there;
  value = h.value;
  ascending = h.ascending;
  descending = h.descending;
  covers = λ i above below. h.covers i (omega (arith, later, above)) below;
}

keeps_rest : (begin next : ℕ) (values : List ℤ) (cs : List Candidate) → begin ≤ next → next ≤ begin + 1 → Keeps begin values cs → (0 < length cs → (kept_at cs 0).place < next) → Keeps next values (drop 1 cs)
keeps_rest begin next values cs later near h first =
    let count = length-drop 1 cs in
    let at : (k : ℕ) → kept_at (drop 1 cs) k ≡ kept_at cs (1 + k) = λ k. get_or_after_one cs k no_candidate in
    let inside : (k : ℕ) → k < length (drop 1 cs) → 1 + k < length cs = λ k low. omega (arith, low, count) in
    record {
      from = λ k low. rw (at k) (omega (arith, near, h.from 0 (omega (arith, inside k low)), h.ascending 0 (1 + k) (omega arith) (inside k low)));
      there = λ k low. rw (at k) (h.there (1 + k) (inside k low));
      value = λ k low. rw (at k) (h.value (1 + k) (inside k low));
      ascending = λ k l less low. rw (at k, at l) (h.ascending (1 + k) (1 + l) (omega (arith, less)) (inside l low));
      descending = λ k l less low. rw (at k, at l) (h.descending (1 + k) (1 + l) (omega (arith, less)) (inside l low));
      covers = λ i above below.
          let c = h.covers i (omega (arith, later, above)) below in
          ⊎_elim
          (λ more.
          let back : 1 + (c.index - 1) ≡ c.index = omega (arith, more) in
          let e : kept_at (drop 1 cs) (c.index - 1) ≡ kept_at cs c.index = at (c.index - 1) ∙ ap (kept_at cs) back in
          record {
            index = c.index - 1;
            there = omega (arith, more, c.there, count);
            later = rw e c.later;
            above = rw e c.above;
          })
          (λ none.
          let zero_is : c.index ≡ 0 = omega (arith, none) in
          let past : i ≤ (kept_at cs 0).place = subst (λ (n : ℕ). i ≤ (kept_at cs n).place) zero_is c.later in
          absurd (omega (arith, above, past, first (omega (arith, c.there)))))
          (cases_lt 0 c.index);
    }

pub keeps_later : (begin next : ℕ) (values : List ℤ) (old new : List Candidate) → begin ≤ next → next ≤ begin + 1 → Keeps begin values old → IsWithoutEarlier next old new → Keeps next values new
keeps_later begin next values old new later near h (inl kept) =
    subst (Keeps next values) (sym kept.0) (keeps_whole begin next values old later h (λ some. kept.1 (kept_at old 0) (slice_get-get_or old 0 no_candidate some)))
keeps_later begin next values old new later near h (inr dropped) =
    subst (Keeps next values) (sym dropped.0) (keeps_rest begin next values old later near h (λ some. dropped.1 (kept_at old 0) (slice_get-get_or old 0 no_candidate some)))

-- ---- one value more

pub keeps_push : (begin : ℕ) (values : List ℤ) (v : ℤ) (cs front : List Candidate) → begin ≤ length values → Keeps begin values cs → DropsReached v cs front
    → ((c : Candidate) → last_item front ≡ Some c → v <ℤ c.value)
    → Keeps begin (values ++ v ∷ []) (front ++ record { place = length values; value = v } ∷ [])
keeps_push begin values v cs front within h drops above =
    let m = length front in
    let fits = drops.fewer in
    let is = drops.front in
    let new : Candidate = record { place = length values; value = v } in
    let n = length values in
    let count : length front ≡ m = refl in
    let total : length (front ++ new ∷ []) ≡ m + 1 = omega (arith, count, length-append front (new ∷ [])) in
    let more : length (values ++ v ∷ []) ≡ n + 1 = omega (arith, length-append values (v ∷ [])) in
    let old : (k : ℕ) → k < m → kept_at (front ++ new ∷ []) k ≡ kept_at cs k = λ k low.
    get_or_append_left front (new ∷ []) no_candidate k (omega (arith, low, count)) ∙ ap (λ (xs : List Candidate). kept_at xs k) is ∙ get_or-take m cs k no_candidate low in
    let last : kept_at (front ++ new ∷ []) m ≡ new = get_or_push front new no_candidate m count in
    let inside : (k : ℕ) → k < m → k < length cs = λ k low. omega (arith, low, fits) in
    let same : (i : ℕ) → i < n → value_at (values ++ v ∷ []) i ≡ value_at values i = λ i low. get_or_append_left values (v ∷ []) (pos 0) i low in
    let here : value_at (values ++ v ∷ []) n ≡ v = get_or_push values v (pos 0) n refl in
    let high : (k : ℕ) → k < m → v <ℤ (kept_at cs k).value = λ k low.
    let end : length front ≡ m - 1 + 1 = omega (arith, count, low) in
    let top = above (kept_at front (m - 1)) (last_is front (m - 1) end) in
    let top_is : kept_at front (m - 1) ≡ kept_at cs (m - 1) = ap (λ (xs : List Candidate). kept_at xs (m - 1)) is ∙ get_or-take m cs (m - 1) no_candidate (omega (arith, low)) in
    let top_above : v <ℤ (kept_at cs (m - 1)).value = subst (λ (c : Candidate). v <ℤ c.value) top_is top in
    ⊎_elim
    (λ before. omega (arith, ints, top_above, h.descending k (m - 1) before (omega (arith, low, fits))))
    (λ end_is. let e : m - 1 ≡ k = omega (arith, low, end_is) in subst (λ (j : ℕ). v <ℤ (kept_at cs j).value) e top_above)
    (cases_lt k (m - 1)) in
    -- each index is an old one or the last
    let cases : (k : ℕ) → k < length (front ++ new ∷ []) → (k < m) ⊎ (m ≡ k) = λ k low.
    ⊎_elim (λ less. inl less) (λ most. inr (omega (arith, low, most, total))) (cases_lt k m) in
    record {
      from = λ k low. ⊎_elim
          (λ less. rw (old k less) (h.from k (inside k less)))
          (λ e. subst (λ (j : ℕ). begin ≤ (kept_at (front ++ new ∷ []) j).place) e (rw last within))
          (cases k low);
      there = λ k low. ⊎_elim
          (λ less. rw (old k less) (omega (arith, more, h.there k (inside k less))))
          (λ e. subst (λ (j : ℕ). (kept_at (front ++ new ∷ []) j).place < length (values ++ v ∷ [])) e (rw last (omega (arith, more))))
          (cases k low);
      value = λ k low. ⊎_elim
          (λ less. rw (old k less) (h.value k (inside k less) ∙ sym (same (kept_at cs k).place (h.there k (inside k less)))))
          (λ e. subst (λ (j : ℕ). (kept_at (front ++ new ∷ []) j).value ≡ value_at (values ++ v ∷ []) (kept_at (front ++ new ∷ []) j).place) e (rw last (sym here)))
          (cases k low);
      ascending = λ k l less low.
          let first : k < m = omega (arith, less, low, total) in
          ⊎_elim
          (λ inner. rw (old k first, old l inner) (h.ascending k l less (inside l inner)))
          (λ e. subst (λ (j : ℕ). (kept_at (front ++ new ∷ []) k).place < (kept_at (front ++ new ∷ []) j).place) e (rw (old k first, last) (h.there k (inside k first))))
          (cases l low);
      descending = λ k l less low.
          let first : k < m = omega (arith, less, low, total) in
          ⊎_elim
          (λ inner. rw (old k first, old l inner) (h.descending k l less (inside l inner)))
          (λ e. subst (λ (j : ℕ). (kept_at (front ++ new ∷ []) j).value <ℤ (kept_at (front ++ new ∷ []) k).value) e (rw (old k first, last) (high k first)))
          (cases l low);
      covers = λ i low high_enough. ⊎_elim
          (λ less.
          let c = h.covers i low less in
          ⊎_elim
          (λ inner. record {
            index = c.index;
            there = omega (arith, inner, total);
            later = rw (old c.index inner) c.later;
            above = rw (old c.index inner, same i less) c.above;
          })
          (λ outer.
          let small = drops.dropped c.index no_candidate outer c.there in
          record {
            index = m;
            there = omega (arith, total);
            later = rw last (omega (arith, less));
            above = rw (last, same i less) (omega (arith, ints, c.above, small));
          })
          (cases_lt c.index m))
          (λ (most : n ≤ i).
          let e : n ≡ i = omega (arith, most, high_enough, more) in
          record {
            index = m;
            there = omega (arith, total);
            later = rw last (omega (arith, e));
            above = rw last (subst (λ (j : ℕ). value_at (values ++ v ∷ []) j ≤ℤ v) e (rw here (omega (arith, ints))));
          })
          (cases_lt i n);
    }

-- ---- how many are kept

places_grow : (begin : ℕ) (values : List ℤ) (cs : List Candidate) (k : ℕ) → Keeps begin values cs → k < length cs → begin + k ≤ (kept_at cs k).place
places_grow begin values cs zero h low = omega (arith, h.from 0 low)
places_grow begin values cs (suc k) h low =
    omega (arith, places_grow begin values cs k h (omega (arith, low)), h.ascending k (suc k) (omega arith) low)

pub kept_few : (begin : ℕ) (values : List ℤ) (cs : List Candidate) → begin ≤ length values → Keeps begin values cs → begin + length cs ≤ length values
kept_few begin values cs within h =
    ⊎_elim
    (λ some.
    let k = length cs - 1 in
    omega (arith, some, places_grow begin values cs (length cs - 1) h (omega (arith, some)), h.there (length cs - 1) (omega (arith, some))))
    (λ none. omega (arith, none, within))
    (cases_lt 0 (length cs))

-- ---- what they are

kept_greater : (begin : ℕ) (values : List ℤ) (cs : List Candidate) (k : ℕ) → Keeps begin values cs → k < length cs → (j : ℕ) → (kept_at cs k).place < j → j < length values
    → value_at values j <ℤ value_at values (kept_at cs k).place
kept_greater begin values cs k h low j after below =
    let c = h.covers j (omega (arith, h.from k low, after)) below in
    let value = h.value k low in
    ⊎_elim
    (λ less. omega (arith, ints, value, c.above, h.descending k c.index less c.there))
    (λ most.
    ⊎_elim
    (λ more. absurd (omega (arith, after, c.later, h.ascending c.index k more low)))
    (λ same.
    let e : c.index ≡ k = omega (arith, most, same) in
    let past : j ≤ (kept_at cs k).place = subst (λ (n : ℕ). j ≤ (kept_at cs n).place) e c.later in
    absurd (omega (arith, past, after)))
    (cases_lt c.index k))
    (cases_lt k c.index)

pub places_are : (window : ℕ) (values : List ℤ) (cs : List Candidate) → Keeps (window_begin window values) values cs → AreCandidates window values (map (λ c. c.place) cs)
places_are window values cs h =
    let place : Candidate → ℕ = λ c. c.place in
    let count = length-map cs place in
    let at : (k d : ℕ) → k < length cs → get_or (map place cs) k d ≡ (kept_at cs k).place = λ k d low. get_or-map place cs k no_candidate d low in
    record {
      ascending = λ k l d less low.
          let inside : l < length cs = omega (arith, low, count) in
          rw (at k d (omega (arith, less, inside)), at l d inside) (h.ascending k l less inside);
      each = λ i. (
        (λ there.
            let k = there.0 in
            let inside : k < length cs = omega (arith, there.1, count) in
            let is : (kept_at cs k).place ≡ i = sym (at k i inside) ∙ there.2 in
            subst (IsCandidate window values) is record {
              within = h.from k inside;
              there = h.there k inside;
              greater = kept_greater (window_begin window values) values cs k h inside;
            }),
        (λ candidate.
            let c = h.covers i candidate.within candidate.there in
            ⊎_elim
            (λ later.
            let less = candidate.greater (kept_at cs c.index).place later (h.there c.index c.there) in
            absurd (omega (arith, ints, less, c.above, h.value c.index c.there)))
            (λ most.
            let is : (kept_at cs c.index).place ≡ i = omega (arith, most, c.later) in
            (c.index, omega (arith, c.there, count), at c.index i c.there ∙ is))
            (cases_lt i (kept_at cs c.index).place)),
      );
    }

pub values_are : (begin : ℕ) (values : List ℤ) (cs : List Candidate) → Keeps begin values cs → All (λ c. c.value ≡ value_at values c.place) cs
values_are begin values cs h = λ k d low. subst (λ (c : Candidate). c.value ≡ value_at values c.place) (get_or_default cs k no_candidate d low) (h.value k low)

-- ---- the candidates are kept

-- the last of the greatest values from a place on
pub record IsTop (window : ℕ) (values : List ℤ) (i : ℕ) : Type 0 where
  pub place : ℕ
  pub candidate : IsCandidate window values place
  pub later : i ≤ place
  pub above : (j : ℕ) → i ≤ j → j < length values → value_at values j ≤ℤ value_at values place

top_of : (window : ℕ) (values : List ℤ) (n i : ℕ) → i + n + 1 ≡ length values → window_begin window values ≤ i → IsTop window values i
top_of window values zero i end within = record {
  place = i;
  candidate = record { within = within; there = omega (arith, end); greater = λ j after below. absurd (omega (arith, end, after, below)) };
  later = omega arith;
  above = λ j low below. let e : i ≡ j = omega (arith, end, low, below) in subst (λ (k : ℕ). value_at values k ≤ℤ value_at values i) e (omega (arith, ints));
}
top_of window values (suc n) i end within =
    let top = top_of window values n (i + 1) (omega (arith, end)) (omega (arith, within)) in
    let cases : (m : ℤ) (j : ℕ) → value_at values i ≤ℤ m → value_at values top.place ≤ℤ m → i ≤ j → j < length values → value_at values j ≤ℤ m = λ m j here rest low below.
    ⊎_elim
    (λ after. omega (arith, ints, rest, top.above j (omega (arith, after)) below))
    (λ most. let e : i ≡ j = omega (arith, most, low) in subst (λ (k : ℕ). value_at values k ≤ℤ m) e here)
    (cases_lt i j) in
    by_lt_z (value_at values top.place) (value_at values i)
    (λ less. record {
      place = i;
      candidate = record {
        within = within;
        there = omega (arith, end);
        greater = λ j after below. omega (arith, ints, less, top.above j (omega (arith, after)) below);
      };
      later = omega arith;
      above = λ j low below. cases (value_at values i) j (omega (arith, ints)) (omega (arith, ints, less)) low below;
    })
    (λ most. record {
      place = top.place;
      candidate = top.candidate;
      later = omega (arith, top.later);
      above = λ j low below. cases (value_at values top.place) j most (omega (arith, ints)) low below;
    })

pub keeps_candidates : (window : ℕ) (values : List ℤ) (cs : List Candidate) → AreCandidates window values (map (λ c. c.place) cs) → All (λ c. c.value ≡ value_at values c.place) cs → Keeps (window_begin window values) values cs
keeps_candidates window values cs h value =
    let place : Candidate → ℕ = λ c. c.place in
    let count = length-map cs place in
    let at : (k d : ℕ) → k < length cs → get_or (map place cs) k d ≡ (kept_at cs k).place = λ k d low. get_or-map place cs k no_candidate d low in
    let candidate : (k : ℕ) → k < length cs → IsCandidate window values (kept_at cs k).place = λ k low. (h.each (kept_at cs k).place).0 (k, omega (arith, low, count), at k (kept_at cs k).place low) in
    let ascending : (k l : ℕ) → k < l → l < length cs → (kept_at cs k).place < (kept_at cs l).place = λ k l less low.
    subst (λ (p : ℕ). p < (kept_at cs l).place) (at k 0 (omega (arith, less, low))) (subst (λ (p : ℕ). get_or (map place cs) k 0 < p) (at l 0 low) (h.ascending k l 0 less (omega (arith, low, count)))) in
    let is : (k : ℕ) → k < length cs → (kept_at cs k).value ≡ value_at values (kept_at cs k).place = λ k low. value k no_candidate low in
    record {
      from = λ k low. (candidate k low).within;
      there = λ k low. (candidate k low).there;
      value = is;
      ascending = ascending;
      descending = λ k l less low.
          let first : k < length cs = omega (arith, less, low) in
          let lesser = (candidate k first).greater (kept_at cs l).place (ascending k l less low) (candidate l low).there in
          omega (arith, ints, lesser, is k first, is l low);
      covers = λ i within below.
          let top = top_of window values (length values - i - 1) i (omega (arith, below)) within in
          let held = (h.each top.place).1 top.candidate in
          let low : held.0 < length cs = omega (arith, held.1, count) in
          let same : (kept_at cs held.0).place ≡ top.place = omega (arith, at held.0 top.place low, held.2) in
          let above = top.above i (omega arith) below in
          let equal = subst (λ (p : ℕ). (kept_at cs held.0).value ≡ value_at values p) same (is held.0 low) in
          record {
            index = held.0;
            there = low;
            later = omega (arith, top.later, same);
            above = omega (arith, ints, above, equal);
          };
    }

-- the first is the greatest of the window
pub first_is_greatest : (window : ℕ) (values : List ℤ) (cs : List Candidate) → Keeps (window_begin window values) values cs → 0 < length cs → IsGreatest (keep_last window values) (kept_at cs 0).value
first_is_greatest window values cs h some =
    let begin = window_begin window values in
    let first = kept_at cs 0 in
    let count = length-drop begin values in
    let at : (i : ℕ) → get_or (drop begin values) i (pos 0) ≡ value_at values (begin + i) = λ i. get_or-drop begin values i (pos 0) in
    record {
      among = (
        first.place - begin,
        omega (arith, count, h.from 0 some, h.there 0 some),
        (let back : begin + (first.place - begin) ≡ first.place = omega (arith, h.from 0 some) in
            get_or-drop begin values (first.place - begin) first.value ∙ ap (λ (j : ℕ). get_or values j first.value) back ∙ get_or_default values first.place first.value (pos 0) (h.there 0 some) ∙ sym (h.value 0 some)),
      );
      at_least = λ i d low.
          let inside : begin + i < length values = omega (arith, low, count) in
          let c = h.covers (begin + i) (omega arith) inside in
          let value : get_or (drop begin values) i d ≡ value_at values (begin + i) = get_or-drop begin values i d ∙ get_or_default values (begin + i) d (pos 0) inside in
          ⊎_elim
          (λ more. omega (arith, ints, value, c.above, h.descending 0 c.index more c.there))
          (λ none.
          let e : c.index ≡ 0 = omega (arith, none) in
          let top : value_at values (begin + i) ≤ℤ (kept_at cs 0).value = subst (λ (n : ℕ). value_at values (begin + i) ≤ℤ (kept_at cs n).value) e c.above in
          omega (arith, ints, value, top))
          (cases_lt 0 c.index);
    }

pub first_greatest : (window : ℕ) (values : List ℤ) (cs : List Candidate) (c : Candidate) → Keeps (window_begin window values) values cs → slice_get cs 0 ≡ Some c → IsGreatest (keep_last window values) c.value
first_greatest window values cs c h first =
    subst (λ (u : Candidate). IsGreatest (keep_last window values) u.value) (get_or_from_slice_get cs 0 c no_candidate first) (first_is_greatest window values cs h (slice_get_within cs 0 c first))

-- where there is none, nothing was taken
pub none_kept : (window : ℕ) (values : List ℤ) (cs : List Candidate) → 0 < window → Keeps (window_begin window values) values cs → slice_get cs 0 ≡ None → length values ≡ 0
none_kept window values cs some h none =
    ⊎_elim
    (λ more.
    let c = h.covers (length values - 1) (omega (arith, some, more)) (omega (arith, more)) in
    let there : slice_get cs 0 ≡ Some (kept_at cs 0) = slice_get-get_or cs 0 no_candidate (omega (arith, c.there)) in
    absurd (none-some (kept_at cs 0) (sym none ∙ there)))
    (λ few. omega (arith, few))
    (cases_lt 0 (length values))
