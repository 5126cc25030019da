-- The channels that are taken one after another from an array of integers.
use Rattle.std.proofs.Common.{◌≡◌, ℕ, ◌+◌, ◌<◌, ◌≤◌, ℤ, pos, List, [], ◌∷◌, ◌++◌, length, map, take, get_or, sym, ap, ◌∙◌, arith, inl, inr, unsigned_abs, length-take, get_or-take}
use Rattle.std.specs.List.{All, Contains}
use Rattle.std.proofs.lemmas.Bool.{cases_lt}
use Rattle.std.proofs.lemmas.List.{get_or-map, get_or_append_left, get_or_default, get_or_push, length_push, length-map, map-append, take_more}
use Rattle.std.proofs.lemmas.List.Elements.{All-push}
use Rattle.flk_job.specs.Table.{AreDifferent, AreChannels}

-- the first i integers are these different channels
pub record AreSoFar (zs : List ℤ) (i : ℕ) (ns : List ℕ) : Type 0 where
  pub same : map (λ n. pos n) ns ≡ take i zs
  pub from : All (λ n. 1 ≤ n) ns
  pub to : All (λ n. n ≤ 256) ns
  pub different : AreDifferent ns

count : (zs : List ℤ) (i : ℕ) (ns : List ℕ) → AreSoFar zs i ns → i ≤ length zs → length ns ≡ i
count zs i ns h le = sym (length-map ns (λ n. pos n)) ∙ ap (λ (x : List ℤ). length x) h.same ∙ simp length-take (omega (arith, le))

different_push : (ns : List ℕ) (n : ℕ) → AreDifferent ns → ¬ Contains ns n → AreDifferent (ns ++ n ∷ [])
different_push ns n old new i j none lt within same =
    elim (cases_lt j (length ns)) [
      | inl less ↦ old i j none lt less (sym (get_or_append_left ns (n ∷ []) none i (omega (arith, lt, less))) ∙ same ∙ get_or_append_left ns (n ∷ []) none j less)
      | inr last ↦
          let here : i < length ns = omega (arith, lt, within, length_push ns n) in
          let end : length ns ≡ j = omega (arith, last, within, length_push ns n) in
          new (i, here, get_or_default ns i n none here ∙ sym (get_or_append_left ns (n ∷ []) none i here) ∙ same ∙ get_or_push ns n none j end)
    ]

pub one_more : (zs : List ℤ) (i : ℕ) (ns : List ℕ) (n : ℕ) → AreSoFar zs i ns → i < length zs → get_or zs i (pos 0) ≡ pos n → 1 ≤ n → n ≤ 256 → ¬ Contains ns n
    → AreSoFar zs (i + 1) (ns ++ n ∷ [])
one_more zs i ns n h lt e a b new = record {
  same = map-append (λ m. pos m) ns (n ∷ []) ∙ ap (λ (x : List ℤ). x ++ pos n ∷ []) h.same ∙ ap (λ (z : ℤ). take i zs ++ z ∷ []) (sym e) ∙ sym (take_more zs i (pos 0) lt);
  from = All-push (λ m. 1 ≤ m) ns n h.from a;
  to = All-push (λ m. m ≤ 256) ns n h.to b;
  different = different_push ns n h.different new;
}

-- ---- what isn't a list of channels

pub same_length : (zs : List ℤ) (ds : List ℕ) → map (λ n. pos n) ds ≡ zs → length ds ≡ length zs
same_length zs ds e = sym (length-map ds (λ n. pos n)) ∙ ap (λ (x : List ℤ). length x) e

number_at : (zs : List ℤ) (ds : List ℕ) (i : ℕ) → map (λ n. pos n) ds ≡ zs → i < length ds → get_or zs i (pos 0) ≡ pos (get_or ds i 0)
number_at zs ds i e lt = ap (λ (x : List ℤ). get_or x i (pos 0)) (sym e) ∙ get_or-map (λ n. pos n) ds i 0 (pos 0) lt

pub out_of_set : (zs : List ℤ) (i : ℕ) → i < length zs → ((n : ℕ) → get_or zs i (pos 0) ≡ pos n → 1 ≤ n → ¬ (n ≤ 256)) → (ds : List ℕ) → map (λ n. pos n) ds ≡ zs → ¬ AreChannels ds
out_of_set zs i lt never ds e is =
    let below : i < length ds = omega (arith, lt, same_length zs ds e) in
    never (get_or ds i 0) (number_at zs ds i e below) (is.from i 0 below) (is.to i 0 below)

pub twice : (zs : List ℤ) (i : ℕ) (ns : List ℕ) (n : ℕ) → AreSoFar zs i ns → i < length zs → get_or zs i (pos 0) ≡ pos n → Contains ns n → (ds : List ℕ) → map (λ n. pos n) ds ≡ zs
    → ¬ AreChannels ds
twice zs i ns n h lt e w ds same is =
    let k = w.0 in
    let len = count zs i ns h (omega (arith, lt)) in
    let before : k < i = omega (arith, w.1, len) in
    let below : i < length ds = omega (arith, lt, same_length zs ds same) in
    let old : get_or zs k (pos 0) ≡ pos n =
    sym (get_or-take i zs k (pos 0) before) ∙ sym (ap (λ (x : List ℤ). get_or x k (pos 0)) h.same) ∙ get_or-map (λ m. pos m) ns k n (pos 0) w.1 ∙ ap (λ (m : ℕ). pos m) w.2 in
    is.different k i 0 before below (ap unsigned_abs (sym (number_at zs ds k same (omega (arith, before, below))) ∙ old ∙ sym e ∙ number_at zs ds i same below))
