-- The words of digital channels.
use Rattle.std.proofs.Common.{◌≡◌, ℕ, zero, suc, ◌+◌, ◌*◌, ◌^◌, ◌<◌, Bool, true, false, cond, List, [], ◌∷◌, ◌++◌, length, get_or, take, drop, min, refl, sym, ap, subst, ◌∙◌, arith, inl, inr, add-one}
use Rattle.std.specs.List.{range_with_len}
use Rattle.std.proofs.Math.Seq.{drop-cons}
use Rattle.std.proofs.Math.Nat.{pow-succ'}
use Rattle.std.proofs.lemmas.Bool.{cases_lt}
use Rattle.std.proofs.lemmas.List.{take_all}
use mir.Val.{bool_byte}
use Rattle.flk_cfg.proofs.WrittenFields.{bit_small}
use Rattle.flk_dat.specs.Written.{bits_number}

pub bits_step : (bs : List Bool) (j : ℕ) → j < length bs → bits_number (drop j bs) ≡ cond (get_or bs j false) 1 0 + 2 * bits_number (drop (j + 1) bs)
bits_step bs j lt = ap bits_number (drop-cons bs j false lt ∙ ap (λ (n : ℕ). get_or bs j false ∷ drop n bs) (sym (add-one j)))

pub word_step : (w k n : ℕ) (b : Bool) → w < 2 ^ k → n ≡ k + 1 → 2 * w + cond b 1 0 < 2 ^ n
word_step w k n b lt e =
    let more : 2 ^ (k + 1) ≡ 2 * 2 ^ k = ap (λ (m : ℕ). 2 ^ m) (add-one k) ∙ pow-succ' 2 k in
    subst (λ (m : ℕ). 2 * w + cond b 1 0 < 2 ^ m) (sym e) (omega (arith, lt, more, bit_small b))

pub range_more : (a n : ℕ) → range_with_len a (n + 1) ≡ range_with_len a n ++ (a + n) ∷ []
range_more a zero = let e : a ≡ a + 0 = omega arith in ap (λ (x : ℕ). x ∷ []) e
range_more a (suc n) =
    let e : a + 1 + n ≡ a + suc n = omega arith in
    let s : suc n + 1 ≡ suc (n + 1) = omega arith in
    ap (range_with_len a) s ∙ ap (λ (l : List ℕ). a ∷ l) (range_more (a + 1) n ∙ ap (λ (x : ℕ). range_with_len (a + 1) n ++ x ∷ []) e)

pub take_least : (n : ℕ) (xs : List Bool) (m : ℕ) → m ≡ length xs → take (min n m) xs ≡ take n xs
take_least n xs m e =
    elim (cases_lt n m) [
      | inl less ↦ let same : min n m ≡ n = omega (arith, less) in ap (λ (k : ℕ). take k xs) same
      | inr more ↦
          let same : min n m ≡ m = omega (arith, more) in
          ap (λ (k : ℕ). take k xs) same ∙ take_all m xs (omega (arith, e)) ∙ sym (take_all n xs (omega (arith, e, more)))
    ]

pub bit_byte : (b : Bool) → bool_byte b ≡ cond b 1 0
bit_byte true = refl
bit_byte false = refl
