-- For each list of inputs there is one list of outputs.
use Rattle.std.proofs.Common.{◌≡◌, ℕ, ◌*◌, ◌<◌, Bool, List, [], ◌∷◌, ◌++◌, refl, sym, ap, subst, ◌∙◌, arith}
use Rattle.std.proofs.Math.IntN.{ℤ, pos, ◌+ℤ◌, ◌*ℤ◌}
use Rattle.std.specs.Prelude.{◌^◌}
use Rattle.std.specs.List.{AllZip}
use Rattle.std.proofs.Math.Nat.{mul-pos}
use Rattle.std.proofs.lemmas.Int.{ints}
use Rattle.flk_exact.specs.Fraction.{Fraction, ◌≈ℚ◌}
use Rattle.flk_exact.proofs.ListLemmas.{AllZip-append_parts}
use Rattle.flk_exact.proofs.ProductLemmas.{swap}
use Rattle.flk_exact.proofs.NumeratorLemmas.{IsOver, AllOver, cancel_≡, same_over, numerators}
use Rattle.flk_cert.specs.declared.coefs.Coefs.{Coefs}
use Rattle.flk_cert.specs.Section.{IsSection}
use Rattle.flk_cert.proofs.RunLemmas.{IsWholeSection, held_one, sum_of, to_numerators}
use Rattle.flk_cert.proofs.KeptLemmas.{before}
use Rattle.flk_cert.proofs.PromiseLemmas.{over_before}

pub outputs_exist : (k : Coefs) (from_one : Bool) (xs : List Fraction) → (ys : List Fraction) × IsSection k from_one xs ys
outputs_exist k from_one [] = ([], tt)
outputs_exist k from_one (x ∷ xs) =
    let rest = outputs_exist k from_one xs in
    (sum_of k from_one x xs rest.0 ∷ rest.0, (record { cross = refl }, rest.1))

whole_outputs_unique : (k : Coefs) (u : ℤ) (ns ms ls : List ℤ) → IsWholeSection k u ns ms → IsWholeSection k u ns ls → ms ≡ ls
whole_outputs_unique k u [] [] [] h j = refl
whole_outputs_unique k u [] [] (l ∷ ls) h j = absurd j
whole_outputs_unique k u [] (m ∷ ms) ls h j = absurd h
whole_outputs_unique k u (n ∷ ns) [] ls h j = absurd h
whole_outputs_unique k u (n ∷ ns) (m ∷ ms) [] h j = absurd j
whole_outputs_unique k u (n ∷ ns) (m ∷ ms) (l ∷ ls) h j =
    let rest = whole_outputs_unique k u ns ms ls h.1 j.1 in
    let same : pos (2 ^ 32) *ℤ m ≡ pos (2 ^ 32) *ℤ l = h.0 ∙ ap (λ (t : List ℤ). k.b0 *ℤ n +ℤ held_one k u ns t) rest ∙ sym j.0 in
    let newest : m ≡ l = omega (arith, ints, same) in
    cc

all_same : (delta : ℕ) (ys zs : List Fraction) (ms : List ℤ) → 0 < delta → AllOver delta ys ms → AllOver delta zs ms → AllZip (λ y z. y ≈ℚ z) ys zs
all_same delta [] [] [] hd hy hz = tt
all_same delta [] zs (m ∷ ms) hd hy hz = absurd hy
all_same delta (y ∷ ys) zs [] hd hy hz = absurd hy
all_same delta [] (z ∷ zs) [] hd hy hz = absurd hz
all_same delta (y ∷ ys) [] (m ∷ ms) hd hy hz = absurd hz
all_same delta (y ∷ ys) (z ∷ zs) (m ∷ ms) hd hy hz = (same_over delta y z m hd hy.0 hz.0, all_same delta ys zs ms hd hy.1 hz.1)

-- fractions of one value have one numerator
over_alike : (delta : ℕ) (f g : Fraction) (n : ℤ) → f ≈ℚ g → IsOver delta f n → IsOver delta g n
over_alike delta f g n e h =
    let a : (g.num *ℤ pos delta) *ℤ pos f.den ≡ (n *ℤ pos g.den) *ℤ pos f.den =
    swap g.num (pos delta) (pos f.den) ∙ ap (λ (z : ℤ). z *ℤ pos delta) (sym e.cross) ∙ swap f.num (pos g.den) (pos delta) ∙ ap (λ (z : ℤ). z *ℤ pos g.den) h.is
    ∙ swap n (pos f.den) (pos g.den) in
    record { is = cancel_≡ _ _ f.den f.positive a }

all_over_alike : (delta : ℕ) (xs us : List Fraction) (ns : List ℤ) → AllZip (λ x u. x ≈ℚ u) xs us → AllOver delta xs ns → AllOver delta us ns
all_over_alike delta [] [] ns e h = h
all_over_alike delta [] (u ∷ us) ns e h = absurd e
all_over_alike delta (x ∷ xs) [] ns e h = absurd e
all_over_alike delta (x ∷ xs) (u ∷ us) [] e h = absurd h
all_over_alike delta (x ∷ xs) (u ∷ us) (n ∷ ns) e h = (over_alike delta x u n e.0 h.0, all_over_alike delta xs us ns e.1 h.1)

-- inputs of one value have outputs of one value
pub outputs_alike : (k : Coefs) (from_one : Bool) (xs us ys zs : List Fraction) → AllZip (λ x u. x ≈ℚ u) xs us → IsSection k from_one xs ys → IsSection k from_one us zs
    → AllZip (λ y z. y ≈ℚ z) ys zs
outputs_alike k from_one xs us ys zs e h j =
    let fs = numerators (xs ++ (ys ++ zs)) in
    let scale : ℕ = fs.base * 2 ^ 48 in
    let some : 0 < scale = mul-pos fs.some (omega arith) in
    let front = AllZip-append_parts (IsOver scale) xs (ys ++ zs) fs.numbers fs.over in
    let back = AllZip-append_parts (IsOver scale) ys zs front.1 front.3 in
    let u = before from_one fs.base in
    let first = to_numerators scale k from_one u xs ys _ _ some (over_before fs.base from_one) front.2 back.2 h in
    let second = to_numerators scale k from_one u us zs _ _ some (over_before fs.base from_one) (all_over_alike scale xs us _ e front.2) back.3 j in
    let one = whole_outputs_unique k u _ _ _ first second in
    all_same scale ys zs _ some back.2 (subst (λ (ms : List ℤ). AllOver scale zs ms) (sym one) back.3)

pub all_alike : (xs : List Fraction) → AllZip (λ x u. x ≈ℚ u) xs xs
all_alike [] = tt
all_alike (x ∷ xs) = (record { cross = refl }, all_alike xs)

pub outputs_unique : (k : Coefs) (from_one : Bool) (xs ys zs : List Fraction) → IsSection k from_one xs ys → IsSection k from_one xs zs → AllZip (λ y z. y ≈ℚ z) ys zs
outputs_unique k from_one xs ys zs h j = outputs_alike k from_one xs xs ys zs (all_alike xs) h j
