-- The canonical line as the fields one after another.
use Rattle.std.proofs.Common.{◌≡◌, ℕ, Bool, ℤ, List, [], ◌∷◌, ◌++◌, map, refl, sym, ap, ◌∙◌, append_assoc, append-nil}
use Rattle.std.specs.List.{flat_map}
use Rattle.std.specs.Fmt.{decimal}
use Rattle.std.proofs.lemmas.Grind.{flat_map-append}
use Rattle.flk_text.specs.Fields.{joined_fields}
use Rattle.flk_dat.specs.Records.{DataRecord}
use Rattle.flk_dat.specs.Written.{whole_text, stamp_text, bit_text, value_field, bit_field, record_fields, written_line}

-- a field with a comma before it
abbrev pub with_comma : List ℕ → List ℕ
with_comma f = 44 ∷ f

pub joined_is : (f : List ℕ) (fs : List (List ℕ)) → joined_fields (f ∷ fs) ≡ f ++ flat_map with_comma fs
joined_is f [] = sym (append-nil f)
joined_is f (g ∷ gs) = ap (λ (x : List ℕ). f ++ (44 ∷ x)) (joined_is g gs)

flat_map_values : (zs : List ℤ) → flat_map with_comma (map whole_text zs) ≡ flat_map value_field zs
flat_map_values [] = refl
flat_map_values (z ∷ zs) = ap (λ (x : List ℕ). value_field z ++ x) (flat_map_values zs)

flat_map_bits : (bs : List Bool) → flat_map with_comma (map bit_text bs) ≡ flat_map bit_field bs
flat_map_bits [] = refl
flat_map_bits (b ∷ bs) = ap (λ (x : List ℕ). bit_field b ++ x) (flat_map_bits bs)

-- the text of a line before CR LF
abbrev pub body_of : DataRecord → List ℕ
body_of r = decimal r.number ++ ((44 ∷ stamp_text r.stamp) ++ (flat_map value_field r.analog ++ flat_map bit_field r.digital))

pub fields_joined_are : (r : DataRecord) → joined_fields (record_fields r) ≡ body_of r
fields_joined_are r =
    joined_is (decimal r.number) (stamp_text r.stamp ∷ (map whole_text r.analog ++ map bit_text r.digital))
    ∙ ap (λ (x : List ℕ). decimal r.number ++ ((44 ∷ stamp_text r.stamp) ++ x))
    (flat_map-append with_comma (map whole_text r.analog) (map bit_text r.digital)
    ∙ ap (λ (x : List ℕ). x ++ flat_map with_comma (map bit_text r.digital)) (flat_map_values r.analog) ∙ ap (λ (x : List ℕ). flat_map value_field r.analog ++ x) (flat_map_bits r.digital))

-- the parts that are pushed one after another
pub line_pushed : (o a b c d e f : List ℕ) (r : DataRecord) → a ≡ o ++ decimal r.number → b ≡ a ++ (44 ∷ stamp_text r.stamp) → c ≡ b ++ flat_map value_field r.analog → d ≡ c ++ flat_map bit_field r.digital → e ≡ d ++ (13 ∷ [])
    → f ≡ e ++ (10 ∷ []) → f ≡ o ++ written_line r
line_pushed o a b c d e f r pa pb pc pd pe pf =
    let n = decimal r.number in
    let s = 44 ∷ stamp_text r.stamp in
    let v = flat_map value_field r.analog in
    let w = flat_map bit_field r.digital in
    let ends : f ≡ d ++ (13 ∷ 10 ∷ []) = pf ∙ ap (λ (x : List ℕ). x ++ (10 ∷ [])) pe ∙ append_assoc d (13 ∷ []) (10 ∷ []) in
    let body : d ≡ o ++ body_of r =
    pd ∙ ap (λ (x : List ℕ). x ++ w) pc ∙ append_assoc b v w ∙ ap (λ (x : List ℕ). x ++ (v ++ w)) pb ∙ append_assoc a s (v ++ w) ∙ ap (λ (x : List ℕ). x ++ (s ++ (v ++ w))) pa ∙ append_assoc o n (s ++ (v ++ w)) in
    ends ∙ ap (λ (x : List ℕ). x ++ (13 ∷ 10 ∷ [])) (body ∙ ap (λ (x : List ℕ). o ++ x) (sym (fields_joined_are r))) ∙ append_assoc o (joined_fields (record_fields r)) (13 ∷ 10 ∷ [])
