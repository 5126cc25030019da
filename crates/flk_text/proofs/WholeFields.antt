-- A sign and digits up to the first comma, or to the end of the line, are the line's first field, and their number is the field's.
use Rattle.std.proofs.Common.{◌≡◌, ℕ, suc, ◌+◌, ◌-◌, ◌^◌, ◌<◌, ◌≤◌, Bool, List, [], ◌∷◌, ◌++◌, length, get_or, take, drop, map, refl, sym, ap, ◌∙◌, arith, ℤ, append_assoc, add-one, drop-cons}
use Rattle.std.proofs.lemmas.List.{take-append-drop, take_all, length-drop, length-take}
use Rattle.flk_text.specs.Numeral.{AreDigits, number_from}
use Rattle.flk_text.specs.Decimal.{signed}
use Rattle.flk_text.specs.Lines.{Lacks}
use Rattle.flk_text.specs.Fields.{trimmed, fields}
use Rattle.flk_text.specs.WholeNumber.{IsWholeValue}
use Rattle.flk_text.proofs.NumeralLemmas.{Signed}
use Rattle.flk_text.proofs.WrittenLaws.{IsApart, comma_apart, space_apart, sign_lacks, digits_lack, lacks-append, lacks_stays, split_front, split_last}

-- a sign, and so many digits, which write the size
pub record IsSpelled (rest bytes : List ℕ) (minus : Bool) (size end : ℕ) : Type 0 where
  pub cut : Signed rest bytes minus
  pub some : 0 < end
  pub within : end ≤ length bytes
  pub are : AreDigits (take end bytes)
  pub value : size ≡ number_from 0 (take end bytes)
  pub small : size < 10 ^ 12

-- the first field is a whole number of this value, and these fields follow it
abbrev pub IsFirstWhole : List ℕ → ℤ → List (List ℕ) → Type 0
IsFirstWhole rest z left = (field : List ℕ) × (fields rest ≡ field ∷ left) × IsWholeValue field z

spelled_value : (rest bytes : List ℕ) (minus : Bool) (size end : ℕ) → (p : IsSpelled rest bytes minus size end) → IsWholeValue (p.cut.sign ++ take end bytes) (signed minus size)
spelled_value rest bytes minus size end p = record {
  minus = minus;
  size = size;
  spelled = record {
    sign = p.cut.sign;
    digits = take end bytes;
    text_is = refl;
    sign_is = p.cut.is;
    are = p.are;
    some = omega (arith, length-take end bytes, p.some, p.within);
    value = p.value;
  };
  most = omega (arith, p.small);
  is = refl;
}

spelled_lacks : (c : ℕ) (rest bytes : List ℕ) (minus : Bool) (size end : ℕ) → IsApart c → (p : IsSpelled rest bytes minus size end) → Lacks c (p.cut.sign ++ take end bytes)
spelled_lacks c rest bytes minus size end a p = lacks-append c p.cut.sign (take end bytes) (sign_lacks c p.cut.sign minus a p.cut.is) (digits_lack c (take end bytes) a.digit p.are)

fields_front : (text after : List ℕ) → Lacks 44 text → Lacks 32 text → fields (text ++ (44 ∷ after)) ≡ text ∷ fields after
unfolding fields
fields_front text after comma space = ap (map trimmed) (split_front text after comma) ∙ ap (λ (f : List ℕ). f ∷ fields after) (lacks_stays text space)

fields_alone : (text : List ℕ) → Lacks 44 text → Lacks 32 text → fields text ≡ text ∷ []
unfolding fields
fields_alone text comma space = ap (map trimmed) (split_last text comma) ∙ ap (λ (f : List ℕ). f ∷ []) (lacks_stays text space)

-- a comma follows the digits
pub whole_before_comma : (rest bytes : List ℕ) (minus : Bool) (size end : ℕ) → IsSpelled rest bytes minus size end → end < length bytes → get_or bytes end 0 ≡ 44
    → IsFirstWhole rest (signed minus size) (fields (take (length bytes - (end + 1)) (drop (end + 1) bytes)))
whole_before_comma rest bytes minus size end p more comma =
    let text = p.cut.sign ++ take end bytes in
    let after = drop (end + 1) bytes in
    let tail : drop end bytes ≡ 44 ∷ after = rw add-one (drop-cons bytes end 0 more ∙ ap (λ (b : ℕ). b ∷ drop (suc end) bytes) comma) in
    let is : rest ≡ text ++ (44 ∷ after) = p.cut.cut ∙ ap (λ (x : List ℕ). p.cut.sign ++ x) (sym (take-append-drop end bytes)) ∙ sym (append_assoc p.cut.sign (take end bytes) (drop end bytes)) ∙ ap (λ (x : List ℕ). text ++ x) tail in
    let all : take (length bytes - (end + 1)) after ≡ after = take_all (length bytes - (end + 1)) after (omega (arith, length-drop (end + 1) bytes)) in
    let cut : fields rest ≡ text ∷ fields after = ap fields is ∙ fields_front text after (spelled_lacks 44 rest bytes minus size end comma_apart p) (spelled_lacks 32 rest bytes minus size end space_apart p) in
    (text, cut ∙ ap (λ (x : List ℕ). text ∷ fields x) (sym all), spelled_value rest bytes minus size end p)

-- nothing follows the digits
pub whole_alone : (rest bytes : List ℕ) (minus : Bool) (size end : ℕ) → IsSpelled rest bytes minus size end → end ≡ length bytes → IsFirstWhole rest (signed minus size) []
whole_alone rest bytes minus size end p last =
    let text = p.cut.sign ++ take end bytes in
    let all : take end bytes ≡ bytes = take_all end bytes (omega (arith, last)) in
    let is : rest ≡ text = p.cut.cut ∙ ap (λ (x : List ℕ). p.cut.sign ++ x) (sym all) in
    (text, ap fields is ∙ fields_alone text (spelled_lacks 44 rest bytes minus size end comma_apart p) (spelled_lacks 32 rest bytes minus size end space_apart p), spelled_value rest bytes minus size end p)
