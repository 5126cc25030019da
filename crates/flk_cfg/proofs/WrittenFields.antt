-- The fields of the canonical text: each is a field as it stands, and it writes its value.
use Rattle.std.proofs.Common.{◌≡◌, ℕ, zero, suc, ◌+◌, ◌-◌, ◌*◌, ◌/◌, ◌%◌, ◌^◌, ◌<◌, ◌≤◌, Bool, true, false, cond, eqb, List, [], ◌∷◌, ◌++◌, length, refl, sym, ap, subst, ◌∙◌, arith, inl, inr, ℤ, pos}
use Rattle.std.specs.Prelude.{not, unsigned_abs}
use Rattle.std.specs.List.{list_all}
use Rattle.std.specs.Fmt.{decimal}
use Rattle.std.proofs.lemmas.Bool.{and_parts, and_from, ne_eqb, true≢false}
use Rattle.std.proofs.Math.Nat.{mod-lt, div-add-mod'}
use Rattle.flk_text.specs.Numeral.{is_digit, AreDigits, number_from}
use Rattle.flk_text.specs.Decimal.{IsInSet}
use Rattle.flk_text.specs.WholeNumber.{IsWhole, IsWholeValue}
use Rattle.flk_text.specs.PlainText.{plain}
use Rattle.flk_text.specs.Lines.{Lacks}
use Rattle.flk_text.proofs.PowersOfTen.{ten_more, ten_pos}
use Rattle.flk_text.proofs.PlainTextLemmas.{digit_is, digit_few, plain_text, decimal_writes}
use Rattle.flk_text.proofs.WrittenLaws.{stays, lacks_stays, digits_lack, lacks-append, IsApart, comma_apart, space_apart, lf_apart, numeral_lacks}
use Rattle.flk_field.specs.Values.{IsText, HasText, IsWholeFrom, EndsIn, IsCounted, IsSide, is_text_byte}
use Rattle.flk_field.specs.Dates.{IsNumber}
use Rattle.flk_cfg.specs.Valid.{is_name_byte, IsName, IsSideLetter}
use Rattle.flk_cfg.specs.Canonical.{padded}
use Rattle.flk_cfg.proofs.WrittenLines.{IsCell}

-- ---- texts without comma, space, LF and 1A

pub record IsFree (f : List ℕ) : Type 0 where
  pub comma : Lacks 44 f
  pub space : Lacks 32 f
  pub lf : Lacks 10 f
  pub mark : Lacks 26 f

pub free_cell : (f : List ℕ) → IsFree f → IsCell f
free_cell f free = record { field = record { no_comma = free.comma; tight = lacks_stays f free.space }; lf = free.lf; mark = free.mark }

pub free-append : (a b : List ℕ) → IsFree a → IsFree b → IsFree (a ++ b)
free-append a b p q = record {
  comma = lacks-append 44 a b p.comma q.comma;
  space = lacks-append 32 a b p.space q.space;
  lf = lacks-append 10 a b p.lf q.lf;
  mark = lacks-append 26 a b p.mark q.mark;
}

pub free_digits : (ds : List ℕ) → AreDigits ds → IsFree ds
free_digits ds are = record { comma = digits_lack 44 ds refl are; space = digits_lack 32 ds refl are; lf = digits_lack 10 ds refl are; mark = digits_lack 26 ds refl are }

mark_apart : IsApart 26
mark_apart = record { digit = refl; plus = refl; minus = refl; point = refl; upper = refl; lower = refl }

pub free_plain : (z : ℤ) → IsInSet (unsigned_abs z) → IsFree (plain z)
free_plain z set =
    let d = plain_text z set in
    record {
      comma = numeral_lacks 44 (plain z) d.numeral comma_apart d.spelled;
      space = numeral_lacks 32 (plain z) d.numeral space_apart d.spelled;
      lf = numeral_lacks 10 (plain z) d.numeral lf_apart d.spelled;
      mark = numeral_lacks 26 (plain z) d.numeral mark_apart d.spelled;
    }

pub free_decimal : (n : ℕ) → n < 2 ^ 64 → IsFree (decimal n)
free_decimal n lt = free_digits (decimal n) (decimal_writes n lt).are

-- ---- names

not_byte : (b c : ℕ) → is_name_byte b ≡ true → is_name_byte c ≡ false → not (eqb b c) ≡ true
not_byte b c ok off = ap not (ne_eqb b c (λ e. true≢false (sym ok ∙ ap is_name_byte e ∙ off)))

name_lacks : (c : ℕ) (f : List ℕ) → is_name_byte c ≡ false → list_all is_name_byte f ≡ true → Lacks c f
name_lacks c [] off all = refl
name_lacks c (b ∷ bs) off all =
    let p = and_parts (is_name_byte b) (list_all is_name_byte bs) all in
    and_from (not (eqb b c)) (list_all (λ x. not (eqb x c)) bs) (not_byte b c p.0 off) (name_lacks c bs off p.1)

pub name_cell : (f : List ℕ) → IsName f → IsCell f
name_cell f name = record {
  field = record { no_comma = name_lacks 44 f refl name.bytes; tight = stays f name.front name.back };
  lf = name_lacks 10 f refl name.bytes;
  mark = name_lacks 26 f refl name.bytes;
}

text_byte : (b : ℕ) → is_name_byte b ≡ true → is_text_byte b ≡ true
text_byte b ok =
    let cr : eqb b 13 ≡ false = ne_eqb b 13 (λ e. true≢false (sym ok ∙ ap is_name_byte e)) in
    let mark : eqb b 26 ≡ false = ne_eqb b 26 (λ e. true≢false (sym ok ∙ ap is_name_byte e)) in
    rw (cr, mark) refl

text_bytes : (f : List ℕ) → list_all is_name_byte f ≡ true → list_all is_text_byte f ≡ true
text_bytes [] all = refl
text_bytes (b ∷ bs) all =
    let p = and_parts (is_name_byte b) (list_all is_name_byte bs) all in
    and_from (is_text_byte b) (list_all is_text_byte bs) (text_byte b p.0) (text_bytes bs p.1)

pub name_is : (f : List ℕ) → IsName f → HasText f f
name_is f name = let text : IsText f = record { few = name.few; plain = text_bytes f name.bytes } in record { inside = text; is = refl }

-- ---- whole numbers

pub bit_small : (b : Bool) → cond b 1 0 ≤ 1
bit_small true = omega arith
bit_small false = omega arith

pub whole_is : (least most n : ℕ) → least ≤ n → n ≤ most → n ≤ 10 ^ 12 → IsWholeFrom least most (decimal n) n
whole_is least most n low high few =
    let w = decimal_writes n (omega (arith, few)) in
    let spelled : IsWhole (decimal n) false n = record { sign = []; digits = decimal n; text_is = refl; sign_is = inl (refl, refl); are = w.are; some = w.some; value = sym w.value } in
    let value : IsWholeValue (decimal n) (pos n) = record { minus = false; size = n; spelled = spelled; most = few; is = refl } in
    record { value = value; at_least = low; at_most = high }

pub counted_is : (capital least most n : ℕ) → least ≤ n → n ≤ most → n ≤ 10 ^ 12 → IsCounted capital least most (decimal n ++ (capital ∷ [])) n
counted_is capital least most n low high few =
    let ends : EndsIn capital (decimal n ++ (capital ∷ [])) (decimal n) = record { letter = capital; is = refl; letter_is = inl refl } in
    record { front = decimal n; ends = ends; number = whole_is least most n low high few }

-- ---- letters

pub side_is : (b : ℕ) → IsSideLetter b → IsSide (b ∷ []) b
side_is b letter = record { is = refl; letter = letter }

same_free : (b c : ℕ) → b ≡ c → IsFree (c ∷ []) → IsFree (b ∷ [])
same_free b c e free = subst (λ (x : ℕ). IsFree (x ∷ [])) (sym e) free

pub side_free : (b : ℕ) → IsSideLetter b → IsFree (b ∷ [])
side_free b (inl e) = same_free b 80 e (record { comma = refl; space = refl; lf = refl; mark = refl })
side_free b (inr (inl e)) = same_free b 112 e (record { comma = refl; space = refl; lf = refl; mark = refl })
side_free b (inr (inr (inl e))) = same_free b 83 e (record { comma = refl; space = refl; lf = refl; mark = refl })
side_free b (inr (inr (inr e))) = same_free b 115 e (record { comma = refl; space = refl; lf = refl; mark = refl })

-- ---- digits with zeros in front

-- so many digits, which write the number behind those of m
pub record ArePadded (k m n : ℕ) (ds : List ℕ) : Type 0 where
  pub are : AreDigits ds
  pub count : length ds ≡ k
  pub value : number_from m ds ≡ m * 10 ^ k + n

first_place : (m d p r n : ℕ) → d * p + r ≡ n → (m * 10 + (48 + d - 48)) * p + r ≡ m * (p * 10) + n
first_place m d p r n e =
    let digit : 48 + d - 48 ≡ d = omega arith in
    rw digit (omega (arith, e))

pub padded_are : (k m n : ℕ) → n < 10 ^ k → ArePadded k m n (padded k n)
unfolding padded
padded_are zero m n lt = record { are = refl; count = refl; value = omega (arith, lt) }
padded_are (suc k) m n lt =
    let first = n / 10 ^ k in
    let left = n % 10 ^ k in
    let few : first ≤ 9 = digit_few n k lt in
    let rest = padded_are k (m * 10 + (48 + first - 48)) left (mod-lt n (ten_pos k)) in
    let cut : first * 10 ^ k + left ≡ n = div-add-mod' n (10 ^ k) in
    record {
      are = and_from (is_digit (48 + first)) (list_all is_digit (padded k left)) (digit_is first few) rest.are;
      count = ap (λ (x : ℕ). suc x) rest.count;
      value = rest.value ∙ first_place m first (10 ^ k) left n cut ∙ ap (λ (p : ℕ). m * p + n) (sym (ten_more k));
    }

pub padded_number : (k least most n : ℕ) → n < 10 ^ k → least ≤ k → k ≤ most → IsNumber least most (padded k n) n
padded_number k least most n lt low high =
    let p = padded_are k 0 n lt in
    record { are = p.are; least_is = omega (arith, p.count, low); most_is = omega (arith, p.count, high); value = omega (arith, p.value) }

pub padded_free : (k n : ℕ) → n < 10 ^ k → IsFree (padded k n)
padded_free k n lt = free_digits (padded k n) (padded_are k 0 n lt).are
