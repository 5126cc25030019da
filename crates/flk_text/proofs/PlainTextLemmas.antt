-- The plain text of a decimal is that decimal.
use Rattle.std.proofs.Common.{◌≡◌, ℕ, zero, suc, ◌+◌, ◌-◌, ◌*◌, ◌/◌, ◌%◌, ◌^◌, ◌<◌, ◌≤◌, ◌⊎◌, Bool, true, false, cond, eqb, leb, ◌&&◌, List, [], ◌∷◌, ◌++◌, length, refl, sym, ap, ◌∙◌, arith, inl, inr, ℤ, pos, negsuc, length-append, append-nil, append_assoc}
use Rattle.std.specs.List.{list_all}
use Rattle.std.specs.Fmt.{decimal}
use Rattle.std.specs.Prelude.{unsigned_abs}
use Rattle.std.proofs.lemmas.Fmt.{decimal_by_steps}
use Rattle.std.proofs.lemmas.List.Sums.{fold_push}
use Rattle.std.proofs.lemmas.List.Folds.{list_all-append}
use Rattle.std.proofs.lemmas.Bool.{cases_Bool, cases_lt, eqb-true, le-leb, ne_eqb, and_from}
use Rattle.std.proofs.Math.Nat.{mul-le-mul_right, mod-lt, div-add-mod'}
use Rattle.flk_text.specs.Numeral.{is_digit, number_from, AreDigits, IsSign}
use Rattle.flk_text.specs.Decimal.{IsUnits, IsInSet, IsDecimal, signed}
use Rattle.flk_text.specs.PlainText.{places_below, fraction_text, plain_size, plain}
use Rattle.flk_text.proofs.PowersOfTen.{ten_more, ten_pos, times_add, times_ten_more}

pub digit_is : (d : ℕ) → d ≤ 9 → is_digit (48 + d) ≡ true
digit_is d few = and_from (leb 48 (48 + d)) (leb (48 + d) 57) (le-leb 48 (48 + d) (omega arith)) (le-leb (48 + d) 57 (omega (arith, few)))

-- what the digits of a whole number are
pub record Writes (n : ℕ) (ds : List ℕ) : Type 0 where
  pub are : AreDigits ds
  pub value : number_from 0 ds ≡ n
  pub some : 0 < length ds

writes_one : (n : ℕ) → n < 10 → Writes n ((48 + n) ∷ [])
writes_one n lt = record { are = and_from (is_digit (48 + n)) true (digit_is n (omega (arith, lt))) refl; value = omega arith; some = omega arith }

writes_more : (n : ℕ) (ds : List ℕ) → 10 ≤ n → Writes (n / 10) ds → Writes n (ds ++ ((48 + n % 10) ∷ []))
writes_more n ds big w =
    let few : n % 10 < 10 = mod-lt n (omega arith) in
    record {
      are = list_all-append is_digit ds ((48 + n % 10) ∷ []) ∙ and_from (list_all is_digit ds) (is_digit (48 + n % 10) && true) w.are (and_from (is_digit (48 + n % 10)) true (digit_is (n % 10) (omega (arith, few))) refl);
      value = fold_push (λ a b. a * 10 + (b - 48)) 0 ds (48 + n % 10) ∙ omega (arith, w.value);
      some = omega (arith, w.some, length-append ds ((48 + n % 10) ∷ []));
    }

pub decimal_writes : (n : ℕ) → n < 2 ^ 64 → Writes n (decimal n)
decimal_writes n lt = decimal_by_steps Writes writes_one writes_more n lt

-- the digits below a power of ten, behind those of n
pub record Below (k f n : ℕ) (ds : List ℕ) : Type 0 where
  pub are : AreDigits ds
  pub few : length ds ≤ k
  pub value : number_from n ds * 10 ^ (k - length ds) ≡ n * 10 ^ k + f

pub digit_few : (f k : ℕ) → f < 10 ^ suc k → f / 10 ^ k ≤ 9
digit_few f k lt =
    let cut : f / 10 ^ k * 10 ^ k + f % 10 ^ k ≡ f = div-add-mod' f (10 ^ k) in
    elim (cases_lt (f / 10 ^ k) 10) [
      | inl less ↦ omega (arith, less)
      | inr big ↦
          let grow : 10 * 10 ^ k ≤ f / 10 ^ k * 10 ^ k = mul-le-mul_right (10 ^ k) big in
          absurd (omega (arith, cut, grow, lt, ten_more k))
    ]

minus_none : (k : ℕ) → k - 0 ≡ k
minus_none k = omega arith

pub places_are : (k f n : ℕ) → f < 10 ^ k → Below k f n (places_below k f)
unfolding places_below
places_are zero f n lt = record { are = refl; few = omega arith; value = omega (arith, lt) }
places_are (suc k) f n lt =
    elim (cases_Bool (eqb f 0)) [
      | inl z ↦ rw z (record { are = refl; few = omega arith; value = ap (λ (i : ℕ). n * 10 ^ i) (minus_none (suc k)) ∙ omega (arith, eqb-true f 0 z) })
      | inr more ↦
          let d = f / 10 ^ k in
          let r = f % 10 ^ k in
          let small : r < 10 ^ k = mod-lt f (ten_pos k) in
          let cut : d * 10 ^ k + r ≡ f = div-add-mod' f (10 ^ k) in
          let few : d ≤ 9 = digit_few f k lt in
          let b = places_are k r (n * 10 + d) small in
          let plus : 48 + d - 48 ≡ d = omega arith in
          let value : number_from (n * 10 + (48 + d - 48)) (places_below k r) * 10 ^ (k - length (places_below k r)) ≡ n * 10 ^ suc k + f =
          rw plus (b.value ∙ omega (arith, cut, times_ten_more n k)) in
          let less : suc k - suc (length (places_below k r)) ≡ k - length (places_below k r) = omega arith in
          let value_is : number_from (n * 10 + (48 + d - 48)) (places_below k r) * 10 ^ (suc k - suc (length (places_below k r))) ≡ n * 10 ^ suc k + f =
          ap (λ (i : ℕ). number_from (n * 10 + (48 + d - 48)) (places_below k r) * 10 ^ i) less ∙ value in
          rw more (record {
            are = and_from (is_digit (48 + d)) (list_all is_digit (places_below k r)) (digit_is d few) b.are;
            few = omega (arith, b.few);
            value = value_is;
          })
    ]

some_places : (k f : ℕ) → 0 < f → f < 10 ^ k → 0 < length (places_below k f)
unfolding places_below
some_places zero f some lt = absurd (omega (arith, some, lt))
some_places (suc k) f some lt =
    let more : eqb f 0 ≡ false = ne_eqb f 0 (λ e. omega (arith, e, some)) in
    rw more (omega arith)

none_more : (k : ℕ) → 0 + k ≡ k
none_more k = omega arith

cond_no : {A : Type 0} (b : Bool) (x y : A) → b ≡ false → cond b x y ≡ y
cond_no false x y e = refl
cond_no true x y e = absurd cc

fraction_there : (f : ℕ) → eqb f 0 ≡ false → fraction_text f ≡ 46 ∷ places_below 24 f
fraction_there f e = cond_no (eqb f 0) [] (46 ∷ places_below 24 f) e

pub is_value : (ds : List ℕ) (w f u n : ℕ) → n ≡ w → Below 24 f w ds → w * 10 ^ 24 + f ≡ u → IsUnits (number_from n ds) 0 (0 + length ds) u
is_value ds w f u n same b cut =
    let N = number_from w ds in
    let room : 24 ≡ 24 - length ds + length ds = omega (arith, b.few) in
    let split : N * 10 ^ 24 ≡ N * 10 ^ (24 - length ds) * 10 ^ length ds = ap (λ (i : ℕ). N * 10 ^ i) room ∙ times_add N (24 - length ds) (length ds) in
    let back : N * 10 ^ (24 - length ds) ≡ u = b.value ∙ cut in
    let value : u * 10 ^ length ds ≡ N * 10 ^ 24 = ap (λ (m : ℕ). m * 10 ^ length ds) (sym back) ∙ sym split in
    rw same (ap (λ (i : ℕ). u * 10 ^ i) (none_more (length ds)) ∙ value)

pub plain_numeral : (minus : Bool) (sign : List ℕ) (u : ℕ) → IsSign sign minus → IsInSet u → IsDecimal (sign ++ plain_size u) (signed minus u)
plain_numeral minus sign u s inside =
    let w = u / 10 ^ 24 in
    let f = u % 10 ^ 24 in
    let cut : w * 10 ^ 24 + f ≡ u = div-add-mod' u (10 ^ 24) in
    let whole : Writes w (decimal w) = decimal_writes w (omega (arith, cut, inside.most)) in
    let small : f < 10 ^ 24 = mod-lt u (omega arith) in
    let b : Below 24 f w (places_below 24 f) = places_are 24 f w small in
    elim (cases_Bool (eqb f 0)) [
      | inl z ↦
          let nothing : fraction_text f ≡ [] = rw z refl in
          let flat : u * 10 ^ 0 ≡ number_from 0 (decimal w) * 10 ^ 24 = omega (arith, whole.value, cut, eqb-true f 0 z) in
          record {
            numeral = record { minus = minus; whole = decimal w; fraction = []; right = 0; left = 0 };
            units = u;
            spelled = record {
              sign = sign;
              fraction = [];
              exponent = [];
              text_is = ap (λ (x : List ℕ). sign ++ (decimal w ++ x)) nothing;
              sign_is = s;
              whole_is = whole.are;
              fraction_is = inl (refl, refl);
              some = omega (arith, whole.some);
              exponent_is = inl (refl, refl, refl);
            };
            value = flat;
            inside = inside;
            signed_is = refl;
          }
      | inr more ↦
          let ds = places_below 24 f in
          let there : fraction_text f ≡ (46 ∷ ds) ++ [] = fraction_there f more ∙ sym (append-nil (46 ∷ ds)) in
          record {
            numeral = record { minus = minus; whole = decimal w; fraction = ds; right = 0; left = 0 };
            units = u;
            spelled = record {
              sign = sign;
              fraction = 46 ∷ ds;
              exponent = [];
              text_is = ap (λ (x : List ℕ). sign ++ (decimal w ++ x)) there;
              sign_is = s;
              whole_is = whole.are;
              fraction_is = inr (refl, b.are);
              some = omega (arith, whole.some);
              exponent_is = inl (refl, refl, refl);
            };
            value = is_value ds w f u (number_from 0 (decimal w)) whole.value b cut;
            inside = inside;
            signed_is = refl;
          }
    ]

-- the plain text of a value of the set has that value, and by `decimal_once` no other
pub plain_text : (z : ℤ) → IsInSet (unsigned_abs z) → IsDecimal (plain z) z
plain_text (pos u) inside = plain_numeral false [] u (inl (refl, refl)) inside
plain_text (negsuc n) inside = plain_numeral true (45 ∷ []) (suc n) (inr (inr (refl, refl))) inside

-- ---- the steps by which the places are pushed

pub places_below-none : (k f : ℕ) → f ≡ 0 → places_below k f ≡ []
unfolding places_below
places_below-none zero f e = refl
places_below-none (suc k) f e = rw e refl

pub places_below-some : (k f : ℕ) → 0 < f → places_below (suc k) f ≡ (48 + f / 10 ^ k) ∷ places_below k (f % 10 ^ k)
unfolding places_below
places_below-some k f some = cond_no (eqb f 0) [] ((48 + f / 10 ^ k) ∷ places_below k (f % 10 ^ k)) (ne_eqb f 0 (λ e. omega (arith, e, some)))

-- something remains only where places do
pub places_remain : (k f : ℕ) → f < 10 ^ k → 0 < f → 0 < k
places_remain zero f below some = absurd (omega (arith, below, some))
places_remain (suc k) f below some = omega arith

pub next_digit : (left count unit : ℕ) → left < 10 ^ count → 0 < left → unit ≡ 10 ^ (count - 1) → left / unit ≤ 9
next_digit left zero unit below some is = absurd (omega (arith, below, some))
next_digit left (suc k) unit below some is =
    let less : suc k - 1 ≡ k = omega arith in
    rw (is, less) (digit_few left k below)

pub next_places : (left count unit : ℕ) → left < 10 ^ count → 0 < left → unit ≡ 10 ^ (count - 1) → places_below count left ≡ (48 + left / unit) ∷ places_below (count - 1) (left % unit)
next_places left zero unit below some is = absurd (omega (arith, below, some))
next_places left (suc k) unit below some is =
    let less : suc k - 1 ≡ k = omega arith in
    rw (is, less) (places_below-some k left some)

pub push_place : (items more : List ℕ) (left count unit : ℕ) → left < 10 ^ count → 0 < left → unit ≡ 10 ^ (count - 1) → more ≡ items ++ ((48 + left / unit) ∷ [])
    → more ++ places_below (count - 1) (left % unit) ≡ items ++ places_below count left
push_place items more left count unit below some is pushed =
    rw (pushed, next_places left count unit below some is) (append_assoc items ((48 + left / unit) ∷ []) (places_below (count - 1) (left % unit)))

-- ---- the fraction ends with no zero

ends_no_less : (d : ℕ) (ds front : List ℕ) → d ∷ ds ≡ front ++ (48 ∷ []) → ((d ≡ 48) × (ds ≡ [])) ⊎ ((rest : List ℕ) × (ds ≡ rest ++ (48 ∷ [])))
ends_no_less d ds [] e = inl (cc, cc)
ends_no_less d ds (x ∷ xs) e =
    let same : ds ≡ xs ++ (48 ∷ []) = cc in
    inr (xs, same)

not_nothing : (front : List ℕ) → [] ≡ front ++ (48 ∷ []) → ⊥
not_nothing [] e = absurd cc
not_nothing (x ∷ xs) e = absurd cc

pub no_zero_at_end : (k f : ℕ) (front : List ℕ) → 0 < f → f < 10 ^ k → places_below k f ≡ front ++ (48 ∷ []) → ⊥
no_zero_at_end zero f front some lt e = omega (arith, some, lt)
no_zero_at_end (suc k) f front some lt e =
    let d = f / 10 ^ k in
    let r = f % 10 ^ k in
    let small : r < 10 ^ k = mod-lt f (ten_pos k) in
    let cut : d * 10 ^ k + r ≡ f = div-add-mod' f (10 ^ k) in
    let ends = ends_no_less (48 + d) (places_below k r) front (sym (places_below-some k f some) ∙ e) in
    elim (cases_lt 0 r) [
      | inl more ↦ elim ends [
        | inl last ↦ omega (arith, some_places k r more small, ap length last.1)
        | inr before ↦ no_zero_at_end k r before.0 more small before.1
      ]
      | inr none ↦
          let nothing : places_below k r ≡ [] = places_below-none k r (omega (arith, none)) in
          elim ends [
            | inl last ↦
                let zero_digit : d ≡ 0 = omega (arith, last.0) in
                let product : d * 10 ^ k ≡ 0 * 10 ^ k = ap (λ (x : ℕ). x * 10 ^ k) zero_digit in
                omega (arith, product, none, cut, some)
            | inr before ↦ not_nothing before.0 (sym nothing ∙ before.1)
          ]
    ]
