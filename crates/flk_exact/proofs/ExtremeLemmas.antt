-- The least and the greatest of a list: each is one, what one more number does to it, and that it follows the order of two lists.
use Rattle.std.proofs.Common.{◌≡◌, ◌<◌, List, [], ◌∷◌, ◌++◌, length, ℤ, ◌≤ℤ◌, refl, arith}
use Rattle.std.specs.Int.{int_min, int_max}
use Rattle.std.specs.List.{AllZip, Contains}
use Rattle.std.proofs.lemmas.Int.{ints, clamps, by_lt_z}
use Rattle.std.proofs.lemmas.List.Elements.{All-cons, All-nil, All-push, All-weaker, All-contains, Contains-append_left, Contains-append_right, Contains-push}
use Rattle.flk_exact.specs.Extreme.{IsLeast, IsGreatest}
use Rattle.flk_exact.proofs.ListLemmas.{AllZip-length, AllZip-get_or}

pub least_unique : (xs : List ℤ) (m n : ℤ) → IsLeast xs m → IsLeast xs n → m ≡ n
least_unique xs m n h k =
    omega (arith, ints, All-contains (λ x. m ≤ℤ x) xs n h.at_most k.among, All-contains (λ x. n ≤ℤ x) xs m k.at_most h.among)

pub greatest_unique : (xs : List ℤ) (m n : ℤ) → IsGreatest xs m → IsGreatest xs n → m ≡ n
greatest_unique xs m n h k =
    omega (arith, ints, All-contains (λ x. x ≤ℤ m) xs n h.at_least k.among, All-contains (λ x. x ≤ℤ n) xs m k.at_least h.among)

pub IsLeast-one : (x : ℤ) → IsLeast (x ∷ []) x
IsLeast-one x = record { among = (0, omega arith, refl); at_most = All-cons (λ y. x ≤ℤ y) x [] (omega (arith, ints)) (All-nil (λ y. x ≤ℤ y)) }

pub IsGreatest-one : (x : ℤ) → IsGreatest (x ∷ []) x
IsGreatest-one x = record { among = (0, omega arith, refl); at_least = All-cons (λ y. y ≤ℤ x) x [] (omega (arith, ints)) (All-nil (λ y. y ≤ℤ x)) }

-- with one more number the least stays, or is that number
pub IsLeast-stays : (xs : List ℤ) (m x : ℤ) → IsLeast xs m → m ≤ℤ x → IsLeast (xs ++ x ∷ []) m
IsLeast-stays xs m x h low = record { among = Contains-append_left xs (x ∷ []) m h.among; at_most = All-push (λ y. m ≤ℤ y) xs x h.at_most low }

pub IsLeast-new : (xs : List ℤ) (m x : ℤ) → IsLeast xs m → x ≤ℤ m → IsLeast (xs ++ x ∷ []) x
IsLeast-new xs m x h low = record {
  among = Contains-push xs x;
  at_most = All-push (λ y. x ≤ℤ y) xs x (All-weaker (λ y. m ≤ℤ y) (λ y. x ≤ℤ y) (λ y k. omega (arith, ints)) xs h.at_most) (omega (arith, ints));
}

pub IsGreatest-stays : (xs : List ℤ) (m x : ℤ) → IsGreatest xs m → x ≤ℤ m → IsGreatest (xs ++ x ∷ []) m
IsGreatest-stays xs m x h low = record { among = Contains-append_left xs (x ∷ []) m h.among; at_least = All-push (λ y. y ≤ℤ m) xs x h.at_least low }

pub IsGreatest-new : (xs : List ℤ) (m x : ℤ) → IsGreatest xs m → m ≤ℤ x → IsGreatest (xs ++ x ∷ []) x
IsGreatest-new xs m x h low = record {
  among = Contains-push xs x;
  at_least = All-push (λ y. y ≤ℤ x) xs x (All-weaker (λ y. y ≤ℤ m) (λ y. y ≤ℤ x) (λ y k. omega (arith, ints)) xs h.at_least) (omega (arith, ints));
}

-- the least of a list with one more number is the lesser of the two
pub IsLeast-min : (xs : List ℤ) (m x n : ℤ) → n ≡ int_min m x → IsLeast xs m → IsLeast (xs ++ x ∷ []) n
IsLeast-min xs m x n e h =
    by_lt_z x m
    (λ less. let same : n ≡ x = omega (arith, ints, clamps, e) in rw same (IsLeast-new xs m x h (omega (arith, ints))))
    (λ most. let same : n ≡ m = omega (arith, ints, clamps, e) in rw same (IsLeast-stays xs m x h most))

pub IsGreatest-max : (xs : List ℤ) (m x n : ℤ) → n ≡ int_max m x → IsGreatest xs m → IsGreatest (xs ++ x ∷ []) n
IsGreatest-max xs m x n e h =
    by_lt_z m x
    (λ less. let same : n ≡ x = omega (arith, ints, clamps, e) in rw same (IsGreatest-new xs m x h (omega (arith, ints))))
    (λ most. let same : n ≡ m = omega (arith, ints, clamps, e) in rw same (IsGreatest-stays xs m x h most))

Contains-behind : (x m : ℤ) (xs : List ℤ) → Contains xs m → Contains (x ∷ xs) m
Contains-behind x m xs h = Contains-append_right (x ∷ []) xs m h

pub least_exists : (xs : List ℤ) → 0 < length xs → (m : ℤ) × IsLeast xs m
least_exists [] some = absurd (omega arith)
least_exists (x ∷ []) some = (x, IsLeast-one x)
least_exists (x ∷ (y ∷ ys)) some =
    let rest = least_exists (y ∷ ys) (omega arith) in
    by_lt_z x rest.0
    (λ less. (
      x,
      record {
        among = (0, omega arith, refl);
        at_most = All-cons (λ z. x ≤ℤ z) x (y ∷ ys) (omega (arith, ints)) (All-weaker (λ z. rest.0 ≤ℤ z) (λ z. x ≤ℤ z) (λ z k. omega (arith, ints)) (y ∷ ys) rest.1.at_most);
      },
    ))
    (λ most. (
      rest.0,
      record {
        among = Contains-behind x rest.0 (y ∷ ys) rest.1.among;
        at_most = All-cons (λ z. rest.0 ≤ℤ z) x (y ∷ ys) most rest.1.at_most;
      },
    ))

pub greatest_exists : (xs : List ℤ) → 0 < length xs → (m : ℤ) × IsGreatest xs m
greatest_exists [] some = absurd (omega arith)
greatest_exists (x ∷ []) some = (x, IsGreatest-one x)
greatest_exists (x ∷ (y ∷ ys)) some =
    let rest = greatest_exists (y ∷ ys) (omega arith) in
    by_lt_z rest.0 x
    (λ less. (
      x,
      record {
        among = (0, omega arith, refl);
        at_least = All-cons (λ z. z ≤ℤ x) x (y ∷ ys) (omega (arith, ints)) (All-weaker (λ z. z ≤ℤ rest.0) (λ z. z ≤ℤ x) (λ z k. omega (arith, ints)) (y ∷ ys) rest.1.at_least);
      },
    ))
    (λ most. (
      rest.0,
      record {
        among = Contains-behind x rest.0 (y ∷ ys) rest.1.among;
        at_least = All-cons (λ z. z ≤ℤ rest.0) x (y ∷ ys) most rest.1.at_least;
      },
    ))

-- where each number is at most its fellow, so are the extremes
pub least_≤ : (xs ys : List ℤ) (m n : ℤ) → AllZip ◌≤ℤ◌ xs ys → IsLeast xs m → IsLeast ys n → m ≤ℤ n
least_≤ xs ys m n h low high =
    let k = high.among.0 in
    let less : k < length xs = omega (arith, AllZip-length ◌≤ℤ◌ xs ys h, high.among.1) in
    omega (arith, ints, low.at_most k m less, AllZip-get_or ◌≤ℤ◌ xs ys k m n h less, high.among.2)

pub greatest_≤ : (xs ys : List ℤ) (m n : ℤ) → AllZip ◌≤ℤ◌ xs ys → IsGreatest xs m → IsGreatest ys n → m ≤ℤ n
greatest_≤ xs ys m n h low high =
    let k = low.among.0 in
    let less : k < length ys = omega (arith, AllZip-length ◌≤ℤ◌ xs ys h, low.among.1) in
    omega (arith, ints, high.at_least k n less, AllZip-get_or ◌≤ℤ◌ xs ys k m n h low.among.1, low.among.2)
