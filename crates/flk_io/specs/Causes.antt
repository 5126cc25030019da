-- When a failure of the outside may be told, and what a call does to the bytes under a name.
use Rattle.std.specs.Prelude.{◌≡◌, ◌≢◌, ℕ, ◌+◌, ◌-◌, ◌^◌, ◌<◌, ◌≤◌, min, List, length, take, Result, Option, OnOk, OnErr, MatchResult}
use Rattle.std.specs.Io.KnownBytes.{Appends, Consumes, IsAtEnd}

-- one more, on a count that stands still at its end
abbrev pub one_more : ℕ → ℕ
one_more count = min (count + 1) (2 ^ 64 - 1)

-- a count rose, or stands at its end
abbrev pub Rose : ℕ → ℕ → Type 0
Rose before now = one_more before ≤ now

-- a count goes on: it never falls, and at its end it stands still
pub record CountsOn (before now : ℕ) : Type 0 where
  pub later : before ≤ now
  pub stands : before ≡ 2 ^ 64 - 1 → now ≡ before

-- a count goes on, an Ok leaves it, and an error comes only where it rose
pub record HasCause {T E : Type 0} (before now : ℕ) (result : Result T E) : Type 0 where
  pub count : CountsOn before now
  pub kept : OnOk result (now ≡ before)
  pub failed : OnErr result (Rose before now)

-- what is told of each name but this one stays
abbrev pub OthersStay : {A : Type 0} → List ℕ → (List ℕ → A) → (List ℕ → A) → Type 0
OthersStay name old new = (other : List ℕ) → other ≢ name → new other ≡ old other

-- what is told of every name stays
abbrev pub AllStay : {A : Type 0} → (List ℕ → A) → (List ℕ → A) → Type 0
AllStay old new = (name : List ℕ) → new name ≡ old name

-- a read took the first n bytes of what was left, none only at its end, and nothing where it failed
abbrev pub Takes : {E : Type 0} → Option (List ℕ) → Option (List ℕ) → Result ℕ E → List ℕ → Type 0
Takes old new result buf =
    MatchResult result (λ n. (n ≤ length buf) × Consumes old new (take n buf) × (n ≡ 0 → IsAtEnd new)) (λ _. new ≡ old)

-- what was left began with n bytes, which were taken
abbrev pub TakesFront : Option (List ℕ) → Option (List ℕ) → ℕ → Type 0
TakesFront old new n = (bytes : List ℕ) × (length bytes ≡ n) × Consumes old new bytes

-- these bytes were all that was left, and were taken
abbrev pub TakesAll : Option (List ℕ) → Option (List ℕ) → List ℕ → Type 0
TakesAll old new bytes = Consumes old new bytes × IsAtEnd new

-- a write added the first n bytes, at least one, and nothing where it failed
abbrev pub Adds : {E : Type 0} → Option (List ℕ) → Option (List ℕ) → Result ℕ E → List ℕ → Type 0
Adds old new result bytes =
    MatchResult result (λ n. (0 < n) × (n ≤ length bytes) × Appends old new (take n bytes)) (λ _. new ≡ old)

-- the bytes that were added are a front of those that were due
abbrev pub AddsFront : Option (List ℕ) → Option (List ℕ) → List ℕ → Type 0
AddsFront old new bytes = (n : ℕ) × (n ≤ length bytes) × Appends old new (take n bytes)
