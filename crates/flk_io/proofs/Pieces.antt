-- Bytes that come and go in pieces.
use Rattle.std.proofs.Common.{◌≡◌, ℕ, ◌+◌, ◌-◌, ◌≤◌, List, ◌++◌, length, take, drop, Option, Some, None, refl, sym, append_assoc, arith}
use Rattle.std.proofs.Math.Seq.{take-add}
use Rattle.std.proofs.lemmas.List.{take_rest, length-take, length-append}
use Rattle.std.specs.Io.KnownBytes.{Appends, Consumes}
use Rattle.flk_io.specs.Causes.{TakesFront}

pub Appends-more : (old mid new : Option (List ℕ)) (xs ys zs : List ℕ) → Appends old mid xs → Appends mid new ys → zs ≡ xs ++ ys → Appends old new zs
Appends-more None mid new xs ys zs h k e = h
Appends-more (Some a) None new xs ys zs h k e = absurd h
Appends-more (Some a) (Some b) None xs ys zs h k e = absurd k
Appends-more (Some a) (Some b) (Some c) xs ys zs h k e = rw (k, h, e) (append_assoc a xs ys)

pub Consumes-more : (old mid new : Option (List ℕ)) (xs ys zs : List ℕ) → Consumes old mid xs → Consumes mid new ys → zs ≡ xs ++ ys → Consumes old new zs
Consumes-more None mid new xs ys zs h k e = h
Consumes-more (Some a) None new xs ys zs h k e = absurd h
Consumes-more (Some a) (Some b) None xs ys zs h k e = absurd k
Consumes-more (Some a) (Some b) (Some c) xs ys zs h k e = rw (h, k, e) (sym (append_assoc xs ys c))

-- what a slice from i on begins with comes next
pub take_next : (xs : List ℕ) (i n : ℕ) → take (i + n) xs ≡ take i xs ++ take n (take (length xs - i) (drop i xs))
take_next xs i n = rw (take_rest xs i) (take-add i n xs)

-- a read of no bytes at the end leaves what was taken so far as all there was
pub Consumes-end : (old mid new : Option (List ℕ)) (xs buf : List ℕ) (n : ℕ) → Consumes old mid xs → n ≡ 0 → Consumes mid new (take n buf) → Consumes old new xs
Consumes-end None mid new xs buf n h z k = tt
Consumes-end (Some a) None new xs buf n h z k = absurd h
Consumes-end (Some a) (Some b) None xs buf n h z k = absurd k
Consumes-end (Some a) (Some b) (Some c) xs buf n h z k = rw (h, k, z) refl

-- what was taken so far and the next n bytes are at most so many in all
pub TakesFront-more : (old mid new : Option (List ℕ)) (xs buf : List ℕ) (n most : ℕ) → Consumes old mid xs → Consumes mid new (take n buf) → length xs + n ≤ most
    → (m : ℕ) × (m ≤ most) × TakesFront old new m
TakesFront-more old mid new xs buf n most h k small =
    let all = xs ++ take n buf in
    let long : length all ≤ most = simp length-append (omega (arith, small, length-take n buf)) in
    (length all, long, (all, refl, Consumes-more old mid new xs (take n buf) all h k refl))
