-- The line at the front of bytes, whatever follows its end.
use Rattle.std.proofs.Common.{◌≡◌, ◌⊎◌, ℕ, zero, suc, ◌+◌, ◌-◌, ◌<◌, ◌≤◌, Bool, true, false, cond, eqb, List, [], ◌∷◌, ◌++◌, length, get_or, take, drop, refl, sym, ap, subst, ◌∙◌, arith, inl, inr, length-append, append-nil, length-take}
use Rattle.std.specs.Prelude.{not}
use Rattle.std.specs.List.{list_all, position_or_len, before_first}
use Rattle.std.proofs.lemmas.Bool.{cases_Bool, cases_lt, eqb-true, eq-eqb, ne_eqb, and_parts, not-true}
use Rattle.std.proofs.lemmas.List.{take_all, drop_all, get_or_append_left}
use Rattle.std.proofs.lemmas.List.Folds.{list_all-append}
use Rattle.std.proofs.Math.Seq.{take-append_seam, take-append-add, drop-append_seam, drop-append-add}
use Rattle.flk_text.specs.Lines.{is_byte, ends_last_line, without_cr, without_lf, line_of, after_line, last_line_of, tail_of}
use Rattle.flk_dat.specs.AsciiRecords.{longest_line, IsBlank}
use Rattle.flk_dat.specs.DataFile.{line_at}
use Rattle.flk_dat.specs.Streams.{ends_line, IsUnended, MayBegin}

-- ---- the first place

no_place : (p : ℕ → Bool) (xs ys : List ℕ) → list_all (λ b. not (p b)) xs ≡ true → position_or_len p (xs ++ ys) ≡ length xs + position_or_len p ys
no_place p [] ys h = omega arith
no_place p (x ∷ xs) ys h =
    let q = and_parts (not (p x)) (list_all (λ b. not (p b)) xs) h in
    let off : p x ≡ false = not-true (p x) q.0 in
    let more = no_place p xs ys q.1 in
    rw off (omega (arith, more))

place_here : (p : ℕ → Bool) (c : ℕ) (ys : List ℕ) → p c ≡ true → position_or_len p (c ∷ ys) ≡ 0
place_here p c ys h = rw h refl

-- bytes before the first place are none
pub unended_before : (p : ℕ → Bool) (xs : List ℕ) (n : ℕ) → n ≤ position_or_len p xs → list_all (λ b. not (p b)) (take n xs) ≡ true
unended_before p xs zero h = refl
unended_before p [] (suc n) h = refl
unended_before p (x ∷ xs) (suc n) h =
    elim (cases_Bool (p x)) [
      | inl on ↦ absurd (omega (arith, rw on at h))
      | inr off ↦ rw off (unended_before p xs n (omega (arith, rw off at h)))
    ]

all_at : (p : ℕ → Bool) (xs : List ℕ) (k : ℕ) → list_all p xs ≡ true → k < length xs → p (get_or xs k 0) ≡ true
all_at p [] k all lt = absurd (omega (arith, lt))
all_at p (x ∷ xs) zero all lt = (and_parts (p x) (list_all p xs) all).0
all_at p (x ∷ xs) (suc k) all lt = all_at p xs k (and_parts (p x) (list_all p xs) all).1 (omega (arith, lt))

-- ---- the line

line_by : (last : Bool) (rest : List ℕ) → cond last (last_line_of rest) (line_of rest) ≡ without_cr (before_first (ends_line last) rest)
line_by true rest = refl
line_by false rest = refl

pub line_is : (records k : ℕ) (rest : List ℕ) → line_at records k rest ≡ without_cr (before_first (ends_line (eqb (k + 1) records)) rest)
line_is records k rest = line_by (eqb (k + 1) records) rest

-- what follows a line at the front
abbrev pub after_by : (last : Bool) → List ℕ → List ℕ
after_by last rest = cond last (tail_of rest) (after_line rest)

-- what of a line's end belongs to the tail: a byte 1A
abbrev pub mark_of : ℕ → List ℕ
mark_of c = cond (eqb c 10) [] (c ∷ [])

pub line_ended : (records k : ℕ) (body more : List ℕ) (c : ℕ) → IsUnended (eqb (k + 1) records) body → ends_line (eqb (k + 1) records) c ≡ true → line_at records k (body ++ (c ∷ more)) ≡ without_cr body
line_ended records k body more c none end =
    let p = ends_line (eqb (k + 1) records) in
    let at : position_or_len p (body ++ (c ∷ more)) ≡ length body = no_place p body (c ∷ more) none ∙ ap (λ (n : ℕ). length body + n) (place_here p c more end) ∙ omega arith in
    line_is records k (body ++ (c ∷ more)) ∙ ap (λ (n : ℕ). without_cr (take n (body ++ (c ∷ more)))) at ∙ ap without_cr (take-append_seam body (c ∷ more))

marked : (c : ℕ) (more : List ℕ) → without_lf (c ∷ more) ≡ mark_of c ++ more
marked c more =
    elim (cases_Bool (eqb c 10)) [
      | inl lf ↦ rw lf refl
      | inr other ↦ rw other refl
    ]

pub after_ended : (last : Bool) (body more : List ℕ) (c : ℕ) → IsUnended last body → ends_line last c ≡ true → after_by last (body ++ (c ∷ more)) ≡ mark_of c ++ more
after_ended false body more c none end =
    let p = is_byte 10 in
    let at : position_or_len p (body ++ (c ∷ more)) ≡ length body = no_place p body (c ∷ more) none ∙ ap (λ (n : ℕ). length body + n) (place_here p c more end) ∙ omega arith in
    let rest : after_line (body ++ (c ∷ more)) ≡ more = ap (λ (n : ℕ). drop (n + 1) (body ++ (c ∷ more))) at ∙ drop-append-add body (c ∷ more) 1 in
    rw end rest
after_ended true body more c none end =
    let p = ends_last_line in
    let at : position_or_len p (body ++ (c ∷ more)) ≡ length body = no_place p body (c ∷ more) none ∙ ap (λ (n : ℕ). length body + n) (place_here p c more end) ∙ omega arith in
    let rest : tail_of (body ++ (c ∷ more)) ≡ without_lf (c ∷ more) = ap (λ (n : ℕ). without_lf (drop n (body ++ (c ∷ more)))) at ∙ ap without_lf (drop-append_seam body (c ∷ more)) in
    rest ∙ marked c more

-- the byte that ends a line is an LF or a 1A, and in a line other than the last an LF
pub end_byte : (last : Bool) (c : ℕ) → ends_line last c ≡ true → (c ≡ 10) ⊎ ((c ≡ 26) × (last ≡ true))
end_byte false c end = inl (eqb-true c 10 end)
end_byte true c end =
    elim (cases_Bool (eqb c 10)) [
      | inl lf ↦ inl (eqb-true c 10 lf)
      | inr other ↦ inr (eqb-true c 26 (rw other at end), refl)
    ]

-- a line without an end is all that is there
pub line_unended : (records k : ℕ) (rest : List ℕ) → IsUnended (eqb (k + 1) records) rest → line_at records k rest ≡ without_cr rest
line_unended records k rest none =
    let p = ends_line (eqb (k + 1) records) in
    let all : position_or_len p rest ≡ length rest = ap (position_or_len p) (sym (append-nil rest)) ∙ no_place p rest [] none ∙ omega arith in
    line_is records k rest ∙ ap (λ (n : ℕ). without_cr (take n rest)) all ∙ ap without_cr (take_all (length rest) rest (omega arith))

pub after_unended : (last : Bool) (rest : List ℕ) → IsUnended last rest → after_by last rest ≡ []
after_unended false rest none =
    let all : position_or_len (is_byte 10) rest ≡ length rest = ap (position_or_len (is_byte 10)) (sym (append-nil rest)) ∙ no_place (is_byte 10) rest [] none ∙ omega arith in
    drop_all (position_or_len (is_byte 10) rest + 1) rest (omega (arith, all))
after_unended true rest none =
    let all : position_or_len ends_last_line rest ≡ length rest = ap (position_or_len ends_last_line) (sym (append-nil rest)) ∙ no_place ends_last_line rest [] none ∙ omega arith in
    ap without_lf (drop_all (position_or_len ends_last_line rest) rest (omega (arith, all)))

-- ---- blanks

pub ended_not_blank : (last : Bool) (body more : List ℕ) (c : ℕ) → ends_line last c ≡ true → IsBlank (body ++ (c ∷ more)) → ⊥
ended_not_blank last body more c end blank =
    let parts = and_parts (list_all (is_byte 32) body) (list_all (is_byte 32) (c ∷ more)) (sym (list_all-append (is_byte 32) body (c ∷ more)) ∙ blank.spaces) in
    let space : c ≡ 32 = eqb-true c 32 (and_parts (is_byte 32 c) (list_all (is_byte 32) more) parts.1).0 in
    elim (end_byte last c end) [
      | inl lf ↦ omega (arith, lf, space)
      | inr mark ↦ omega (arith, mark.0, space)
    ]

-- spaces that may begin a line are no more than a line may have
pub spaces_blank : (bytes : List ℕ) → MayBegin bytes → list_all (is_byte 32) bytes ≡ true → IsBlank bytes
spaces_blank bytes (inl short) spaces = record { short = short; spaces = spaces }
spaces_blank bytes (inr cr) spaces =
    let there : longest_line < length bytes = omega (arith, cr.0) in
    let space : get_or bytes longest_line 0 ≡ 32 = eqb-true (get_or bytes longest_line 0) 32 (all_at (is_byte 32) bytes longest_line spaces there) in
    absurd (omega (arith, cr.1, space))

-- ---- lines that are too long

-- more than a line may have, and no CR behind the longest line that could belong to its end
pub too_long : (bytes : List ℕ) → (MayBegin bytes → ⊥) → longest_line < length bytes
too_long bytes none =
    elim (cases_lt longest_line (length bytes)) [
      | inl more ↦ more
      | inr few ↦ absurd (none (inl few))
    ]

pub without_cr_length : (bytes : List ℕ) → length bytes ≤ length (without_cr bytes) + 1
without_cr_length bytes =
    elim (cases_Bool (eqb (get_or bytes (length bytes - 1) 0) 13)) [
      | inl cr ↦ rw cr (omega (arith, length-take (length bytes - 1) bytes))
      | inr other ↦ rw other (omega arith)
    ]

pub long_line : (bytes more : List ℕ) → (MayBegin bytes → ⊥) → longest_line < length (without_cr (bytes ++ more))
long_line bytes more none =
    let all = length-append bytes more in
    let some = too_long bytes none in
    elim (cases_lt (longest_line + 1) (length (bytes ++ more))) [
      | inl long ↦ omega (arith, long, without_cr_length (bytes ++ more))
      | inr few ↦
          let size : length bytes ≡ longest_line + 1 = omega (arith, few, all, some) in
          let whole : length (bytes ++ more) - 1 ≡ longest_line = omega (arith, few, all, size) in
          let there : longest_line < length bytes = some in
          let same : get_or (bytes ++ more) longest_line 0 ≡ get_or bytes longest_line 0 = get_or_append_left bytes more 0 longest_line there in
          let other : get_or (bytes ++ more) (length (bytes ++ more) - 1) 0 ≡ 13 → ⊥ = λ e. none (inr (size, sym same ∙ ap (λ (j : ℕ). get_or (bytes ++ more) j 0) (sym whole) ∙ e)) in
          let off : eqb (get_or (bytes ++ more) (length (bytes ++ more) - 1) 0) 13 ≡ false = ne_eqb (get_or (bytes ++ more) (length (bytes ++ more) - 1) 0) 13 other in
          rw off (omega (arith, all, size))
    ]

pub long_line_at : (records k : ℕ) (bytes more : List ℕ) → IsUnended (eqb (k + 1) records) bytes → (MayBegin bytes → ⊥) → longest_line < length (line_at records k (bytes ++ more))
long_line_at records k bytes more none long =
    let p = ends_line (eqb (k + 1) records) in
    let at = no_place p bytes more none in
    let front : before_first p (bytes ++ more) ≡ bytes ++ take (position_or_len p more) more = ap (λ (n : ℕ). take n (bytes ++ more)) at ∙ take-append-add bytes more (position_or_len p more) in
    subst (λ (line : List ℕ). longest_line < length line) (sym (line_is records k (bytes ++ more) ∙ ap without_cr front)) (long_line bytes (take (position_or_len p more) more) long)

pub long_not_blank : (bytes more : List ℕ) → (MayBegin bytes → ⊥) → IsBlank (bytes ++ more) → ⊥
long_not_blank bytes more none blank = omega (arith, too_long bytes none, length-append bytes more, blank.short)

-- what may begin a line is one that isn't too long
pub short_line : (bytes : List ℕ) → MayBegin bytes → length (without_cr bytes) ≤ longest_line
short_line bytes (inl few) =
    elim (cases_Bool (eqb (get_or bytes (length bytes - 1) 0) 13)) [
      | inl cr ↦ rw cr (omega (arith, few, length-take (length bytes - 1) bytes))
      | inr other ↦ rw other few
    ]
short_line bytes (inr cr) =
    let last : length bytes - 1 ≡ longest_line = omega (arith, cr.0) in
    let on : eqb (get_or bytes (length bytes - 1) 0) 13 ≡ true = eq-eqb (get_or bytes (length bytes - 1) 0) 13 (ap (λ (j : ℕ). get_or bytes j 0) last ∙ cr.1) in
    rw on (omega (arith, cr.0, length-take (length bytes - 1) bytes))
