-- The lines of a written text are read back: their fields, and the end of the last one.
use Rattle.std.proofs.Common.{◌≡◌, ℕ, zero, suc, ◌+◌, ◌<◌, eqb, List, [], ◌∷◌, ◌++◌, length, get_or, take, drop, refl, sym, ap, subst, ◌∙◌, arith, length-append, append_assoc, append-nil, one-add, false}
use Rattle.std.specs.Prelude.{not, All}
use Rattle.std.specs.List.{list_all, position_or_len, before_first}
use Rattle.std.proofs.lemmas.Bool.{and_parts, not-true}
use Rattle.std.proofs.Math.Seq.{take-append_seam, drop-append-add}
use Rattle.flk_text.specs.Lines.{Lacks, without_cr, line_of, after_line, ends_last_line, last_line_of, without_lf, tail_of}
use Rattle.flk_text.specs.Fields.{fields, joined_fields, IsField}
use Rattle.flk_text.specs.Tail.{IsTail}
use Rattle.flk_text.proofs.WrittenLaws.{lacks-append, cr_dropped, fields_joined, line_of-written, after_line-written}
use Rattle.flk_cfg.specs.Places.{after_lines, IsLineAt, IsLastLineAt, HasLine, HasLastLine, tail_at}
use Rattle.flk_cfg.specs.Canonical.{line_text, lines_text}

-- a text that is a field as it stands in any line, the last one too
pub record IsCell (f : List ℕ) : Type 0 where
  pub field : IsField f
  pub lf : Lacks 10 f
  pub mark : Lacks 26 f

abbrev pub AreCells : List (List ℕ) → Type 0
AreCells [] = Unit {0}
AreCells (f ∷ fs) = IsCell f × AreCells fs

-- each line has fields, and they are such texts
abbrev pub AreLines : List (List (List ℕ)) → Type 0
AreLines [] = Unit {0}
AreLines (r ∷ rs) = ((0 < length r) × AreCells r) × AreLines rs

pub AreLines-append : (xs ys : List (List (List ℕ))) → AreLines xs → AreLines ys → AreLines (xs ++ ys)
AreLines-append [] ys a b = b
AreLines-append (x ∷ xs) ys a b = (a.0, AreLines-append xs ys a.1 b)

pub cell_at : (fs : List (List ℕ)) (k : ℕ) (d : List ℕ) → AreCells fs → k < length fs → IsField (get_or fs k d)
cell_at [] k d cells lt = absurd (omega (arith, lt))
cell_at (f ∷ fs) zero d cells lt = cells.0.field
cell_at (f ∷ fs) (suc k) d cells lt = cell_at fs k d cells.1 (omega (arith, lt))

are_fields : (fs : List (List ℕ)) → AreCells fs → All IsField fs
are_fields fs cells = λ k d lt. cell_at fs k d cells lt

pub joined_lacks : (c : ℕ) (fs : List (List ℕ)) → Lacks c (44 ∷ []) → ((f : List ℕ) → IsCell f → Lacks c f) → AreCells fs → Lacks c (joined_fields fs)
joined_lacks c [] comma of cells = refl
joined_lacks c (f ∷ []) comma of cells = of f cells.0
joined_lacks c (f ∷ g ∷ gs) comma of cells =
    lacks-append c f (44 ∷ joined_fields (g ∷ gs)) (of f cells.0) (lacks-append c (44 ∷ []) (joined_fields (g ∷ gs)) comma (joined_lacks c (g ∷ gs) comma of cells.1))

joined_lf : (fs : List (List ℕ)) → AreCells fs → Lacks 10 (joined_fields fs)
joined_lf fs cells = joined_lacks 10 fs refl (λ f cell. cell.lf) cells

joined_mark : (fs : List (List ℕ)) → AreCells fs → Lacks 26 (joined_fields fs)
joined_mark fs cells = joined_lacks 26 fs refl (λ f cell. cell.mark) cells

line_text-rest : (r : List (List ℕ)) (rest : List ℕ) → line_text r ++ rest ≡ joined_fields r ++ (13 ∷ 10 ∷ rest)
line_text-rest r rest = append_assoc (joined_fields r) (13 ∷ 10 ∷ []) rest

after_line-row : (r : List (List ℕ)) (rest : List ℕ) → AreCells r → after_line (line_text r ++ rest) ≡ rest
after_line-row r rest cells = ap after_line (line_text-rest r rest) ∙ after_line-written (joined_fields r) rest (joined_lf r cells)

fields-row : (r : List (List ℕ)) (rest : List ℕ) → 0 < length r → AreCells r → fields (line_of (line_text r ++ rest)) ≡ r
fields-row r rest some cells =
    ap (λ (b : List ℕ). fields (line_of b)) (line_text-rest r rest) ∙ ap fields (line_of-written (joined_fields r) rest (joined_lf r cells)) ∙ fields_joined r some (are_fields r cells)

after_lines-next : (k : ℕ) (bytes : List ℕ) → after_lines (suc k) bytes ≡ after_lines k (after_line bytes)
after_lines-next zero bytes = refl
after_lines-next (suc k) bytes = ap after_line (after_lines-next k bytes)

-- what follows the first k lines
rest_at : (rows : List (List (List ℕ))) (k : ℕ) → AreLines rows → k < length rows → after_lines k (lines_text rows) ≡ line_text (get_or rows k []) ++ lines_text (drop (suc k) rows)
rest_at [] k are lt = absurd (omega (arith, lt))
rest_at (r ∷ rs) zero are lt = refl
rest_at (r ∷ rs) (suc k) are lt =
    after_lines-next k (lines_text (r ∷ rs)) ∙ ap (after_lines k) (after_line-row r (lines_text rs) are.0.1) ∙ rest_at rs k are.1 (omega (arith, lt))

row_at : (rows : List (List (List ℕ))) (k : ℕ) → AreLines rows → k < length rows → (0 < length (get_or rows k [])) × AreCells (get_or rows k [])
row_at [] k are lt = absurd (omega (arith, lt))
row_at (r ∷ rs) zero are lt = are.0
row_at (r ∷ rs) (suc k) are lt = row_at rs k are.1 (omega (arith, lt))

some_bytes : (r : List (List ℕ)) (rest : List ℕ) → 0 < length (line_text r ++ rest)
some_bytes r rest = omega (arith, length-append (line_text r) rest, length-append (joined_fields r) (13 ∷ 10 ∷ []))

-- the line after the first k lines
pub has_line : (rows : List (List (List ℕ))) (k : ℕ) (r : List (List ℕ)) (is_so : List (List ℕ) → Type 0) → AreLines rows → k < length rows → get_or rows k [] ≡ r → is_so r → HasLine (lines_text rows) k is_so
has_line rows k r is_so are lt e so =
    let rest = lines_text (drop (suc k) rows) in
    let row = row_at rows k are lt in
    let at = rest_at rows k are lt in
    let same : fields (line_of (after_lines k (lines_text rows))) ≡ r = ap (λ (b : List ℕ). fields (line_of b)) at ∙ fields-row (get_or rows k []) rest row.0 row.1 ∙ e in
    let line : IsLineAt (lines_text rows) k r = record { there = subst (λ (b : List ℕ). 0 < length b) (sym at) (some_bytes (get_or rows k []) rest); is = sym same } in
    (r, line, so)

-- ---- the last line

end_place : (line rest : List ℕ) → Lacks 10 line → Lacks 26 line → position_or_len ends_last_line (line ++ (10 ∷ rest)) ≡ length line
end_place [] rest lf mark = refl
end_place (x ∷ xs) rest lf mark =
    let p = and_parts (not (eqb x 10)) (list_all (λ b. not (eqb b 10)) xs) lf in
    let q = and_parts (not (eqb x 26)) (list_all (λ b. not (eqb b 26)) xs) mark in
    let off : eqb x 10 ≡ false = not-true (eqb x 10) p.0 in
    let out : eqb x 26 ≡ false = not-true (eqb x 26) q.0 in
    rw (off, out) (ap (λ (n : ℕ). 1 + n) (end_place xs rest p.1 q.1) ∙ one-add (length xs))

last_written : (line : List ℕ) → Lacks 10 line → Lacks 26 line → (last_line_of (line ++ (13 ∷ 10 ∷ [])) ≡ line) × (tail_of (line ++ (13 ∷ 10 ∷ [])) ≡ [])
last_written line lf mark =
    let long = line ++ (13 ∷ []) in
    let whole : long ++ (10 ∷ []) ≡ line ++ (13 ∷ 10 ∷ []) = append_assoc line (13 ∷ []) (10 ∷ []) in
    let at : position_or_len ends_last_line (long ++ (10 ∷ [])) ≡ length long = end_place long [] (lacks-append 10 line (13 ∷ []) lf refl) (lacks-append 26 line (13 ∷ []) mark refl) in
    let front : before_first ends_last_line (long ++ (10 ∷ [])) ≡ long = ap (λ (n : ℕ). take n (long ++ (10 ∷ []))) at ∙ take-append_seam long (10 ∷ []) in
    let none : length long ≡ length long + 0 = omega arith in
    let back : drop (position_or_len ends_last_line (long ++ (10 ∷ []))) (long ++ (10 ∷ [])) ≡ 10 ∷ [] = ap (λ (n : ℕ). drop n (long ++ (10 ∷ []))) (at ∙ none) ∙ drop-append-add long (10 ∷ []) 0 in
    (ap last_line_of (sym whole) ∙ ap without_cr front ∙ cr_dropped line, ap tail_of (sym whole) ∙ ap without_lf back)

last_bytes : (rows : List (List (List ℕ))) (k : ℕ) → AreLines rows → k < length rows → drop (suc k) rows ≡ [] → after_lines k (lines_text rows) ≡ joined_fields (get_or rows k []) ++ (13 ∷ 10 ∷ [])
last_bytes rows k are lt none =
    rest_at rows k are lt ∙ ap (λ (l : List (List (List ℕ))). line_text (get_or rows k []) ++ lines_text l) none ∙ append-nil (line_text (get_or rows k []))

-- the last line, which follows the first k lines
pub has_last_line : (rows : List (List (List ℕ))) (k : ℕ) (r : List (List ℕ)) (is_so : List (List ℕ) → Type 0) → AreLines rows → k < length rows → drop (suc k) rows ≡ [] → get_or rows k [] ≡ r → is_so r → HasLastLine (lines_text rows) k is_so
has_last_line rows k r is_so are lt none e so =
    let row = row_at rows k are lt in
    let at = last_bytes rows k are lt none in
    let line = joined_fields (get_or rows k []) in
    let read = last_written line (joined_lf (get_or rows k []) row.1) (joined_mark (get_or rows k []) row.1) in
    let same : fields (last_line_of (after_lines k (lines_text rows))) ≡ r = ap (λ (b : List ℕ). fields (last_line_of b)) at ∙ ap fields read.0 ∙ fields_joined (get_or rows k []) row.0 (are_fields (get_or rows k []) row.1) ∙ e in
    let some : 0 < length (line ++ (13 ∷ 10 ∷ [])) = omega (arith, length-append line (13 ∷ 10 ∷ [])) in
    let there : IsLastLineAt (lines_text rows) k r = record { there = subst (λ (b : List ℕ). 0 < length b) (sym at) some; is = sym same } in
    (r, there, so)

-- nothing follows it
pub no_tail : (rows : List (List (List ℕ))) (k : ℕ) → AreLines rows → k < length rows → drop (suc k) rows ≡ [] → IsTail (tail_at (lines_text rows) k)
no_tail rows k are lt none =
    let row = row_at rows k are lt in
    let line = joined_fields (get_or rows k []) in
    let read = last_written line (joined_lf (get_or rows k []) row.1) (joined_mark (get_or rows k []) row.1) in
    let empty : tail_at (lines_text rows) k ≡ [] = ap tail_of (last_bytes rows k are lt none) ∙ read.1 in
    let nothing : IsTail [] = record { bytes = refl; one = omega arith } in
    subst IsTail (sym empty) nothing
