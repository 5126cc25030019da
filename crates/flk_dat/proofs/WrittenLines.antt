-- A canonical line is read back as its record.
use Rattle.std.proofs.Common.{◌≡◌, ℕ, suc, ◌+◌, ◌*◌, ◌<◌, ◌≤◌, Bool, true, false, eqb, ℤ, pos, negsuc, List, [], ◌∷◌, ◌++◌, length, get_or, map, Option, Some, None, refl, sym, ap, subst, ◌∙◌, arith, inl, inr, length-append, append_assoc}
use Rattle.std.specs.Prelude.{All, not}
use Rattle.std.specs.List.{flat_map, list_all}
use Rattle.std.specs.Fmt.{decimal}
use Rattle.std.proofs.lemmas.Int.{ints}
use Rattle.std.proofs.lemmas.Bool.{and_parts, not-true}
use Rattle.std.proofs.lemmas.Fmt.{length-decimal-le}
use Rattle.std.proofs.lemmas.List.{get_or-map, get_or_append_left, length-map}
use Rattle.std.proofs.lemmas.List.Elements.{All-head, All-tail}
use Rattle.std.proofs.Math.Seq.{get_or-append-add}
use Rattle.flk_text.specs.WholeNumber.{IsWhole, IsWholeValue}
use Rattle.flk_text.specs.Lines.{Lacks, without_cr}
use Rattle.flk_text.specs.Fields.{fields, joined_fields}
use Rattle.flk_text.proofs.PlainTextLemmas.{decimal_writes}
use Rattle.flk_text.proofs.WrittenLaws.{fields_joined, lacks-append, cr_dropped}
use Rattle.flk_field.specs.Values.{IsBit}
use Rattle.flk_field.specs.declared.form.Form.TheVariants.{Ascii}
use Rattle.flk_cfg.proofs.WrittenFields.{IsFree, free_cell, free-append, free_decimal, whole_is}
use Rattle.flk_cfg.proofs.WrittenLines.{AreCells, cell_at, joined_lacks}
use Rattle.flk_dat.specs.Records.{DataRecord, Layout, HasWidth}
use Rattle.flk_dat.specs.SampleFields.{most_number, most_stamp, IsSampleValue, IsNumber, IsStamp, IsSample}
use Rattle.flk_dat.specs.AsciiRecords.{longest_line, IsRow, IsLine}
use Rattle.flk_dat.specs.DataFile.{IsRecord}
use Rattle.flk_dat.specs.Streams.{ends_line, IsUnended}
use Rattle.flk_dat.specs.Written.{IsStampValue, IsAsciiRecord, whole_text, stamp_text, bit_text, value_field, bit_field, record_fields, written_line}
use Rattle.flk_dat.proofs.WrittenText.{fields_joined_are}
use Rattle.flk_dat.proofs.LineEnds.{after_by, after_ended}
use Rattle.flk_dat.proofs.AsciiSteps.{line_here}

-- ---- fields

number_written : (n : ℕ) → n ≤ most_number → IsNumber (decimal n) n
number_written n most = whole_is 0 most_number n (omega arith) most (omega (arith, most))

stamp_written : (s : Option ℕ) → IsStampValue s → IsStamp (stamp_text s) s
stamp_written None is = refl
stamp_written (Some n) is = whole_is 0 most_stamp n (omega arith) is (omega (arith, is))

value_written : (z : ℤ) → IsSampleValue z → IsWholeValue (whole_text z) z
value_written (pos n) range =
    let few : n ≤ 99999 = omega (arith, ints, range.1) in
    (whole_is 0 99999 n (omega arith) few (omega (arith, few))).value
value_written (negsuc n) range =
    let few : suc n ≤ 99999 = omega (arith, ints, range.0) in
    let w = decimal_writes (suc n) (omega (arith, few)) in
    let spelled : IsWhole (45 ∷ decimal (suc n)) true (suc n) = record {
      sign = 45 ∷ [];
      digits = decimal (suc n);
      text_is = refl;
      sign_is = inr (inr (refl, refl));
      are = w.are;
      some = w.some;
      value = sym w.value;
    } in
    record { minus = true; size = suc n; spelled = spelled; most = omega (arith, few); is = refl }

sample_written : (z : ℤ) → IsSampleValue z → IsSample (whole_text z) z
sample_written z range = record { value = value_written z range; at_least = range.0; at_most = range.1 }

bit_written : (b : Bool) → IsBit (bit_text b) b
bit_written true = record {
  value = record { minus = false; size = 1; spelled = record { sign = []; digits = 49 ∷ []; text_is = refl; sign_is = inl (refl, refl); are = refl; some = omega arith; value = refl }; most = omega arith; is = refl };
  at_least = omega arith;
  at_most = omega arith;
}
bit_written false = record {
  value = record { minus = false; size = 0; spelled = record { sign = []; digits = 48 ∷ []; text_is = refl; sign_is = inl (refl, refl); are = refl; some = omega arith; value = refl }; most = omega arith; is = refl };
  at_least = omega arith;
  at_most = omega arith;
}

-- ---- texts without comma, space and line end

free_nothing : IsFree []
free_nothing = record { comma = refl; space = refl; lf = refl; mark = refl }

free_minus : IsFree (45 ∷ [])
free_minus = record { comma = refl; space = refl; lf = refl; mark = refl }

free_value : (z : ℤ) → IsSampleValue z → IsFree (whole_text z)
free_value (pos n) range = free_decimal n (omega (arith, ints, range.1))
free_value (negsuc n) range = free-append (45 ∷ []) (decimal (suc n)) free_minus (free_decimal (suc n) (omega (arith, ints, range.0)))

free_stamp : (s : Option ℕ) → IsStampValue s → IsFree (stamp_text s)
free_stamp None is = free_nothing
free_stamp (Some n) is = free_decimal n (omega (arith, is))

free_bit : (b : Bool) → IsFree (bit_text b)
free_bit true = record { comma = refl; space = refl; lf = refl; mark = refl }
free_bit false = record { comma = refl; space = refl; lf = refl; mark = refl }

value_cells : (zs : List ℤ) (fs : List (List ℕ)) → All IsSampleValue zs → AreCells fs → AreCells (map whole_text zs ++ fs)
value_cells [] fs all cells = cells
value_cells (z ∷ zs) fs all cells = (free_cell (whole_text z) (free_value z (All-head IsSampleValue z zs all)), value_cells zs fs (All-tail IsSampleValue z zs all) cells)

bit_cells : (bs : List Bool) → AreCells (map bit_text bs)
bit_cells [] = tt
bit_cells (b ∷ bs) = (free_cell (bit_text b) (free_bit b), bit_cells bs)

pub record_cells : (r : DataRecord) → IsAsciiRecord r → AreCells (record_fields r)
record_cells r is =
    (free_cell (decimal r.number) (free_decimal r.number (omega (arith, is.number))), (free_cell (stamp_text r.stamp) (free_stamp r.stamp is.stamp), value_cells r.analog (map bit_text r.digital) is.analog (bit_cells r.digital)))

-- ---- the fields are those of the record

past_head : (f g : List ℕ) (fs : List (List ℕ)) (i : ℕ) → get_or (f ∷ g ∷ fs) (2 + i) [] ≡ get_or fs i []
past_head f g fs i = let e : 2 + i ≡ suc (suc i) = omega arith in ap (λ (k : ℕ). get_or (f ∷ g ∷ fs) k []) e

row_written : (analog digital : ℕ) (r : DataRecord) → HasWidth analog digital r → IsAsciiRecord r → IsRow analog digital (record_fields r) r
row_written analog digital r w is =
    let values = map whole_text r.analog in
    let bits = map bit_text r.digital in
    let nv : length values ≡ analog = length-map r.analog whole_text ∙ w.analog_count in
    let nb : length bits ≡ digital = length-map r.digital bit_text ∙ w.digital_count in
    record {
      count = omega (arith, length-append values bits, nv, nb);
      number = number_written r.number is.number;
      stamp = stamp_written r.stamp is.stamp;
      analog_count = w.analog_count;
      analog_values = λ i lt.
          let there : i < length r.analog = omega (arith, lt, w.analog_count) in
          let same : get_or (record_fields r) (2 + i) [] ≡ whole_text (get_or r.analog i (pos 0)) =
          past_head (decimal r.number) (stamp_text r.stamp) (values ++ bits) i ∙ get_or_append_left values bits [] i (omega (arith, lt, nv)) ∙ get_or-map whole_text r.analog i (pos 0) [] there in
          subst (λ (f : List ℕ). IsSample f (get_or r.analog i (pos 0))) (sym same) (sample_written (get_or r.analog i (pos 0)) (is.analog i (pos 0) there));
      digital_count = w.digital_count;
      digital_values = λ i lt.
          let there : i < length r.digital = omega (arith, lt, w.digital_count) in
          let place : 2 + analog + i ≡ 2 + (length values + i) = omega (arith, nv) in
          let same : get_or (record_fields r) (2 + analog + i) [] ≡ bit_text (get_or r.digital i false) =
          ap (λ (k : ℕ). get_or (record_fields r) k []) place ∙ past_head (decimal r.number) (stamp_text r.stamp) (values ++ bits) (length values + i)
          ∙ get_or-append-add values bits i [] ∙ get_or-map bit_text r.digital i false [] there in
          subst (λ (f : List ℕ). IsBit f (get_or r.digital i false)) (sym same) (bit_written (get_or r.digital i false));
    }

-- ---- the line isn't too long

value_short : (z : ℤ) → IsSampleValue z → length (whole_text z) ≤ 6
value_short (pos n) range =
    let few : n ≤ 99999 = omega (arith, ints, range.1) in
    omega (arith, length-decimal-le 5 n (omega arith) (omega (arith, few)) (omega (arith, few)))
value_short (negsuc n) range =
    let few : suc n ≤ 99999 = omega (arith, ints, range.0) in
    omega (arith, length-decimal-le 5 (suc n) (omega arith) (omega (arith, few)) (omega (arith, few)))

values_short : (zs : List ℤ) → All IsSampleValue zs → length (flat_map value_field zs) ≤ 7 * length zs
values_short [] all = omega arith
values_short (z ∷ zs) all =
    omega (arith, value_short z (All-head IsSampleValue z zs all), values_short zs (All-tail IsSampleValue z zs all), length-append (value_field z) (flat_map value_field zs))

bits_short : (bs : List Bool) → length (flat_map bit_field bs) ≤ 2 * length bs
bits_short [] = omega arith
bits_short (b ∷ bs) = omega (arith, bits_short bs, length-append (bit_field b) (flat_map bit_field bs))

stamp_short : (s : Option ℕ) → IsStampValue s → length (stamp_text s) ≤ 10
stamp_short None is = omega arith
stamp_short (Some n) is = length-decimal-le 10 n (omega arith) (omega (arith, is)) (omega (arith, is))

line_short : (analog digital : ℕ) (r : DataRecord) → analog ≤ 256 → digital ≤ 256 → HasWidth analog digital r → IsAsciiRecord r → length (joined_fields (record_fields r)) ≤ longest_line
line_short analog digital r few some w is =
    let n : length (decimal r.number) ≤ 10 = length-decimal-le 10 r.number (omega arith) (omega (arith, is.number)) (omega (arith, is.number)) in
    let s = stamp_short r.stamp is.stamp in
    let v = values_short r.analog is.analog in
    let b = bits_short r.digital in
    let fa = flat_map value_field r.analog in
    let fd = flat_map bit_field r.digital in
    let all = ap length (fields_joined_are r) in
    omega (arith, n, s, v, b, w.analog_count, w.digital_count, few, some, all, length-append (decimal r.number) ((44 ∷ stamp_text r.stamp) ++ (fa ++ fd)), length-append (44 ∷ stamp_text r.stamp) (fa ++ fd), length-append fa fd)

pub line_written : (analog digital : ℕ) (r : DataRecord) → analog ≤ 256 → digital ≤ 256 → HasWidth analog digital r → IsAsciiRecord r → IsLine analog digital (joined_fields (record_fields r)) r
line_written analog digital r few some w is =
    let cells = record_cells r is in
    let same : fields (joined_fields (record_fields r)) ≡ record_fields r = fields_joined (record_fields r) (omega arith) (λ k d lt. cell_at (record_fields r) k d cells lt) in
    record { short = line_short analog digital r few some w is; row = subst (λ (fs : List (List ℕ)). IsRow analog digital fs r) (sym same) (row_written analog digital r w is) }

-- ---- the line and its end

no_end : (last : Bool) (xs : List ℕ) → Lacks 10 xs → Lacks 26 xs → IsUnended last xs
no_end last [] a b = refl
no_end false (x ∷ xs) a b = a
no_end true (x ∷ xs) a b =
    let p = and_parts (not (eqb x 10)) (list_all (λ y. not (eqb y 10)) xs) a in
    let q = and_parts (not (eqb x 26)) (list_all (λ y. not (eqb y 26)) xs) b in
    let lf : eqb x 10 ≡ false = not-true (eqb x 10) p.0 in
    let mark : eqb x 26 ≡ false = not-true (eqb x 26) q.0 in
    rw (lf, mark) (no_end true xs p.1 q.1)

lf_ends : (last : Bool) → ends_line last 10 ≡ true
lf_ends false = refl
lf_ends true = refl

-- the line with its CR
abbrev pub with_cr : DataRecord → List ℕ
with_cr r = joined_fields (record_fields r) ++ (13 ∷ [])

pub written_is : (r : DataRecord) → written_line r ≡ with_cr r ++ 10 ∷ []
written_is r = sym (append_assoc (joined_fields (record_fields r)) (13 ∷ []) (10 ∷ []))

unended_written : (last : Bool) (r : DataRecord) → IsAsciiRecord r → IsUnended last (with_cr r)
unended_written last r is =
    let cells = record_cells r is in
    no_end last (with_cr r)
    (lacks-append 10 (joined_fields (record_fields r)) (13 ∷ []) (joined_lacks 10 (record_fields r) refl (λ f cell. cell.lf) cells) refl)
    (lacks-append 26 (joined_fields (record_fields r)) (13 ∷ []) (joined_lacks 26 (record_fields r) refl (λ f cell. cell.mark) cells) refl)

pub ascii_written : (l : Layout) (k : ℕ) (r : DataRecord) (more : List ℕ) → l.form ≡ Ascii → length l.selected ≤ 256 → l.digital ≤ 256 → HasWidth (length l.selected) l.digital r → IsAsciiRecord r
    → IsRecord l k (written_line r ++ more) r × (after_by (eqb (k + 1) l.records) (written_line r ++ more) ≡ more)
ascii_written l k r more form few some w is =
    let last = eqb (k + 1) l.records in
    let none = unended_written last r is in
    let line = line_written (length l.selected) l.digital r few some w is in
    let body : IsLine (length l.selected) l.digital (without_cr (with_cr r)) r = subst (λ (x : List ℕ). IsLine (length l.selected) l.digital x r) (sym (cr_dropped (joined_fields (record_fields r)))) line in
    let is_here = line_here l k [] (with_cr r) more 10 r form none (lf_ends last) body in
    let same : written_line r ++ more ≡ (with_cr r ++ 10 ∷ []) ++ more = ap (λ (x : List ℕ). x ++ more) (written_is r) in
    let split : written_line r ++ more ≡ with_cr r ++ (10 ∷ more) = same ∙ append_assoc (with_cr r) (10 ∷ []) more in
    (subst (λ (x : List ℕ). IsRecord l k x r) (sym same) is_here, ap (after_by last) split ∙ after_ended last (with_cr r) more 10 none (lf_ends last))
