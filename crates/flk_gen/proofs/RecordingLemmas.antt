-- The lines of a generated recording, record by record.
use Rattle.std.proofs.Common.{◌≡◌, ℕ, zero, suc, ◌+◌, ◌*◌, ◌/◌, ◌<◌, ◌≤◌, List, [], ◌∷◌, ◌++◌, length, ℤ, pos, negsuc, refl, sym, ap, ◌∙◌, arith, length-append, append-nil, append_assoc, codes}
use Rattle.std.specs.Prelude.{All, unsigned_abs}
use Rattle.std.specs.List.{flat_map}
use Rattle.std.specs.Fmt.{decimal}
use Rattle.std.proofs.lemmas.Fmt.{length-decimal-le}
use Rattle.std.proofs.lemmas.Grind.{flat_map-append}
use Rattle.std.proofs.lemmas.Int.{ints}
use Rattle.std.proofs.lemmas.List.Elements.{All-nil, All-cons, All-head, All-tail, All-weaker}
use Rattle.std.proofs.lemmas.List.FromFn.{map-range_with_len_more}
use Rattle.flk_field.specs.declared.form.Form.TheVariants.{Ascii}
use Rattle.flk_text.specs.Fields.{joined_fields}
use Rattle.flk_dat.specs.SampleFields.{IsSampleValue}
use Rattle.flk_dat.specs.Written.{IsAsciiRecord, value_field, record_fields, written_record}
use Rattle.flk_dat.proofs.WrittenText.{fields_joined_are}
use Rattle.flk_gen.specs.Recording.{recorded, generated_record, generated_records, generated_lines}
use Rattle.flk_gen.specs.Workload.{value, values}
use Rattle.flk_gen.proofs.ValueBounds.{value-small}

-- ---- the values are in their sets

-- below 2^16 in size, as every value is
abbrev pub IsSmall : ℤ → Type 0
IsSmall z = unsigned_abs z ≤ 65536

sample : (z : ℤ) → IsSmall z → IsSampleValue z
sample (pos n) small = (omega (arith, ints), omega (arith, ints, small))
sample (negsuc n) small = (omega (arith, ints, small), omega (arith, ints))

pub recorded_ascii : (place : ℕ) (zs : List ℤ) → place ≤ 19200000 → All IsSmall zs → IsAsciiRecord (recorded place zs)
recorded_ascii place zs few small = record { number = omega (arith, few); stamp = omega (arith, few); analog = All-weaker IsSmall IsSampleValue sample zs small }

small_values : (seed n : ℕ) → All IsSmall (values seed n)
small_values seed n =
    let each : (c : ℕ) → IsSmall (value seed c n) = λ c. omega (arith, value-small seed c n) in
    All-cons IsSmall (value seed 0 n) (value seed 1 n ∷ value seed 2 n ∷ []) (each 0)
    (All-cons IsSmall (value seed 1 n) (value seed 2 n ∷ []) (each 1) (All-cons IsSmall (value seed 2 n) [] (each 2) (All-nil IsSmall)))

pub can_write : (seed n : ℕ) → n < 19200000 → IsAsciiRecord (generated_record seed n)
can_write seed n few = recorded_ascii n (values seed n) (omega (arith, few)) (small_values seed n)

-- ---- a line is short

field_short : (z : ℤ) → IsSmall z → length (value_field z) ≤ 7
field_short (pos n) small = omega (arith, length-decimal-le 5 n (omega arith) (omega (arith, small)) (omega (arith, small)))
field_short (negsuc n) small = omega (arith, length-decimal-le 5 (suc n) (omega arith) (omega (arith, small)) (omega (arith, small)))

fields_short : (zs : List ℤ) → All IsSmall zs → length (flat_map value_field zs) ≤ 7 * length zs
fields_short [] all = omega arith
fields_short (z ∷ zs) all =
    omega (arith, field_short z (All-head IsSmall z zs all), fields_short zs (All-tail IsSmall z zs all), length-append (value_field z) (flat_map value_field zs))

pub recorded_short : (place : ℕ) (zs : List ℤ) → place ≤ 19200000 → length zs ≡ 3 → All IsSmall zs → length (written_record Ascii (recorded place zs)) ≤ 64
unfolding written_record
recorded_short place zs few three small =
    let line = recorded place zs in
    let stamp = decimal (1250 * place / 3) in
    let number = decimal (place + 1) in
    let n : length number ≤ 10 = length-decimal-le 10 (place + 1) (omega arith) (omega (arith, few)) (omega (arith, few)) in
    let s : length stamp ≤ 10 = length-decimal-le 10 (1250 * place / 3) (omega arith) (omega (arith, few)) (omega (arith, few)) in
    let fields = flat_map value_field zs in
    omega (
      arith,
      n,
      s,
      three,
      fields_short zs small,
      ap length (fields_joined_are line),
      length-append (joined_fields (record_fields line)) (codes "\r\n"),
      length-append number ((44 ∷ stamp) ++ (fields ++ [])),
      length-append (44 ∷ stamp) (fields ++ []),
      length-append fields [],
    )

-- ---- one record more

pub lines_none : (seed : ℕ) → generated_lines seed 0 ≡ []
unfolding generated_lines
lines_none seed = refl

pub lines_more : (seed n : ℕ) → generated_lines seed (n + 1) ≡ generated_lines seed n ++ written_record Ascii (generated_record seed n)
unfolding generated_lines
lines_more seed n =
    let line = written_record Ascii in
    let rs = generated_records seed n in
    let r = generated_record seed n in
    ap (flat_map line) (map-range_with_len_more (generated_record seed) 0 n n (omega arith))
    ∙ flat_map-append line rs (r ∷ [])
    ∙ ap (λ (x : List ℕ). flat_map line rs ++ x) (append-nil (line r))

-- the lines of more records begin with those of fewer
pub lines_begin : (seed n k : ℕ) → (rest : List ℕ) × (generated_lines seed (n + k) ≡ generated_lines seed n ++ rest)
lines_begin seed n zero = ([], let e : n + 0 ≡ n = omega arith in ap (generated_lines seed) e ∙ sym (append-nil (generated_lines seed n)))
lines_begin seed n (suc k) =
    let before = lines_begin seed n k in
    let line = written_record Ascii (generated_record seed (n + k)) in
    let e : n + suc k ≡ (n + k) + 1 = omega arith in (
      before.0 ++ line,
      ap (generated_lines seed) e ∙ lines_more seed (n + k) ∙ ap (λ (x : List ℕ). x ++ line) before.1 ∙ append_assoc (generated_lines seed n) before.0 line,
    )
