-- The records of a file can be written: their values are in the form's sets.
use Rattle.std.proofs.Common.{◌≡◌, ℕ, zero, suc, ◌+◌, ◌*◌, ◌^◌, ◌<◌, List, [], length, get_or, drop, ℤ, pos, negsuc, ◌≤ℤ◌, Option, Some, None, sym, subst, arith, inl, inr, length-drop}
use Rattle.std.specs.Prelude.{All, FitsSigned}
use Rattle.std.specs.Int.{w16, cast_signed}
use Rattle.std.proofs.lemmas.Bool.{cases_lt}
use Rattle.std.proofs.lemmas.Int.{ints}
use Rattle.std.proofs.lemmas.List.{get_or_default, get_or_past, get_or-drop}
use Rattle.std.proofs.Math.Nat.{pow-succ'}
use borrow.Author.Gap.{read_sfits}
use Rattle.flk_text.specs.Fields.{fields}
use Rattle.byteorder.specs.Endian.{little_from, little_number}
use Rattle.flk_field.specs.declared.form.Form.{Form}
use Rattle.flk_field.specs.declared.form.Form.TheVariants.{Ascii, Binary}
use Rattle.flk_dat.specs.Records.{DataRecord, Layout, record_at}
use Rattle.flk_dat.specs.SampleFields.{IsSampleValue, IsStamp}
use Rattle.flk_dat.specs.AsciiRecords.{IsLine}
use Rattle.flk_dat.specs.BinaryRecords.{record_size, IsBinary, number_of, stamp_of, value_of}
use Rattle.flk_dat.specs.DataFile.{line_at, after_of, after_records, StandsInFront, IsRecord, AreFirst}
use Rattle.flk_dat.specs.Written.{IsStampValue, IsAsciiRecord, IsWordStamp, IsBinaryRecord, IsWritable}

abbrev AreBytes : List ℕ → Type 0
AreBytes bytes = All (λ b. b < 256) bytes

-- ---- numbers of few bytes

byte_small : (bytes : List ℕ) (i : ℕ) → AreBytes bytes → get_or bytes i 0 < 256
byte_small bytes i small =
    elim (cases_lt i (length bytes)) [
      | inl lt ↦ small i 0 lt
      | inr out ↦ omega (arith, get_or_past bytes i 0 out)
    ]

little_small : (n i : ℕ) (bytes : List ℕ) → AreBytes bytes → little_from i n bytes < 256 ^ n
little_small zero i bytes small = omega arith
little_small (suc n) i bytes small = omega (arith, byte_small bytes i small, little_small n (suc i) bytes small, pow-succ' 256 n)

dropped_small : (n : ℕ) (bytes : List ℕ) → AreBytes bytes → AreBytes (drop n bytes)
dropped_small n bytes small = λ k none lt.
    let same : get_or (drop n bytes) k none ≡ get_or bytes (n + k) none = get_or-drop n bytes k none in
    omega (arith, same, small (n + k) none (omega (arith, lt, length-drop n bytes)))

number_small : (bytes : List ℕ) → AreBytes bytes → number_of bytes < 2 ^ 32
unfolding number_of
number_small bytes small = omega (arith, little_small 4 0 bytes small)

stamp_small : (bytes : List ℕ) → AreBytes bytes → stamp_of bytes < 2 ^ 32
unfolding stamp_of
stamp_small bytes small = omega (arith, little_small 4 0 (drop 4 bytes) (dropped_small 4 bytes small))

value_small : (bytes : List ℕ) (i : ℕ) → (negsuc 32767 ≤ℤ value_of Binary bytes i) × (value_of Binary bytes i ≤ℤ pos 32767)
unfolding value_of
value_small bytes i =
    let fits : FitsSigned w16 (cast_signed w16 (little_number 2 (drop (8 + 2 * i) bytes))) = read_sfits w16 (little_number 2 (drop (8 + 2 * i) bytes)) in
    (omega (arith, ints, fits), omega (arith, ints, fits))

-- ---- a record

stamp_value : (f : List ℕ) (s : Option ℕ) → IsStamp f s → IsStampValue s
stamp_value f None is = tt
stamp_value f (Some n) is = is.at_most

line_writable : (analog digital : ℕ) (line : List ℕ) (r : DataRecord) → IsLine analog digital line r → IsAsciiRecord r
line_writable analog digital line r is = record {
  number = is.row.number.at_most;
  stamp = stamp_value (get_or (fields line) 1 []) r.stamp is.row.stamp;
  analog = λ i none lt.
      let s = is.row.analog_values i (omega (arith, lt, is.row.analog_count)) in
      subst IsSampleValue (get_or_default r.analog i (pos 0) none lt) (s.at_least, s.at_most);
}

binary_writable : (analog digital : ℕ) (bytes : List ℕ) (r : DataRecord) → AreBytes bytes → IsBinary Binary analog digital bytes r → IsBinaryRecord r
binary_writable analog digital bytes r small is = record {
  number = subst (λ (n : ℕ). n < 2 ^ 32) (sym is.number) (number_small bytes small);
  stamp = subst IsWordStamp (sym is.stamp) (stamp_small bytes small);
  analog = λ i none lt.
      let InWord : ℤ → Type 0 = λ z. (negsuc 32767 ≤ℤ z) × (z ≤ℤ pos 32767) in
      subst InWord (get_or_default r.analog i (pos 0) none lt)
      (subst InWord (sym (is.analog_values i (omega (arith, lt, is.analog_count)))) (value_small bytes i));
}

-- ---- the records of a file

front_writable : (form : Form) (l : Layout) (k : ℕ) (bytes : List ℕ) (r : DataRecord) → AreBytes bytes → StandsInFront form l k (after_of form l k bytes) r → IsWritable form r
front_writable Ascii l k bytes r small is = line_writable (length l.selected) l.digital (line_at l.records k (after_of Ascii l k bytes)) r is
front_writable Binary l k bytes r small is =
    let size = record_size Binary (length l.selected) l.digital * k in
    binary_writable (length l.selected) l.digital (drop size bytes) r (dropped_small size bytes small) is

pub records_writable : (l : Layout) (bytes : List ℕ) (rs : List DataRecord) → AreBytes bytes → AreFirst l bytes rs → (k : ℕ) → k < length rs → IsWritable l.form (record_at rs k)
unfolding IsRecord after_records
records_writable l bytes rs small first k lt = front_writable l.form l k bytes (record_at rs k) small (first.each k lt)
