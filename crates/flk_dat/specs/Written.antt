-- The canonical bytes of a record (IEEE C37.111-1999, clause 6).
use Rattle.std.specs.Prelude.{ℕ, suc, ◌+◌, ◌*◌, ◌/◌, ◌<◌, ◌≤◌, ◌^◌, cond, Bool, List, [], ◌∷◌, ◌++◌, length, map, take, drop, All, codes, ℤ, pos, negsuc, ◌≤ℤ◌, Option, Some, None}
use Rattle.std.specs.List.{flat_map, range_with_len}
use Rattle.std.specs.Fmt.{decimal}
use Rattle.std.specs.Int.{w16, cast_unsigned}
use Rattle.byteorder.specs.Endian.{little_bytes}
use Rattle.flk_text.specs.Fields.{joined_fields}
use Rattle.flk_field.specs.declared.form.Form.{Form}
use Rattle.flk_field.specs.declared.form.Form.TheVariants.{Ascii, Binary}
use Rattle.flk_dat.specs.Records.{DataRecord}
use Rattle.flk_dat.specs.SampleFields.{most_number, most_stamp, IsSampleValue}

-- ---- the sets of the values

-- nothing, or a time stamp
abbrev pub IsStampValue : Option ℕ → Type 0
IsStampValue None = Unit {0}
IsStampValue (Some n) = n ≤ most_stamp

-- an ASCII line can write the values
pub record IsAsciiRecord (r : DataRecord) : Type 0 where
  pub number : r.number ≤ most_number
  pub stamp : IsStampValue r.stamp
  pub analog : All IsSampleValue r.analog

-- a time stamp of four bytes
abbrev pub IsWordStamp : Option ℕ → Type 0
IsWordStamp None = ⊥
IsWordStamp (Some n) = n < 2 ^ 32

-- a BINARY record can hold the values; it always has a time stamp
pub record IsBinaryRecord (r : DataRecord) : Type 0 where
  pub number : r.number < 2 ^ 32
  pub stamp : IsWordStamp r.stamp
  pub analog : All (λ z. (negsuc 32767 ≤ℤ z) × (z ≤ℤ pos 32767)) r.analog

-- the values are in the form's sets
abbrev pub IsWritable : Form → DataRecord → Type 0
IsWritable Ascii r = IsAsciiRecord r
IsWritable Binary r = IsBinaryRecord r

-- ---- ASCII

-- a whole number without plus sign and leading zeros
abbrev pub whole_text : ℤ → List ℕ
whole_text (pos n) = decimal n
whole_text (negsuc n) = 45 ∷ decimal (suc n)

abbrev pub stamp_text : Option ℕ → List ℕ
stamp_text None = []
stamp_text (Some n) = decimal n

abbrev pub bit_text : Bool → List ℕ
bit_text b = cond b 49 48 ∷ []

-- a comma and a value behind it
abbrev pub value_field : ℤ → List ℕ
value_field z = 44 ∷ whole_text z

abbrev pub bit_field : Bool → List ℕ
bit_field b = 44 ∷ bit_text b

-- sample number, time stamp, analog values, digital values
abbrev pub record_fields : DataRecord → List (List ℕ)
record_fields r = decimal r.number ∷ stamp_text r.stamp ∷ (map whole_text r.analog ++ map bit_text r.digital)

-- the line with CR LF behind it
abbrev pub written_line : DataRecord → List ℕ
written_line r = joined_fields (record_fields r) ++ codes "\r\n"

-- ---- BINARY

abbrev pub stamp_number : Option ℕ → ℕ
stamp_number None = 0
stamp_number (Some n) = n

abbrev pub value_bytes : ℤ → List ℕ
value_bytes z = little_bytes 2 (cast_unsigned w16 z)

-- the number whose bits these are, the lowest first
abbrev pub bits_number : List Bool → ℕ
bits_number [] = 0
bits_number (b ∷ bs) = cond b 1 0 + 2 * bits_number bs

-- the word of the i-th group of 16 channels, from 0, with zero in unused bits
abbrev pub word_bytes : List Bool → ℕ → List ℕ
word_bytes bits i = little_bytes 2 (bits_number (take 16 (drop (16 * i) bits)))

abbrev pub written_binary : DataRecord → List ℕ
written_binary r =
    little_bytes 4 r.number
    ++ (little_bytes 4 (stamp_number r.stamp)
    ++ (flat_map value_bytes r.analog
    ++ flat_map (word_bytes r.digital) (range_with_len 0 ((length r.digital + 15) / 16))))

-- ---- the record

unfoldable pub written_record : Form → DataRecord → List ℕ
written_record Ascii r = written_line r
written_record Binary r = written_binary r
