-- A canonical BINARY record is read back.
use Rattle.std.proofs.Common.{◌≡◌, ℕ, zero, suc, ◌+◌, ◌*◌, ◌/◌, ◌%◌, ◌^◌, ◌<◌, ◌≤◌, Bool, true, false, cond, eqb, ℤ, pos, negsuc, ◌≤ℤ◌, List, [], ◌∷◌, ◌++◌, length, get_or, take, drop, Option, Some, None, refl, sym, ap, subst, ◌∙◌, arith, length-append, length-take, append_assoc}
use Rattle.std.specs.Prelude.{FitsSigned}
use Rattle.std.specs.List.{flat_map, range_with_len}
use Rattle.std.specs.Int.{w16, cast_signed, cast_unsigned}
use Rattle.std.proofs.lemmas.Int.{ints, to_z-of_z}
use Rattle.std.proofs.Math.Facts.{Fits-of_z}
use Rattle.std.proofs.Math.Nat.{zero-div, pow-le-pow_right, pow-succ', div-div-eq-div-mul}
use Rattle.std.proofs.Math.Seq.{drop-append_seam, drop-append-add}
use Rattle.std.proofs.lemmas.List.{get_or-take, get_or-drop}
use Rattle.std.proofs.lemmas.List.FromFn.{get_or-range_with_len, length-range_with_len}
use Rattle.byteorder.specs.Endian.{little_bytes, little_number}
use Rattle.byteorder.specs.Numbers.{little_number-reads_back, length-bytes_low_first}
use Rattle.flk_field.specs.declared.form.Form.{Form}
use Rattle.flk_field.specs.declared.form.Form.TheVariants.{Binary}
use Rattle.flk_cfg.proofs.WrittenFields.{bit_small}
use Rattle.flk_dat.specs.Records.{DataRecord, Layout, HasWidth}
use Rattle.flk_dat.specs.BinaryRecords.{record_size, number_of, stamp_of, value_of, word_of, bit_of, IsBinary}
use Rattle.flk_dat.specs.DataFile.{IsRecord}
use Rattle.flk_dat.specs.Written.{IsWordStamp, IsBinaryRecord, stamp_number, value_bytes, bits_number, word_bytes, written_binary}
use Rattle.flk_dat.proofs.BinarySteps.{binary_record, text_or_bytes}

-- ---- pieces of one length

pieces_length : {X : Type 0} (f : X → List ℕ) (w : ℕ) (xs : List X) → ((x : X) → length (f x) ≡ w) → length (flat_map f xs) ≡ w * length xs
pieces_length {X} f w [] size = omega arith
pieces_length {X} f w (x ∷ xs) size = omega (arith, size x, pieces_length f w xs size, length-append (f x) (flat_map f xs))

-- behind i pieces comes the next one
piece_at : {X : Type 0} (f : X → List ℕ) (w : ℕ) (xs : List X) (i : ℕ) (d : X) (more : List ℕ) → ((x : X) → length (f x) ≡ w) → i < length xs
    → (rest : List ℕ) × (drop (w * i) (flat_map f xs ++ more) ≡ f (get_or xs i d) ++ rest)
piece_at {X} f w [] i d more size lt = absurd (omega (arith, lt))
piece_at {X} f w (x ∷ xs) zero d more size lt =
    let none : w * 0 ≡ 0 = omega arith in
    (flat_map f xs ++ more, ap (λ (n : ℕ). drop n (flat_map f (x ∷ xs) ++ more)) none ∙ append_assoc (f x) (flat_map f xs) more)
piece_at {X} f w (x ∷ xs) (suc i) d more size lt =
    let next = piece_at f w xs i d more size (omega (arith, lt)) in
    let sum : w * suc i ≡ length (f x) + w * i = omega (arith, size x) in (
      next.0,
      ap (λ (n : ℕ). drop n (flat_map f (x ∷ xs) ++ more)) sum ∙ ap (drop (length (f x) + w * i)) (append_assoc (f x) (flat_map f xs) more)
          ∙ drop-append-add (f x) (flat_map f xs ++ more) (w * i) ∙ next.1,
    )

little_length : (n x : ℕ) → length (little_bytes n x) ≡ n
little_length n x = length-bytes_low_first 0 n x

value_length : (z : ℤ) → length (value_bytes z) ≡ 2
value_length z = little_length 2 (cast_unsigned w16 z)

word_length : (bits : List Bool) (g : ℕ) → length (word_bytes bits g) ≡ 2
word_length bits g = little_length 2 (bits_number (take 16 (drop (16 * g) bits)))

-- ---- bits

two_grows : (a b : ℕ) → a ≤ b → 2 ^ a ≤ 2 ^ b
two_grows a b le = pow-le-pow_right {n = 2} (omega arith) le

pub bits_small : (bs : List Bool) → bits_number bs < 2 ^ length bs
bits_small [] = omega arith
bits_small (b ∷ bs) =
    let more : 2 ^ suc (length bs) ≡ 2 * 2 ^ length bs = pow-succ' 2 (length bs) in
    omega (arith, bits_small bs, bit_small b, more)

low_bit : (b : Bool) (n : ℕ) → (cond b 1 0 + 2 * n) % 2 ≡ cond b 1 0
low_bit true n = omega arith
low_bit false n = omega arith

half_of : (b : Bool) (n : ℕ) → (cond b 1 0 + 2 * n) / 2 ≡ n
half_of true n = omega arith
half_of false n = omega arith

zero_bits : (j : ℕ) → 0 / 2 ^ j % 2 ≡ 0
zero_bits j = ap (λ (n : ℕ). n % 2) (zero-div (2 ^ j))

bit_at : (bs : List Bool) (j : ℕ) → bits_number bs / 2 ^ j % 2 ≡ cond (get_or bs j false) 1 0
bit_at [] j = zero_bits j
bit_at (b ∷ bs) zero =
    let one : (cond b 1 0 + 2 * bits_number bs) / 2 ^ 0 ≡ cond b 1 0 + 2 * bits_number bs = omega arith in
    ap (λ (n : ℕ). n % 2) one ∙ low_bit b (bits_number bs)
bit_at (b ∷ bs) (suc j) =
    let all = cond b 1 0 + 2 * bits_number bs in
    let cut : all / 2 ^ suc j ≡ all / 2 / 2 ^ j = ap (λ (n : ℕ). all / n) (pow-succ' 2 j) ∙ sym (div-div-eq-div-mul all 2 (2 ^ j)) in
    ap (λ (n : ℕ). n % 2) (cut ∙ ap (λ (n : ℕ). n / 2 ^ j) (half_of b (bits_number bs))) ∙ bit_at bs j

bit_is : (b : Bool) → eqb (cond b 1 0) 1 ≡ b
bit_is true = refl
bit_is false = refl

-- ---- the record

abbrev head_bytes : DataRecord → List ℕ
head_bytes r = little_bytes 4 r.number ++ little_bytes 4 (stamp_number r.stamp)

abbrev values_of : DataRecord → List ℕ
values_of r = flat_map value_bytes r.analog

abbrev words_of : DataRecord → List ℕ
words_of r = flat_map (word_bytes r.digital) (range_with_len 0 ((length r.digital + 15) / 16))

parts : (r : DataRecord) (more : List ℕ) → written_binary r ++ more ≡ head_bytes r ++ (values_of r ++ (words_of r ++ more))
parts r more =
    let n = little_bytes 4 r.number in
    let s = little_bytes 4 (stamp_number r.stamp) in
    append_assoc n (s ++ (values_of r ++ words_of r)) more ∙ ap (λ (x : List ℕ). n ++ x) (append_assoc s (values_of r ++ words_of r) more ∙ ap (λ (x : List ℕ). s ++ x) (append_assoc (values_of r) (words_of r) more))
    ∙ sym (append_assoc n s (values_of r ++ (words_of r ++ more)))

head_length : (r : DataRecord) → length (head_bytes r) ≡ 8
head_length r = omega (arith, length-append (little_bytes 4 r.number) (little_bytes 4 (stamp_number r.stamp)), little_length 4 r.number, little_length 4 (stamp_number r.stamp))

-- what stands behind the head
behind_head : (r : DataRecord) (more : List ℕ) (k : ℕ) → drop (8 + k) (written_binary r ++ more) ≡ drop k (values_of r ++ (words_of r ++ more))
behind_head r more k =
    ap (drop (8 + k)) (parts r more) ∙ ap (λ (n : ℕ). drop (n + k) (head_bytes r ++ (values_of r ++ (words_of r ++ more)))) (sym (head_length r)) ∙ drop-append-add (head_bytes r) (values_of r ++ (words_of r ++ more)) k

number_written : (r : DataRecord) (more : List ℕ) → IsBinaryRecord r → number_of (written_binary r ++ more) ≡ r.number
unfolding number_of
number_written r more is =
    let n = little_bytes 4 r.number in
    let rest = little_bytes 4 (stamp_number r.stamp) ++ (values_of r ++ words_of r) in
    ap (little_number 4) (append_assoc n rest more) ∙ little_number-reads_back 4 r.number (rest ++ more) (omega (arith, is.number))

stamp_small : (s : Option ℕ) → IsWordStamp s → stamp_number s < 2 ^ 32
stamp_small None is = absurd is
stamp_small (Some n) is = is

stamp_there : (s : Option ℕ) → IsWordStamp s → s ≡ Some (stamp_number s)
stamp_there None is = absurd is
stamp_there (Some n) is = refl

stamp_written : (r : DataRecord) (more : List ℕ) → IsBinaryRecord r → stamp_of (written_binary r ++ more) ≡ stamp_number r.stamp
unfolding stamp_of
stamp_written r more is =
    let n = little_bytes 4 r.number in
    let s = little_bytes 4 (stamp_number r.stamp) in
    let rest = (values_of r ++ words_of r) ++ more in
    let split : written_binary r ++ more ≡ n ++ (s ++ rest) = append_assoc n (s ++ (values_of r ++ words_of r)) more ∙ ap (λ (x : List ℕ). n ++ x) (append_assoc s (values_of r ++ words_of r) more) in
    let behind : drop 4 (written_binary r ++ more) ≡ s ++ rest = ap (drop 4) split ∙ ap (λ (k : ℕ). drop k (n ++ (s ++ rest))) (sym (little_length 4 r.number)) ∙ drop-append_seam n (s ++ rest) in
    ap (little_number 4) behind ∙ little_number-reads_back 4 (stamp_number r.stamp) rest (omega (arith, stamp_small r.stamp is.stamp))

value_fits : (z : ℤ) → (negsuc 32767 ≤ℤ z) × (z ≤ℤ pos 32767) → FitsSigned w16 z
value_fits z range = omega (arith, ints, range.0, range.1)

value_number : (z : ℤ) → FitsSigned w16 z → cast_unsigned w16 z < 256 ^ 2
value_number z fits = omega (arith, Fits-of_z {w = w16} {z = z} fits)

value_written : (r : DataRecord) (more : List ℕ) (i : ℕ) → IsBinaryRecord r → i < length r.analog → get_or r.analog i (pos 0) ≡ value_of Binary (written_binary r ++ more) i
unfolding value_of
value_written r more i is lt =
    let z = get_or r.analog i (pos 0) in
    let fits = value_fits z (is.analog i (pos 0) lt) in
    let p = piece_at value_bytes 2 r.analog i (pos 0) (words_of r ++ more) value_length lt in
    let read : little_number 2 (drop (8 + 2 * i) (written_binary r ++ more)) ≡ cast_unsigned w16 z =
    ap (little_number 2) (behind_head r more (2 * i) ∙ p.1) ∙ little_number-reads_back 2 (cast_unsigned w16 z) p.0 (value_number z fits) in
    sym (ap (cast_signed w16) read ∙ to_z-of_z w16 z fits)

word_small : (bits : List Bool) → length bits ≤ 16 → bits_number bits < 256 ^ 2
word_small bits few =
    let most : 2 ^ length bits ≤ 2 ^ 16 = two_grows (length bits) 16 few in
    omega (arith, bits_small bits, most)

word_written : (r : DataRecord) (more : List ℕ) (g : ℕ) → g < (length r.digital + 15) / 16 → little_number 2 (drop (8 + 2 * length r.analog + 2 * g) (written_binary r ++ more)) ≡ bits_number (take 16 (drop (16 * g) r.digital))
word_written r more g lt =
    let count = (length r.digital + 15) / 16 in
    let f = word_bytes r.digital in
    let nv : length (values_of r) ≡ 2 * length r.analog = pieces_length value_bytes 2 r.analog value_length in
    let there : g < length (range_with_len 0 count) = omega (arith, lt, length-range_with_len 0 count) in
    let p = piece_at f 2 (range_with_len 0 count) g 0 more (word_length r.digital) there in
    let at : get_or (range_with_len 0 count) g 0 ≡ g = get_or-range_with_len 0 count g 0 lt ∙ omega arith in
    let place : 8 + 2 * length r.analog + 2 * g ≡ 8 + (length (values_of r) + 2 * g) = omega (arith, nv) in
    let behind : drop (8 + 2 * length r.analog + 2 * g) (written_binary r ++ more) ≡ f g ++ p.0 =
    ap (λ (k : ℕ). drop k (written_binary r ++ more)) place ∙ behind_head r more (length (values_of r) + 2 * g) ∙ drop-append-add (values_of r) (words_of r ++ more) (2 * g) ∙ p.1 ∙ ap (λ (k : ℕ). f k ++ p.0) at in
    let bits = take 16 (drop (16 * g) r.digital) in
    let few : length bits ≤ 16 = omega (arith, length-take 16 (drop (16 * g) r.digital)) in
    let small = word_small bits few in
    ap (little_number 2) behind ∙ little_number-reads_back 2 (bits_number bits) p.0 small

bit_written : (r : DataRecord) (more : List ℕ) (i : ℕ) → i < length r.digital → get_or r.digital i false ≡ bit_of Binary (length r.analog) (written_binary r ++ more) i
unfolding word_of
bit_written r more i lt =
    let g = i / 16 in
    let j = i % 16 in
    let group : g < (length r.digital + 15) / 16 = omega (arith, lt) in
    let within : j < 16 = omega arith in
    let place : 16 * g + j ≡ i = omega arith in
    let word = word_written r more g group in
    let bits = take 16 (drop (16 * g) r.digital) in
    let read : get_or bits j false ≡ get_or r.digital i false = get_or-take 16 (drop (16 * g) r.digital) j false within ∙ get_or-drop (16 * g) r.digital j false ∙ ap (λ (k : ℕ). get_or r.digital k false) place in
    sym (ap (λ (n : ℕ). eqb (n / 2 ^ j % 2) 1) word ∙ ap (λ (n : ℕ). eqb n 1) (bit_at bits j) ∙ bit_is (get_or bits j false) ∙ read)

pub binary_written : (l : Layout) (k : ℕ) (r : DataRecord) (more : List ℕ) → l.form ≡ Binary → HasWidth (length l.selected) l.digital r → IsBinaryRecord r → IsRecord l k (written_binary r ++ more) r
binary_written l k r more form w is =
    let analog = length l.selected in
    let digital = l.digital in
    let bytes = written_binary r ++ more in
    let size : length bytes ≡ 8 + (length (values_of r) + (length (words_of r) + length more)) =
    ap length (parts r more) ∙ omega (arith, head_length r, length-append (head_bytes r) (values_of r ++ (words_of r ++ more)), length-append (values_of r) (words_of r ++ more), length-append (words_of r) more) in
    let nv : length (values_of r) ≡ 2 * length r.analog = pieces_length value_bytes 2 r.analog value_length in
    let nw : length (words_of r) ≡ 2 * ((length r.digital + 15) / 16) =
    pieces_length (word_bytes r.digital) 2 (range_with_len 0 ((length r.digital + 15) / 16)) (word_length r.digital) ∙ ap (λ (n : ℕ). 2 * n) (length-range_with_len 0 ((length r.digital + 15) / 16)) in
    binary_record l k bytes r (λ e. text_or_bytes (sym form ∙ e)) (subst (λ (f : Form). IsBinary f analog digital bytes r) (sym form) (record {
      whole = subst (λ (a : ℕ). record_size Binary a digital ≤ length bytes) w.analog_count (subst (λ (d : ℕ). record_size Binary (length r.analog) d ≤ length bytes) w.digital_count (omega (arith, size, nv, nw)));
      number = sym (number_written r more is);
      stamp = stamp_there r.stamp is.stamp ∙ ap (λ (n : ℕ). Some n) (sym (stamp_written r more is));
      analog_count = w.analog_count;
      analog_values = λ i lt. value_written r more i is (omega (arith, lt, w.analog_count));
      digital_count = w.digital_count;
      digital_values = λ i lt. subst (λ (a : ℕ). get_or r.digital i false ≡ bit_of Binary a bytes i) w.analog_count (bit_written r more i (omega (arith, lt, w.digital_count)));
    }))

pub binary_length : (r : DataRecord) (analog digital : ℕ) → HasWidth analog digital r → length (written_binary r) ≡ record_size Binary analog digital
binary_length r analog digital w =
    let nv : length (values_of r) ≡ 2 * length r.analog = pieces_length value_bytes 2 r.analog value_length in
    let nw : length (words_of r) ≡ 2 * ((length r.digital + 15) / 16) =
    pieces_length (word_bytes r.digital) 2 (range_with_len 0 ((length r.digital + 15) / 16)) (word_length r.digital) ∙ ap (λ (n : ℕ). 2 * n) (length-range_with_len 0 ((length r.digital + 15) / 16)) in
    let n = little_bytes 4 r.number in
    let s = little_bytes 4 (stamp_number r.stamp) in
    let size : length (written_binary r) ≡ record_size Binary (length r.analog) (length r.digital) =
    omega (arith, nv, nw, little_length 4 r.number, little_length 4 (stamp_number r.stamp), length-append n (s ++ (values_of r ++ words_of r)), length-append s (values_of r ++ words_of r), length-append (values_of r) (words_of r)) in
    size ∙ ap (λ (a : ℕ). record_size Binary a (length r.digital)) w.analog_count ∙ ap (record_size Binary analog) w.digital_count
