-- The values that the bytes of a file write are in their sets.
use Rattle.std.proofs.Common.{◌≡◌, ◌≢◌, ℕ, zero, suc, ◌+◌, ◌-◌, ◌*◌, ◌^◌, ◌<◌, ◌≤◌, ◌≤ℤ◌, true, false, eqb, List, [], ◌∷◌, length, get_or, take, drop, map, reverse, refl, sym, ap, subst, ◌∙◌, arith, inl, inr, ℤ, pos, one-add}
use Rattle.std.specs.Prelude.{not, All}
use Rattle.std.specs.List.{list_all, slice_split, onto_first, prefix_len, suffix_len}
use Rattle.std.proofs.lemmas.Int.{ints}
use Rattle.std.proofs.lemmas.Bool.{and_parts, and_from, not-true, ne_eqb, eqb-false, cases_Bool, cases_lt}
use Rattle.std.proofs.lemmas.List.{get_or-take, get_or-reverse, length-take, length-reverse}
use Rattle.std.proofs.lemmas.List.Sums.{prefix_len_stops}
use Rattle.std.proofs.lemmas.List.Splits.{slice_split-cons_yes, slice_split-cons_no}
use Rattle.std.proofs.Math.Nat.{mul-le-mul_right}
use Rattle.flk_text.specs.Lines.{is_byte, Lacks, line_of}
use Rattle.flk_text.specs.Fields.{trimmed, trimmed_front, trimmed_back, fields}
use Rattle.flk_text.proofs.PowersOfTen.{ten_pos, times_add}
use Rattle.flk_text.proofs.DigitRuns.{number_small}
use Rattle.flk_text.proofs.DecimalLaws.{value_in_set}
use Rattle.flk_text.proofs.LineLaws.{no_lf_in_line}
use Rattle.flk_field.specs.Values.{is_text_byte, IsText, HasText, IsDecimalOrZero}
use Rattle.flk_field.specs.Dates.{IsSecondFraction}
use Rattle.flk_field.specs.Sets.{at}
use Rattle.flk_cfg.specs.Rows.{IsAnalog, IsDigital, IsStamp}
use Rattle.flk_cfg.specs.Places.{HasLine, after_lines}
use Rattle.flk_cfg.specs.File.{IsConfig}
use Rattle.flk_cfg.specs.Valid.{is_name_byte, IsName, IsValue, IsValidStamp, IsValidAnalog, IsValidDigital, IsValid}
use Rattle.flk_cfg.specs.declared.config.Analog.{Analog}
use Rattle.flk_cfg.specs.declared.config.Digital.{Digital}
use Rattle.flk_cfg.specs.declared.config.Stamp.{Stamp}
use Rattle.flk_cfg.specs.declared.config.Config.{Config}

-- ---- what a field of a line has not

lacks_take : (c n : ℕ) (xs : List ℕ) → Lacks c xs → Lacks c (take n xs)
lacks_take c zero xs h = refl
lacks_take c (suc n) [] h = refl
lacks_take c (suc n) (x ∷ xs) h =
    let p = and_parts (not (eqb x c)) (list_all (λ b. not (eqb b c)) xs) h in
    and_from (not (eqb x c)) (list_all (λ b. not (eqb b c)) (take n xs)) p.0 (lacks_take c n xs p.1)

lacks_drop : (c n : ℕ) (xs : List ℕ) → Lacks c xs → Lacks c (drop n xs)
lacks_drop c zero xs h = h
lacks_drop c (suc n) [] h = refl
lacks_drop c (suc n) (x ∷ xs) h = lacks_drop c n xs (and_parts (not (eqb x c)) (list_all (λ b. not (eqb b c)) xs) h).1

lacks_trimmed : (c : ℕ) (xs : List ℕ) → Lacks c xs → Lacks c (trimmed xs)
lacks_trimmed c xs h =
    let front = trimmed_front xs in
    lacks_take c (length front - suffix_len (is_byte 32) front) front (lacks_drop c (prefix_len (is_byte 32) xs) xs h)

lacks_from : (c : ℕ) (xs : List ℕ) → ((k : ℕ) → k < length xs → get_or xs k 0 ≢ c) → Lacks c xs
lacks_from c [] h = refl
lacks_from c (x ∷ xs) h =
    let here : not (eqb x c) ≡ true = ap not (ne_eqb x c (h 0 (omega arith))) in
    and_from (not (eqb x c)) (list_all (λ b. not (eqb b c)) xs) here (lacks_from c xs (λ k lt. h (suc k) (omega (arith, lt))))

abbrev AreWithout : ℕ → List (List ℕ) → Type 0
AreWithout c [] = Unit {0}
AreWithout c (p ∷ ps) = Lacks c p × AreWithout c ps

onto_without : (c x : ℕ) (ps : List (List ℕ)) → not (eqb x c) ≡ true → AreWithout c ps → AreWithout c (onto_first x ps)
onto_without c x [] other h = (and_from (not (eqb x c)) true other refl, tt)
onto_without c x (p ∷ ps) other h = (and_from (not (eqb x c)) (list_all (λ b. not (eqb b c)) p) other h.0, h.1)

split_without : (c : ℕ) (xs : List ℕ) → Lacks c xs → AreWithout c (slice_split (is_byte 44) xs)
split_without c [] h = (refl, tt)
split_without c (x ∷ xs) h =
    let p = and_parts (not (eqb x c)) (list_all (λ b. not (eqb b c)) xs) h in
    elim (cases_Bool (is_byte 44 x)) [
      | inl so ↦ subst (AreWithout c) (sym (slice_split-cons_yes (is_byte 44) x xs so)) (refl, split_without c xs p.1)
      | inr off ↦ subst (AreWithout c) (sym (slice_split-cons_no (is_byte 44) x xs off)) (onto_without c x (slice_split (is_byte 44) xs) p.0 (split_without c xs p.1))
    ]

split_commas : (xs : List ℕ) → AreWithout 44 (slice_split (is_byte 44) xs)
split_commas [] = (refl, tt)
split_commas (x ∷ xs) =
    elim (cases_Bool (is_byte 44 x)) [
      | inl so ↦ subst (AreWithout 44) (sym (slice_split-cons_yes (is_byte 44) x xs so)) (refl, split_commas xs)
      | inr off ↦ subst (AreWithout 44) (sym (slice_split-cons_no (is_byte 44) x xs off)) (onto_without 44 x (slice_split (is_byte 44) xs) (ap not off) (split_commas xs))
    ]

trimmed_without : (c : ℕ) (ps : List (List ℕ)) (i : ℕ) → AreWithout c ps → Lacks c (get_or (map trimmed ps) i [])
trimmed_without c [] i h = refl
trimmed_without c (p ∷ ps) zero h = lacks_trimmed c p h.0
trimmed_without c (p ∷ ps) (suc i) h = trimmed_without c ps i h.1

-- ---- no space at either end

front_no : (xs : List ℕ) → get_or (trimmed_front xs) 0 0 ≢ 32
front_no [] = λ e. omega (arith, e)
front_no (x ∷ xs) =
    elim (cases_Bool (is_byte 32 x)) [
      | inl so ↦
          let all = x ∷ xs in
          let count : prefix_len (is_byte 32) all ≡ suc (prefix_len (is_byte 32) xs) = rw so (one-add (prefix_len (is_byte 32) xs)) in
          let same : trimmed_front all ≡ trimmed_front xs = ap (λ (n : ℕ). drop n all) count in
          λ e. front_no xs (ap (λ (l : List ℕ). get_or l 0 0) (sym same) ∙ e)
      | inr off ↦
          let all = x ∷ xs in
          let count : prefix_len (is_byte 32) all ≡ 0 = rw off refl in
          let same : trimmed_front all ≡ all = ap (λ (n : ℕ). drop n all) count in
          λ e. eqb-false x 32 off (ap (λ (l : List ℕ). get_or l 0 0) (sym same) ∙ e)
    ]

first_taken : (n : ℕ) (xs : List ℕ) → get_or xs 0 0 ≢ 32 → get_or (take n xs) 0 0 ≢ 32
first_taken zero xs h = λ e. omega (arith, e)
first_taken (suc n) [] h = h
first_taken (suc n) (x ∷ xs) h = h

back_no : (xs : List ℕ) → get_or (trimmed_back xs) (length (trimmed_back xs) - 1) 0 ≢ 32
back_no xs =
    let s = suffix_len (is_byte 32) xs in
    let n = length xs - s in
    let count : length (take n xs) ≡ n = omega (arith, length-take n xs) in
    elim (cases_lt s (length xs)) [
      | inl lt ↦ λ e.
          let place : length (take n xs) - 1 ≡ length xs - 1 - s = omega (arith, count) in
          let there : s < length (reverse xs) = omega (arith, lt, length-reverse xs) in
          let last : get_or (take n xs) (length xs - 1 - s) 0 ≡ get_or xs (length xs - 1 - s) 0 = get_or-take n xs (length xs - 1 - s) 0 (omega (arith, lt)) in
          let mirrored : get_or (reverse xs) s 0 ≡ get_or xs (length xs - 1 - s) 0 = get_or-reverse xs s 0 lt in
          let space : get_or (reverse xs) s 0 ≡ 32 = mirrored ∙ sym last ∙ ap (λ (i : ℕ). get_or (take n xs) i 0) (sym place) ∙ e in
          eqb-false (get_or (reverse xs) s 0) 32 (prefix_len_stops (is_byte 32) (reverse xs) 0 there) space
      | inr ge ↦ λ e.
          let none : n ≡ 0 = omega (arith, ge) in
          let empty : take n xs ≡ [] = ap (λ (k : ℕ). take k xs) none in
          let at : get_or (take n xs) (length (take n xs) - 1) 0 ≡ 0 = ap (λ (l : List ℕ). get_or l (length l - 1) 0) empty in
          omega (arith, at, e)
    ]

trimmed_front_no : (xs : List ℕ) → get_or (trimmed xs) 0 0 ≢ 32
trimmed_front_no xs =
    let front = trimmed_front xs in
    first_taken (length front - suffix_len (is_byte 32) front) front (front_no xs)

trimmed_ends : (ps : List (List ℕ)) (i : ℕ) → (get_or (get_or (map trimmed ps) i []) 0 0 ≢ 32) × (get_or (get_or (map trimmed ps) i []) (length (get_or (map trimmed ps) i []) - 1) 0 ≢ 32)
trimmed_ends [] i = (λ e. omega (arith, e), λ e. omega (arith, e))
trimmed_ends (p ∷ ps) zero = (trimmed_front_no p, back_no (trimmed_front p))
trimmed_ends (p ∷ ps) (suc i) = trimmed_ends ps i

-- ---- names

name_byte : (b : ℕ) → not (eqb b 44) ≡ true → not (eqb b 10) ≡ true → is_text_byte b ≡ true → is_name_byte b ≡ true
name_byte b comma lf text =
    let no_comma : eqb b 44 ≡ false = not-true (eqb b 44) comma in
    let no_lf : eqb b 10 ≡ false = not-true (eqb b 10) lf in
    rw (no_comma, no_lf) text

name_bytes : (f : List ℕ) → Lacks 44 f → Lacks 10 f → list_all is_text_byte f ≡ true → list_all is_name_byte f ≡ true
name_bytes [] comma lf text = refl
name_bytes (b ∷ bs) comma lf text =
    let p = and_parts (not (eqb b 44)) (list_all (λ x. not (eqb x 44)) bs) comma in
    let q = and_parts (not (eqb b 10)) (list_all (λ x. not (eqb x 10)) bs) lf in
    let r = and_parts (is_text_byte b) (list_all is_text_byte bs) text in
    and_from (is_name_byte b) (list_all is_name_byte bs) (name_byte b p.0 q.0 r.0) (name_bytes bs p.1 q.1 r.1)

field_named : (line : List ℕ) (i : ℕ) → Lacks 10 line → IsText (get_or (fields line) i []) → IsName (get_or (fields line) i [])
unfolding fields
field_named line i lf text =
    let parts = slice_split (is_byte 44) line in
    let comma = trimmed_without 44 parts i (split_commas line) in
    let feed = trimmed_without 10 parts i (split_without 10 line lf) in
    let ends = trimmed_ends parts i in
    record { few = text.few; bytes = name_bytes (get_or (map trimmed parts) i []) comma feed text.plain; front = ends.0; back = ends.1 }

name_read : (rest : List ℕ) (parts : List (List ℕ)) (place : ℕ) (text : List ℕ) → parts ≡ fields (line_of rest) → HasText (at parts place) text → IsName text
name_read rest parts place text is has =
    let lf : Lacks 10 (line_of rest) = lacks_from 10 (line_of rest) (no_lf_in_line rest) in
    let same : at parts place ≡ get_or (fields (line_of rest)) (place - 1) [] = ap (λ (ps : List (List ℕ)). get_or ps (place - 1) []) is in
    let named = field_named (line_of rest) (place - 1) lf (subst IsText same has.inside) in
    subst IsName (sym (has.is ∙ same)) named

-- ---- numbers

nothing_value : IsValue (pos 0)
nothing_value = record { m = 0; places = 0; is = refl; reduced = inl refl; digits = omega arith; most = omega arith }

value_or_zero : (text : List ℕ) (z : ℤ) → IsDecimalOrZero text z → IsValue z
value_or_zero text z (inl none) = subst IsValue (sym none.1) nothing_value
value_or_zero text z (inr d) = value_in_set text z d

-- ---- dates and times

nanos_most : (digits k n nanos : ℕ) → digits + k ≡ 9 → n < 10 ^ digits → nanos ≡ n * 10 ^ k → nanos ≤ 999999999
nanos_most digits k n nanos nine below is =
    let grow : suc n * 10 ^ k ≤ 10 ^ digits * 10 ^ k = mul-le-mul_right (10 ^ k) below in
    let all : 1 * 10 ^ (digits + k) ≡ 1 * 10 ^ digits * 10 ^ k = times_add 1 digits k in
    let billion : 10 ^ (digits + k) ≡ 1000000000 = ap (λ (j : ℕ). 10 ^ j) nine in
    omega (arith, grow, all, billion, is, ten_pos k)

fraction_most : (part : List ℕ) (nanos : ℕ) → IsSecondFraction part nanos → nanos ≤ 999999999
fraction_most part nanos (inl none) = omega (arith, none.1)
fraction_most part nanos (inr some) =
    let digits = some.0 in
    let number = some.3 in
    let below : some.1 < 10 ^ length digits = omega (arith, number.value, number_small 0 digits number.are) in
    nanos_most (length digits) (9 - length digits) some.1 nanos (omega (arith, number.most_is)) below some.4

from_one : (z : ℤ) (n : ℕ) → z ≡ pos n → 1 ≤ n → pos 1 ≤ℤ z
from_one z n is some = rw is (omega (arith, ints, some))

stamp_read : (parts : List (List ℕ)) (s : Stamp) → IsStamp parts s → IsValidStamp s
stamp_read parts s is = record {
  from = from_one s.year is.date.number is.date.year_is is.date.from;
  civil = is.date.civil;
  hour = is.time.hour_most;
  minute = is.time.minute_most;
  second = is.time.second_most;
  nanos = fraction_most is.time.text.part s.nanos is.time.text.nanos_is;
}

-- ---- channels, and the whole

analog_read : (bytes : List ℕ) (k position : ℕ) (c : Analog) → HasLine bytes k (λ parts. IsAnalog position parts c) → IsValidAnalog c
analog_read bytes k position c line =
    let rest = after_lines k bytes in
    let parts = line.0 in
    let is = line.1.is in
    let row = line.2 in
    record {
      id = name_read rest parts 2 c.id is row.id_is;
      ph = name_read rest parts 3 c.ph is row.ph_is;
      ccbm = name_read rest parts 4 c.ccbm is row.ccbm_is;
      uu = name_read rest parts 5 c.uu is row.uu_is;
      a = value_in_set (at parts 6) c.a.n row.a_is;
      b = value_in_set (at parts 7) c.b.n row.b_is;
      skew = value_or_zero (at parts 8) c.skew.n row.skew_is;
      min = value_in_set (at parts 9) c.min.n row.min_is;
      max = value_in_set (at parts 10) c.max.n row.max_is;
      primary = value_in_set (at parts 11) c.primary.n row.primary_is;
      secondary = value_in_set (at parts 12) c.secondary.n row.secondary_is;
      ps = row.ps_is.letter;
    }

digital_read : (bytes : List ℕ) (k position : ℕ) (c : Digital) → HasLine bytes k (λ parts. IsDigital position parts c) → IsValidDigital c
digital_read bytes k position c line =
    let rest = after_lines k bytes in
    let parts = line.0 in
    let is = line.1.is in
    let row = line.2 in
    record { id = name_read rest parts 2 c.id is row.id_is; ph = name_read rest parts 3 c.ph is row.ph_is; ccbm = name_read rest parts 4 c.ccbm is row.ccbm_is }

pub read_is_valid : (bytes : List ℕ) (c : Config) → IsConfig bytes c → IsValid c
read_is_valid bytes c f =
    let title = f.title in
    let counts = f.counts.2 in
    let settings = f.settings in
    let analog : All IsValidAnalog c.analog = λ i d lt. analog_read bytes (2 + i) (i + 1) (get_or c.analog i d) (f.analogs i d lt) in
    let digital : All IsValidDigital c.digital = λ i d lt. digital_read bytes (2 + length c.analog + i) (i + 1) (get_or c.digital i d) (f.digitals i d lt) in
    record {
      station = name_read (after_lines 0 bytes) title.0 1 c.station title.1.is title.2.station_is;
      device = name_read (after_lines 0 bytes) title.0 2 c.device title.1.is title.2.device_is;
      analog_some = counts.analog_is.number.at_least;
      analog_most = counts.analog_is.number.at_most;
      analog = analog;
      digital_most = counts.digital_is.number.at_most;
      digital = digital;
      lf = value_in_set (at settings.frequency.0 1) c.lf.n settings.frequency.2.value.value;
      lf_above = settings.frequency.2.value.above;
      endsamp_some = settings.sampling.2.samples.at_least;
      endsamp_most = omega (arith, settings.sampling.2.samples.at_most);
      first = stamp_read settings.first.0 c.first settings.first.2;
      trigger = stamp_read settings.trigger.0 c.trigger settings.trigger.2;
      timemult = value_in_set (at settings.last.0 1) c.timemult.n settings.last.2.value;
    }
