-- The canonical text of a configuration writes that configuration.
use Rattle.std.proofs.Common.{◌≡◌, ℕ, zero, suc, ◌+◌, ◌-◌, ◌*◌, ◌^◌, ◌<◌, ◌≤◌, false, cond, List, [], ◌∷◌, ◌++◌, length, get_or, drop, refl, ap, subst, ◌∙◌, arith, inl, inr, ℤ, length-append}
use Rattle.std.specs.Prelude.{codes, All}
use Rattle.std.specs.Fmt.{decimal}
use Rattle.std.proofs.lemmas.Fmt.{decimal_digit}
use Rattle.std.proofs.lemmas.List.{drop_all, get_or_append_left, get_or-append-add}
use Rattle.std.proofs.lemmas.List.Elements.{All-head, All-tail}
use Rattle.flk_num.specs.declared.rate.Rate.{Rate}
use Rattle.flk_num.specs.declared.rate.Rate.TheVariants.{R2400, R4800}
use Rattle.flk_text.specs.Numeral.{Numeral, IsNumeral}
use Rattle.flk_text.specs.Decimal.{IsInSet}
use Rattle.flk_text.specs.PlainText.{plain}
use Rattle.flk_text.proofs.PlainTextLemmas.{plain_text}
use Rattle.flk_field.specs.Values.{IsFormWord, IsWholeFrom, IsRate}
use Rattle.flk_cfg.specs.Rows.{IsTitle, IsCounts, IsAnalog, IsDigital, IsLineFrequency, IsOneRate, IsSampling, IsStamp, IsFileType, IsMultiplier}
use Rattle.flk_cfg.specs.Places.{HasLine}
use Rattle.flk_cfg.specs.File.{AreAnalogs, AreDigitals, AreSettings, IsConfig}
use Rattle.flk_cfg.specs.Valid.{IsValue, IsValidAnalog, IsValidDigital, IsValidStamp, IsValid}
use Rattle.flk_cfg.specs.Canonical.{form_text, rate_text, title_fields, counts_fields, analog_fields, digital_fields, analog_lines, digital_lines, stamp_fields, setting_lines, all_lines, lines_text, canonical}
use Rattle.flk_cfg.specs.declared.config.Analog.{Analog}
use Rattle.flk_cfg.specs.declared.config.Digital.{Digital}
use Rattle.flk_cfg.specs.declared.config.Config.{Config}
use Rattle.flk_field.specs.declared.form.Form.{Form}
use Rattle.flk_field.specs.declared.form.Form.TheVariants.{Ascii, Binary}
use Rattle.flk_cfg.proofs.WrittenLines.{IsCell, AreCells, AreLines, AreLines-append, has_line, has_last_line, no_tail}
use Rattle.flk_cfg.proofs.WrittenFields.{IsFree, free_cell, free-append, free_plain, free_decimal, name_cell, name_is, bit_small, whole_is, counted_is, side_is, side_free}
use Rattle.flk_cfg.proofs.WrittenStamps.{stamp_is, date_free, time_free}

-- ---- each line writes its values

title_is : (c : Config) → IsValid c → IsTitle (title_fields c) c.station c.device
title_is c v = record { count = refl; station_is = name_is c.station v.station; device_is = name_is c.device v.device; revision = refl }

counts_is : (a d : ℕ) → 1 ≤ a → a ≤ 256 → d ≤ 256 → IsCounts (counts_fields a d) a d
counts_is a d some few less = record {
  count = refl;
  total_is = whole_is 1 512 (a + d) (omega (arith, some)) (omega (arith, few, less)) (omega (arith, few, less));
  analog_is = counted_is 65 1 256 a some few (omega (arith, few));
  digital_is = counted_is 68 0 256 d (omega arith) less (omega (arith, less));
}

analog_is : (k : ℕ) (c : Analog) → k ≤ 1000 → IsValidAnalog c → IsAnalog k (analog_fields k c) c
analog_is k c few v = record {
  count = refl;
  position_is = whole_is k k k (omega arith) (omega arith) (omega (arith, few));
  id_is = name_is c.id v.id;
  ph_is = name_is c.ph v.ph;
  ccbm_is = name_is c.ccbm v.ccbm;
  uu_is = name_is c.uu v.uu;
  a_is = plain_text c.a.n v.a;
  b_is = plain_text c.b.n v.b;
  skew_is = inr (plain_text c.skew.n v.skew);
  min_is = plain_text c.min.n v.min;
  max_is = plain_text c.max.n v.max;
  primary_is = plain_text c.primary.n v.primary;
  secondary_is = plain_text c.secondary.n v.secondary;
  ps_is = side_is c.ps v.ps;
}

digital_is : (k : ℕ) (c : Digital) → k ≤ 1000 → IsValidDigital c → IsDigital k (digital_fields k c) c
digital_is k c few v =
    let most = bit_small c.normal in
    record {
      count = refl;
      position_is = whole_is k k k (omega arith) (omega arith) (omega (arith, few));
      id_is = name_is c.id v.id;
      ph_is = name_is c.ph v.ph;
      ccbm_is = name_is c.ccbm v.ccbm;
      normal_is = whole_is 0 1 (cond c.normal 1 0) (omega arith) most (omega (arith, most));
    }

form_is : (form : Form) → IsFormWord (form_text form) form
form_is Ascii = refl
form_is Binary = refl

-- four digits with two zeros at their end, which are a rate
rate_is : (rate : Rate) → IsRate (rate_text rate) rate
rate_is R2400 =
    let numeral : Numeral = record { minus = false; whole = codes "2400"; fraction = []; right = 0; left = 0 } in
    let spelled : IsNumeral (codes "2400") numeral = record { sign = []; fraction = []; exponent = []; text_is = refl; sign_is = inl (refl, refl); whole_is = refl; fraction_is = inl (refl, refl); some = omega arith; exponent_is = inl (refl, refl, refl) } in
    let inside : IsInSet (2400 * 10 ^ 24) = record { m = 24; places = 26; is = refl; reduced = inr (λ e. absurd (omega (arith, e))); digits = omega arith; most = omega arith } in
    record { numeral = numeral; units = 2400 * 10 ^ 24; spelled = spelled; value = refl; inside = inside; signed_is = refl }
rate_is R4800 =
    let numeral : Numeral = record { minus = false; whole = codes "4800"; fraction = []; right = 0; left = 0 } in
    let spelled : IsNumeral (codes "4800") numeral = record { sign = []; fraction = []; exponent = []; text_is = refl; sign_is = inl (refl, refl); whole_is = refl; fraction_is = inl (refl, refl); some = omega arith; exponent_is = inl (refl, refl, refl) } in
    let inside : IsInSet (4800 * 10 ^ 24) = record { m = 48; places = 26; is = refl; reduced = inr (λ e. absurd (omega (arith, e))); digits = omega arith; most = omega arith } in
    record { numeral = numeral; units = 4800 * 10 ^ 24; spelled = spelled; value = refl; inside = inside; signed_is = refl }

rate_free : (rate : Rate) → IsFree (rate_text rate)
rate_free R2400 = record { comma = refl; space = refl; lf = refl; mark = refl }
rate_free R4800 = record { comma = refl; space = refl; lf = refl; mark = refl }

sampling_is : (rate : Rate) (n : ℕ) → 1 ≤ n → n < 2 ^ 32 → IsSampling (rate_text rate ∷ decimal n ∷ []) rate n
sampling_is rate n some few = record { count = refl; rate_is = rate_is rate; samples = whole_is 1 (2 ^ 32 - 1) n some (omega (arith, few)) (omega (arith, few)) }

-- ---- each line's fields stand as they are

title_cells : (c : Config) → IsValid c → AreCells (title_fields c)
title_cells c v =
    let revision : IsFree (codes "1999") = record { comma = refl; space = refl; lf = refl; mark = refl } in
    (name_cell c.station v.station, (name_cell c.device v.device, (free_cell _ revision, tt)))

counts_cells : (a d : ℕ) → a ≤ 256 → d ≤ 256 → AreCells (counts_fields a d)
counts_cells a d few less =
    let capital_a : IsFree (codes "A") = record { comma = refl; space = refl; lf = refl; mark = refl } in
    let capital_d : IsFree (codes "D") = record { comma = refl; space = refl; lf = refl; mark = refl } in
    let total = free_cell _ (free_decimal (a + d) (omega (arith, few, less))) in
    let analog = free_cell _ (free-append _ _ (free_decimal a (omega (arith, few))) capital_a) in
    let digital = free_cell _ (free-append _ _ (free_decimal d (omega (arith, less))) capital_d) in
    (total, (analog, (digital, tt)))

value_cell : (z : ℤ) → IsValue z → IsCell (plain z)
value_cell z set = free_cell (plain z) (free_plain z set)

analog_cells : (k : ℕ) (c : Analog) → k ≤ 1000 → IsValidAnalog c → AreCells (analog_fields k c)
analog_cells k c few v = (
  free_cell _ (free_decimal k (omega (arith, few))),
  (
    name_cell c.id v.id,
    (
      name_cell c.ph v.ph,
      (
        name_cell c.ccbm v.ccbm,
        (
          name_cell c.uu v.uu,
          (
            value_cell c.a.n v.a,
            (
              value_cell c.b.n v.b,
              (
                value_cell c.skew.n v.skew,
                (
                  value_cell c.min.n v.min,
                  (
                    value_cell c.max.n v.max,
                    (value_cell c.primary.n v.primary, (value_cell c.secondary.n v.secondary, (free_cell _ (side_free c.ps v.ps), tt))),
                  ),
                ),
              ),
            ),
          ),
        ),
      ),
    ),
  ),
)

digital_cells : (k : ℕ) (c : Digital) → k ≤ 1000 → IsValidDigital c → AreCells (digital_fields k c)
digital_cells k c few v =
    let bit = free_cell _ (free_decimal (cond c.normal 1 0) (omega (arith, bit_small c.normal))) in
    (free_cell _ (free_decimal k (omega (arith, few))), (name_cell c.id v.id, (name_cell c.ph v.ph, (name_cell c.ccbm v.ccbm, (bit, tt)))))

form_cell : (form : Form) → IsCell (form_text form)
form_cell Ascii = free_cell _ (record { comma = refl; space = refl; lf = refl; mark = refl })
form_cell Binary = free_cell _ (record { comma = refl; space = refl; lf = refl; mark = refl })

stamp_cells : (s : _) → IsValidStamp s → AreCells (stamp_fields s)
stamp_cells s v = (free_cell _ (date_free s v), (free_cell _ (time_free s v), tt))

settings_are : (c : Config) → IsValid c → AreLines (setting_lines c)
settings_are c v =
    let one : IsFree (codes "1") = record { comma = refl; space = refl; lf = refl; mark = refl } in
    let samples = free_cell _ (free_decimal c.endsamp (omega (arith, v.endsamp_most))) in (
      (omega arith, (value_cell c.lf.n v.lf, tt)),
      (
        (omega arith, (free_cell _ one, tt)),
        (
          (omega arith, (free_cell _ (rate_free c.rate), (samples, tt))),
          (
            (omega arith, stamp_cells c.first v.first),
            (
              (omega arith, stamp_cells c.trigger v.trigger),
              (
                (omega arith, (form_cell c.form, tt)),
                ((omega arith, (value_cell c.timemult.n v.timemult, tt)), tt),
              ),
            ),
          ),
        ),
      ),
    )

-- ---- the channels' lines

analogs_count : (k : ℕ) (cs : List Analog) → length (analog_lines k cs) ≡ length cs
analogs_count k [] = refl
analogs_count k (c ∷ cs) = ap (λ (n : ℕ). suc n) (analogs_count (k + 1) cs)

digitals_count : (k : ℕ) (cs : List Digital) → length (digital_lines k cs) ≡ length cs
digitals_count k [] = refl
digitals_count k (c ∷ cs) = ap (λ (n : ℕ). suc n) (digitals_count (k + 1) cs)

analog_at : (k : ℕ) (cs : List Analog) (i : ℕ) (none : Analog) → i < length cs → get_or (analog_lines k cs) i [] ≡ analog_fields (k + i) (get_or cs i none)
analog_at k [] i none lt = absurd (omega (arith, lt))
analog_at k (c ∷ cs) zero none lt = let e : k ≡ k + 0 = omega arith in ap (λ (n : ℕ). analog_fields n c) e
analog_at k (c ∷ cs) (suc i) none lt =
    let e : k + 1 + i ≡ k + suc i = omega arith in
    analog_at (k + 1) cs i none (omega (arith, lt)) ∙ ap (λ (n : ℕ). analog_fields n (get_or cs i none)) e

digital_at : (k : ℕ) (cs : List Digital) (i : ℕ) (none : Digital) → i < length cs → get_or (digital_lines k cs) i [] ≡ digital_fields (k + i) (get_or cs i none)
digital_at k [] i none lt = absurd (omega (arith, lt))
digital_at k (c ∷ cs) zero none lt = let e : k ≡ k + 0 = omega arith in ap (λ (n : ℕ). digital_fields n c) e
digital_at k (c ∷ cs) (suc i) none lt =
    let e : k + 1 + i ≡ k + suc i = omega arith in
    digital_at (k + 1) cs i none (omega (arith, lt)) ∙ ap (λ (n : ℕ). digital_fields n (get_or cs i none)) e

analogs_are : (k : ℕ) (cs : List Analog) → k + length cs ≤ 1000 → All IsValidAnalog cs → AreLines (analog_lines k cs)
analogs_are k [] few all = tt
analogs_are k (c ∷ cs) few all =
    ((omega arith, analog_cells k c (omega (arith, few)) (All-head IsValidAnalog c cs all)), analogs_are (k + 1) cs (omega (arith, few)) (All-tail IsValidAnalog c cs all))

digitals_are : (k : ℕ) (cs : List Digital) → k + length cs ≤ 1000 → All IsValidDigital cs → AreLines (digital_lines k cs)
digitals_are k [] few all = tt
digitals_are k (c ∷ cs) few all =
    ((omega arith, digital_cells k c (omega (arith, few)) (All-head IsValidDigital c cs all)), digitals_are (k + 1) cs (omega (arith, few)) (All-tail IsValidDigital c cs all))

-- ---- all lines

all_are : (c : Config) → IsValid c → AreLines (all_lines c)
all_are c v =
    let analog = analogs_are 1 c.analog (omega (arith, v.analog_most)) v.analog in
    let digital = digitals_are 1 c.digital (omega (arith, v.digital_most)) v.digital in
    let channels = AreLines-append (analog_lines 1 c.analog) (digital_lines 1 c.digital ++ setting_lines c) analog (AreLines-append (digital_lines 1 c.digital) (setting_lines c) digital (settings_are c v)) in
    ((omega arith, title_cells c v), ((omega arith, counts_cells (length c.analog) (length c.digital) v.analog_most v.digital_most), channels))

all_count : (c : Config) → length (all_lines c) ≡ 2 + length c.analog + length c.digital + 7
all_count c =
    let rest = digital_lines 1 c.digital ++ setting_lines c in
    omega (arith, length-append (analog_lines 1 c.analog) rest, length-append (digital_lines 1 c.digital) (setting_lines c), analogs_count 1 c.analog, digitals_count 1 c.digital)

-- a line after the second
third_at : (c : Config) (i : ℕ) → get_or (all_lines c) (2 + i) [] ≡ get_or (analog_lines 1 c.analog ++ (digital_lines 1 c.digital ++ setting_lines c)) i []
third_at c i = let e : 2 + i ≡ suc (suc i) = omega arith in ap (λ (n : ℕ). get_or (all_lines c) n []) e

after_analogs : (c : Config) (i : ℕ) → get_or (all_lines c) (2 + length c.analog + i) [] ≡ get_or (digital_lines 1 c.digital ++ setting_lines c) i []
after_analogs c i =
    let rest = digital_lines 1 c.digital ++ setting_lines c in
    let e : 2 + length c.analog + i ≡ 2 + (length (analog_lines 1 c.analog) + i) = omega (arith, analogs_count 1 c.analog) in
    ap (λ (n : ℕ). get_or (all_lines c) n []) e ∙ third_at c (length (analog_lines 1 c.analog) + i) ∙ get_or-append-add (analog_lines 1 c.analog) rest i []

after_digitals : (c : Config) (i : ℕ) → get_or (all_lines c) (2 + length c.analog + length c.digital + i) [] ≡ get_or (setting_lines c) i []
after_digitals c i =
    let e : 2 + length c.analog + length c.digital + i ≡ 2 + length c.analog + (length (digital_lines 1 c.digital) + i) = omega (arith, digitals_count 1 c.digital) in
    ap (λ (n : ℕ). get_or (all_lines c) n []) e ∙ after_analogs c (length (digital_lines 1 c.digital) + i) ∙ get_or-append-add (digital_lines 1 c.digital) (setting_lines c) i []

one_and : (i : ℕ) → 1 + i ≡ i + 1
one_and i = omega arith

analogs_written : (c : Config) → IsValid c → AreAnalogs (lines_text (all_lines c)) 2 c.analog
analogs_written c v = λ i none lt.
    let channel = get_or c.analog i none in
    let count = analogs_count 1 c.analog in
    let rest = digital_lines 1 c.digital ++ setting_lines c in
    let at : get_or (all_lines c) (2 + i) [] ≡ analog_fields (i + 1) channel =
    third_at c i ∙ get_or_append_left (analog_lines 1 c.analog) rest [] i (omega (arith, lt, count)) ∙ analog_at 1 c.analog i none lt ∙ ap (λ (n : ℕ). analog_fields n channel) (one_and i) in
    has_line (all_lines c) (2 + i) (analog_fields (i + 1) channel) (λ parts. IsAnalog (i + 1) parts channel) (all_are c v) (omega (arith, lt, all_count c)) at (analog_is (i + 1) channel (omega (arith, lt, v.analog_most)) (v.analog i none lt))

digitals_written : (c : Config) → IsValid c → AreDigitals (lines_text (all_lines c)) (2 + length c.analog) c.digital
digitals_written c v = λ i none lt.
    let channel = get_or c.digital i none in
    let count = digitals_count 1 c.digital in
    let at : get_or (all_lines c) (2 + length c.analog + i) [] ≡ digital_fields (i + 1) channel =
    after_analogs c i ∙ get_or_append_left (digital_lines 1 c.digital) (setting_lines c) [] i (omega (arith, lt, count)) ∙ digital_at 1 c.digital i none lt ∙ ap (λ (n : ℕ). digital_fields n channel) (one_and i) in
    has_line (all_lines c) (2 + length c.analog + i) (digital_fields (i + 1) channel) (λ parts. IsDigital (i + 1) parts channel) (all_are c v) (omega (arith, lt, all_count c)) at (digital_is (i + 1) channel (omega (arith, lt, v.digital_most)) (v.digital i none lt))

-- ---- the lines after the channels

setting_line : (c : Config) (j k : ℕ) (r : List (List ℕ)) (is_so : List (List ℕ) → Type 0) → AreLines (all_lines c) → j < 7 → k ≡ 2 + length c.analog + length c.digital + j → get_or (setting_lines c) j [] ≡ r → is_so r → HasLine (lines_text (all_lines c)) k is_so
setting_line c j k r is_so are lt e at so =
    has_line (all_lines c) k r is_so are (omega (arith, lt, e, all_count c)) (ap (λ (n : ℕ). get_or (all_lines c) n []) e ∙ after_digitals c j ∙ at) so

settings_written : (c : Config) → IsValid c → AreSettings (lines_text (all_lines c)) (2 + length c.analog + length c.digital) c
settings_written c v =
    let k = 2 + length c.analog + length c.digital in
    let are = all_are c v in
    let last : k + 6 < length (all_lines c) = omega (arith, all_count c) in
    let none : drop (suc (k + 6)) (all_lines c) ≡ [] = drop_all (suc (k + 6)) (all_lines c) (omega (arith, all_count c)) in
    let frequency : IsLineFrequency (plain c.lf.n ∷ []) c.lf.n = record { count = refl; value = record { value = plain_text c.lf.n v.lf; above = v.lf_above } } in
    let one : IsOneRate (codes "1" ∷ []) = record { count = refl; one = subst (λ (f : List ℕ). IsWholeFrom 1 1 f 1) (decimal_digit 1 (omega arith)) (whole_is 1 1 1 (omega arith) (omega arith) (omega arith)) } in
    let form : IsFileType (form_text c.form ∷ []) c.form = record { count = refl; word = form_is c.form } in
    let factor : IsMultiplier (plain c.timemult.n ∷ []) c.timemult.n = record { count = refl; value = plain_text c.timemult.n v.timemult } in
    record {
      frequency = setting_line c 0 k _ (λ parts. IsLineFrequency parts c.lf.n) are (omega arith) (omega arith) refl frequency;
      rates = setting_line c 1 (k + 1) _ IsOneRate are (omega arith) (omega arith) refl one;
      sampling = setting_line c 2 (k + 2) _ (λ parts. IsSampling parts c.rate c.endsamp) are (omega arith) (omega arith) refl (sampling_is c.rate c.endsamp v.endsamp_some (omega (arith, v.endsamp_most)));
      first = setting_line c 3 (k + 3) _ (λ parts. IsStamp parts c.first) are (omega arith) (omega arith) refl (stamp_is c.first v.first);
      trigger = setting_line c 4 (k + 4) _ (λ parts. IsStamp parts c.trigger) are (omega arith) (omega arith) refl (stamp_is c.trigger v.trigger);
      file_type = setting_line c 5 (k + 5) _ (λ parts. IsFileType parts c.form) are (omega arith) (omega arith) refl form;
      last = has_last_line (all_lines c) (k + 6) _ (λ parts. IsMultiplier parts c.timemult.n) are last none (after_digitals c 6) factor;
      tail = no_tail (all_lines c) (k + 6) are last none;
    }

lines_are_config : (c : Config) → IsValid c → IsConfig (lines_text (all_lines c)) c
lines_are_config c v =
    let are = all_are c v in
    record {
      title = has_line (all_lines c) 0 (title_fields c) (λ parts. IsTitle parts c.station c.device) are (omega (arith, all_count c)) refl (title_is c v);
      counts = has_line (all_lines c) 1 (counts_fields (length c.analog) (length c.digital)) (λ parts. IsCounts parts (length c.analog) (length c.digital)) are (omega (arith, all_count c)) refl (counts_is (length c.analog) (length c.digital) v.analog_some v.analog_most v.digital_most);
      analogs = analogs_written c v;
      digitals = digitals_written c v;
      settings = settings_written c v;
    }

pub canonical_writes : (c : Config) → IsValid c → IsConfig (canonical c) c
unfolding canonical
canonical_writes c v = lines_are_config c v
