-- Bytes write a configuration, or have a first fault.
use Rattle.std.proofs.Common.{◌≡◌, ◌⊎◌, ℕ, zero, suc, ◌+◌, ◌<◌, ◌≤◌, List, [], ◌∷◌, ◌++◌, length, length-append, refl, subst, arith, inl, inr}
use Rattle.std.proofs.lemmas.Bool.{cases_lt}
use Rattle.flk_text.specs.Lines.{line_of, last_line_of}
use Rattle.flk_text.specs.Fields.{fields}
use Rattle.flk_text.specs.Tail.{IsTail}
use Rattle.flk_text.proofs.TextCases.{tail_cases}
use Rattle.flk_field.specs.Sets.{Set, LineFault, IsGoodLine}
use Rattle.flk_cfg.specs.Table.{ChannelCounts, row, title_row, analog_row, digital_row, last_row}
use Rattle.flk_cfg.specs.Rows.{TitleFault, IsCounts, CountsFault, IsLineFrequency}
use Rattle.flk_cfg.specs.Places.{after_lines, tail_at, HasLine, HasLastLine, FaultAt, LastFaultAt}
use Rattle.flk_cfg.specs.File.{AreAnalogs, AreDigitals, AreSettings, IsConfig, IsGoodAt, FirstFaultAt, FaultFromLast, FaultFromThird, FaultFromSecond, IsFirstFault}
use Rattle.flk_cfg.specs.SettingParts.{setting_at}
use Rattle.flk_cfg.specs.Reading.{AreGood}
use Rattle.flk_cfg.specs.declared.config.Analog.{Analog}
use Rattle.flk_cfg.specs.declared.config.Digital.{Digital}
use Rattle.flk_cfg.specs.declared.config.Config.{Config}
use Rattle.flk_field.specs.declared.kind.Kind.{Kind}
use Rattle.flk_field.specs.declared.kind.Kind.TheVariants as kinds
use Rattle.flk_cfg.proofs.Rows.{row_digital, row_setting}
use Rattle.flk_cfg.proofs.Steps.{analogs_more, digitals_more}
use Rattle.flk_cfg.proofs.Whole.{GoodThird, good_none, rows_analog, whole_config}
use Rattle.flk_cfg.proofs.RowCases.{line_cases, title_cases, counts_cases, title_of, analog_of, digital_of, frequency_of, rates_of, sampling_of, stamp_of, form_of, multiplier_of}

-- ---- lines by their place

there_cases : (rest : List ℕ) → (0 < length rest) ⊎ (rest ≡ [])
there_cases [] = inr refl
there_cases (b ∷ bs) = inl (omega arith)

-- a line is so, or there is none, or it has a fault
abbrev PlaceCases : (bytes : List ℕ) → ℕ → (good : List (List ℕ) → Type 0) → (fault : List (List ℕ) → ℕ → Kind → Type 0) → Type 0
PlaceCases bytes k good fault = HasLine bytes k good ⊎ ((field : ℕ) × (kind : Kind) × FaultAt bytes k fault field kind)

place_cases : (bytes : List ℕ) (k : ℕ) (good : List (List ℕ) → Type 0) (fault : List (List ℕ) → ℕ → Kind → Type 0)
    → ((fs : List (List ℕ)) → good fs ⊎ ((field : ℕ) × (kind : Kind) × fault fs field kind)) → PlaceCases bytes k good fault
place_cases bytes k good fault decide =
    elim (there_cases (after_lines k bytes)) [
      | inr none ↦ inr (0, kinds.End, inl (none, refl, refl))
      | inl there ↦
          let fs = fields (line_of (after_lines k bytes)) in
          elim (decide fs) [
            | inl is ↦ inl (fs, record { there = there; is = refl }, is)
            | inr out ↦ inr (out.0, out.1, inr (fs, record { there = there; is = refl }, out.2))
          ]
    ]

last_cases : (bytes : List ℕ) (k : ℕ) → HasLastLine bytes k (IsGoodLine last_row) ⊎ ((field : ℕ) × (kind : Kind) × LastFaultAt bytes k (LineFault last_row) field kind)
last_cases bytes k =
    elim (there_cases (after_lines k bytes)) [
      | inr none ↦ inr (0, kinds.End, inl (none, refl, refl))
      | inl there ↦
          let fs = fields (last_line_of (after_lines k bytes)) in
          elim (line_cases last_row fs) [
            | inl is ↦ inl (fs, record { there = there; is = refl }, is)
            | inr out ↦ inr (out.0, out.1, inr (fs, record { there = there; is = refl }, out.2))
          ]
    ]

-- the first lines after the second are good, so many of them, or one has the first fault
third_cases : (bytes : List ℕ) (count : ChannelCounts) (n : ℕ) → n ≤ count.analog + count.digital + 6 → GoodThird bytes count n ⊎ ((j : ℕ) × (field : ℕ) × (kind : Kind) × FirstFaultAt bytes count j field kind)
third_cases bytes count zero le = inl (good_none bytes count)
third_cases bytes count (suc n) le =
    elim (third_cases bytes count n (omega (arith, le))) [
      | inr out ↦ inr out
      | inl so ↦ elim (place_cases bytes (2 + n) (IsGoodLine (row count n)) (LineFault (row count n)) (line_cases (row count n))) [
        | inr out ↦ inr (n, out.0, out.1, record { within = omega (arith, le); before = so; here = out.2 })
        | inl good ↦ inl (λ i lt.
            elim (cases_lt i n) [
              | inl less ↦ so i less
              | inr more ↦
                  let same : n ≡ i = omega (arith, lt, more) in
                  subst (IsGoodAt bytes count) same good
            ])
      ]
    ]

-- ---- the values of good lines

analogs_of : (bytes : List ℕ) (k n : ℕ) → AreGood (λ i. analog_row (i + 1)) bytes k n → (cs : List Analog) × (length cs ≡ n) × AreAnalogs bytes k cs
analogs_of bytes k zero good = ([], refl, λ i none lt. absurd (omega (arith, lt)))
analogs_of bytes k (suc n) good =
    let so = analogs_of bytes k n (λ i lt. good i (omega (arith, lt))) in
    let line = good n (omega arith) in
    let c = analog_of (n + 1) line.0 line.2 in
    (so.0 ++ c.0 ∷ [], omega (arith, so.1, length-append so.0 (c.0 ∷ [])), analogs_more bytes k n so.0 c.0 so.1 so.2 (line.0, line.1, c.1))

digitals_of : (bytes : List ℕ) (k n : ℕ) → AreGood (λ i. digital_row (i + 1)) bytes k n → (cs : List Digital) × (length cs ≡ n) × AreDigitals bytes k cs
digitals_of bytes k zero good = ([], refl, λ i none lt. absurd (omega (arith, lt)))
digitals_of bytes k (suc n) good =
    let so = digitals_of bytes k n (λ i lt. good i (omega (arith, lt))) in
    let line = good n (omega arith) in
    let c = digital_of (n + 1) line.0 line.2 in
    (so.0 ++ c.0 ∷ [], omega (arith, so.1, length-append so.0 (c.0 ∷ [])), digitals_more bytes k n so.0 c.0 so.1 so.2 (line.0, line.1, c.1))

-- good lines of the file behind the first n of those after the second, by their rows
run_of : (bytes : List ℕ) (count : ChannelCounts) (n m k : ℕ) (rows : ℕ → List Set) → GoodThird bytes count (count.analog + count.digital + 6) → n + m ≤ count.analog + count.digital + 6 → 2 + n ≡ k → ((i : ℕ) → i < m → row count (n + i) ≡ rows i) → AreGood rows bytes k m
run_of bytes count n m k rows good few place same = λ i lt.
    let line = good (n + i) (omega (arith, lt, few)) in
    let at_row : HasLine bytes (2 + (n + i)) (IsGoodLine (rows i)) = (line.0, line.1, subst (λ (r : List Set). IsGoodLine r line.0) (same i lt) line.2) in
    let there : 2 + (n + i) ≡ k + i = omega (arith, place) in
    subst (λ (j : ℕ). HasLine bytes j (IsGoodLine (rows i))) there at_row

-- the configuration of good lines
config_of : (bytes : List ℕ) (count : ChannelCounts) → HasLine bytes 0 (IsGoodLine title_row) → HasLine bytes 1 (λ parts. IsCounts parts count.analog count.digital) → GoodThird bytes count (count.analog + count.digital + 6)
    → HasLastLine bytes (2 + count.analog + count.digital + 6) (IsGoodLine last_row) → IsTail (tail_at bytes (2 + count.analog + count.digital + 6)) → (c : Config) × IsConfig bytes c
config_of bytes count first counts good final tail =
    let title = title_of first.0 first.2 in
    let analog = analogs_of bytes 2 count.analog (run_of bytes count 0 count.analog 2 (λ i. analog_row (i + 1)) good (omega arith) refl (rows_analog count)) in
    let digital = digitals_of bytes (2 + count.analog) count.digital (run_of bytes count count.analog count.digital (2 + count.analog) (λ i. digital_row (i + 1)) good (omega arith) refl (row_digital count)) in
    let k = 2 + count.analog + count.digital in
    let settings = run_of bytes count (count.analog + count.digital) 6 k setting_at good (omega arith) (omega arith) (λ i lt. row_setting count i) in
    let line0 = settings 0 (omega arith) in
    let line1 = settings 1 (omega arith) in
    let line2 = settings 2 (omega arith) in
    let line3 = settings 3 (omega arith) in
    let line4 = settings 4 (omega arith) in
    let line5 = settings 5 (omega arith) in
    let frequency = frequency_of line0.0 line0.2 in
    let sampling = sampling_of line2.0 line2.2 in
    let begin = stamp_of line3.0 line3.2 in
    let trigger = stamp_of line4.0 line4.2 in
    let form = form_of line5.0 line5.2 in
    let multiplier = multiplier_of final.0 final.2 in
    let c : Config = record {
      station = title.0;
      device = title.1;
      analog = analog.0;
      digital = digital.0;
      lf = record { n = frequency.0 };
      rate = sampling.0;
      endsamp = sampling.1;
      first = begin.0;
      trigger = trigger.0;
      form = form.0;
      timemult = record { n = multiplier.0 };
    } in
    let front : k + 0 ≡ k = omega arith in
    let lines : AreSettings bytes k c = record {
      frequency = subst (λ (j : ℕ). HasLine bytes j (λ parts. IsLineFrequency parts frequency.0)) front (line0.0, line0.1, frequency.1);
      rates = (line1.0, line1.1, rates_of line1.0 line1.2);
      sampling = (line2.0, line2.1, sampling.2);
      first = (line3.0, line3.1, begin.1);
      trigger = (line4.0, line4.1, trigger.1);
      file_type = (line5.0, line5.1, form.1);
      last = (final.0, final.1, multiplier.1);
      tail = tail;
    } in
    (c, whole_config bytes c count (first.0, first.1, title.2) counts (analog.1, analog.2) (digital.1, digital.2) lines)

-- ---- the file, line by line

abbrev HasFault : (List ℕ → (line field : ℕ) → Kind → Type 0) → List ℕ → Type 0
HasFault fault bytes = (line : ℕ) × (field : ℕ) × (kind : Kind) × fault bytes line field kind

from_last : (bytes : List ℕ) (count : ChannelCounts) → HasLine bytes 0 (IsGoodLine title_row) → HasLine bytes 1 (λ parts. IsCounts parts count.analog count.digital) → GoodThird bytes count (count.analog + count.digital + 6)
    → ((c : Config) × IsConfig bytes c) ⊎ HasFault (λ b. FaultFromLast b (2 + count.analog + count.digital + 6)) bytes
from_last bytes count first counts good =
    let k = 2 + count.analog + count.digital + 6 in
    elim (last_cases bytes k) [
      | inr out ↦ inr (k + 1, out.0, out.1, inl (refl, out.2))
      | inl final ↦ elim (tail_cases (tail_at bytes k)) [
        | inl tail ↦ inl (config_of bytes count first counts good final tail)
        | inr other ↦ inr (k + 2, 0, kinds.Length, inr (final, (refl, refl, refl, other)))
      ]
    ]

from_third : (bytes : List ℕ) (count : ChannelCounts) → HasLine bytes 0 (IsGoodLine title_row) → HasLine bytes 1 (λ parts. IsCounts parts count.analog count.digital)
    → ((c : Config) × IsConfig bytes c) ⊎ HasFault (λ b. FaultFromThird b count) bytes
from_third bytes count first counts =
    elim (third_cases bytes count (count.analog + count.digital + 6) (omega arith)) [
      | inr out ↦ inr (out.0 + 3, out.1, out.2, inl (out.0, refl, out.3))
      | inl good ↦ elim (from_last bytes count first counts good) [
        | inl is ↦ inl is
        | inr out ↦ inr (out.0, out.1, out.2, inr (good, out.3))
      ]
    ]

abbrev HasCounts : List (List ℕ) → Type 0
HasCounts fs = (analog : ℕ) × (digital : ℕ) × IsCounts fs analog digital

from_second : (bytes : List ℕ) → HasLine bytes 0 (IsGoodLine title_row) → ((c : Config) × IsConfig bytes c) ⊎ HasFault FaultFromSecond bytes
from_second bytes first =
    elim (place_cases bytes 1 HasCounts CountsFault counts_cases) [
      | inr out ↦ inr (2, out.0, out.1, inl (refl, out.2))
      | inl line ↦
          let count : ChannelCounts = record { analog = line.2.0; digital = line.2.1 } in
          let counts : HasLine bytes 1 (λ parts. IsCounts parts line.2.0 line.2.1) = (line.0, line.1, line.2.2) in
          elim (from_third bytes count first counts) [
            | inl is ↦ inl is
            | inr out ↦ inr (out.0, out.1, out.2, inr (count, counts, out.3))
          ]
    ]

pub config_or_first_fault : (bytes : List ℕ) → ((c : Config) × IsConfig bytes c) ⊎ ((line : ℕ) × (field : ℕ) × (kind : Kind) × IsFirstFault bytes line field kind)
config_or_first_fault bytes =
    elim (place_cases bytes 0 (IsGoodLine title_row) TitleFault title_cases) [
      | inr out ↦ inr (1, out.0, out.1, inl (refl, out.2))
      | inl first ↦ elim (from_second bytes first) [
        | inl is ↦ inl is
        | inr out ↦ inr (out.0, out.1, out.2, inr (first, out.3))
      ]
    ]
