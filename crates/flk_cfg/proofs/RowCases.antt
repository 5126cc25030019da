-- A line is good or has a first fault, and a good line has the values of its row.
use Rattle.std.proofs.Common.{◌≡◌, ◌⊎◌, ℕ, ◌+◌, List, [], ◌∷◌, length, refl, subst, arith, inl, inr, ℤ}
use Rattle.std.proofs.lemmas.Bool.{cases_eq}
use Rattle.flk_num.specs.declared.rate.Rate.{Rate}
use Rattle.flk_field.specs.Values.{IsText, HasText, IsWholeFrom}
use Rattle.flk_field.specs.Sets.{Set, at, FaultFrom, LineFault, InFrom, IsIn, IsGoodLine}
use Rattle.flk_cfg.specs.Table.{title_row, counts_row, analog_row, digital_row, frequency_row, rates_row, sampling_row, stamp_row, form_row, last_row}
use Rattle.flk_cfg.specs.Rows.{IsTitle, TitleFault, AreCounts, IsCounts, CountsFault, IsAnalog, IsDigital, IsLineFrequency, IsOneRate, IsSampling, IsStamp, IsFileType, IsMultiplier}
use Rattle.flk_cfg.specs.declared.config.Analog.{Analog}
use Rattle.flk_cfg.specs.declared.config.Digital.{Digital}
use Rattle.flk_cfg.specs.declared.config.Stamp.{Stamp}
use Rattle.flk_field.specs.declared.form.Form.{Form}
use Rattle.flk_field.specs.declared.kind.Kind.{Kind}
use Rattle.flk_field.specs.declared.kind.Kind.TheVariants as kinds
use Rattle.flk_field.proofs.SetCases.{set_cases}

-- ---- a line against its row

fields_from : (from : ℕ) (sets : List Set) (fs : List (List ℕ)) → InFrom from sets fs ⊎ ((place : ℕ) × (kind : Kind) × FaultFrom from sets fs place kind)
fields_from from [] fs = inl tt
fields_from from (s ∷ ss) fs =
    elim (set_cases s (at fs from)) [
      | inr out ↦ inr (from, out.0, inl (refl, out.1))
      | inl is ↦ elim (fields_from (from + 1) ss fs) [
        | inl rest ↦ inl (is, rest)
        | inr out ↦ inr (out.0, out.1, inr (is, out.2))
      ]
    ]

pub line_cases : (sets : List Set) (fs : List (List ℕ)) → IsGoodLine sets fs ⊎ ((place : ℕ) × (kind : Kind) × LineFault sets fs place kind)
line_cases sets fs =
    elim (cases_eq (length fs) (length sets)) [
      | inr other ↦ inr (0, kinds.Fields, inl (other, refl, refl))
      | inl same ↦ elim (fields_from 1 sets fs) [
        | inl good ↦ inl (same, good)
        | inr out ↦ inr (out.0, out.1, inr (same, out.2))
      ]
    ]

-- ---- the first two lines

pub title_cases : (fs : List (List ℕ)) → IsGoodLine title_row fs ⊎ ((place : ℕ) × (kind : Kind) × TitleFault fs place kind)
title_cases fs =
    elim (cases_eq (length fs) 2) [
      | inl two ↦ inr (3, kinds.Revision, inl (two, refl, refl))
      | inr other ↦ elim (line_cases title_row fs) [
        | inl good ↦ inl good
        | inr out ↦ inr (out.0, out.1, inr (other, out.2))
      ]
    ]

counts_of : (fs : List (List ℕ)) → IsGoodLine counts_row fs → (total : ℕ) × (analog : ℕ) × (digital : ℕ) × AreCounts fs total analog digital
unfolding IsIn
counts_of fs good =
    let total = good.1.0 in
    let analog = good.1.1.0 in
    let digital = good.1.1.1.0 in
    (total.0, analog.0, digital.0, record { count = good.0; total_is = total.1; analog_is = analog.1; digital_is = digital.1 })

pub counts_cases : (fs : List (List ℕ)) → ((analog : ℕ) × (digital : ℕ) × IsCounts fs analog digital) ⊎ ((place : ℕ) × (kind : Kind) × CountsFault fs place kind)
counts_cases fs =
    elim (line_cases counts_row fs) [
      | inr out ↦ inr (out.0, out.1, inl out.2)
      | inl good ↦
          let c = counts_of fs good in
          elim (cases_eq c.0 (c.1 + c.2)) [
            | inl sum ↦ inl (c.1, c.2, subst (λ (n : ℕ). AreCounts fs n c.1 c.2) sum c.3)
            | inr other ↦ inr (1, kinds.Range, inr (c.0, c.1, c.2, c.3, other, refl, refl))
          ]
    ]

-- ---- the values of good lines

has_text : (f : List ℕ) → IsText f → HasText f f
has_text f is = record { inside = is; is = refl }

exactly : (k : ℕ) (f : List ℕ) → (n : ℕ) × IsWholeFrom k k f n → IsWholeFrom k k f k
exactly k f is =
    let same : is.0 ≡ k = omega (arith, is.1.at_least, is.1.at_most) in
    subst (λ (n : ℕ). IsWholeFrom k k f n) same is.1

pub title_of : (fs : List (List ℕ)) → IsGoodLine title_row fs → (station : List ℕ) × (device : List ℕ) × IsTitle fs station device
unfolding IsIn
title_of fs good = (
  at fs 1,
  at fs 2,
  record { count = good.0; station_is = has_text (at fs 1) good.1.0; device_is = has_text (at fs 2) good.1.1.0; revision = good.1.1.1.0 },
)

pub analog_of : (position : ℕ) (fs : List (List ℕ)) → IsGoodLine (analog_row position) fs → (c : Analog) × IsAnalog position fs c
unfolding IsIn
analog_of position fs good =
    let texts = good.1.1 in
    let a = texts.1.1.1.1 in
    let b = a.1 in
    let skew = b.1 in
    let min = skew.1 in
    let max = min.1 in
    let primary = max.1 in
    let secondary = primary.1 in
    let side = secondary.1 in (
      record {
        id = at fs 2;
        ph = at fs 3;
        ccbm = at fs 4;
        uu = at fs 5;
        a = record { n = a.0.0 };
        b = record { n = b.0.0 };
        skew = record { n = skew.0.0 };
        min = record { n = min.0.0 };
        max = record { n = max.0.0 };
        primary = record { n = primary.0.0 };
        secondary = record { n = secondary.0.0 };
        ps = side.0.0;
      },
      record {
        count = good.0;
        position_is = exactly position (at fs 1) good.1.0;
        id_is = has_text (at fs 2) texts.0;
        ph_is = has_text (at fs 3) texts.1.0;
        ccbm_is = has_text (at fs 4) texts.1.1.0;
        uu_is = has_text (at fs 5) texts.1.1.1.0;
        a_is = a.0.1;
        b_is = b.0.1;
        skew_is = skew.0.1;
        min_is = min.0.1;
        max_is = max.0.1;
        primary_is = primary.0.1;
        secondary_is = secondary.0.1;
        ps_is = side.0.1;
      },
    )

pub digital_of : (position : ℕ) (fs : List (List ℕ)) → IsGoodLine (digital_row position) fs → (c : Digital) × IsDigital position fs c
unfolding IsIn
digital_of position fs good =
    let texts = good.1.1 in
    let bit = texts.1.1.1 in (
      record { id = at fs 2; ph = at fs 3; ccbm = at fs 4; normal = bit.0.0 },
      record {
        count = good.0;
        position_is = exactly position (at fs 1) good.1.0;
        id_is = has_text (at fs 2) texts.0;
        ph_is = has_text (at fs 3) texts.1.0;
        ccbm_is = has_text (at fs 4) texts.1.1.0;
        normal_is = bit.0.1;
      },
    )

pub frequency_of : (fs : List (List ℕ)) → IsGoodLine frequency_row fs → (z : ℤ) × IsLineFrequency fs z
unfolding IsIn
frequency_of fs good = (good.1.0.0, record { count = good.0; value = good.1.0.1 })

pub rates_of : (fs : List (List ℕ)) → IsGoodLine rates_row fs → IsOneRate fs
unfolding IsIn
rates_of fs good = record { count = good.0; one = exactly 1 (at fs 1) good.1.0 }

pub sampling_of : (fs : List (List ℕ)) → IsGoodLine sampling_row fs → (rate : Rate) × (n : ℕ) × IsSampling fs rate n
unfolding IsIn
sampling_of fs good = (good.1.0.0, good.1.1.0.0, record { count = good.0; rate_is = good.1.0.1; samples = good.1.1.0.1 })

pub stamp_of : (fs : List (List ℕ)) → IsGoodLine stamp_row fs → (s : Stamp) × IsStamp fs s
unfolding IsIn
stamp_of fs good =
    let date = good.1.0 in
    let time = good.1.1.0 in (
      record { year = date.0; month = date.1; day = date.2; hour = time.0; minute = time.1; second = time.2; nanos = time.3 },
      record { count = good.0; date = date.3; time = time.4 },
    )

pub form_of : (fs : List (List ℕ)) → IsGoodLine form_row fs → (form : Form) × IsFileType fs form
unfolding IsIn
form_of fs good = (good.1.0.0, record { count = good.0; word = good.1.0.1 })

pub multiplier_of : (fs : List (List ℕ)) → IsGoodLine last_row fs → (z : ℤ) × IsMultiplier fs z
unfolding IsIn
multiplier_of fs good = (good.1.0.0, record { count = good.0; value = good.1.0.1 })
