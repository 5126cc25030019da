-- A channel can be measured or has one fault, and a frequency has one lamp or none.
use Rattle.std.proofs.Common.{◌≡◌, ◌⊎◌, ℕ, ◌-◌, ◌*◌, ◌^◌, ◌≤◌, List, length, get_or, codes, ℤ, refl, sym, ◌∙◌, arith, inl, inr}
use Rattle.std.specs.Int.RustNames.{unsigned_abs}
use Rattle.std.specs.Str.{str_eq_ignore_ascii_case}
use Rattle.std.proofs.lemmas.Bool.{cases_lt, cases_Bool, true≢false}
use Rattle.std.proofs.lemmas.Int.{ints}
use Rattle.std.proofs.lemmas.List.{get_or_default}
use Rattle.flk_num.specs.Lamp.{hertz_of}
use Rattle.flk_num.specs.declared.lamp.Lamp.{Lamp}
use Rattle.flk_num.specs.declared.lamp.Lamp.TheVariants.{L230, L120}
use Rattle.flk_cfg.specs.declared.config.Analog.{Analog}
use Rattle.flk_cfg.specs.declared.config.Config.{Config}
use Rattle.flk_field.proofs.SetCases.{is_whole}
use Rattle.flk_cfg.proofs.Whole.{no_analog}
use Rattle.flk_scale.specs.Voltage.{IsVoltageUnit}
use Rattle.flk_scale.specs.Scale.{HasSmallScale}
use Rattle.flk_scale.specs.Channel.{IsChannel, IsFrequencyOf}
use Rattle.flk_scale.specs.Matching.{CanBeMeasured, IsChannelFault, IsOtherFrequency}
use Rattle.flk_scale.specs.declared.fault.MatchFault.{MatchFault}
use Rattle.flk_scale.specs.declared.fault.MatchFault.TheVariants as faults

-- a number has one channel
pub one_channel : (c : Config) (channel : ℕ) (a b : Analog) → IsChannel c channel a → IsChannel c channel b → a ≡ b
one_channel c channel a b h k = sym (h.is a) ∙ k.is a

unit_cases : (text : List ℕ) → IsVoltageUnit text ⊎ ¬ IsVoltageUnit text
unit_cases text =
    elim (cases_Bool (str_eq_ignore_ascii_case text (codes "V"))) [
      | inl volt ↦ inl (inl volt)
      | inr no_volt ↦ elim (cases_Bool (str_eq_ignore_ascii_case text (codes "kV"))) [
        | inl kilovolt ↦ inl (inr kilovolt)
        | inr no_kilovolt ↦ inr (λ unit.
            elim unit [
              | inl volt ↦ true≢false (sym volt ∙ no_volt)
              | inr kilovolt ↦ true≢false (sym kilovolt ∙ no_kilovolt)
            ])
      ]
    ]

scale_cases : (a : Analog) → HasSmallScale a ⊎ ¬ HasSmallScale a
scale_cases a =
    elim (cases_lt (10000 * 10 ^ 24) (unsigned_abs a.a.n)) [
      | inl large ↦ inr (λ is. omega (arith, large, is.factor))
      | inr factor ↦ elim (cases_lt (10000 * 10 ^ 24) (unsigned_abs a.b.n)) [
        | inl large ↦ inr (λ is. omega (arith, large, is.offset))
        | inr offset ↦ inl (record { factor = factor; offset = offset })
      ]
    ]

pub channel_cases : (c : Config) (channel : ℕ) → 1 ≤ channel → CanBeMeasured c channel ⊎ ((f : MatchFault) × IsChannelFault c channel f)
channel_cases c channel from =
    elim (cases_lt (length c.analog) channel) [
      | inl past ↦ inr (faults.Channel channel (length c.analog), (past, refl, refl))
      | inr within ↦
          let a = get_or c.analog (channel - 1) no_analog in
          let there : IsChannel c channel a = record { from = from; within = within; is = λ none. get_or_default c.analog (channel - 1) none no_analog (omega (arith, from, within)) } in
          elim (unit_cases a.uu) [
            | inr no_unit ↦ inr (faults.Unit channel, (refl, a, there, no_unit))
            | inl unit ↦ elim (scale_cases a) [
              | inr no_scale ↦ inr (faults.Scale channel, (refl, a, there, unit, no_scale))
              | inl small ↦ inl (a, there, record { unit = unit; small = small })
            ]
          ]
    ]

pub measured_has_no_fault : (c : Config) (channel : ℕ) (f : MatchFault) → CanBeMeasured c channel → IsChannelFault c channel f → ⊥
measured_has_no_fault c channel (faults.Channel asked there) h f = omega (arith, f.0, h.1.within)
measured_has_no_fault c channel (faults.Unit number) h f = f.3 (rw (one_channel c channel f.1 h.0 f.2 h.1) h.2.unit)
measured_has_no_fault c channel (faults.Scale number) h f = f.4 (rw (one_channel c channel f.1 h.0 f.2 h.1) h.2.small)
measured_has_no_fault c channel (faults.Lamp hertz lf) h f = f
measured_has_no_fault c channel (faults.TooShort needed there) h f = f
measured_has_no_fault c channel (faults.TooLong limit there) h f = f

pub one_fault : (c : Config) (channel : ℕ) (f g : MatchFault) → IsChannelFault c channel f → IsChannelFault c channel g → f ≡ g
one_fault c channel (faults.Channel m n) (faults.Channel p q) h k = rw (h.1, h.2, k.1, k.2) refl
one_fault c channel (faults.Channel m n) (faults.Unit p) h k = absurd (omega (arith, h.0, k.2.within))
one_fault c channel (faults.Channel m n) (faults.Scale p) h k = absurd (omega (arith, h.0, k.2.within))
one_fault c channel (faults.Unit m) (faults.Channel p q) h k = absurd (omega (arith, k.0, h.2.within))
one_fault c channel (faults.Unit m) (faults.Unit p) h k = rw (h.0, k.0) refl
one_fault c channel (faults.Unit m) (faults.Scale p) h k = absurd (h.3 (rw (one_channel c channel h.1 k.1 h.2 k.2) k.3))
one_fault c channel (faults.Scale m) (faults.Channel p q) h k = absurd (omega (arith, k.0, h.2.within))
one_fault c channel (faults.Scale m) (faults.Unit p) h k = absurd (k.3 (rw (one_channel c channel k.1 h.1 k.2 h.2) h.3))
one_fault c channel (faults.Scale m) (faults.Scale p) h k = rw (h.0, k.0) refl
one_fault c channel f (faults.Lamp p q) h k = absurd k
one_fault c channel f (faults.TooShort p q) h k = absurd k
one_fault c channel f (faults.TooLong p q) h k = absurd k
one_fault c channel (faults.Lamp m n) g h k = absurd h
one_fault c channel (faults.TooShort m n) g h k = absurd h
one_fault c channel (faults.TooLong m n) g h k = absurd h

-- ---- the line frequency

no_lamp : (z : ℤ) → ¬ IsFrequencyOf L230 z → ¬ IsFrequencyOf L120 z → IsOtherFrequency z
no_lamp z first second L230 is = first is
no_lamp z first second L120 is = second is

pub lamp_cases : (z : ℤ) → ((lamp : Lamp) × IsFrequencyOf lamp z) ⊎ IsOtherFrequency z
lamp_cases z =
    elim (is_whole z (hertz_of L230 * 10 ^ 24)) [
      | inl same ↦ inl (L230, same)
      | inr first ↦ elim (is_whole z (hertz_of L120 * 10 ^ 24)) [
        | inl same ↦ inl (L120, same)
        | inr second ↦ inr (no_lamp z first second)
      ]
    ]

pub one_lamp : (z : ℤ) (lamp other : Lamp) → IsFrequencyOf lamp z → IsFrequencyOf other z → lamp ≡ other
one_lamp z L230 L230 h k = refl
one_lamp z L230 L120 h k = absurd (omega (arith, ints, h, k))
one_lamp z L120 L230 h k = absurd (omega (arith, ints, h, k))
one_lamp z L120 L120 h k = refl
