-- The channels of a job, one after another, and the fault of a match: a configuration has what a job asks for, or has one fault.
use Rattle.std.proofs.Common.{◌≡◌, ◌⊎◌, ℕ, zero, suc, ◌+◌, ◌*◌, ◌^◌, ◌<◌, ◌≤◌, List, length, get_or, arith, refl, subst, ⊎_elim, inl, inr}
use Rattle.std.specs.Prelude.{slice_index_or}
use Rattle.std.proofs.lemmas.Bool.{cases_lt}
use Rattle.std.proofs.lemmas.List.{get_or_default}
use Rattle.flk_num.specs.Lamp.{hertz_of}
use Rattle.flk_num.specs.Rate.{most_records}
use Rattle.flk_cfg.specs.declared.config.Config.{Config}
use Rattle.flk_field.proofs.SetCases.{is_whole}
use Rattle.flk_job.specs.declared.job.Job.{Job}
use Rattle.flk_scale.specs.declared.fault.MatchFault.{MatchFault}
use Rattle.flk_scale.specs.declared.fault.MatchFault.TheVariants as faults
use Rattle.flk_scale.specs.Channel.{IsFrequencyOf}
use Rattle.flk_scale.specs.Matching.{CanBeMeasured, IsChannelFault}
use Rattle.flk_scale.proofs.MatchingLemmas.{channel_cases, measured_has_no_fault, one_fault}
use Rattle.flk_job.specs.Job.{AreInSets}
use Rattle.flk_job.specs.Matching.{AllCanBeMeasured, IsFirstChannelFault, IsMatch, IsMatchFault, records_needed}

pub one_more : (c : Config) (ns : List ℕ) (i : ℕ) → ((k none : ℕ) → k < i → CanBeMeasured c (slice_index_or ns k none)) → i < length ns → CanBeMeasured c (get_or ns i 0)
    → (k none : ℕ) → k < i + 1 → CanBeMeasured c (slice_index_or ns k none)
one_more c ns i old lt new k none below =
    elim (cases_lt k i) [
      | inl less ↦ old k none less
      | inr last ↦
          let e : i ≡ k = omega (arith, below, last) in
          subst (λ (j : ℕ). CanBeMeasured c (get_or ns j none)) e (subst (λ (n : ℕ). CanBeMeasured c n) (get_or_default ns i 0 none lt) new)
    ]

pub channel_fault : (j : Job) (c : Config) (f : MatchFault) → IsFirstChannelFault c j.channels f → IsMatchFault j c f
channel_fault j c (faults.Channel asked there) h = h
channel_fault j c (faults.Unit channel) h = h
channel_fault j c (faults.Scale channel) h = h
channel_fault j c (faults.Lamp hertz lf) h = absurd (h.here 0)
channel_fault j c (faults.TooShort needed there) h = absurd (h.here 0)
channel_fault j c (faults.TooLong limit there) h = absurd (h.here 0)

-- ---- the channels have a first fault, or all can be measured

channels_from : (c : Config) (ns : List ℕ) (n : ℕ) → ((i : ℕ) → i < length ns → 1 ≤ get_or ns i 0) → n ≤ length ns
    → ((i none : ℕ) → i < n → CanBeMeasured c (slice_index_or ns i none)) ⊎ ((f : MatchFault) × IsFirstChannelFault c ns f)
channels_from c ns zero from most = inl (λ i none lt. absurd (omega (arith, lt)))
channels_from c ns (suc n) from most =
    let lt : n < length ns = omega (arith, most) in
    elim (channels_from c ns n from (omega (arith, most))) [
      | inr first ↦ inr first
      | inl so ↦ elim (channel_cases c (get_or ns n 0) (from n lt)) [
        | inl new ↦ inl (λ i none below. one_more c ns n so lt new i none (omega (arith, below)))
        | inr out ↦ inr (
          out.0,
          record {
            place = n;
            within = lt;
            before = so;
            here = λ none. subst (λ (m : ℕ). IsChannelFault c m out.0) (get_or_default ns n 0 none lt) out.1;
          },
        )
      ]
    ]

no_channel_fault : (c : Config) (ns : List ℕ) (f : MatchFault) → AllCanBeMeasured c ns → IsFirstChannelFault c ns f → ⊥
no_channel_fault c ns f all first = measured_has_no_fault c (slice_index_or ns first.place 0) f (all first.place 0 first.within) (first.here 0)

one_channel_fault : (c : Config) (ns : List ℕ) (f g : MatchFault) → IsFirstChannelFault c ns f → IsFirstChannelFault c ns g → f ≡ g
one_channel_fault c ns f g p q =
    ⊎_elim
    (λ less. absurd (measured_has_no_fault c (slice_index_or ns p.place 0) f (q.before p.place 0 less) (p.here 0)))
    (λ most. ⊎_elim
    (λ less. absurd (measured_has_no_fault c (slice_index_or ns q.place 0) g (p.before q.place 0 less) (q.here 0)))
    (λ least. let same : q.place ≡ p.place = omega (arith, most, least) in
    one_fault c (slice_index_or ns p.place 0) f g (p.here 0) (subst (λ (k : ℕ). IsChannelFault c (slice_index_or ns k 0) g) same (q.here 0)))
    (cases_lt q.place p.place))
    (cases_lt p.place q.place)

-- ---- the tests after those of the channels

abbrev IsLaterFault : Job → Config → MatchFault → Type 0
IsLaterFault j c (faults.Lamp hertz lf) = (¬ IsFrequencyOf j.lamp c.lf.n) × (hertz ≡ hertz_of j.lamp) × (lf ≡ c.lf)
IsLaterFault j c (faults.TooShort needed there) =
    IsFrequencyOf j.lamp c.lf.n × (c.endsamp < records_needed j c.rate) × (needed ≡ records_needed j c.rate) × (there ≡ c.endsamp)
IsLaterFault j c (faults.TooLong limit there) =
    IsFrequencyOf j.lamp c.lf.n × (records_needed j c.rate ≤ c.endsamp) × (most_records c.rate < c.endsamp) × (limit ≡ most_records c.rate) × (there ≡ c.endsamp)
IsLaterFault j c _ = ⊥

fault_cases : (j : Job) (c : Config) (f : MatchFault) → IsMatchFault j c f → IsFirstChannelFault c j.channels f ⊎ (AllCanBeMeasured c j.channels × IsLaterFault j c f)
fault_cases j c (faults.Channel asked there) h = inl h
fault_cases j c (faults.Unit channel) h = inl h
fault_cases j c (faults.Scale channel) h = inl h
fault_cases j c (faults.Lamp hertz lf) h = inr (h.0, (h.1, h.2, h.3))
fault_cases j c (faults.TooShort needed there) h = inr (h.0, (h.1, h.2, h.3, h.4))
fault_cases j c (faults.TooLong limit there) h = inr (h.0, (h.1, h.2, h.3, h.4, h.5))

one_later : (j : Job) (c : Config) (f g : MatchFault) → IsLaterFault j c f → IsLaterFault j c g → f ≡ g
one_later j c (faults.Lamp m n) (faults.Lamp p q) h k = rw (h.1, h.2, k.1, k.2) refl
one_later j c (faults.Lamp m n) (faults.TooShort p q) h k = absurd (h.0 k.0)
one_later j c (faults.Lamp m n) (faults.TooLong p q) h k = absurd (h.0 k.0)
one_later j c (faults.TooShort m n) (faults.Lamp p q) h k = absurd (k.0 h.0)
one_later j c (faults.TooShort m n) (faults.TooShort p q) h k = rw (h.2, h.3, k.2, k.3) refl
one_later j c (faults.TooShort m n) (faults.TooLong p q) h k = absurd (omega (arith, h.1, k.1))
one_later j c (faults.TooLong m n) (faults.Lamp p q) h k = absurd (k.0 h.0)
one_later j c (faults.TooLong m n) (faults.TooShort p q) h k = absurd (omega (arith, k.1, h.1))
one_later j c (faults.TooLong m n) (faults.TooLong p q) h k = rw (h.3, h.4, k.3, k.4) refl
one_later j c (faults.Channel m n) g h k = absurd h
one_later j c (faults.Unit m) g h k = absurd h
one_later j c (faults.Scale m) g h k = absurd h
one_later j c f (faults.Channel p q) h k = absurd k
one_later j c f (faults.Unit p) h k = absurd k
one_later j c f (faults.Scale p) h k = absurd k

no_later : (j : Job) (c : Config) (f : MatchFault) → IsMatch j c → IsLaterFault j c f → ⊥
no_later j c (faults.Lamp m n) is h = h.0 is.frequency
no_later j c (faults.TooShort m n) is h = omega (arith, is.long, h.1)
no_later j c (faults.TooLong m n) is h = omega (arith, is.short, h.2)
no_later j c (faults.Channel m n) is h = h
no_later j c (faults.Unit m) is h = h
no_later j c (faults.Scale m) is h = h

-- ---- a configuration has what a job asks for, or has one fault

pub one_match_fault : (j : Job) (c : Config) (f g : MatchFault) → IsMatchFault j c f → IsMatchFault j c g → f ≡ g
one_match_fault j c f g h k =
    elim (fault_cases j c f h) [
      | inl first ↦ elim (fault_cases j c g k) [
        | inl other ↦ one_channel_fault c j.channels f g first other
        | inr later ↦ absurd (no_channel_fault c j.channels f later.0 first)
      ]
      | inr later ↦ elim (fault_cases j c g k) [
        | inl first ↦ absurd (no_channel_fault c j.channels g later.0 first)
        | inr other ↦ one_later j c f g later.1 other.1
      ]
    ]

pub match_has_no_fault : (j : Job) (c : Config) (f : MatchFault) → IsMatch j c → IsMatchFault j c f → ⊥
match_has_no_fault j c f is h =
    elim (fault_cases j c f h) [
      | inl first ↦ no_channel_fault c j.channels f is.channels first
      | inr later ↦ no_later j c f is later.1
    ]

pub match_cases : (j : Job) (c : Config) → AreInSets j → IsMatch j c ⊎ ((f : MatchFault) × IsMatchFault j c f)
match_cases j c sets =
    elim (channels_from c j.channels (length j.channels) (λ i lt. sets.channels.from i 0 lt) (omega arith)) [
      | inr first ↦ inr (first.0, channel_fault j c first.0 first.1)
      | inl all ↦ elim (is_whole c.lf.n (hertz_of j.lamp * 10 ^ 24)) [
        | inr other ↦ inr (faults.Lamp (hertz_of j.lamp) c.lf, (all, other, refl, refl))
        | inl frequency ↦ elim (cases_lt c.endsamp (records_needed j c.rate)) [
          | inl few ↦ inr (faults.TooShort (records_needed j c.rate) c.endsamp, (all, frequency, few, refl, refl))
          | inr long ↦ elim (cases_lt (most_records c.rate) c.endsamp) [
            | inl many ↦ inr (faults.TooLong (most_records c.rate) c.endsamp, (all, frequency, long, many, refl, refl))
            | inr short ↦ inl (record { channels = all; frequency = frequency; long = long; short = short })
          ]
        ]
      ]
    ]
