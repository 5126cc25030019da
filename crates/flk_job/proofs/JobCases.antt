-- Any bytes write a job, or have a first fault.
use Rattle.std.proofs.Common.{◌≡◌, ◌≢◌, ◌⊎◌, ℕ, zero, suc, ◌+◌, ◌*◌, ◌<◌, ◌≤◌, ℤ, pos, List, [], ◌∷◌, ◌++◌, length, map, get_or, Option, Some, None, refl, sym, ap, subst, ◌∙◌, arith, inl, inr}
use Rattle.std.specs.Prelude.{negsuc}
use Rattle.std.specs.List.{Contains}
use Rattle.std.specs.Option.{option_and_then}
use Rattle.std.specs.Str.{is_utf8}
use Rattle.std.proofs.lemmas.Bool.{cases_lt, cases_eq, cases_Bool, false≢true}
use Rattle.std.proofs.lemmas.Int.{ints}
use Rattle.std.proofs.lemmas.List.{take_all}
use Rattle.std.proofs.lemmas.Option.{none-some}
use Rattle.std.proofs.lemmas.Str.{IsUtf8-from_is_utf8, is_utf8-from_IsUtf8}
use Rattle.toml.specs.Data.{Data, string, integer, array, Members, as_str, as_integer, as_array}
use Rattle.toml.specs.Parse.{parse_document}
use Rattle.flk_num.specs.declared.lamp.Lamp.{Lamp}
use Rattle.flk_num.specs.declared.lamp.Lamp.TheVariants.{L230, L120}
use Rattle.flk_field.proofs.SetCases.{same_text}
use Rattle.flk_job.specs.Table.{key_number, integer_items, IsOfType, lamp_name, IsIntegerFrom, IsDmax, AreChannels, IsIn, value_of, nominal_of, are_known}
use Rattle.flk_job.specs.Job.{longest_job, data_of, HasJob, IsJob, IsDocument, IsGood, KeyFault, AreGoodBefore, IsFirstKeyFault, IsFirstFault}
use Rattle.flk_job.specs.Reading.{integers}
use Rattle.flk_job.specs.declared.key.Key.{Key}
use Rattle.flk_job.specs.declared.key.Key.TheVariants as keys
use Rattle.flk_job.specs.declared.kind.Kind.{Kind}
use Rattle.flk_job.specs.declared.kind.Kind.TheVariants as kinds
use Rattle.flk_job.specs.declared.job.Job.{Job}
use Rattle.flk_job.proofs.DataLemmas.{is_string, is_integer, is_array, no_string, no_integer, same_strings, same_integers, are_integers, no_integers, same_arrays}
use Rattle.flk_job.proofs.ChannelLemmas.{AreSoFar, one_more, same_length, out_of_set, twice}
use Rattle.flk_job.proofs.KeyLemmas.{before_first, before_next, nominal_is, has_job, fault_of_keys}

option_cases : {A : Type 0} (o : Option A) → (o ≡ None) ⊎ ((x : A) × (o ≡ Some x))
option_cases None = inl refl
option_cases (Some x) = inr (x, refl)

-- ---- the channels

not_first : (m : ℕ) (ms : List ℕ) (n i : ℕ) → m ≢ n → ¬ Contains ms n → i < length (m ∷ ms) → get_or (m ∷ ms) i n ≡ n → ⊥
not_first m ms n zero other none lt e = other e
not_first m ms n (suc i) other none lt e = none (i, omega (arith, lt), e)

contains_cases : (ns : List ℕ) (n : ℕ) → Contains ns n ⊎ ¬ Contains ns n
contains_cases [] n = inr (λ w. omega (arith, w.1))
contains_cases (m ∷ ms) n =
    elim (cases_eq m n) [
      | inl same ↦ inl (0, omega arith, same)
      | inr other ↦ elim (contains_cases ms n) [
        | inl w ↦ inl (suc w.0, omega (arith, w.1), w.2)
        | inr none ↦ inr (λ w. not_first m ms n w.0 other none w.1 w.2)
      ]
    ]

integer_cases : (least most : ℕ) (z : ℤ) → ((n : ℕ) × (z ≡ pos n) × (least ≤ n) × (n ≤ most)) ⊎ ((n : ℕ) → z ≡ pos n → least ≤ n → ¬ (n ≤ most))
integer_cases least most (negsuc m) = inr (λ n e. cc)
integer_cases least most (pos m) =
    elim (cases_lt m least) [
      | inl low ↦ inr (λ n e a b. omega (arith, ints, e, a, low))
      | inr some ↦ elim (cases_lt most m) [
        | inl high ↦ inr (λ n e a b. omega (arith, ints, e, b, high))
        | inr few ↦ inl (m, refl, some, few)
      ]
    ]

abbrev NoChannelsOf : List ℤ → Type 0
NoChannelsOf zs = (ns : List ℕ) → map (λ n. pos n) ns ≡ zs → ¬ AreChannels ns

channels_up_to : (zs : List ℤ) (i : ℕ) → i ≤ length zs → ((ns : List ℕ) × AreSoFar zs i ns) ⊎ NoChannelsOf zs
channels_up_to zs zero most = inl (
  [],
  record { same = refl; from = λ i d lt. absurd (omega (arith, lt)); to = λ i d lt. absurd (omega (arith, lt)); different = λ i j none less lt. absurd (omega (arith, lt)) },
)
channels_up_to zs (suc i) most =
    let lt : i < length zs = omega (arith, most) in
    elim (channels_up_to zs i (omega (arith, most))) [
      | inr out ↦ inr out
      | inl so ↦ elim (integer_cases 1 256 (get_or zs i (pos 0))) [
        | inr never ↦ inr (out_of_set zs i lt never)
        | inl is ↦ elim (contains_cases so.0 is.0) [
          | inl has ↦ inr (twice zs i so.0 is.0 so.1 lt is.1 has)
          | inr new ↦
              let next : i + 1 ≡ suc i = omega arith in
              inl (so.0 ++ is.0 ∷ [], subst (λ (k : ℕ). AreSoFar zs k (so.0 ++ is.0 ∷ [])) next (one_more zs i so.0 is.0 so.1 lt is.1 is.2 is.3 new))
        ]
      ]
    ]

channels_cases : (zs : List ℤ) → ((ns : List ℕ) × (map (λ n. pos n) ns ≡ zs) × AreChannels ns) ⊎ NoChannelsOf zs
channels_cases zs =
    elim (cases_lt 0 (length zs)) [
      | inr none ↦ inr (λ ns e is. omega (arith, none, is.some, same_length zs ns e))
      | inl some ↦ elim (cases_lt 6 (length zs)) [
        | inl many ↦ inr (λ ns e is. omega (arith, many, is.few, same_length zs ns e))
        | inr few ↦ elim (channels_up_to zs (length zs) (omega arith)) [
          | inr out ↦ inr out
          | inl so ↦
              let same : map (λ n. pos n) so.0 ≡ zs = so.1.same ∙ take_all (length zs) zs (omega arith) in
              let count = same_length zs so.0 same in
              inl (so.0, same, record { some = omega (arith, some, count); few = omega (arith, few, count); from = so.1.from; to = so.1.to; different = so.1.different })
        ]
      ]
    ]

-- ---- a value is in the key's set, is of its type and out of the set, or is of another type

abbrev ValueCases : (OfType In : Type 0) → Type 0
ValueCases OfType In = In ⊎ ((OfType × ¬ In) ⊎ ¬ OfType)

integer_in : (least most : ℕ) (d : Data) → ValueCases ((z : ℤ) × (d ≡ integer z)) (IsIntegerFrom least most d)
integer_in least most d =
    elim (option_cases (as_integer d)) [
      | inl none ↦ inr (inr (λ t. no_integer d none t.0 t.1))
      | inr is ↦
          let e : d ≡ integer is.0 = is_integer d is.0 is.1 in
          elim (integer_cases least most is.0) [
            | inl good ↦ inl (good.0, e ∙ ap integer good.1, good.2, good.3)
            | inr out ↦ inr (inl ((is.0, e), λ w. out w.0 (same_integers is.0 (pos w.0) (sym e ∙ w.1)) w.2 w.3))
          ]
    ]

no_dmax : (m : ℕ) → m ≢ 4 → m ≢ 6 → m ≢ 7 → ¬ IsDmax m
no_dmax m four six seven is =
    elim is [
      | inl e ↦ four e
      | inr others ↦ elim others [
        | inl e ↦ six e
        | inr e ↦ seven e
      ]
    ]

percent_cases : (m : ℕ) → IsDmax m ⊎ ¬ IsDmax m
percent_cases m =
    elim (cases_eq m 4) [
      | inl e ↦ inl (inl e)
      | inr four ↦ elim (cases_eq m 6) [
        | inl e ↦ inl (inr (inl e))
        | inr six ↦ elim (cases_eq m 7) [
          | inl e ↦ inl (inr (inr e))
          | inr seven ↦ inr (no_dmax m four six seven)
        ]
      ]
    ]

dmax_cases : (z : ℤ) → ((n : ℕ) × (z ≡ pos n) × IsDmax n) ⊎ ((n : ℕ) → z ≡ pos n → ¬ IsDmax n)
dmax_cases (negsuc m) = inr (λ n e. cc)
dmax_cases (pos m) =
    elim (percent_cases m) [
      | inl is ↦ inl (m, refl, is)
      | inr out ↦ inr (λ n e is. let same : n ≡ m = omega (arith, ints, e) in out (subst (λ (k : ℕ). IsDmax k) same is))
    ]

dmax_in : (n : ℕ) (d : Data) → ValueCases (IsOfType keys.Dmax d) (IsIn n keys.Dmax d)
dmax_in n d =
    elim (option_cases (as_integer d)) [
      | inl none ↦ inr (inr (λ t. no_integer d none t.0 t.1))
      | inr is ↦
          let e : d ≡ integer is.0 = is_integer d is.0 is.1 in
          elim (dmax_cases is.0) [
            | inl good ↦ inl (good.0, e ∙ ap integer good.1, good.2)
            | inr out ↦ inr (inl ((is.0, e), λ w. out w.0 (same_integers is.0 (pos w.0) (sym e ∙ w.1)) w.2))
          ]
    ]

no_lamp : (text : List ℕ) → text ≢ lamp_name L230 → text ≢ lamp_name L120 → (lamp : Lamp) → text ≢ lamp_name lamp
no_lamp text first second L230 e = first e
no_lamp text first second L120 e = second e

pub lamp_name_cases : (text : List ℕ) → ((lamp : Lamp) × (text ≡ lamp_name lamp)) ⊎ ((lamp : Lamp) → text ≢ lamp_name lamp)
lamp_name_cases text =
    elim (same_text text (lamp_name L230)) [
      | inl e ↦ inl (L230, e)
      | inr first ↦ elim (same_text text (lamp_name L120)) [
        | inl e ↦ inl (L120, e)
        | inr second ↦ inr (no_lamp text first second)
      ]
    ]

lamp_in : (n : ℕ) (d : Data) → ValueCases (IsOfType keys.Lamp d) (IsIn n keys.Lamp d)
lamp_in n d =
    elim (option_cases (as_str d)) [
      | inl none ↦ inr (inr (λ t. no_string d none t.0 t.1))
      | inr is ↦
          let e : d ≡ string is.0 = is_string d is.0 is.1 in
          elim (lamp_name_cases is.0) [
            | inl good ↦ inl (good.0, e ∙ ap string good.1)
            | inr out ↦ inr (inl ((is.0, e), λ w. out w.0 (same_strings is.0 (lamp_name w.0) (sym e ∙ w.1))))
          ]
    ]

channels_in : (n : ℕ) (d : Data) → ValueCases (IsOfType keys.Channels d) (IsIn n keys.Channels d)
channels_in n d =
    elim (option_cases (as_array d)) [
      | inl none ↦ inr (inr (λ t. no_integers d (ap (option_and_then integers) none) t.0 t.1))
      | inr items ↦ elim (option_cases (integers items.0)) [
        | inl none ↦ inr (inr (λ t. no_integers d (ap (option_and_then integers) items.1 ∙ none) t.0 t.1))
        | inr whole ↦
            let e : d ≡ array (integer_items whole.0) = is_array d items.0 items.1 ∙ ap array (are_integers items.0 whole.0 whole.1) in
            elim (channels_cases whole.0) [
              | inl good ↦ inl (good.0, e ∙ ap (λ (zs : List ℤ). array (integer_items zs)) (sym good.1), good.2)
              | inr out ↦ inr (inl ((whole.0, e), λ w. out w.0 (sym (same_arrays whole.0 (map (λ n. pos n) w.0) (sym e ∙ w.1))) w.2))
            ]
      ]
    ]

value_cases : (n : ℕ) (key : Key) (d : Data) → ValueCases (IsOfType key d) (IsIn n key d)
value_cases n keys.Lamp d = lamp_in n d
value_cases n keys.Nominal d = integer_in 1000 1000000 d
value_cases n keys.Uncertainty d = integer_in 0 (10 * n) d
value_cases n keys.Channels d = channels_in n d
value_cases n keys.Dmax d = dmax_in n d
value_cases n keys.RunIn d = integer_in 0 60 d
value_cases n keys.Interval d = integer_in 1 600 d

-- ---- the keys, one after another

key_cases : (ms : Members) (key : Key) → IsGood ms key ⊎ ((kind : Kind) × KeyFault ms key kind)
key_cases ms key =
    elim (option_cases (value_of ms key)) [
      | inl none ↦ inr (kinds.Absent, none)
      | inr is ↦ elim (value_cases (nominal_of ms) key is.0) [
        | inl good ↦ inl (is.0, is.1, good)
        | inr others ↦ elim others [
          | inl out ↦ inr (kinds.Range, (is.0, is.1, out.0, out.1))
          | inr other ↦ inr (kinds.OtherType, (is.0, is.1, other))
        ]
      ]
    ]

abbrev HasKeyFault : Members → Type 0
HasKeyFault ms = (number : ℕ) × (kind : Kind) × IsFirstKeyFault ms number kind

abbrev AreGoodTo : Members → Key → Type 0
AreGoodTo ms key = AreGoodBefore ms key × IsGood ms key

first_key : (ms : Members) (key : Key) → AreGoodBefore ms key → AreGoodTo ms key ⊎ HasKeyFault ms
first_key ms key before =
    elim (key_cases ms key) [
      | inl good ↦ inl (before, good)
      | inr out ↦ inr (key_number key, out.0, record { key = key; number_is = refl; before = before; here = out.1 })
    ]

next_key : (ms : Members) (key next : Key) → key_number next ≡ key_number key + 1 → AreGoodTo ms key ⊎ HasKeyFault ms → AreGoodTo ms next ⊎ HasKeyFault ms
next_key ms key next e so =
    elim so [
      | inl good ↦ first_key ms next (before_next ms key next e good.0 good.1)
      | inr out ↦ inr out
    ]

all_good : (ms : Members) → AreGoodTo ms keys.Interval → (key : Key) → IsGood ms key
all_good ms good keys.Lamp = good.0 keys.Lamp (omega arith)
all_good ms good keys.Nominal = good.0 keys.Nominal (omega arith)
all_good ms good keys.Uncertainty = good.0 keys.Uncertainty (omega arith)
all_good ms good keys.Channels = good.0 keys.Channels (omega arith)
all_good ms good keys.Dmax = good.0 keys.Dmax (omega arith)
all_good ms good keys.RunIn = good.0 keys.RunIn (omega arith)
all_good ms good keys.Interval = good.1

keys_cases : (ms : Members) → ((key : Key) → IsGood ms key) ⊎ HasKeyFault ms
keys_cases ms =
    let lamp = first_key ms keys.Lamp (before_first ms) in
    let nominal = next_key ms keys.Lamp keys.Nominal refl lamp in
    let uncertainty = next_key ms keys.Nominal keys.Uncertainty refl nominal in
    let channels = next_key ms keys.Uncertainty keys.Channels refl uncertainty in
    let dmax = next_key ms keys.Channels keys.Dmax refl channels in
    let run_in = next_key ms keys.Dmax keys.RunIn refl dmax in
    elim (next_key ms keys.RunIn keys.Interval refl run_in) [
      | inl good ↦ inl (all_good ms good)
      | inr out ↦ inr out
    ]

-- ---- the job of good values

value_is : (ms : Members) (key : Key) (d e : Data) → value_of ms key ≡ Some d → d ≡ e → value_of ms key ≡ Some e
value_is ms key d e is same = is ∙ ap (λ (x : Data). Some x) same

job_of_good : (ms : Members) → ((key : Key) → IsGood ms key) → (j : Job) × HasJob ms j
job_of_good ms good =
    let lamp = good keys.Lamp in
    let nominal = good keys.Nominal in
    let uncertainty = good keys.Uncertainty in
    let channels = good keys.Channels in
    let dmax = good keys.Dmax in
    let run_in = good keys.RunIn in
    let interval = good keys.Interval in
    let n = nominal.2.0 in
    let nominal_value = value_is ms keys.Nominal nominal.0 (integer (pos n)) nominal.1 nominal.2.1 in
    let few : uncertainty.2.0 ≤ 10 * n = subst (λ (m : ℕ). uncertainty.2.0 ≤ 10 * m) (nominal_is ms n nominal_value) uncertainty.2.3 in
    let j : Job = record {
      lamp = lamp.2.0;
      supply = record { nominal_mv = n; uncertainty_uv = uncertainty.2.0; nominal_low = nominal.2.2; nominal_high = nominal.2.3; uncertainty_high = few };
      channels = channels.2.0;
      dmax_percent = dmax.2.0;
      run_in_s = run_in.2.0;
      interval_s = interval.2.0;
    } in (
      j,
      has_job ms j
          (record {
            lamp = value_is ms keys.Lamp lamp.0 (data_of j keys.Lamp) lamp.1 lamp.2.1;
            nominal = nominal_value;
            uncertainty = value_is ms keys.Uncertainty uncertainty.0 (data_of j keys.Uncertainty) uncertainty.1 uncertainty.2.1;
            channels = value_is ms keys.Channels channels.0 (data_of j keys.Channels) channels.1 channels.2.1;
            dmax = value_is ms keys.Dmax dmax.0 (data_of j keys.Dmax) dmax.1 dmax.2.1;
            run_in = value_is ms keys.RunIn run_in.0 (data_of j keys.RunIn) run_in.1 run_in.2.1;
            interval = value_is ms keys.Interval interval.0 (data_of j keys.Interval) interval.1 interval.2.1;
          })
          (record { low = nominal.2.2; high = nominal.2.3; few = few })
          (record { channels = channels.2.2; dmax = dmax.2.2; run_in = run_in.2.3; interval_some = interval.2.2; interval = interval.2.3 }),
    )

-- ---- the bytes

document_cases : (bytes : List ℕ) → length bytes ≤ longest_job → ((ms : Members) × IsDocument bytes ms) ⊎ ((ms : Members) → ¬ IsDocument bytes ms)
document_cases bytes short =
    elim (cases_Bool (is_utf8 bytes)) [
      | inr other ↦ inr (λ ms doc. false≢true (sym other ∙ is_utf8-from_IsUtf8 bytes doc.text))
      | inl text ↦ elim (option_cases (parse_document bytes)) [
        | inl none ↦ inr (λ ms doc. none-some ms (sym none ∙ doc.parsed))
        | inr is ↦ inl (is.0, record { short = short; text = IsUtf8-from_is_utf8 bytes text; parsed = is.1 })
      ]
    ]

pub job_cases : (bytes : List ℕ) → ((j : Job) × IsJob bytes j) ⊎ ((number : ℕ) × (kind : Kind) × IsFirstFault bytes number kind)
job_cases bytes =
    elim (cases_lt longest_job (length bytes)) [
      | inl long ↦ inr (0, kinds.Length, (refl, long))
      | inr short ↦ elim (document_cases bytes short) [
        | inr none ↦ inr (0, kinds.Toml, (refl, short, none))
        | inl doc ↦ elim (cases_Bool (are_known doc.0)) [
          | inr unknown ↦ inr (0, kinds.Unknown, (refl, doc.0, doc.1, unknown))
          | inl known ↦ elim (keys_cases doc.0) [
            | inl good ↦ let j = job_of_good doc.0 good in inl (j.0, record { members = doc.0; document = doc.1; known = known; job = j.1 })
            | inr out ↦ inr (out.0, out.1, fault_of_keys bytes doc.0 doc.1 known out.0 out.1 out.2)
          ]
        ]
      ]
    ]
