-- The keys of a job in their order, and the faults of their values.
use Rattle.std.proofs.Common.{◌≡◌, ℕ, ◌+◌, ◌-◌, ◌*◌, ◌≤◌, ℤ, pos, List, [], ◌∷◌, map, get_or, Option, Some, None, Result, refl, sym, ap, subst, ◌∙◌, arith, inl, inr, true}
use Rattle.std.specs.Option.{option_or, option_and_then}
use Rattle.std.specs.Result.{MatchResult, IsErrAnd}
use Rattle.std.proofs.lemmas.Bool.{cases_lt}
use Rattle.std.proofs.lemmas.Result.{err_from_is_err_and}
use Rattle.toml.specs.Data.{Data, string, integer, array, Items, Members, get_member, as_array}
use Rattle.flk_num.specs.declared.lamp.Lamp.{Lamp}
use Rattle.flk_num.specs.declared.stop.Stop.{Stop}
use Rattle.flk_num.specs.declared.stop.Stop.TheVariants as stop
use Rattle.flk_job.specs.Table.{key_number, key_name, default_of, integer_items, IsOfType, lamp_name, IsIntegerFrom, IsDmax, AreChannels, IsIn, value_of, natural_in, nominal_of, are_known}
use Rattle.flk_job.specs.Job.{data_of, HasJob, IsDocument, AreInSets, IsGood, KeyFault, AreGoodBefore, IsFirstKeyFault, IsFirstFault}
use Rattle.flk_job.specs.Reading.{NoLamp, NoIntegerFrom, NoDmax, NoChannels, integers}
use Rattle.flk_job.specs.declared.key.Key.{Key}
use Rattle.flk_job.specs.declared.key.Key.TheVariants as keys
use Rattle.flk_job.specs.declared.kind.Kind.{Kind}
use Rattle.flk_job.specs.declared.kind.Kind.TheVariants as kinds
use Rattle.flk_job.specs.declared.kind.Fault.{Fault}
use Rattle.flk_job.specs.declared.job.Job.{Job}
use Rattle.flk_job.proofs.DataLemmas.{same_strings, same_integers, same_arrays, same_naturals, no_integers, is_array, are_integers}

-- ---- the order

key_at : ℕ → Key
key_at n = get_or (keys.Lamp ∷ keys.Nominal ∷ keys.Uncertainty ∷ keys.Channels ∷ keys.Dmax ∷ keys.RunIn ∷ keys.Interval ∷ []) (n - 1) keys.Lamp

key_at_number : (k : Key) → key_at (key_number k) ≡ k
unfolding key_at
key_at_number keys.Lamp = refl
key_at_number keys.Nominal = refl
key_at_number keys.Uncertainty = refl
key_at_number keys.Channels = refl
key_at_number keys.Dmax = refl
key_at_number keys.RunIn = refl
key_at_number keys.Interval = refl

pub same_key : (j k : Key) → key_number j ≡ key_number k → j ≡ k
same_key j k e = sym (key_at_number j) ∙ ap key_at e ∙ key_at_number k

key_above : (k : Key) → 1 ≤ key_number k
key_above keys.Lamp = omega arith
key_above keys.Nominal = omega arith
key_above keys.Uncertainty = omega arith
key_above keys.Channels = omega arith
key_above keys.Dmax = omega arith
key_above keys.RunIn = omega arith
key_above keys.Interval = omega arith

pub before_first : (ms : Members) → AreGoodBefore ms keys.Lamp
before_first ms k lt = absurd (omega (arith, lt, key_above k))

pub before_next : (ms : Members) (k next : Key) → key_number next ≡ key_number k + 1 → AreGoodBefore ms k → IsGood ms k → AreGoodBefore ms next
before_next ms k next e before good j lt =
    elim (cases_lt (key_number j) (key_number k)) [
      | inl less ↦ before j less
      | inr last ↦ subst (λ (x : Key). IsGood ms x) (same_key k j (omega (arith, e, lt, last))) good
    ]

-- ---- from what the parts answer to faults and good values

given : (o d : Option Data) (x : Data) → o ≡ Some x → option_or o d ≡ Some x
given o d x e = ap (λ (p : Option Data). option_or p d) e

left_out : (o d : Option Data) → o ≡ None → option_or o d ≡ d
left_out o d e = ap (λ (p : Option Data). option_or p d) e

pub value_given : (ms : Members) (key : Key) (x : Data) → get_member (key_name key) ms ≡ Some x → value_of ms key ≡ Some x
value_given ms key x e = given (get_member (key_name key) ms) (default_of key) x e

pub value_left_out : (ms : Members) (key : Key) → get_member (key_name key) ms ≡ None → value_of ms key ≡ default_of key
value_left_out ms key e = left_out (get_member (key_name key) ms) (default_of key) e

pub lamp_fault : (ms : Members) (kind : Kind) → NoLamp (get_member (key_name keys.Lamp) ms) kind → KeyFault ms keys.Lamp kind
lamp_fault ms kinds.Absent h = value_left_out ms keys.Lamp h
lamp_fault ms kinds.OtherType h = (h.0, value_given ms keys.Lamp h.0 h.1, λ t. h.2 t.0 t.1)
lamp_fault ms kinds.Range h = (string h.0, value_given ms keys.Lamp (string h.0) h.1, (h.0, refl), λ is. h.2 is.0 (same_strings h.0 (lamp_name is.0) is.1))
lamp_fault ms kinds.Toml h = h
lamp_fault ms kinds.Unknown h = h
lamp_fault ms kinds.Length h = h

pub lamp_good : (ms : Members) (lamp : Lamp) → get_member (key_name keys.Lamp) ms ≡ Some (string (lamp_name lamp)) → IsGood ms keys.Lamp
lamp_good ms lamp e = (string (lamp_name lamp), value_given ms keys.Lamp (string (lamp_name lamp)) e, (lamp, refl))

pub integer_fault : (ms : Members) (key : Key) (least most : ℕ) → ((d : Data) → IsOfType key d → (z : ℤ) × (d ≡ integer z)) → ((z : ℤ) → IsOfType key (integer z))
    → ((d : Data) → IsIn (nominal_of ms) key d → IsIntegerFrom least most d) → (kind : Kind) → NoIntegerFrom least most (value_of ms key) kind → KeyFault ms key kind
integer_fault ms key least most to from set kinds.Absent h = h
integer_fault ms key least most to from set kinds.OtherType h = (h.0, h.1, λ t. let is = to h.0 t in h.2 is.0 is.1)
integer_fault ms key least most to from set kinds.Range h =
    (integer h.0, h.1, from h.0, λ is. let i = set (integer h.0) is in h.2 i.0 (same_integers h.0 (pos i.0) i.1) i.2 i.3)
integer_fault ms key least most to from set kinds.Toml h = h
integer_fault ms key least most to from set kinds.Unknown h = h
integer_fault ms key least most to from set kinds.Length h = h

pub nominal_fault : (ms : Members) (kind : Kind) → NoIntegerFrom 1000 1000000 (value_of ms keys.Nominal) kind → KeyFault ms keys.Nominal kind
nominal_fault ms kind h = integer_fault ms keys.Nominal 1000 1000000 (λ d t. t) (λ z. (z, refl)) (λ d is. is) kind h

pub run_in_fault : (ms : Members) (kind : Kind) → NoIntegerFrom 0 60 (value_of ms keys.RunIn) kind → KeyFault ms keys.RunIn kind
run_in_fault ms kind h = integer_fault ms keys.RunIn 0 60 (λ d t. t) (λ z. (z, refl)) (λ d is. is) kind h

pub interval_fault : (ms : Members) (kind : Kind) → NoIntegerFrom 1 600 (value_of ms keys.Interval) kind → KeyFault ms keys.Interval kind
interval_fault ms kind h = integer_fault ms keys.Interval 1 600 (λ d t. t) (λ z. (z, refl)) (λ d is. is) kind h

pub nominal_is : (ms : Members) (n : ℕ) → value_of ms keys.Nominal ≡ Some (integer (pos n)) → nominal_of ms ≡ n
nominal_is ms n e = ap natural_in e

pub uncertainty_fault : (ms : Members) (n : ℕ) (kind : Kind) → value_of ms keys.Nominal ≡ Some (integer (pos n)) → NoIntegerFrom 0 (10 * n) (value_of ms keys.Uncertainty) kind
    → KeyFault ms keys.Uncertainty kind
uncertainty_fault ms n kind e h =
    integer_fault ms keys.Uncertainty 0 (10 * n) (λ d t. t) (λ z. (z, refl)) (λ d is. subst (λ (m : ℕ). IsIntegerFrom 0 (10 * m) d) (nominal_is ms n e) is) kind h

pub integer_good : (ms : Members) (key : Key) (least most n : ℕ) → ((d : Data) → IsIntegerFrom least most d → IsIn (nominal_of ms) key d) → value_of ms key ≡ Some (integer (pos n))
    → least ≤ n → n ≤ most → IsGood ms key
integer_good ms key least most n set e a b = (integer (pos n), e, set (integer (pos n)) (n, refl, a, b))

pub nominal_good : (ms : Members) (n : ℕ) → value_of ms keys.Nominal ≡ Some (integer (pos n)) → 1000 ≤ n → n ≤ 1000000 → IsGood ms keys.Nominal
nominal_good ms n e a b = integer_good ms keys.Nominal 1000 1000000 n (λ d is. is) e a b

pub uncertainty_good : (ms : Members) (n u : ℕ) → value_of ms keys.Nominal ≡ Some (integer (pos n)) → value_of ms keys.Uncertainty ≡ Some (integer (pos u)) → u ≤ 10 * n
    → IsGood ms keys.Uncertainty
uncertainty_good ms n u e f b =
    integer_good ms keys.Uncertainty 0 (10 * n) u (λ d is. subst (λ (m : ℕ). IsIntegerFrom 0 (10 * m) d) (sym (nominal_is ms n e)) is) f (omega arith) b

pub run_in_good : (ms : Members) (n : ℕ) → value_of ms keys.RunIn ≡ Some (integer (pos n)) → n ≤ 60 → IsGood ms keys.RunIn
run_in_good ms n e b = integer_good ms keys.RunIn 0 60 n (λ d is. is) e (omega arith) b

pub dmax_fault : (ms : Members) (kind : Kind) → NoDmax (value_of ms keys.Dmax) kind → KeyFault ms keys.Dmax kind
dmax_fault ms kinds.Absent h = h
dmax_fault ms kinds.OtherType h = (h.0, h.1, λ t. h.2 t.0 t.1)
dmax_fault ms kinds.Range h = (integer h.0, h.1, (h.0, refl), λ is. h.2 is.0 (same_integers h.0 (pos is.0) is.1) is.2)
dmax_fault ms kinds.Toml h = h
dmax_fault ms kinds.Unknown h = h
dmax_fault ms kinds.Length h = h

pub dmax_good : (ms : Members) (n : ℕ) → value_of ms keys.Dmax ≡ Some (integer (pos n)) → IsDmax n → IsGood ms keys.Dmax
dmax_good ms n e is = (integer (pos n), e, (n, refl, is))

pub channels_fault : (ms : Members) (kind : Kind) → NoChannels (get_member (key_name keys.Channels) ms) kind → KeyFault ms keys.Channels kind
channels_fault ms kinds.Absent h = value_left_out ms keys.Channels h
channels_fault ms kinds.OtherType h = (h.0, value_given ms keys.Channels h.0 h.1, λ t. h.2 t.0 t.1)
channels_fault ms kinds.Range h = (
  array (integer_items h.0),
  value_given ms keys.Channels (array (integer_items h.0)) h.1,
  (h.0, refl),
  λ is. h.2 is.0 (sym (same_arrays h.0 (map (λ n. pos n) is.0) is.1)) is.2,
)
channels_fault ms kinds.Toml h = h
channels_fault ms kinds.Unknown h = h
channels_fault ms kinds.Length h = h

pub channels_good : (ms : Members) (ns : List ℕ) → get_member (key_name keys.Channels) ms ≡ Some (array (integer_items (map (λ n. pos n) ns))) → AreChannels ns → IsGood ms keys.Channels
channels_good ms ns e is =
    (array (integer_items (map (λ n. pos n) ns)), value_given ms keys.Channels (array (integer_items (map (λ n. pos n) ns))) e, (ns, refl, is))

-- the first fault of a key is the first fault of the bytes
pub fault_of_keys : (bytes : List ℕ) (ms : Members) → IsDocument bytes ms → are_known ms ≡ true → (number : ℕ) (kind : Kind) → IsFirstKeyFault ms number kind → IsFirstFault bytes number kind
fault_of_keys bytes ms doc known number kinds.Absent f = record { members = ms; document = doc; known = known; fault = f }
fault_of_keys bytes ms doc known number kinds.OtherType f = record { members = ms; document = doc; known = known; fault = f }
fault_of_keys bytes ms doc known number kinds.Range f = record { members = ms; document = doc; known = known; fault = f }
fault_of_keys bytes ms doc known number kinds.Toml f = absurd f.here
fault_of_keys bytes ms doc known number kinds.Unknown f = absurd f.here
fault_of_keys bytes ms doc known number kinds.Length f = absurd f.here

-- ---- the job

-- what the document has at each key
pub record HasValues (ms : Members) (j : Job) : Type 0 where
  pub lamp : value_of ms keys.Lamp ≡ Some (data_of j keys.Lamp)
  pub nominal : value_of ms keys.Nominal ≡ Some (data_of j keys.Nominal)
  pub uncertainty : value_of ms keys.Uncertainty ≡ Some (data_of j keys.Uncertainty)
  pub channels : value_of ms keys.Channels ≡ Some (data_of j keys.Channels)
  pub dmax : value_of ms keys.Dmax ≡ Some (data_of j keys.Dmax)
  pub run_in : value_of ms keys.RunIn ≡ Some (data_of j keys.RunIn)
  pub interval : value_of ms keys.Interval ≡ Some (data_of j keys.Interval)

-- the sets of a supply
pub record IsSupply (nominal uncertainty : ℕ) : Type 0 where
  pub low : 1000 ≤ nominal
  pub high : nominal ≤ 1000000
  pub few : uncertainty ≤ 10 * nominal

values : (ms : Members) (j : Job) → HasValues ms j → (key : Key) → value_of ms key ≡ Some (data_of j key)
values ms j h keys.Lamp = h.lamp
values ms j h keys.Nominal = h.nominal
values ms j h keys.Uncertainty = h.uncertainty
values ms j h keys.Channels = h.channels
values ms j h keys.Dmax = h.dmax
values ms j h keys.RunIn = h.run_in
values ms j h keys.Interval = h.interval

sets : (j : Job) → IsSupply j.supply.nominal_mv j.supply.uncertainty_uv → AreInSets j → (key : Key) → IsIn j.supply.nominal_mv key (data_of j key)
sets j s h keys.Lamp = (j.lamp, refl)
sets j s h keys.Nominal = (j.supply.nominal_mv, refl, s.low, s.high)
sets j s h keys.Uncertainty = (j.supply.uncertainty_uv, refl, omega arith, s.few)
sets j s h keys.Channels = (j.channels, refl, h.channels)
sets j s h keys.Dmax = (j.dmax_percent, refl, h.dmax)
sets j s h keys.RunIn = (j.run_in_s, refl, omega arith, h.run_in)
sets j s h keys.Interval = (j.interval_s, refl, h.interval_some, h.interval)

pub has_job : (ms : Members) (j : Job) → HasValues ms j → IsSupply j.supply.nominal_mv j.supply.uncertainty_uv → AreInSets j → HasJob ms j
has_job ms j v s h = record { values = values ms j v; sets = sets j s h }

pub same_number : (m n : ℕ) → integer (pos m) ≡ integer (pos n) → m ≡ n
same_number m n e = ap (λ (d : Data). natural_in (Some d)) e

-- the values of a job that a document has are in their sets
pub in_sets : (ms : Members) (j : Job) → HasJob ms j → AreInSets j
in_sets ms j h =
    let cs = h.sets keys.Channels in
    let dmax = h.sets keys.Dmax in
    let run_in = h.sets keys.RunIn in
    let interval = h.sets keys.Interval in
    let same_cs : j.channels ≡ cs.0 = same_naturals j.channels cs.0 (same_arrays (map (λ n. pos n) j.channels) (map (λ n. pos n) cs.0) cs.1) in
    let same_dmax : j.dmax_percent ≡ dmax.0 = same_number j.dmax_percent dmax.0 dmax.1 in
    let same_run_in : j.run_in_s ≡ run_in.0 = same_number j.run_in_s run_in.0 run_in.1 in
    let same_interval : j.interval_s ≡ interval.0 = same_number j.interval_s interval.0 interval.1 in
    record {
      channels = subst (λ (ns : List ℕ). AreChannels ns) (sym same_cs) cs.2;
      dmax = subst (λ (n : ℕ). IsDmax n) (sym same_dmax) dmax.2;
      run_in = omega (arith, same_run_in, run_in.3);
      interval_some = omega (arith, same_interval, interval.2);
      interval = omega (arith, same_interval, interval.3);
    }

-- ---- each key's turn

pub before_nominal : (ms : Members) → IsGood ms keys.Lamp → AreGoodBefore ms keys.Nominal
before_nominal ms a = before_next ms keys.Lamp keys.Nominal refl (before_first ms) a

pub before_uncertainty : (ms : Members) → IsGood ms keys.Lamp → IsGood ms keys.Nominal → AreGoodBefore ms keys.Uncertainty
before_uncertainty ms a b = before_next ms keys.Nominal keys.Uncertainty refl (before_nominal ms a) b

pub before_channels : (ms : Members) → IsGood ms keys.Lamp → IsGood ms keys.Nominal → IsGood ms keys.Uncertainty → AreGoodBefore ms keys.Channels
before_channels ms a b d = before_next ms keys.Uncertainty keys.Channels refl (before_uncertainty ms a b) d

pub before_dmax : (ms : Members) → AreGoodBefore ms keys.Channels → IsGood ms keys.Channels → AreGoodBefore ms keys.Dmax
before_dmax ms b d = before_next ms keys.Channels keys.Dmax refl b d

pub before_run_in : (ms : Members) → AreGoodBefore ms keys.Dmax → IsGood ms keys.Dmax → AreGoodBefore ms keys.RunIn
before_run_in ms b d = before_next ms keys.Dmax keys.RunIn refl b d

pub before_interval : (ms : Members) → AreGoodBefore ms keys.RunIn → IsGood ms keys.RunIn → AreGoodBefore ms keys.Interval
before_interval ms b d = before_next ms keys.RunIn keys.Interval refl b d

-- ---- arrays

pub channels_other : (v : Option Data) (d : Data) (ds : Items) (kind : Kind) → Some d ≡ v → Some ds ≡ as_array d → integers ds ≡ None → kind ≡ kinds.OtherType → NoChannels v kind
channels_other v d ds kind here items whole is =
    subst (λ (k : Kind). NoChannels v k) (sym is) (d, sym here, no_integers d (ap (λ (o : Option Items). option_and_then integers o) (sym items) ∙ whole))

pub channels_out : (v : Option Data) (d : Data) (ds : Items) (zs : List ℤ) (kind : Kind) → Some d ≡ v → Some ds ≡ as_array d → integers ds ≡ Some zs
    → ((ns : List ℕ) → map (λ n. pos n) ns ≡ zs → ¬ AreChannels ns) → kind ≡ kinds.Range → NoChannels v kind
channels_out v d ds zs kind here items whole out is =
    let array_is : d ≡ array (integer_items zs) = is_array d ds (sym items) ∙ ap array (are_integers ds zs whole) in
    subst (λ (k : Kind). NoChannels v k) (sym is) (zs, sym here ∙ ap (λ (x : Data). Some x) array_is, out)

pub channels_there : (v : Option Data) (d : Data) (ds : Items) (zs : List ℤ) (ns : List ℕ) → Some d ≡ v → Some ds ≡ as_array d → integers ds ≡ Some zs → map (λ n. pos n) ns ≡ zs
    → v ≡ Some (array (integer_items (map (λ n. pos n) ns)))
channels_there v d ds zs ns here items whole same =
    let array_is : d ≡ array (integer_items zs) = is_array d ds (sym items) ∙ ap array (are_integers ds zs whole) in
    sym here ∙ ap (λ (x : Data). Some x) (array_is ∙ ap (λ (x : List ℤ). array (integer_items x)) (sym same))
