-- Bytes write one job, or have one first fault, and never both.
use Rattle.std.proofs.Common.{◌≡◌, ◌≢◌, ◌⊎◌, ℕ, ◌<◌, ◌≤◌, List, length, map, get_or, pos, refl, sym, ap, subst, ◌∙◌, true, false, ⊎_elim, arith, inl, inr}
use Rattle.std.proofs.lemmas.Bool.{cases_lt, false≢true}
use Rattle.std.proofs.lemmas.Option.{same_Some, none-some}
use Rattle.toml.specs.Data.{Data, string, Members}
use Rattle.flk_num.specs.declared.lamp.Lamp.{Lamp}
use Rattle.flk_num.specs.declared.lamp.Lamp.TheVariants.{L230, L120}
use Rattle.flk_job.specs.Table.{key_number, lamp_name, IsOfType, IsIn, value_of, nominal_of, are_known}
use Rattle.flk_job.specs.Job.{longest_job, data_of, HasJob, IsJob, AreSame, IsDocument, IsGood, KeyFault, IsFirstKeyFault, IsFaultOfKeys, IsFirstFault}
use Rattle.flk_job.specs.declared.key.Key.{Key}
use Rattle.flk_job.specs.declared.key.Key.TheVariants as keys
use Rattle.flk_job.specs.declared.kind.Kind.{Kind}
use Rattle.flk_job.specs.declared.kind.Kind.TheVariants as kinds
use Rattle.flk_job.specs.declared.job.Job.{Job}
use Rattle.flk_job.proofs.DataLemmas.{same_strings, same_arrays, same_naturals}
use Rattle.flk_job.proofs.KeyLemmas.{same_key, nominal_is, same_number}

same_members : (bytes : List ℕ) (ms ns : Members) → IsDocument bytes ms → IsDocument bytes ns → ms ≡ ns
same_members bytes ms ns a b = same_Some ms ns (sym a.parsed ∙ b.parsed)

type_of_set : (n : ℕ) (key : Key) (d : Data) → IsIn n key d → IsOfType key d
type_of_set n keys.Lamp d is = (_, is.1)
type_of_set n keys.Nominal d is = (_, is.1)
type_of_set n keys.Uncertainty d is = (_, is.1)
type_of_set n keys.Channels d is = (_, is.1)
type_of_set n keys.Dmax d is = (_, is.1)
type_of_set n keys.RunIn d is = (_, is.1)
type_of_set n keys.Interval d is = (_, is.1)

-- a good value is at no fault
good_has_no_fault : (ms : Members) (key : Key) (kind : Kind) → IsGood ms key → KeyFault ms key kind → ⊥
good_has_no_fault ms key kinds.Absent good fault = none-some good.0 (sym fault ∙ good.1)
good_has_no_fault ms key kinds.OtherType good fault =
    fault.2 (subst (λ (d : Data). IsOfType key d) (same_Some good.0 fault.0 (sym good.1 ∙ fault.1)) (type_of_set (nominal_of ms) key good.0 good.2))
good_has_no_fault ms key kinds.Range good fault =
    fault.3 (subst (λ (d : Data). IsIn (nominal_of ms) key d) (same_Some good.0 fault.0 (sym good.1 ∙ fault.1)) good.2)
good_has_no_fault ms key kinds.Toml good fault = fault
good_has_no_fault ms key kinds.Unknown good fault = fault
good_has_no_fault ms key kinds.Length good fault = fault

-- at each key the document of a job is good
job_is_good : (ms : Members) (j : Job) → HasJob ms j → (key : Key) → IsGood ms key
job_is_good ms j h key =
    let n : nominal_of ms ≡ j.supply.nominal_mv = nominal_is ms j.supply.nominal_mv (h.values keys.Nominal) in
    (data_of j key, h.values key, subst (λ (m : ℕ). IsIn m key (data_of j key)) (sym n) (h.sets key))

one_value : (bytes : List ℕ) (i j : Job) → IsJob bytes i → IsJob bytes j → (key : Key) → data_of i key ≡ data_of j key
one_value bytes i j a b key =
    let same = same_members bytes a.members b.members a.document b.document in
    same_Some (data_of i key) (data_of j key) (sym (a.job.values key) ∙ ap (λ (ms : Members). value_of ms key) same ∙ b.job.values key)

names_differ : lamp_name L230 ≢ lamp_name L120
names_differ e = let first : 50 ≡ 49 = ap (λ (text : List ℕ). get_or text 0 0) e in omega (arith, first)

same_lamp : (m n : Lamp) → string (lamp_name m) ≡ string (lamp_name n) → m ≡ n
same_lamp L230 L230 e = refl
same_lamp L230 L120 e = absurd (names_differ (same_strings (lamp_name L230) (lamp_name L120) e))
same_lamp L120 L230 e = absurd (names_differ (sym (same_strings (lamp_name L120) (lamp_name L230) e)))
same_lamp L120 L120 e = refl

-- bytes write one job
pub one_job : (bytes : List ℕ) (i j : Job) → IsJob bytes i → IsJob bytes j → AreSame i j
one_job bytes i j a b =
    let same = one_value bytes i j a b in
    record {
      lamp = same_lamp i.lamp j.lamp (same keys.Lamp);
      nominal = same_number i.supply.nominal_mv j.supply.nominal_mv (same keys.Nominal);
      uncertainty = same_number i.supply.uncertainty_uv j.supply.uncertainty_uv (same keys.Uncertainty);
      channels = same_naturals i.channels j.channels (same_arrays (map (λ n. pos n) i.channels) (map (λ n. pos n) j.channels) (same keys.Channels));
      dmax = same_number i.dmax_percent j.dmax_percent (same keys.Dmax);
      run_in = same_number i.run_in_s j.run_in_s (same keys.RunIn);
      interval = same_number i.interval_s j.interval_s (same keys.Interval);
    }

no_key_fault : (bytes : List ℕ) (j : Job) (number : ℕ) (kind : Kind) → IsJob bytes j → IsFaultOfKeys bytes number kind → ⊥
no_key_fault bytes j number kind a b =
    let same = same_members bytes b.members a.members b.document a.document in
    good_has_no_fault a.members b.fault.key kind (job_is_good a.members j a.job b.fault.key) (subst (λ (ms : Members). KeyFault ms b.fault.key kind) same b.fault.here)

pub job_has_no_fault : (bytes : List ℕ) (j : Job) (number : ℕ) (kind : Kind) → IsJob bytes j → IsFirstFault bytes number kind → ⊥
job_has_no_fault bytes j number kinds.Length a b = omega (arith, a.document.short, b.1)
job_has_no_fault bytes j number kinds.Toml a b = b.2 a.members a.document
job_has_no_fault bytes j number kinds.Unknown a b =
    false≢true (sym b.3 ∙ ap are_known (same_members bytes b.1 a.members b.2 a.document) ∙ a.known)
job_has_no_fault bytes j number kinds.Absent a b = no_key_fault bytes j number kinds.Absent a b
job_has_no_fault bytes j number kinds.OtherType a b = no_key_fault bytes j number kinds.OtherType a b
job_has_no_fault bytes j number kinds.Range a b = no_key_fault bytes j number kinds.Range a b

-- ---- the first fault is one

-- a key has one fault
one_key_kind : (ms : Members) (key : Key) (k l : Kind) → KeyFault ms key k → KeyFault ms key l → k ≡ l
one_key_kind ms key kinds.Absent kinds.Absent a b = refl
one_key_kind ms key kinds.Absent kinds.OtherType a b = absurd (none-some b.0 (sym a ∙ b.1))
one_key_kind ms key kinds.Absent kinds.Range a b = absurd (none-some b.0 (sym a ∙ b.1))
one_key_kind ms key kinds.OtherType kinds.Absent a b = absurd (none-some a.0 (sym b ∙ a.1))
one_key_kind ms key kinds.OtherType kinds.OtherType a b = refl
one_key_kind ms key kinds.OtherType kinds.Range a b = absurd (a.2 (subst (λ (d : Data). IsOfType key d) (same_Some b.0 a.0 (sym b.1 ∙ a.1)) b.2))
one_key_kind ms key kinds.Range kinds.Absent a b = absurd (none-some a.0 (sym b ∙ a.1))
one_key_kind ms key kinds.Range kinds.OtherType a b = absurd (b.2 (subst (λ (d : Data). IsOfType key d) (same_Some a.0 b.0 (sym a.1 ∙ b.1)) a.2))
one_key_kind ms key kinds.Range kinds.Range a b = refl
one_key_kind ms key kinds.Toml l a b = absurd a
one_key_kind ms key kinds.Unknown l a b = absurd a
one_key_kind ms key kinds.Length l a b = absurd a
one_key_kind ms key k kinds.Toml a b = absurd b
one_key_kind ms key k kinds.Unknown a b = absurd b
one_key_kind ms key k kinds.Length a b = absurd b

abbrev AreOne : (number other : ℕ) → Kind → Kind → Type 0
AreOne number other k l = (number ≡ other) × (k ≡ l)

one_first_key : (ms : Members) (number other : ℕ) (k l : Kind) → IsFirstKeyFault ms number k → IsFirstKeyFault ms other l → AreOne number other k l
one_first_key ms number other k l p q =
    ⊎_elim
    (λ less. absurd (good_has_no_fault ms p.key k (q.before p.key less) p.here))
    (λ most. ⊎_elim
    (λ less. absurd (good_has_no_fault ms q.key l (p.before q.key less) q.here))
    (λ least. let same : q.key ≡ p.key = same_key q.key p.key (omega (arith, most, least)) in (
      p.number_is ∙ ap key_number (sym same) ∙ sym q.number_is,
      one_key_kind ms p.key k l p.here (subst (λ (x : Key). KeyFault ms x l) same q.here),
    ))
    (cases_lt (key_number q.key) (key_number p.key)))
    (cases_lt (key_number p.key) (key_number q.key))

one_of_keys : (bytes : List ℕ) (number other : ℕ) (k l : Kind) → IsFaultOfKeys bytes number k → IsFaultOfKeys bytes other l → AreOne number other k l
one_of_keys bytes number other k l p q =
    let same = same_members bytes q.members p.members q.document p.document in
    one_first_key p.members number other k l p.fault (subst (λ (ms : Members). IsFirstKeyFault ms other l) same q.fault)

-- a fault of the document as a whole
abbrev IsWholeFault : List ℕ → (number : ℕ) → Kind → Type 0
IsWholeFault bytes number kinds.Length = (number ≡ 0) × (longest_job < length bytes)
IsWholeFault bytes number kinds.Toml = (number ≡ 0) × (length bytes ≤ longest_job) × ((ms : Members) → ¬ IsDocument bytes ms)
IsWholeFault bytes number kinds.Unknown = (number ≡ 0) × (ms : Members) × IsDocument bytes ms × (are_known ms ≡ false)
IsWholeFault bytes number _ = ⊥

fault_cases : (bytes : List ℕ) (number : ℕ) (kind : Kind) → IsFirstFault bytes number kind → IsWholeFault bytes number kind ⊎ IsFaultOfKeys bytes number kind
fault_cases bytes number kinds.Length h = inl h
fault_cases bytes number kinds.Toml h = inl h
fault_cases bytes number kinds.Unknown h = inl h
fault_cases bytes number kinds.Absent h = inr h
fault_cases bytes number kinds.OtherType h = inr h
fault_cases bytes number kinds.Range h = inr h

-- the keys of a known document are not at fault as such
known_has_no_fault : (bytes : List ℕ) (ms : Members) (number : ℕ) (kind : Kind) → IsDocument bytes ms → are_known ms ≡ true → IsWholeFault bytes number kind → ⊥
known_has_no_fault bytes ms number kinds.Length doc known h = omega (arith, doc.short, h.1)
known_has_no_fault bytes ms number kinds.Toml doc known h = h.2 ms doc
known_has_no_fault bytes ms number kinds.Unknown doc known h = false≢true (sym h.3 ∙ ap are_known (same_members bytes h.1 ms h.2 doc) ∙ known)
known_has_no_fault bytes ms number kinds.Absent doc known h = h
known_has_no_fault bytes ms number kinds.OtherType doc known h = h
known_has_no_fault bytes ms number kinds.Range doc known h = h

one_whole : (bytes : List ℕ) (number other : ℕ) (k l : Kind) → IsWholeFault bytes number k → IsWholeFault bytes other l → AreOne number other k l
one_whole bytes number other kinds.Length kinds.Length h k = (h.0 ∙ sym k.0, refl)
one_whole bytes number other kinds.Length kinds.Toml h k = absurd (omega (arith, h.1, k.1))
one_whole bytes number other kinds.Length kinds.Unknown h k = absurd (omega (arith, h.1, k.2.short))
one_whole bytes number other kinds.Toml kinds.Length h k = absurd (omega (arith, k.1, h.1))
one_whole bytes number other kinds.Toml kinds.Toml h k = (h.0 ∙ sym k.0, refl)
one_whole bytes number other kinds.Toml kinds.Unknown h k = absurd (h.2 k.1 k.2)
one_whole bytes number other kinds.Unknown kinds.Length h k = absurd (omega (arith, k.1, h.2.short))
one_whole bytes number other kinds.Unknown kinds.Toml h k = absurd (k.2 h.1 h.2)
one_whole bytes number other kinds.Unknown kinds.Unknown h k = (h.0 ∙ sym k.0, refl)
one_whole bytes number other kinds.Absent l h k = absurd h
one_whole bytes number other kinds.OtherType l h k = absurd h
one_whole bytes number other kinds.Range l h k = absurd h
one_whole bytes number other k kinds.Absent h f = absurd f
one_whole bytes number other k kinds.OtherType h f = absurd f
one_whole bytes number other k kinds.Range h f = absurd f

pub one_first_fault : (bytes : List ℕ) (number other : ℕ) (k l : Kind) → IsFirstFault bytes number k → IsFirstFault bytes other l → AreOne number other k l
one_first_fault bytes number other k l h f =
    elim (fault_cases bytes number k h) [
      | inl whole ↦ elim (fault_cases bytes other l f) [
        | inl second ↦ one_whole bytes number other k l whole second
        | inr keys_at ↦ absurd (known_has_no_fault bytes keys_at.members number k keys_at.document keys_at.known whole)
      ]
      | inr keys_at ↦ elim (fault_cases bytes other l f) [
        | inl whole ↦ absurd (known_has_no_fault bytes keys_at.members other l keys_at.document keys_at.known whole)
        | inr second ↦ one_of_keys bytes number other k l keys_at second
      ]
    ]
