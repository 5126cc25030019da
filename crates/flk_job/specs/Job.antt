-- The job file: which bytes write which job, and the first fault of bytes that write none. A document is what the
-- library `toml` defines of a text, by the grammar of TOML 1.1.
use Rattle.std.specs.Prelude.{◌≡◌, ℕ, ◌<◌, ◌≤◌, true, false, List, length, map, Some, None, Result, Ok, Err, pos}
use Rattle.std.specs.Str.{IsUtf8}
use Rattle.toml.specs.Data.{Data, string, integer, array, Members}
use Rattle.toml.specs.Parse.{parse_document}
use Rattle.flk_num.specs.declared.stop.Stop.{Stop}
use Rattle.flk_num.specs.declared.stop.Stop.TheVariants as stop
use Rattle.flk_job.specs.Kinds.{kind_number}
use Rattle.flk_job.specs.Table.{key_number, integer_items, IsOfType, lamp_name, IsDmax, AreChannels, IsIn, value_of, nominal_of, are_known}
use Rattle.flk_job.specs.declared.key.Key.{Key}
use Rattle.flk_job.specs.declared.key.Key.TheVariants as keys
use Rattle.flk_job.specs.declared.kind.Kind.{Kind}
use Rattle.flk_job.specs.declared.kind.Kind.TheVariants as kinds
use Rattle.flk_job.specs.declared.kind.JobFault.{JobFault}
use Rattle.flk_job.specs.declared.job.Job.{Job}

-- the most bytes of a job file
abbrev pub longest_job : ℕ
longest_job = 65536

-- the bytes are a TOML document with these members
pub record IsDocument (bytes : List ℕ) (ms : Members) : Type 0 where
  pub short : length bytes ≤ longest_job
  pub text : IsUtf8 bytes
  pub parsed : parse_document bytes ≡ Some ms

-- the value of a job at a key
abbrev pub data_of : Job → Key → Data
data_of j keys.Lamp = string (lamp_name j.lamp)
data_of j keys.Nominal = integer (pos j.supply.nominal_mv)
data_of j keys.Uncertainty = integer (pos j.supply.uncertainty_uv)
data_of j keys.Channels = array (integer_items (map (λ n. pos n) j.channels))
data_of j keys.Dmax = integer (pos j.dmax_percent)
data_of j keys.RunIn = integer (pos j.run_in_s)
data_of j keys.Interval = integer (pos j.interval_s)

-- at each key the document has the job's value, which is in the key's set
pub record HasJob (ms : Members) (j : Job) : Type 0 where
  pub values : (key : Key) → value_of ms key ≡ Some (data_of j key)
  pub sets : (key : Key) → IsIn j.supply.nominal_mv key (data_of j key)

-- the bytes write the job
pub record IsJob (bytes : List ℕ) (j : Job) : Type 0 where
  pub members : Members
  pub document : IsDocument bytes members
  pub known : are_known members ≡ true
  pub job : HasJob members j

-- the seven values of two jobs are the same
pub record AreSame (i j : Job) : Type 0 where
  pub lamp : i.lamp ≡ j.lamp
  pub nominal : i.supply.nominal_mv ≡ j.supply.nominal_mv
  pub uncertainty : i.supply.uncertainty_uv ≡ j.supply.uncertainty_uv
  pub channels : i.channels ≡ j.channels
  pub dmax : i.dmax_percent ≡ j.dmax_percent
  pub run_in : i.run_in_s ≡ j.run_in_s
  pub interval : i.interval_s ≡ j.interval_s

-- The values of a job are in the sets of the table, those of its supply by the supply's own facts.
pub record AreInSets (j : Job) : Type 0 where
  pub channels : AreChannels j.channels
  pub dmax : IsDmax j.dmax_percent
  pub run_in : j.run_in_s ≤ 60
  pub interval_some : 1 ≤ j.interval_s
  pub interval : j.interval_s ≤ 600

-- ---- the first fault

-- the document has a value at the key, and it is in the key's set
abbrev pub IsGood : Members → Key → Type 0
IsGood ms key = (d : Data) × (value_of ms key ≡ Some d) × IsIn (nominal_of ms) key d

-- the document has no value at the key, one of another type, or one out of the key's set
abbrev pub KeyFault : Members → Key → Kind → Type 0
KeyFault ms key kinds.Absent = value_of ms key ≡ None
KeyFault ms key kinds.OtherType = (d : Data) × (value_of ms key ≡ Some d) × (¬ IsOfType key d)
KeyFault ms key kinds.Range = (d : Data) × (value_of ms key ≡ Some d) × IsOfType key d × (¬ IsIn (nominal_of ms) key d)
KeyFault ms key _ = ⊥

-- the keys before this one are good
abbrev pub AreGoodBefore : Members → Key → Type 0
AreGoodBefore ms key = (k : Key) → key_number k < key_number key → IsGood ms k

-- a key is at fault, and those before it are good
pub record IsFirstKeyFault (ms : Members) (number : ℕ) (kind : Kind) : Type 0 where
  pub key : Key
  pub number_is : number ≡ key_number key
  pub before : AreGoodBefore ms key
  pub here : KeyFault ms key kind

-- the bytes are a document whose keys are those of a job, and this is the first fault of a key
pub record IsFaultOfKeys (bytes : List ℕ) (number : ℕ) (kind : Kind) : Type 0 where
  pub members : Members
  pub document : IsDocument bytes members
  pub known : are_known members ≡ true
  pub fault : IsFirstKeyFault members number kind

-- the first fault: of the length, of the document, of its keys as such, or of a key's value
abbrev pub IsFirstFault : List ℕ → (number : ℕ) → Kind → Type 0
IsFirstFault bytes number kinds.Length = (number ≡ 0) × (longest_job < length bytes)
IsFirstFault bytes number kinds.Toml =
    (number ≡ 0) × (length bytes ≤ longest_job) × ((ms : Members) → ¬ IsDocument bytes ms)
IsFirstFault bytes number kinds.Unknown = (number ≡ 0) × (ms : Members) × IsDocument bytes ms × (are_known ms ≡ false)
IsFirstFault bytes number kinds.Absent = IsFaultOfKeys bytes number kinds.Absent
IsFirstFault bytes number kinds.OtherType = IsFaultOfKeys bytes number kinds.OtherType
IsFirstFault bytes number kinds.Range = IsFaultOfKeys bytes number kinds.Range

-- the job, or the first fault with the number of its kind; want of memory says nothing
abbrev pub IsJobAnswer : List ℕ → Result Job (Stop JobFault) → Type 0
IsJobAnswer bytes (Ok j) = IsJob bytes j
IsJobAnswer bytes (Err (stop.Fault f)) = (kind : Kind) × (f.kind ≡ kind_number kind) × IsFirstFault bytes f.key kind
IsJobAnswer bytes (Err stop.OutOfMemory) = Unit {0}
