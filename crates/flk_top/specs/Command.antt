-- The words of the commands `levels CFG DAT CHANNEL NOMINAL_MV UNCERTAINTY_UV`, `check CFG DAT`, `tables LAMP [RATE]`,
-- `report JOB CFG DAT WORKERS` and `gen SEED SECONDS CFG DAT`, and which files each reads and adds to.
use Rattle.std.specs.Prelude.{◌≡◌, ◌≢◌, ◌⊎◌, ℕ, ◌*◌, ◌-◌, ◌^◌, ◌≤◌, List, [], ◌∷◌, Contains, length, slice_index_or, codes}
use Rattle.std.specs.Str.Parse.{IsNumeral, digits_value}
use Rattle.flk_num.specs.declared.lamp.Lamp.{Lamp}
use Rattle.flk_num.specs.declared.rate.Rate.{Rate}
use Rattle.flk_num.specs.declared.rate.Rate.TheVariants.{R2400}
use Rattle.flk_cfg.specs.Canonical.{rate_text}
use Rattle.flk_job.specs.Table.{lamp_name}
use Rattle.flk_top.specs.declared.command.Command.{Command}
use Rattle.flk_top.specs.declared.command.Command.TheVariants.{Levels, Check, Tables, Report, Gen}

-- one to ten decimal digits, and the number that they write
pub record IsNumber (word : List ℕ) (n : ℕ) : Type 0 where
  pub numeral : IsNumeral 10 word
  pub short : length word ≤ 10
  pub value : digits_value 10 word ≡ n

-- a number word from low to high
pub record IsNumberIn (low high : ℕ) (word : List ℕ) (n : ℕ) : Type 0 where
  pub number : IsNumber word n
  pub at_least : low ≤ n
  pub at_most : n ≤ high

abbrev pub word : List (List ℕ) → ℕ → List ℕ
word words i = slice_index_or words i []

abbrev pub configuration_name : List (List ℕ) → List ℕ
configuration_name words = word words 1

abbrev pub data_name : List (List ℕ) → List ℕ
data_name words = word words 2

-- The words have the shape of `levels`, with this channel (from 1), nominal voltage in millivolts and uncertainty in
-- microvolts, which is at most a hundredth of nominal. The two file names differ.
pub record IsLevels (words : List (List ℕ)) (channel nominal uncertainty : ℕ) : Type 0 where
  pub count : length words ≡ 6
  pub command : word words 0 ≡ codes "levels"
  pub names : configuration_name words ≢ data_name words
  pub channel_word : IsNumberIn 1 256 (word words 3) channel
  pub nominal_word : IsNumberIn 1000 1000000 (word words 4) nominal
  pub uncertainty_word : IsNumberIn 0 (10 * nominal) (word words 5) uncertainty

-- The words have the shape of `check`. The two file names differ.
pub record IsCheck (words : List (List ℕ)) : Type 0 where
  pub count : length words ≡ 3
  pub command : word words 0 ≡ codes "check"
  pub names : configuration_name words ≢ data_name words

-- no word stands for the rate of 2400 samples a second, and the word of a rate, as a configuration writes it, for
-- that rate
abbrev pub AsksRate : List (List ℕ) → Rate → Type 0
AsksRate words rate = ((length words ≡ 2) × (rate ≡ R2400)) ⊎ ((length words ≡ 3) × (word words 2 ≡ rate_text rate))

-- the words have the shape of `tables`, with this lamp, and this rate where it is named
pub record IsTables (words : List (List ℕ)) (lamp : Lamp) (rate : Rate) : Type 0 where
  pub command : word words 0 ≡ codes "tables"
  pub lamp_is : word words 1 ≡ lamp_name lamp
  pub rate_is : AsksRate words rate

-- the names of a report's job, configuration and data
abbrev pub job_name : List (List ℕ) → List ℕ
job_name words = word words 1

abbrev pub report_configuration_name : List (List ℕ) → List ℕ
report_configuration_name words = word words 2

abbrev pub report_data_name : List (List ℕ) → List ℕ
report_data_name words = word words 3

-- no two of the three names are the same
pub record AreReportNames (words : List (List ℕ)) : Type 0 where
  pub job_configuration : job_name words ≢ report_configuration_name words
  pub job_data : job_name words ≢ report_data_name words
  pub configuration_data : report_configuration_name words ≢ report_data_name words

-- the words have the shape of `report`, with this number of workers
pub record IsReport (words : List (List ℕ)) (workers : ℕ) : Type 0 where
  pub count : length words ≡ 5
  pub command : word words 0 ≡ codes "report"
  pub names : AreReportNames words
  pub workers_word : IsNumberIn 1 16 (word words 4) workers

-- the names under which `gen` puts the configuration and the data
abbrev pub gen_configuration_name : List (List ℕ) → List ℕ
gen_configuration_name words = word words 3

abbrev pub gen_data_name : List (List ℕ) → List ℕ
gen_data_name words = word words 4

-- The words have the shape of `gen`, with this seed and so many seconds. The two file names differ.
pub record IsGen (words : List (List ℕ)) (seed seconds : ℕ) : Type 0 where
  pub count : length words ≡ 5
  pub command : word words 0 ≡ codes "gen"
  pub names : gen_configuration_name words ≢ gen_data_name words
  pub seed_word : IsNumberIn 0 (2 ^ 32 - 1) (word words 1) seed
  pub seconds_word : IsNumberIn 1 8000 (word words 2) seconds

-- the words ask for this command
abbrev pub Asks : List (List ℕ) → Command → Type 0
Asks words (Levels command) = IsLevels words command.channel command.supply.nominal_mv command.supply.uncertainty_uv
Asks words Check = IsCheck words
Asks words (Tables lamp rate) = IsTables words lamp rate
Asks words (Report command) = IsReport words command.workers
Asks words (Gen command) = IsGen words command.seed command.seconds

-- the words ask for no command
abbrev pub IsNoCommand : List (List ℕ) → Type 0
IsNoCommand words = (q : Command) → ¬ Asks words q

-- the names of the files that a command reads, in the order in which it comes to them
abbrev pub inputs_of : Command → List (List ℕ) → List (List ℕ)
inputs_of (Levels command) words = configuration_name words ∷ data_name words ∷ []
inputs_of Check words = configuration_name words ∷ data_name words ∷ []
inputs_of (Tables lamp rate) words = []
inputs_of (Report command) words = job_name words ∷ report_configuration_name words ∷ report_data_name words ∷ []
inputs_of (Gen command) words = []

-- the names of the files that a command appends to, in the order in which it comes to them
abbrev pub outputs_of : Command → List (List ℕ) → List (List ℕ)
outputs_of (Gen command) words = gen_configuration_name words ∷ gen_data_name words ∷ []
outputs_of q words = []

-- the name is one of the files that the words' command reads
abbrev pub IsInput : List (List ℕ) → List ℕ → Type 0
IsInput words name = (q : Command) × Asks words q × Contains (inputs_of q words) name

-- the name is one of the files that the words' command appends to
abbrev pub IsOutput : List (List ℕ) → List ℕ → Type 0
IsOutput words name = (q : Command) × Asks words q × Contains (outputs_of q words) name
