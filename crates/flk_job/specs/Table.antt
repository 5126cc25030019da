-- The table of a job's keys: of each its number, its name, the TOML type of its value, the set of its value, and its
-- default. A document is the members that TOML's grammar gives for a text.
use Rattle.std.specs.Prelude.{◌≡◌, ◌≢◌, ◌⊎◌, ℕ, ◌*◌, ◌<◌, ◌≤◌, Bool, true, ◌&&◌, ◌||◌, List, [], ◌∷◌, length, map, slice_index_or, codes, Option, Some, None, ℤ, pos}
use Rattle.std.specs.Option.{option_or}
use Rattle.std.specs.List.{All}
use Rattle.std.specs.Str.{bytes_eq}
use Rattle.toml.specs.Data.{Data, string, integer, array, Items, no_items, item, Members, no_members, member, get_member}
use Rattle.flk_num.specs.declared.lamp.Lamp.{Lamp}
use Rattle.flk_num.specs.declared.lamp.Lamp.TheVariants.{L230, L120}
use Rattle.flk_job.specs.declared.key.Key.{Key}
use Rattle.flk_job.specs.declared.key.Key.TheVariants as keys

-- the number that is printed
abbrev pub key_number : Key → ℕ
key_number keys.Lamp = 1
key_number keys.Nominal = 2
key_number keys.Uncertainty = 3
key_number keys.Channels = 4
key_number keys.Dmax = 5
key_number keys.RunIn = 6
key_number keys.Interval = 7

abbrev pub key_name : Key → List ℕ
key_name keys.Lamp = codes "lamp"
key_name keys.Nominal = codes "nominal_mv"
key_name keys.Uncertainty = codes "uncertainty_uv"
key_name keys.Channels = codes "channels"
key_name keys.Dmax = codes "dmax"
key_name keys.RunIn = codes "run_in_s"
key_name keys.Interval = codes "interval_s"

-- what stands for a key that the document leaves out, in seconds
abbrev pub default_of : Key → Option Data
default_of keys.RunIn = Some (integer (pos 60))
default_of keys.Interval = Some (integer (pos 600))
default_of _ = None

-- the items of an array of integers
abbrev pub integer_items : List ℤ → Items
integer_items [] = no_items
integer_items (z ∷ zs) = item (integer z) (integer_items zs)

-- the value is of the key's TOML type: a string, an array of integers, or an integer
abbrev pub IsOfType : Key → Data → Type 0
IsOfType keys.Lamp d = (text : List ℕ) × (d ≡ string text)
IsOfType keys.Channels d = (zs : List ℤ) × (d ≡ array (integer_items zs))
IsOfType _ d = (z : ℤ) × (d ≡ integer z)

-- ---- the sets

abbrev pub lamp_name : Lamp → List ℕ
lamp_name L230 = codes "230/50"
lamp_name L120 = codes "120/60"

-- an integer from the least to the most
abbrev pub IsIntegerFrom : (least most : ℕ) → Data → Type 0
IsIntegerFrom least most d = (n : ℕ) × (d ≡ integer (pos n)) × (least ≤ n) × (n ≤ most)

-- 4, 6 or 7 percent
abbrev pub IsDmax : ℕ → Type 0
IsDmax n = (n ≡ 4) ⊎ ((n ≡ 6) ⊎ (n ≡ 7))

-- no number stands at two places
abbrev pub AreDifferent : List ℕ → Type 0
AreDifferent ns = (i j none : ℕ) → i < j → j < length ns → slice_index_or ns i none ≢ slice_index_or ns j none

-- 1 to 6 different numbers from 1 to 256
pub record AreChannels (ns : List ℕ) : Type 0 where
  pub some : 1 ≤ length ns
  pub few : length ns ≤ 6
  pub from : All (λ n. 1 ≤ n) ns
  pub to : All (λ n. n ≤ 256) ns
  pub different : AreDifferent ns

-- the value is in the key's set; that of the uncertainty depends on the nominal voltage in millivolts
abbrev pub IsIn : (nominal : ℕ) → Key → Data → Type 0
IsIn nominal keys.Lamp d = (lamp : Lamp) × (d ≡ string (lamp_name lamp))
IsIn nominal keys.Nominal d = IsIntegerFrom 1000 1000000 d
IsIn nominal keys.Uncertainty d = IsIntegerFrom 0 (10 * nominal) d
IsIn nominal keys.Channels d = (ns : List ℕ) × (d ≡ array (integer_items (map (λ n. pos n) ns))) × AreChannels ns
IsIn nominal keys.Dmax d = (n : ℕ) × (d ≡ integer (pos n)) × IsDmax n
IsIn nominal keys.RunIn d = IsIntegerFrom 0 60 d
IsIn nominal keys.Interval d = IsIntegerFrom 1 600 d

-- ---- what a document has

-- the value of a key: the document's, or else the default
abbrev pub value_of : Members → Key → Option Data
value_of ms key = option_or (get_member (key_name key) ms) (default_of key)

-- a natural number, and 0 for any other value
abbrev pub natural_in : Option Data → ℕ
natural_in (Some (integer (pos n))) = n
natural_in _ = 0

-- the nominal voltage of a document, in millivolts; where it has none, that is the first fault, and nothing rests on
-- the 0
abbrev pub nominal_of : Members → ℕ
nominal_of ms = natural_in (value_of ms keys.Nominal)

abbrev pub is_key_name : List ℕ → Bool
is_key_name name =
    bytes_eq name (key_name keys.Lamp) || (bytes_eq name (key_name keys.Nominal)
    || (bytes_eq name (key_name keys.Uncertainty) || (bytes_eq name (key_name keys.Channels)
    || (bytes_eq name (key_name keys.Dmax) || (bytes_eq name (key_name keys.RunIn)
    || bytes_eq name (key_name keys.Interval))))))

-- each key of the document is one of the table
abbrev pub are_known : Members → Bool
are_known no_members = true
are_known (member name d ms) = is_key_name name && are_known ms
