-- What the parts of the reader answer. Contracts of private functions cite this file: `Job` says what a job is.
use Rattle.std.specs.Prelude.{◌≡◌, ◌≢◌, ℕ, ◌≤◌, List, [], ◌∷◌, map, Option, Some, None, ℤ, pos}
use Rattle.std.specs.Option.{option_and_then}
use Rattle.toml.specs.Data.{Data, string, integer, array, Items, no_items, item, Members, as_integer}
use Rattle.flk_num.specs.declared.lamp.Lamp.{Lamp}
use Rattle.flk_num.specs.declared.stop.Stop.{Stop}
use Rattle.flk_num.specs.declared.stop.Stop.TheVariants as stop
use Rattle.flk_job.specs.Table.{integer_items, lamp_name, IsDmax, AreChannels}
use Rattle.flk_job.specs.Job.{IsFirstKeyFault}
use Rattle.flk_job.specs.declared.kind.Fault.{Fault}
use Rattle.flk_job.specs.declared.kind.Kind.{Kind}
use Rattle.flk_job.specs.declared.kind.Kind.TheVariants as kinds

abbrev pub IsKeyFault : Members → Fault → Type 0
IsKeyFault ms f = IsFirstKeyFault ms f.key f.kind

-- ---- no value of a form that is asked for

abbrev pub NoLamp : Option Data → Kind → Type 0
NoLamp v kinds.Absent = v ≡ None
NoLamp v kinds.OtherType = (d : Data) × (v ≡ Some d) × ((text : List ℕ) → d ≢ string text)
NoLamp v kinds.Range = (text : List ℕ) × (v ≡ Some (string text)) × ((lamp : Lamp) → text ≢ lamp_name lamp)
NoLamp v _ = ⊥

abbrev pub NoInteger : Option Data → Kind → Type 0
NoInteger v kinds.Absent = v ≡ None
NoInteger v kinds.OtherType = (d : Data) × (v ≡ Some d) × ((z : ℤ) → d ≢ integer z)
NoInteger v _ = ⊥

abbrev pub NoIntegerFrom : (least most : ℕ) → Option Data → Kind → Type 0
NoIntegerFrom least most v kinds.Absent = v ≡ None
NoIntegerFrom least most v kinds.OtherType = (d : Data) × (v ≡ Some d) × ((z : ℤ) → d ≢ integer z)
NoIntegerFrom least most v kinds.Range =
    (z : ℤ) × (v ≡ Some (integer z)) × ((n : ℕ) → z ≡ pos n → least ≤ n → ¬ (n ≤ most))
NoIntegerFrom least most v _ = ⊥

abbrev pub NoDmax : Option Data → Kind → Type 0
NoDmax v kinds.Absent = v ≡ None
NoDmax v kinds.OtherType = (d : Data) × (v ≡ Some d) × ((z : ℤ) → d ≢ integer z)
NoDmax v kinds.Range = (z : ℤ) × (v ≡ Some (integer z)) × ((n : ℕ) → z ≡ pos n → ¬ IsDmax n)
NoDmax v _ = ⊥

abbrev pub NoChannels : Option Data → Kind → Type 0
NoChannels v kinds.Absent = v ≡ None
NoChannels v kinds.OtherType = (d : Data) × (v ≡ Some d) × ((zs : List ℤ) → d ≢ array (integer_items zs))
NoChannels v kinds.Range =
    (zs : List ℤ) × (v ≡ Some (array (integer_items zs)))
    × ((ns : List ℕ) → map (λ n. pos n) ns ≡ zs → ¬ AreChannels ns)
NoChannels v _ = ⊥

-- the integers of an array, where each item is one
abbrev pub integers : Items → Option (List ℤ)
integers no_items = Some []
integers (item d ds) = option_and_then (λ z. option_and_then (λ zs. Some (z ∷ zs)) (integers ds)) (as_integer d)
