-- What `gen SEED SECONDS CFG DAT` answers and appends, by the words alone: a generated recording under two names, and a
-- summary.
use Rattle.std.specs.Prelude.{◌≡◌, ℕ, ◌-◌, List, [], ◌∷◌, ◌++◌, codes}
use Rattle.std.specs.Fmt.{decimal, signed_decimal}
use Rattle.flk_gen.specs.Recording.{records_in, generated_text, generated_data}
use Rattle.flk_gen.specs.Workload.{value}
use Rattle.flk_top.specs.Outcome.{Outcome}
use Rattle.flk_top.specs.declared.command.GenCommand.{GenCommand}

-- The summary of a recording of so many records: their count, and the values of the last one. (Appended from the right,
-- as a format is.)
abbrev pub gen_text : (seed records : ℕ) → List ℕ
gen_text seed records =
    codes "gen\nrecords " ++ (decimal records ++ (codes "\nlast " ++ (signed_decimal (value seed 0 (records - 1))
    ++ (codes " " ++ (signed_decimal (value seed 1 (records - 1)) ++ (codes " "
    ++ (signed_decimal (value seed 2 (records - 1)) ++ codes "\n")))))))

-- The outcome of a seed and so many seconds: the configuration goes under the first name, and then the data under the
-- second.
abbrev pub gen_outcome : GenCommand → (configuration data_file : List ℕ) → Outcome
gen_outcome command configuration data_file = record {
  status = 0;
  text = gen_text command.seed (records_in command.seconds);
  pieces = record { name = configuration; bytes = generated_text command.seconds }
      ∷ record { name = data_file; bytes = generated_data command.seed command.seconds } ∷ [];
}

abbrev pub IsDueForGen : GenCommand → (configuration data_file : List ℕ) → Outcome → Type 0
IsDueForGen command configuration data_file o = o ≡ gen_outcome command configuration data_file
