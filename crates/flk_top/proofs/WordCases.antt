-- Words have the shape of a command, or of none.
use Rattle.std.proofs.Common.{◌≡◌, ◌≢◌, ◌⊎◌, ℕ, ◌*◌, ◌-◌, ◌^◌, List, [], ◌∷◌, length, codes, refl, subst, arith, inl, inr}
use Rattle.std.specs.Char.{digit_value}
use Rattle.std.specs.Str.Parse.{AllDigits, digits_value}
use Rattle.std.proofs.lemmas.Bool.{cases_lt, cases_eq}
use Rattle.flk_field.proofs.SetCases.{same_text}
use Rattle.flk_num.specs.declared.lamp.Lamp.{Lamp}
use Rattle.flk_num.specs.declared.rate.Rate.{Rate}
use Rattle.flk_num.specs.declared.rate.Rate.TheVariants.{R2400, R4800}
use Rattle.flk_cfg.specs.Canonical.{rate_text}
use Rattle.flk_job.proofs.JobCases.{lamp_name_cases}
use Rattle.flk_top.specs.Command.{IsNumber, IsNumberIn, word, configuration_name, data_name, IsLevels, IsCheck, AsksRate, IsTables, Asks, IsNoCommand}
use Rattle.flk_top.specs.Command.{job_name, report_configuration_name, report_data_name, AreReportNames, IsReport, gen_configuration_name, gen_data_name, IsGen}
use Rattle.flk_top.specs.declared.command.LevelsCommand.{LevelsCommand}
use Rattle.flk_top.specs.declared.command.Command.{Command}
use Rattle.flk_top.specs.declared.command.Command.TheVariants.{Levels, Check, Tables, Report, Gen}
use Rattle.flk_top.proofs.OneCommand.{one_number}

-- ---- numbers

digits_cases : (ds : List ℕ) → AllDigits 10 ds ⊎ ¬ AllDigits 10 ds
digits_cases [] = inl tt
digits_cases (d ∷ ds) =
    elim (cases_lt (digit_value d) 10) [
      | inr high ↦ inr (λ all. omega (arith, high, all.0))
      | inl digit ↦ elim (digits_cases ds) [
        | inl rest ↦ inl (digit, rest)
        | inr other ↦ inr (λ all. other all.1)
      ]
    ]

number_cases : (text : List ℕ) → ((n : ℕ) × IsNumber text n) ⊎ ((n : ℕ) → ¬ IsNumber text n)
number_cases text =
    elim (cases_lt 10 (length text)) [
      | inl long ↦ inr (λ n is. omega (arith, long, is.short))
      | inr short ↦ elim (cases_lt 0 (length text)) [
        | inr none ↦ inr (λ n is. omega (arith, none, is.numeral.0))
        | inl some ↦ elim (digits_cases text) [
          | inr other ↦ inr (λ n is. other is.numeral.1)
          | inl digits ↦ inl (digits_value 10 text, record { numeral = (some, digits); short = short; value = refl })
        ]
      ]
    ]

in_cases : (low high : ℕ) (text : List ℕ) → ((n : ℕ) × IsNumberIn low high text n) ⊎ ((n : ℕ) → ¬ IsNumberIn low high text n)
in_cases low high text =
    elim (number_cases text) [
      | inr none ↦ inr (λ n is. none n is.number)
      | inl found ↦ elim (cases_lt found.0 low) [
        | inl below ↦ inr (λ n is. omega (arith, below, is.at_least, found.1.value, is.number.value))
        | inr from ↦ elim (cases_lt high found.0) [
          | inl above ↦ inr (λ n is. omega (arith, above, is.at_most, found.1.value, is.number.value))
          | inr most ↦ inl (found.0, record { number = found.1; at_least = from; at_most = most })
        ]
      ]
    ]

-- ---- the commands

abbrev AsksForLevels : List (List ℕ) → Type 0
AsksForLevels words = (channel : ℕ) × (nominal : ℕ) × (uncertainty : ℕ) × IsLevels words channel nominal uncertainty

abbrev pub NoLevels : List (List ℕ) → Type 0
NoLevels words = (channel nominal uncertainty : ℕ) → ¬ IsLevels words channel nominal uncertainty

numbers_cases : (words : List (List ℕ)) → length words ≡ 6 → word words 0 ≡ codes "levels" → configuration_name words ≢ data_name words → AsksForLevels words ⊎ NoLevels words
numbers_cases words count command names =
    elim (in_cases 1 256 (word words 3)) [
      | inr none ↦ inr (λ c v u is. none c is.channel_word)
      | inl channel ↦ elim (in_cases 1000 1000000 (word words 4)) [
        | inr none ↦ inr (λ c v u is. none v is.nominal_word)
        | inl nominal ↦ elim (in_cases 0 (10 * nominal.0) (word words 5)) [
          | inr none ↦ inr (λ c v u is.
              let same : v ≡ nominal.0 = one_number 1000 1000000 1000 1000000 (word words 4) v nominal.0 is.nominal_word nominal.1 in
              none u (subst (λ (n : ℕ). IsNumberIn 0 (10 * n) (word words 5) u) same is.uncertainty_word))
          | inl uncertainty ↦ inl (
            channel.0,
            nominal.0,
            uncertainty.0,
            record { count = count; command = command; names = names; channel_word = channel.1; nominal_word = nominal.1; uncertainty_word = uncertainty.1 },
          )
        ]
      ]
    ]

levels_cases : (words : List (List ℕ)) → AsksForLevels words ⊎ NoLevels words
levels_cases words =
    elim (cases_eq (length words) 6) [
      | inr other ↦ inr (λ c v u is. other is.count)
      | inl count ↦ elim (same_text (word words 0) (codes "levels")) [
        | inr other ↦ inr (λ c v u is. other is.command)
        | inl command ↦ elim (same_text (configuration_name words) (data_name words)) [
          | inl same ↦ inr (λ c v u is. is.names same)
          | inr names ↦ numbers_cases words count command names
        ]
      ]
    ]

check_cases : (words : List (List ℕ)) → IsCheck words ⊎ ¬ IsCheck words
check_cases words =
    elim (cases_eq (length words) 3) [
      | inr other ↦ inr (λ is. other is.count)
      | inl count ↦ elim (same_text (word words 0) (codes "check")) [
        | inr other ↦ inr (λ is. other is.command)
        | inl command ↦ elim (same_text (configuration_name words) (data_name words)) [
          | inl same ↦ inr (λ is. is.names same)
          | inr names ↦ inl (record { count = count; command = command; names = names })
        ]
      ]
    ]

no_rate : (words : List (List ℕ)) → length words ≢ 2 → ((rate : Rate) → length words ≡ 3 → word words 2 ≢ rate_text rate) → (rate : Rate) → ¬ AsksRate words rate
no_rate words two three rate (inl asks) = two asks.0
no_rate words two three rate (inr asks) = three rate asks.0 asks.1

rate_cases : (words : List (List ℕ)) → ((rate : Rate) × AsksRate words rate) ⊎ ((rate : Rate) → ¬ AsksRate words rate)
rate_cases words =
    elim (cases_eq (length words) 2) [
      | inl two ↦ inl (R2400, inl (two, refl))
      | inr two ↦ elim (cases_eq (length words) 3) [
        | inr other ↦ inr (no_rate words two (λ rate three same. other three))
        | inl three ↦ elim (same_text (word words 2) (rate_text R2400)) [
          | inl same ↦ inl (R2400, inr (three, same))
          | inr first ↦ elim (same_text (word words 2) (rate_text R4800)) [
            | inl same ↦ inl (R4800, inr (three, same))
            | inr second ↦ inr (no_rate words two (none first second))
          ]
        ]
      ]
    ]
  where
    none : word words 2 ≢ rate_text R2400 → word words 2 ≢ rate_text R4800 → (rate : Rate) → length words ≡ 3 → word words 2 ≢ rate_text rate
    none first second R2400 three same = first same
    none first second R4800 three same = second same

tables_cases : (words : List (List ℕ)) → ((lamp : Lamp) × (rate : Rate) × IsTables words lamp rate) ⊎ ((lamp : Lamp) (rate : Rate) → ¬ IsTables words lamp rate)
tables_cases words =
    elim (same_text (word words 0) (codes "tables")) [
      | inr other ↦ inr (λ lamp rate is. other is.command)
      | inl command ↦ elim (lamp_name_cases (word words 1)) [
        | inr other ↦ inr (λ lamp rate is. other lamp is.lamp_is)
        | inl lamp ↦ elim (rate_cases words) [
          | inr other ↦ inr (λ l rate is. other rate is.rate_is)
          | inl rate ↦ inl (lamp.0, rate.0, record { command = command; lamp_is = lamp.1; rate_is = rate.1 })
        ]
      ]
    ]

names_cases : (words : List (List ℕ)) → AreReportNames words ⊎ ¬ AreReportNames words
names_cases words =
    elim (same_text (job_name words) (report_configuration_name words)) [
      | inl same ↦ inr (λ is. is.job_configuration same)
      | inr first ↦ elim (same_text (job_name words) (report_data_name words)) [
        | inl same ↦ inr (λ is. is.job_data same)
        | inr second ↦ elim (same_text (report_configuration_name words) (report_data_name words)) [
          | inl same ↦ inr (λ is. is.configuration_data same)
          | inr third ↦ inl (record { job_configuration = first; job_data = second; configuration_data = third })
        ]
      ]
    ]

abbrev pub NoReport : List (List ℕ) → Type 0
NoReport words = (workers : ℕ) → ¬ IsReport words workers

report_cases : (words : List (List ℕ)) → ((workers : ℕ) × IsReport words workers) ⊎ NoReport words
report_cases words =
    elim (cases_eq (length words) 5) [
      | inr other ↦ inr (λ w is. other is.count)
      | inl count ↦ elim (same_text (word words 0) (codes "report")) [
        | inr other ↦ inr (λ w is. other is.command)
        | inl command ↦ elim (names_cases words) [
          | inr other ↦ inr (λ w is. other is.names)
          | inl names ↦ elim (in_cases 1 16 (word words 4)) [
            | inr none ↦ inr (λ w is. none w is.workers_word)
            | inl workers ↦ inl (workers.0, record { count = count; command = command; names = names; workers_word = workers.1 })
          ]
        ]
      ]
    ]

abbrev pub NoGen : List (List ℕ) → Type 0
NoGen words = (seed seconds : ℕ) → ¬ IsGen words seed seconds

gen_cases : (words : List (List ℕ)) → ((seed : ℕ) × (seconds : ℕ) × IsGen words seed seconds) ⊎ NoGen words
gen_cases words =
    elim (cases_eq (length words) 5) [
      | inr other ↦ inr (λ s n is. other is.count)
      | inl count ↦ elim (same_text (word words 0) (codes "gen")) [
        | inr other ↦ inr (λ s n is. other is.command)
        | inl command ↦ elim (same_text (gen_configuration_name words) (gen_data_name words)) [
          | inl same ↦ inr (λ s n is. is.names same)
          | inr names ↦ elim (in_cases 0 (2 ^ 32 - 1) (word words 1)) [
            | inr none ↦ inr (λ s n is. none s is.seed_word)
            | inl seed ↦ elim (in_cases 1 8000 (word words 2)) [
              | inr none ↦ inr (λ s n is. none n is.seconds_word)
              | inl seconds ↦ inl (seed.0, seconds.0, record { count = count; command = command; names = names; seed_word = seed.1; seconds_word = seconds.1 })
            ]
          ]
        ]
      ]
    ]

abbrev NoTables : List (List ℕ) → Type 0
NoTables words = (lamp : Lamp) (rate : Rate) → ¬ IsTables words lamp rate

pub no_command : (words : List (List ℕ)) → NoLevels words → ¬ IsCheck words → NoTables words → NoReport words → NoGen words → IsNoCommand words
no_command words levels check tables report none (Levels command) is = levels command.channel command.supply.nominal_mv command.supply.uncertainty_uv is
no_command words levels check tables report none Check is = check is
no_command words levels check tables report none (Tables lamp rate) is = tables lamp rate is
no_command words levels check tables report none (Report command) is = report command.workers is
no_command words levels check tables report none (Gen command) is = none command.seed command.seconds is

-- what `levels` is asked for by these numbers
abbrev levels_asked : (words : List (List ℕ)) (channel nominal uncertainty : ℕ) → IsLevels words channel nominal uncertainty → LevelsCommand
levels_asked words channel nominal uncertainty is = record {
  channel = channel;
  supply = record {
    nominal_mv = nominal;
    uncertainty_uv = uncertainty;
    nominal_low = is.nominal_word.at_least;
    nominal_high = is.nominal_word.at_most;
    uncertainty_high = is.uncertainty_word.at_most;
  };
}

-- what the words ask for
pub asked_for : (words : List (List ℕ)) → ((q : Command) × Asks words q) ⊎ IsNoCommand words
asked_for words =
    elim (levels_cases words) [
      | inl levels ↦ inl (Levels (levels_asked words levels.0 levels.1 levels.2 levels.3), levels.3)
      | inr no_levels ↦ elim (check_cases words) [
        | inl check ↦ inl (Check, check)
        | inr no_check ↦ elim (tables_cases words) [
          | inl tables ↦ inl (Tables tables.0 tables.1, tables.2)
          | inr no_tables ↦ elim (report_cases words) [
            | inl report ↦ inl (Report (record { workers = report.0 }), report.1)
            | inr no_report ↦ elim (gen_cases words) [
              | inl generated ↦ inl (Gen (record { seed = generated.0; seconds = generated.1 }), generated.2)
              | inr no_gen ↦ inr (no_command words no_levels no_check no_tables no_report no_gen)
            ]
          ]
        ]
      ]
    ]
