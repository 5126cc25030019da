-- The fault lines.
use Rattle.std.specs.Prelude.{ℕ, List, ◌++◌, codes}
use Rattle.std.specs.Fmt.{decimal}
use Rattle.flk_text.specs.PlainText.{plain}
use Rattle.flk_scale.specs.Faults.{match_number}
use Rattle.flk_scale.specs.declared.fault.MatchFault.{MatchFault}
use Rattle.flk_scale.specs.declared.fault.MatchFault.TheVariants as faults

abbrev pub usage_line : List ℕ
usage_line = codes "fault usage\n"

abbrev pub read_line : List ℕ
read_line = codes "fault read\n"

-- keys are counted from 1; key 0 is the job as a whole
abbrev pub job_line : (key kind : ℕ) → List ℕ
job_line key kind = codes "fault job " ++ (decimal key ++ (codes " " ++ (decimal kind ++ codes "\n")))

-- lines and fields are counted from 1; field 0 is the line as a whole
abbrev pub configuration_line : (line field kind : ℕ) → List ℕ
configuration_line line field kind =
    codes "fault configuration " ++ (decimal line ++ (codes " " ++ (decimal field ++ (codes " " ++ (decimal kind
    ++ codes "\n")))))

-- the two values of a fault of a match, as they end its line
abbrev pub match_values : MatchFault → List ℕ
match_values (faults.Channel asked there) = decimal asked ++ (codes " " ++ (decimal there ++ codes "\n"))
match_values (faults.Unit channel) = decimal channel ++ codes " 0\n"
match_values (faults.Scale channel) = decimal channel ++ codes " 0\n"
match_values (faults.Lamp hertz lf) = decimal hertz ++ (codes " " ++ (plain lf.n ++ codes "\n"))
match_values (faults.TooShort needed there) = decimal needed ++ (codes " " ++ (decimal there ++ codes "\n"))
match_values (faults.TooLong limit there) = decimal limit ++ (codes " " ++ (decimal there ++ codes "\n"))

-- the number of the kind, and two values
abbrev pub match_line : MatchFault → List ℕ
match_line f = codes "fault match " ++ (decimal (match_number f) ++ (codes " " ++ match_values f))

-- records and fields are counted from 1; field 0 is the record as a whole
abbrev pub data_line : (row field kind : ℕ) → List ℕ
data_line row field kind =
    codes "fault data " ++ (decimal row ++ (codes " " ++ (decimal field ++ (codes " " ++ (decimal kind
    ++ codes "\n")))))

-- records are counted from 1
abbrev pub range_line : (row channel : ℕ) → List ℕ
range_line row channel = codes "fault range " ++ (decimal row ++ (codes " " ++ (decimal channel ++ codes "\n")))

-- sections are counted from 1; section 0 stands for all of them in a row
abbrev pub lamp_line : (section : ℕ) → List ℕ
lamp_line section = codes "fault lamp " ++ (decimal section ++ codes "\n")
