-- The number of each status of a composed answer, and of each other end.
use Rattle.std.specs.Prelude.{ℕ}
use Rattle.flk_top.specs.declared.reply.CutOff.{CutOff}
use Rattle.flk_top.specs.declared.reply.CutOff.TheVariants.{OutOfMemory, AppendFailed}
use Rattle.flk_top.specs.declared.reply.Status.{Status}
use Rattle.flk_top.specs.declared.reply.Status.TheVariants.{Done, Failed, Undecided, Refused, ReadFailed}

-- the number with which the program ends
abbrev pub status_number : Status → ℕ
status_number Done = 0
status_number Failed = 1
status_number Undecided = 3
status_number Refused = 2
status_number ReadFailed = 4

-- the number with which the program ends where a command ends without a text
abbrev pub cut_off_number : CutOff → ℕ
cut_off_number OutOfMemory = 6
cut_off_number AppendFailed = 5
