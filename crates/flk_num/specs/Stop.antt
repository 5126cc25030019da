-- What is said of a call that has no answer.
use Rattle.flk_num.specs.declared.stop.Stop.{Stop}
use Rattle.flk_num.specs.declared.stop.Stop.TheVariants as stop

-- the fault, or want of memory
abbrev pub StopIs : {F : Type 0} → (F → Type 0) → Stop F → Type 0
StopIs P (stop.Fault f) = P f
StopIs P stop.OutOfMemory = Unit {0}
