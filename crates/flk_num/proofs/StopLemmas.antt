-- The exits of a call that stops.
use Rattle.std.proofs.Common.{◌≡◌, sym, subst, Result}
use Rattle.std.specs.Result.{MatchResult, IsErrAnd}
use Rattle.std.proofs.lemmas.Result.{err_from_is_err_and}
use Rattle.flk_num.specs.declared.stop.Stop.{Stop}
use Rattle.flk_num.specs.declared.stop.Stop.TheVariants as stop
use Rattle.flk_num.specs.Stop.{StopIs}

-- the exit of a `?` whose fault is passed on
pub err_exit : {T E : Type 0} (r : Result T E) (P : T → Type 0) (Q : E → Type 0) (f : E) → IsErrAnd r (λ y. y ≡ f) → Q f
    → MatchResult r P Q
err_exit {T} {E} r P Q f e q =
    let p = err_from_is_err_and r e in
    subst (λ (x : Result T E). MatchResult x P Q) (sym p.1) (subst Q (sym p.2) q)

-- the same with want of memory
pub stop_exit : {T F : Type 0} (r : Result T (Stop F)) (P : T → Type 0) (Q : F → Type 0) (s : Stop F) → IsErrAnd r (λ y. y ≡ s)
    → StopIs Q s → MatchResult r P (StopIs Q)
stop_exit r P Q s e q = err_exit r P (StopIs Q) s e q

pub stop_weaker : {F : Type 0} (P Q : F → Type 0) (s : Stop F) → StopIs P s → ((f : F) → P f → Q f) → StopIs Q s
stop_weaker P Q (stop.Fault f) p h = h f p
stop_weaker P Q stop.OutOfMemory p h = tt
