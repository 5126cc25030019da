-- What the code keeps so that its numbers fit 128 bits.
use Rattle.std.specs.Prelude.{◌≡◌, ◌^◌, ◌<◌, Bool, true, false, List, ℤ, pos, ◌-ℤ◌, ◌≤ℤ◌}
use Rattle.std.specs.Int.RustNames.{unsigned_abs}
use Rattle.std.specs.List.{All}
use Rattle.flk_cert.specs.declared.coefs.Coefs.{Coefs}
use Rattle.flk_cert.specs.RoundedSection.{State, state}
use Rattle.flk_section.specs.declared.state.State.{State as States}

-- the two numbers that the code holds, as a state
abbrev pub as_state : States → State
as_state s = record { s1 = s.s1; s2 = s.s2 }

-- the state comes from inputs below 2^60 in size
pub record IsReachedState (k : Coefs) (from_one : Bool) (s : State) : Type 0 where
  pub inputs : List ℤ
  pub small : All (λ X. unsigned_abs X < 2 ^ 60) inputs
  pub is : state k from_one inputs ≡ s

-- the input at which a section is at rest: 1, which is 2^48 units, or 0
abbrev pub rest : (from_one : Bool) → ℤ
rest true = pos (2 ^ 48)
rest false = pos 0

-- the input is at most r units away from it
pub record IsNearRest (from_one : Bool) (r X : ℤ) : Type 0 where
  pub near : pos (unsigned_abs (X -ℤ rest from_one)) ≤ℤ r
