-- The fields of a line, each against its set.
use Rattle.std.specs.Prelude.{◌≡◌, ℕ, List, map, take}
use Rattle.flk_field.specs.Sets.{Set, at, Refuses, FaultFrom}
use Rattle.flk_field.specs.declared.columns.Columns.{Columns}
use Rattle.flk_field.specs.declared.kind.Fault.{Fault}

-- the fields of the line
abbrev pub parts_of : Columns → List (List ℕ)
parts_of c = take c.count (map (λ p. p.now) c.parts)

-- the field at the place isn't in the set, and this is its fault
pub record FieldFault (set : Set) (c : Columns) (place : ℕ) (f : Fault) : Type 0 where
  pub line : f.line ≡ c.line
  pub field : f.field ≡ place
  pub kind : Refuses set (at (parts_of c) place) f.kind

-- of the fields from a place on this is the first fault
pub record RunFault (from : ℕ) (sets : List Set) (c : Columns) (f : Fault) : Type 0 where
  pub line : f.line ≡ c.line
  pub here : FaultFrom from sets (parts_of c) f.field f.kind
