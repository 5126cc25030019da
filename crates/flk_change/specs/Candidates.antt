-- What one value more does to the candidates that are kept.
use Rattle.std.specs.Prelude.{◌≡◌, ◌⊎◌, ℕ, ◌<◌, ◌≤◌, List, drop, slice_get, Some}
use Rattle.flk_change.specs.declared.candidates.Candidate.{Candidate}

-- the first is dropped where its place is before `begin`, and no other
abbrev pub IsWithoutEarlier : ℕ → List Candidate → List Candidate → Type 0
IsWithoutEarlier begin old new =
    ((new ≡ old) × ((c : Candidate) → slice_get old 0 ≡ Some c → begin ≤ c.place))
    ⊎ ((new ≡ drop 1 old) × ((c : Candidate) → slice_get old 0 ≡ Some c → c.place < begin))
