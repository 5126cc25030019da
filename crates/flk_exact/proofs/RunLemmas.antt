-- The recorded voltages themselves, relative to nominal, are an admitted run; and what covers the doubt is not below 0.
use Rattle.std.proofs.Common.{ℕ, ◌*◌, ◌^◌, ◌<◌, List, map, ℤ, pos, ◌+ℤ◌, ◌*ℤ◌, ◌≤ℤ◌, arith}
use Rattle.std.specs.Prelude.{negsuc}
use Rattle.std.proofs.lemmas.Int.{ints}
use Rattle.flk_exact.specs.Fraction.{Fraction}
use Rattle.flk_exact.specs.Run.{IsAdmitted, IsAdmittedRun, CoversDoubt, relative_to}
use Rattle.flk_exact.proofs.WholeLemmas.{atom, nat, plus_is, times_is, at_most, from_at_most}
use Rattle.flk_exact.proofs.ListLemmas.{AllZip-made}

pub recorded_is_admitted : (nominal uncertainty : ℕ) (positive : 0 < nominal) (recorded : Fraction) → IsAdmitted nominal uncertainty recorded (relative_to nominal positive recorded)
recorded_is_admitted nominal uncertainty positive recorded = record {
  not_above = record {
    cross =
        at_most (times_is (times_is (nat nominal) (atom recorded.num)) (nat (recorded.den * 1)))
        (times_is (plus_is (times_is (atom recorded.num) (nat 1)) (times_is (nat uncertainty) (nat recorded.den))) (nat (1 * (recorded.den * nominal))))
        (omega arith);
  };
  not_below = record {
    cross =
        at_most (times_is (atom recorded.num) (nat (1 * (recorded.den * nominal) * 1)))
        (times_is (plus_is (times_is (times_is (nat nominal) (atom recorded.num)) (nat 1)) (times_is (nat uncertainty) (nat (1 * (recorded.den * nominal))))) (nat recorded.den))
        (omega arith);
  };
}

pub recorded_run_is_admitted : (nominal uncertainty : ℕ) (positive : 0 < nominal) (recorded : List Fraction) → IsAdmittedRun nominal uncertainty recorded (map (relative_to nominal positive) recorded)
recorded_run_is_admitted nominal uncertainty positive recorded =
    AllZip-made (IsAdmitted nominal uncertainty) (relative_to nominal positive) (recorded_is_admitted nominal uncertainty positive) recorded

-- ---- what covers the doubt

natural_by : (n e d : ℕ) (z : ℤ) → 0 < n → ((pos e *ℤ pos (1 * 2 ^ 48) +ℤ (pos n *ℤ pos 2) *ℤ pos 1) *ℤ pos (1 * d)) ≤ℤ ((pos n *ℤ z) *ℤ pos (1 * (1 * 2 ^ 48))) → pos 0 ≤ℤ z
natural_by n e d (pos k) some h = omega (arith, ints)
natural_by n e d (negsuc k) some h =
    let most = from_at_most (times_is (plus_is (times_is (nat e) (nat (1 * 2 ^ 48))) (times_is (times_is (nat n) (nat 2)) (nat 1))) (nat (1 * d))) (times_is (times_is (nat n) (atom (negsuc k))) (nat (1 * (1 * 2 ^ 48)))) h in
    absurd (omega (arith, most))

pub CoversDoubt-natural : (nominal uncertainty : ℕ) (delta : Fraction) → 0 < nominal → CoversDoubt nominal uncertainty delta → pos 0 ≤ℤ delta.num
CoversDoubt-natural nominal uncertainty delta some h = natural_by nominal uncertainty delta.den delta.num some h.covers.cross
