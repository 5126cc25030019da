use Rattle.std.proofs.Common.{◌≡◌, rules}
use Rattle.std.specs.Int.RustNames.{unsigned_abs}
use Rattle.flk_top.proofs.text.levels_lines.Goals as goal

pub returns-in-None : goal.returns-in-None
returns-in-None c = rw c.in-None.is c.format.ensures.ok

pub returns-in-Some : goal.returns-in-Some
returns-in-Some c =
    let e = c.in-Some.extremes in
    let least_lo : c.unsigned_abs.result ≡ unsigned_abs e.least.lo = search rules in
    let least_hi : c.unsigned_abs-in-Some.result ≡ unsigned_abs e.least.hi = search rules in
    let greatest_lo : c.unsigned_abs-in-Some-2.result ≡ unsigned_abs e.greatest.lo = search rules in
    let greatest_hi : c.unsigned_abs-in-Some-3.result ≡ unsigned_abs e.greatest.hi = search rules in
    rw c.in-Some.is (rw (least_lo, least_hi, greatest_lo, greatest_hi) at c.format-in-Some.ensures.ok)
