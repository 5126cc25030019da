use Rattle.std.proofs.Common.{rules, ◌≡◌, ◌↔◌, ℕ, pos, IsTrue, ap, subst}
use Rattle.std.specs.Int.RustNames.{unsigned_abs}
use Rattle.flk_cert.specs.Row.{rounding_share}
use Rattle.flk_cert.specs.Certificate.{Covers}
use Rattle.flk_cert.proofs.checker.covers_rounding.Goals as goal

pub returns : goal.returns
returns c =
    let a = c.args in
    let share : c.rounding_share_of-share.result ≡ pos (rounding_share a.k.now a.row.x a.row.y) = search rules in
    let covers : IsTrue c.covers.result ↔ Covers a.row a.first.h a.second.h a.next.h (unsigned_abs c.rounding_share_of-share.result) a.row.h = search rules in
    subst (λ (n : ℕ). IsTrue c.covers.result ↔ Covers a.row a.first.h a.second.h a.next.h n a.row.h) (ap unsigned_abs share) covers
