use Rattle.std.proofs.Common.{rules, ◌≡◌, ◌↔◌, ℕ, pos, IsTrue, ap, subst}
use Rattle.std.specs.Int.RustNames.{unsigned_abs}
use Rattle.flk_cert.specs.Row.{input_share}
use Rattle.flk_cert.specs.Certificate.{Covers}
use Rattle.flk_cert.proofs.checker.covers_input.Goals as goal

pub returns : goal.returns
returns c =
    let a = c.args in
    let share : c.input_share_of-share.result ≡ pos (input_share a.k.now a.row.x a.row.y) = search rules in
    let covers : IsTrue c.covers.result ↔ Covers a.row a.first.g a.second.g a.next.g (unsigned_abs c.input_share_of-share.result) a.row.g = search rules in
    subst (λ (n : ℕ). IsTrue c.covers.result ↔ Covers a.row a.first.g a.second.g a.next.g n a.row.g) (ap unsigned_abs share) covers
