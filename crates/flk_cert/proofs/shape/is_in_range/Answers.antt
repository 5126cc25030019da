use Rattle.std.proofs.Common.{rules, ◌↔◌, ◌<◌, ◌^◌, IsTrue}
use Rattle.std.specs.Int.RustNames.{unsigned_abs}
use Rattle.flk_cert.specs.Certificate.{IsBound}
use Rattle.flk_cert.proofs.shape.is_in_range.Goals as goal

pub returns-then-is_bound : goal.returns-then-is_bound
returns-then-is_bound c =
    let x : unsigned_abs c.args.row.x < 2 ^ 44 = search rules in
    let y : unsigned_abs c.args.row.y < 2 ^ 44 = search rules in
    let g : IsBound c.args.row.g = search rules in
    let h : IsTrue c.is_bound-then-is_bound.result ↔ IsBound c.args.row.h = search rules in
    (λ t. record { x = x; y = y; g = g; h = h.0 t }, λ r. h.1 r.h)
