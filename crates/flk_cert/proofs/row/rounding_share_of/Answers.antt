use Rattle.std.proofs.Common.{◌≡◌, ◌+◌, ◌^◌, pos, ◌+ℤ◌, ◌*ℤ◌, rules}
use Rattle.std.specs.Int.RustNames.{unsigned_abs}
use Rattle.flk_cert.specs.Row.{fed_back}
use Rattle.flk_cert.proofs.MakeLemmas.{rounding_total_is}
use Rattle.flk_cert.proofs.row.rounding_share_of.Goals as goal

pub returns-clause-value : goal.returns-clause-value
returns-clause-value c =
    let v : c.first_state_part.result ≡ fed_back c.args.k.now c.args.row.x c.args.row.y = search rules in
    let b : c.size.result ≡ pos (unsigned_abs c.first_state_part.result) = search rules in
    let t : c.form_size.result ≡ pos (unsigned_abs c.args.row.x + unsigned_abs c.args.row.y) = search rules in
    let z : c.rounding_total.result ≡ pos (2 ^ 32) *ℤ c.size.result +ℤ pos (2 ^ 64) *ℤ c.form_size.result = search rules in
    let e = rounding_total_is c.args.k.now c.args.row _ _ _ _ z b v t in
    search (rules, e)
