use Rattle.std.proofs.Common.{rules, ◌≡◌, ◌+◌, ◌≤◌, ◌^◌, pos, ◌*ℤ◌, arith}
use Rattle.std.specs.Int.RustNames.{unsigned_abs}
use Rattle.std.proofs.lemmas.Bool.{le-leb, leb-true}
use Rattle.flk_exact.proofs.ProductLemmas.{lin}
use Rattle.flk_cert.proofs.checker.covers.Goals as goal

pub returns : goal.returns
returns c =
    let e1 : pos c.part_of-first.result ≡ pos (unsigned_abs c.args.row.c) *ℤ c.args.first = search rules in
    let e2 : pos c.part_of-second.result ≡ pos (unsigned_abs c.args.row.d) *ℤ c.args.second = search rules in
    let e3 : pos c.part_of-next.result ≡ pos (2 ^ 64) *ℤ c.args.next = search rules in
    let e4 : pos c.part_of.result ≡ pos (2 ^ 64) *ℤ c.args.own = search rules in
    let share : c.unsigned_abs-share.result ≡ unsigned_abs c.args.share = search rules in (
      λ t.
          let l : c.part_of-first.result + c.part_of-second.result + c.part_of-next.result + c.unsigned_abs-share.result ≤ c.part_of.result = leb-true _ _ t in
          omega (arith, lin, e1, e2, e3, e4, share, l),
      λ h. le-leb _ _ (omega (arith, lin, e1, e2, e3, e4, share, h)),
    )
