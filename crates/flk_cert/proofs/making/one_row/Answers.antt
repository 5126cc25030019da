use Rattle.std.proofs.Common.{◌≡◌, rules}
use Rattle.std.specs.Int.RustNames.{unsigned_abs}
use Rattle.flk_cert.specs.Make.{IsOneBound}
use Rattle.flk_cert.proofs.MakeLemmas.{one_row_is}
use Rattle.flk_cert.proofs.making.one_row.Goals as goal

pub returns : goal.returns
returns c =
    let row : c.bounded_row.result ≡ record c.one_plain_row-row.result { g = c.one_bound-g.result; h = c.one_bound-h.result } = search rules in
    let g : IsOneBound c.one_plain_row-row.result.c (unsigned_abs c.input_share_of.result) c.one_bound-g.result = search rules in
    let h : IsOneBound c.one_plain_row-row.result.c (unsigned_abs c.rounding_share_of.result) c.one_bound-h.result = search rules in
    one_row_is c.args.k.now c.one_plain_row-row.result _ _ _ _ _ c.one_plain_row-row.ensures.value row c.input_share_of.ensures.value
    c.rounding_share_of.ensures.value g h
