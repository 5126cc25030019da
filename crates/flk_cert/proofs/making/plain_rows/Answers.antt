use Rattle.std.proofs.Common.{◌≡◌, ◌↔◌, ◌+◌, ◌^◌, ◌<◌, ◌≤◌, [], ◌∷◌, ◌++◌, length, IsTrue, rules}
use Rattle.flk_cert.specs.Make.{weight, last_row}
use Rattle.flk_cert.specs.Making.{MayEndWith}
use Rattle.flk_cert.proofs.MakeRows.{IsBegun-push, IsPlain-last}
use Rattle.flk_cert.proofs.making.plain_rows.Goals as goal

pub loop-next-preserved : goal.loop-next-preserved
loop-next-preserved c =
    let len : c.len.result ≡ length c.loop-next.rows.items = search rules in
    let going : ¬ ((0 < length c.loop-next.rows.items) × MayEndWith c.args.k.now (length c.loop-next.rows.items) c.loop-next.form c.loop-next.taken) = search rules in
    let all : c.push.new.self.items ≡ c.loop-next.rows.items ++ c.inner_row-row.result ∷ [] = search rules in
    IsBegun-push c.args.k.now c.loop-next.rows.items c.push.new.self.items c.loop-next.form c.form_after-next.result c.loop-next.taken c.weight_of-taken.result
    c.inner_row-row.result c.loop-next.invariant going c.form_after-next.ensures.value c.form_after-next.ensures.small c.inner_row-row.ensures.value
    c.inner_row-row.ensures.small c.weight_of-taken.ensures all

pub returns : goal.returns
returns c =
    let len : c.len.result ≡ length c.loop-next.rows.items = search rules in
    let ends : (0 < length c.loop-next.rows.items) × MayEndWith c.args.k.now (length c.loop-next.rows.items) c.loop-next.form c.loop-next.taken = search rules in
    let all : c.push-2.new.self.items ≡ c.loop-next.rows.items ++ c.last_row.result ∷ [] = search rules in
    let says : IsTrue c.is_contracted-contracted.result ↔ (c.loop-next.taken + weight (last_row c.args.k.now c.loop-next.form) ≤ 2 ^ 58) = search rules in
    IsPlain-last c.args.k.now c.loop-next.rows.items c.push-2.new.self.items c.loop-next.form c.loop-next.taken c.last_row.result c.is_contracted-contracted.result
    c.loop-next.invariant ends says c.last_row.ensures.value all
