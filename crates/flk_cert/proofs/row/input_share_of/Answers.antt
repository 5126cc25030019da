use Rattle.std.proofs.Common.{◌≡◌, ◌^◌, pos, ◌+ℤ◌, ◌-ℤ◌, ◌*ℤ◌, arith, rules}
use Rattle.std.specs.Int.RustNames.{unsigned_abs}
use Rattle.std.proofs.lemmas.Int.{ints}
use Rattle.flk_cert.proofs.MakeLemmas.{input_size_is}
use Rattle.flk_cert.proofs.row.input_share_of.Goals as goal

pub returns-clause-value : goal.returns-clause-value
returns-clause-value c =
    let u : c.input_part.result ≡ pos (2 ^ 32) *ℤ c.args.k.now.b1 -ℤ c.args.k.now.a1 *ℤ c.args.k.now.b0 = search rules in
    let w : c.input_part-2.result ≡ pos (2 ^ 32) *ℤ c.args.k.now.b2 -ℤ c.args.k.now.a2 *ℤ c.args.k.now.b0 = search rules in
    let p : c.input_product-first.result ≡ c.args.row.x *ℤ c.input_part.result = search rules in
    let r : c.input_product-second.result ≡ c.args.row.y *ℤ c.input_part-2.result = search rules in
    let s : c.size.result ≡ pos (unsigned_abs (c.input_product-first.result +ℤ c.input_product-second.result)) = search rules in
    let e = input_size_is c.args.k.now c.args.row c.size.result _ _ _ _ s p r u w in
    search (rules, e)

pub returns-clause-within : goal.returns-clause-within
returns-clause-within c =
    let s : c.size.result ≡ pos (unsigned_abs (c.input_product-first.result +ℤ c.input_product-second.result)) = search rules in
    record {
      low = omega (arith, ints, s);
      high = omega (arith, ints, s, c.input_product-first.ensures.small, c.input_product-second.ensures.small);
    }
