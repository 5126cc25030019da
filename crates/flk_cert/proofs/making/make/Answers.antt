use Rattle.std.proofs.Common.{length, arith, ap}
use Rattle.flk_cert.specs.Making.{IsPlain}
use Rattle.flk_cert.proofs.making.make.Goals as goal

pub bound_rows-requires-clause-few : goal.bound_rows-requires-clause-few
bound_rows-requires-clause-few c =
    let plain : IsPlain c.args.k.now c.in_ok-plain.plain.rows.items c.in_ok-plain.plain.contracted = c.in_ok-plain.ensures in
    omega (arith, plain.few, ap length c.deref_mut.ensures.value)
