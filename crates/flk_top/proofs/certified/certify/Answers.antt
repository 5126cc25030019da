use Rattle.std.proofs.Common.{rules}
use Rattle.flk_cert.specs.Certificate.{FitsSection}
use Rattle.flk_cert.specs.Gain.{IsGainOf}
use Rattle.flk_cert.specs.Make.{IsMade}
use Rattle.flk_top.proofs.certified.certify.Goals as goal

pub returns-in-Ok-clause-some : goal.returns-in-Ok-clause-some
returns-in-Ok-clause-some c =
    let k = c.args.k.now in
    let rows = c.in_ok-cert.cert.rows in
    let made : IsMade k rows = search rules in
    let fits : FitsSection k rows = search rules in
    let gain : IsGainOf k rows c.in-Ok.gain = search rules in
    record { certificate = record { rows = rows; made = made; gain = gain }; fits = fits; count = search rules }
