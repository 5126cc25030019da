use Rattle.flk_cert.proofs.MakeRows.{large_not_contracted}
use Rattle.flk_cert.proofs.making.large_form_is_not_contracted.Goals as goal

pub returns : goal.returns
returns c = large_not_contracted
