use Rattle.std.proofs.Common.{subst}
use Rattle.flk_text.specs.WholeNumber.{IsWholeAnswer}
use Rattle.flk_dat.proofs.SampleJudges.{no_sample}
use Rattle.flk_dat.proofs.fields.sample.Goals as goal

pub returns-in-Err : goal.returns-in-Err
returns-in-Err c = λ field answer. no_sample field c.in-Err.fault c.kind_of.result c.kind_of.ensures.syntax c.kind_of.ensures.range (subst (IsWholeAnswer field) c.in-Err.is answer)
