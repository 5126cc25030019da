use Rattle.std.proofs.Common.{subst}
use Rattle.flk_text.specs.WholeNumber.{IsWholeAnswer}
use Rattle.flk_dat.proofs.SampleJudges.{no_whole}
use Rattle.flk_dat.proofs.fields.whole_up_to.Goals as goal

pub returns-in-Err-clause-value : goal.returns-in-Err-clause-value
returns-in-Err-clause-value c = λ field answer. no_whole c.args.most field c.in-Err.fault c.kind_of.result c.kind_of.ensures.syntax c.kind_of.ensures.range (subst (IsWholeAnswer field) c.in-Err.is answer)
