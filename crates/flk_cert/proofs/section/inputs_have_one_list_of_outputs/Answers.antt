use Rattle.flk_cert.proofs.SectionLemmas.{outputs_exist, outputs_unique}
use Rattle.flk_cert.proofs.section.inputs_have_one_list_of_outputs.Goals as goal

pub returns-clause-exists : goal.returns-clause-exists
returns-clause-exists c = outputs_exist

pub returns-clause-unique : goal.returns-clause-unique
returns-clause-unique c = outputs_unique
