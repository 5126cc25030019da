use Rattle.flk_section.proofs.CascadeLemmas.{answers_hold, answers_hold_signal}
use Rattle.flk_section.proofs.laws.answers_hold_outputs.Goals as goal

pub returns-clause-outputs : goal.returns-clause-outputs
returns-clause-outputs c = answers_hold

pub returns-clause-signal : goal.returns-clause-signal
returns-clause-signal c = answers_hold_signal
