use Rattle.flk_change.proofs.ValueLemmas.{sure_is_steady, not_is_not_steady, early_is_not_steady}
use Rattle.flk_change.proofs.laws.certain_flags_hold_for_every_list.Goals as goal

pub returns-clause-sure : goal.returns-clause-sure
returns-clause-sure c = sure_is_steady

pub returns-clause-not_steady : goal.returns-clause-not_steady
returns-clause-not_steady c = not_is_not_steady

pub returns-clause-early : goal.returns-clause-early
returns-clause-early c = early_is_not_steady
