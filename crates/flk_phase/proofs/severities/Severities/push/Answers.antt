use Rattle.std.proofs.Common.{refl, ◌∙◌}
use Rattle.std.proofs.lemmas.List.Elements.{All-set}
use Rattle.std.proofs.Math.ListN.{length-set}
use Rattle.flk_result.specs.PhaseResult.{IsJudgeable}
use Rattle.flk_phase.proofs.SeveritiesLemmas.{stands_behind, stands_gains, stands_ends}
use Rattle.flk_phase.proofs.severities.Severities.push.Goals as goal

pub returns-then-self : goal.returns-then-self
returns-then-self c = record { stands = λ run_in interval count levels h. stands_behind c.args.self.now run_in interval count levels c.args.level c.if-self-gt0.false c.if-self.true h }

pub invariant_of-self-in-Some-clause-twelve : goal.invariant_of-self-in-Some-clause-twelve
invariant_of-self-in-Some-clause-twelve c = length-set c.args.self.now.pst c.args.self.now.done c.in-Some.severity ∙ c.args.self.now.twelve

pub invariant_of-self-in-Some-clause-judgeable : goal.invariant_of-self-in-Some-clause-judgeable
invariant_of-self-in-Some-clause-judgeable c = All-set IsJudgeable c.args.self.now.pst c.args.self.now.done c.in-Some.severity c.in-Some.ensures.some.judgeable c.args.self.now.judgeable

pub returns-in-Some : goal.returns-in-Some
returns-in-Some c = record { stands = λ run_in interval count levels h. stands_ends c.args.self.now _ run_in interval count levels c.args.level c.in-Some.severity c.if-self-gt0.false refl refl refl refl c.if-self.false c.in-Some.ensures.some h }

pub returns-in_default : goal.returns-in_default
returns-in_default c = record { stands = λ run_in interval count levels h. stands_gains c.args.self.now _ run_in interval count levels c.args.level c.if-self-gt0.false refl refl refl refl c.if-self.false c.in_default.ensures.none h }
