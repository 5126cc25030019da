use Rattle.std.proofs.Common.{rules, ◌∙◌, ap, sym, arith, ◌≤ℤ◌, FitsSigned, to_z, of_z}
use Rattle.std.specs.Int.{w128}
use Rattle.std.proofs.lemmas.Int.{ints, to_z-of_z}
use Rattle.circular_buffer.specs.Buffer.{Buffer}
use Rattle.flk_change.specs.declared.candidates.Candidate.{Candidate}
use Rattle.flk_change.proofs.CandidateLemmas.{drops_last}
use Rattle.flk_change.proofs.candidates.drop_up_to.Goals as goal

pub loop-last-preserved : goal.loop-last-preserved
loop-last-preserved c =
    let last = c.in-Some.last.now in
    let v = c.args.v in
    let fits : FitsSigned w128 v = search rules in
    let reached : last.value ≤ℤ v = omega (arith, ints, c.if-last-v.false) in
    record {
      capacity = ap (λ (b : Buffer Candidate). b.capacity) c.pop_back.ensures.items ∙ c.loop-last.invariant.capacity;
      reached = drops_last (to_z w128 (of_z w128 v)) c.args.ring.now.items c.loop-last.ring.items c.pop_back.new.self.items last c.loop-last.invariant.reached (sym c.in-Some.ensures)
          (rw (to_z-of_z w128 v fits) reached) (ap (λ (b : Buffer Candidate). b.items) c.pop_back.ensures.items);
    }
