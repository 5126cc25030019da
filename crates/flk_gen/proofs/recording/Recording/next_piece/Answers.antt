use Rattle.std.proofs.Common.{rules, arith, ◌≡◌, ◌+◌, ◌<◌, ◌≤◌, ℕ, Bool, true, false, List, nat_lt, vec_len, sym, subst}
use Rattle.std.proofs.lemmas.Bool.{ltb-true, ltb-false}
use Rattle.flk_gen.specs.Progress.{records_left, Continues}
use Rattle.flk_gen.proofs.ProgressLemmas.{Reaches, reaches_more, reaches_piece, reaches_end}
use Rattle.flk_gen.proofs.recording.Recording.next_piece.Goals as goal

pub returns-then-not-branch-clause-gives : goal.returns-then-not-branch-clause-gives
returns-then-not-branch-clause-gives c = λ seed seconds n has.
    let reached = c.loop-i.invariant.gives seed seconds n has in
    let last = c.in_ok-push_record.ensures.gives seed seconds reached.next reached.given in
    let no : c.in_ok-push_record.field-0 ≡ false = search rules in
    subst (λ (x : List ℕ). Continues (nat_lt 0 c.loop-i.i) seed seconds n x c.push_record.new.self) (sym last.1)
    (reaches_end c.loop-i.self c.push_record.new.self seed seconds n c.loop-i.i c.loop-i.piece.items last.0 (nat_lt 0 c.loop-i.i) reached
    (subst (λ (b : Bool). Continues b seed seconds reached.next last.0 c.push_record.new.self) no last.2)
    (ltb-true 0 c.loop-i.i) (λ e. omega (arith, ltb-false 0 c.loop-i.i e)))

pub loop-i-preserved : goal.loop-i-preserved
loop-i-preserved c =
    let more : c.in_ok-push_record.field-0 ≡ true = search rules in
    let fewer : records_left c.push_record.new.self < records_left c.loop-i.self = search rules in
    let longer : vec_len c.push_record.new.out ≤ vec_len c.loop-i.piece + 64 = search rules in
    record {
      gives = λ seed seconds n has.
          let reached = c.loop-i.invariant.gives seed seconds n has in
          let one = c.in_ok-push_record.ensures.gives seed seconds reached.next reached.given in
          subst (λ (x : List ℕ). Reaches seed seconds n (c.loop-i.i + 1) x c.push_record.new.self) (sym one.1)
          (reaches_more c.loop-i.self c.push_record.new.self seed seconds n c.loop-i.i c.loop-i.piece.items one.0 reached
          (subst (λ (b : Bool). Continues b seed seconds reached.next one.0 c.push_record.new.self) more one.2));
      left = omega (arith, fewer, c.loop-i.invariant.left);
      size = omega (arith, longer, c.loop-i.invariant.size);
    }

pub returns-clause-gives : goal.returns-clause-gives
returns-clause-gives c = λ seed seconds n has.
    let some : 0 < c.loop-i.i = search rules in
    reaches_piece c.loop-i.self seed seconds n c.loop-i.i c.loop-i.piece.items some (c.loop-i.invariant.gives seed seconds n has)
