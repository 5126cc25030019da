use Rattle.std.proofs.Common.{◌≡◌, ◌-◌, ◌^◌, ◌++◌, ℕ, List, ap, sym, ◌∙◌, append-nil, arith, rules}
use Rattle.std.proofs.Math.Nat.{mod-lt}
use Rattle.flk_text.proofs.PowersOfTen.{ten_pos}
use Rattle.flk_cfg.specs.Canonical.{padded}
use Rattle.flk_cfg.proofs.CanonicalText.{push_digit, padded_none}
use Rattle.flk_cfg.proofs.push.push_padded.Goals as goal

pub loop-count-preserved : goal.loop-count-preserved
loop-count-preserved c =
    let l = c.loop-count in
    let unit = c.pow-unit.result in
    let is : unit ≡ 10 ^ (l.count - 1) = search rules in
    record {
      few = omega (arith, l.invariant.few);
      below = rw is (mod-lt l.left (ten_pos (l.count - 1)));
      text = push_digit l.out.items c.push.new.self.items l.left l.count unit c.loop-count-test.true is c.in_ok-push.ensures.items ∙ l.invariant.text;
    }

pub returns : goal.returns
returns c =
    let l = c.loop-count in
    let none : l.count ≡ 0 = omega (arith, c.loop-count-test.false) in
    sym (append-nil l.out.items) ∙ ap (λ (x : List ℕ). l.out.items ++ x) (sym (ap (λ (k : ℕ). padded k l.left) none ∙ padded_none l.left)) ∙ l.invariant.text
