use Rattle.std.proofs.Common.{◌≡◌, ◌+◌, ◌-◌, ◌≤◌, length, drop, take, sym, arith, inl, inr}
use Rattle.std.specs.List.{position_or_len}
use Rattle.std.proofs.lemmas.Bool.{cases_lt, true≢false}
use Rattle.std.proofs.lemmas.List.{take-append-drop, drop-drop, length-take, length-drop}
use Rattle.flk_text.specs.Lines.{is_byte}
use Rattle.flk_text.proofs.PlaceLemmas.{place_behind}
use Rattle.flk_text.proofs.scan.blocks_without.Goals as goal

pub loop-count-preserved : goal.loop-count-preserved
loop-count-preserved c =
    let n = c.loop-count.count in
    let p = is_byte c.args.byte in
    let rest = drop n c.args.bytes.now in
    let size : n + 16 - n ≡ 16 = omega arith in
    let hit = rw size at c.if-has_byte.ensures in
    let none : length (take 16 rest) ≤ position_or_len p (take 16 rest) = elim (cases_lt (position_or_len p (take 16 rest)) (length (take 16 rest))) [
      | inl lt ↦ absurd (true≢false (sym (hit.1 lt)))
      | inr ge ↦ ge
    ] in
    let block : length (take 16 rest) ≡ 16 = omega (arith, length-take 16 rest, length-drop n c.args.bytes.now, c.loop-count-test.true) in
    let behind = rw (take-append-drop 16 rest, block, drop-drop 16 n c.args.bytes.now) at (place_behind p (take 16 rest) (drop 16 rest) none) in
    record {
      within = omega (arith, c.loop-count-test.true, c.loop-count.invariant.within);
      place = omega (arith, behind, c.loop-count.invariant.place);
    }
