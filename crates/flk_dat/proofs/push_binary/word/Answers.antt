use Rattle.std.proofs.Common.{◌≡◌, ℕ, Bool, ◌+◌, ◌-◌, ◌*◌, ◌<◌, ◌^◌, cond, length, get_or, take, drop, false, rules, sym, ap, subst, ◌∙◌, arith, length-take, length-drop}
use Rattle.std.proofs.lemmas.List.{get_or-take, get_or-drop}
use Rattle.flk_dat.specs.Records.{record_at}
use Rattle.flk_dat.specs.Written.{bits_number}
use Rattle.flk_dat.proofs.WrittenBits.{bits_step, word_step, bit_byte}
use Rattle.flk_dat.proofs.push_binary.word.Goals as goal

pub overflow_add-first : goal.overflow_add-first
overflow_add-first c =
    let fits : c.args.first + (c.loop-left.left - 1) < 2 ^ 64 = omega (arith, c.requires.there, c.requires.row, c.loop-left.invariant.within, c.loop-left-test.true, c.ranges.first, c.ranges.count, c.requires.few) in
    search (rules, fits)

pub loop-left-preserved : goal.loop-left-preserved
loop-left-preserved c =
    let j = c.loop-left.left - 1 in
    let bits = (record_at c.args.block.now.records c.args.row).digital in
    let part = take c.args.count (drop c.args.first bits) in
    let up : j + 1 ≡ c.loop-left.left = omega (arith, c.loop-left-test.true) in
    let lt : j < c.args.count = omega (arith, up, c.loop-left.invariant.within) in
    let there : j < length part = omega (arith, lt, length-take c.args.count (drop c.args.first bits), length-drop c.args.first bits, c.requires.there, c.requires.width.digital_count) in
    let b = c.digital.result in
    let is : get_or part j false ≡ b = get_or-take c.args.count (drop c.args.first bits) j false lt ∙ get_or-drop c.args.first bits j false ∙ sym c.digital.ensures in
    let byte : c.from.result ≡ cond b 1 0 = c.from.ensures ∙ bit_byte b in
    let step : bits_number (drop j part) ≡ cond b 1 0 + 2 * c.loop-left.word =
    bits_step part j there ∙ ap (λ (x : Bool). cond x 1 0 + 2 * bits_number (drop (j + 1) part)) is
    ∙ ap (λ (n : ℕ). cond b 1 0 + 2 * bits_number (drop n part)) up ∙ ap (λ (n : ℕ). cond b 1 0 + 2 * n) (sym c.loop-left.invariant.value) in
    let places : c.args.count - j ≡ c.args.count - c.loop-left.left + 1 = omega (arith, up, lt) in
    record {
      within = omega (arith, lt);
      value = omega (arith, step, byte);
      small = subst (λ (n : ℕ). 2 * c.loop-left.word + n < 2 ^ (c.args.count - j)) (sym byte) (word_step c.loop-left.word (c.args.count - c.loop-left.left) (c.args.count - j) b c.loop-left.invariant.small places);
    }
