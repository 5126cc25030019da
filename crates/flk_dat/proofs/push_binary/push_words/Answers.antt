use Rattle.std.proofs.Common.{◌≡◌, ℕ, List, [], ◌∷◌, ◌++◌, ◌+◌, ◌-◌, ◌*◌, length, take, drop, sym, ap, ◌∙◌, arith, length-drop, append_assoc, append-nil}
use Rattle.std.specs.List.{flat_map, range_with_len}
use Rattle.std.proofs.lemmas.Grind.{flat_map-append}
use Rattle.byteorder.specs.Endian.{little_bytes}
use Rattle.flk_dat.specs.Records.{record_at}
use Rattle.flk_dat.specs.Written.{bits_number, word_bytes}
use Rattle.flk_dat.proofs.WrittenBits.{range_more, take_least}
use Rattle.flk_dat.proofs.push_binary.push_words.Goals as goal

pub loop-group-preserved : goal.loop-group-preserved
loop-group-preserved c =
    let g = c.loop-group.group in
    let bits = (record_at c.args.block.now.records c.args.row).digital in
    let f = word_bytes bits in
    let size : c.args.digital - 16 * g ≡ length (drop (16 * g) bits) = omega (arith, length-drop (16 * g) bits, c.requires.width.0, c.requires.width.1.digital_count) in
    let word : c.word.result ≡ bits_number (take 16 (drop (16 * g) bits)) =
    c.word.ensures ∙ ap (λ (n : ℕ). bits_number (take n (drop (16 * g) bits))) c.min.ensures ∙ ap bits_number (take_least 16 (drop (16 * g) bits) (c.args.digital - 16 * g) size) in
    let pushed : c.push_u16.new.out.items ≡ c.loop-group.out.items ++ f g = c.push_u16.ensures.bytes ∙ ap (λ (n : ℕ). c.loop-group.out.items ++ little_bytes 2 n) word in
    let more : flat_map f (range_with_len 0 (g + 1)) ≡ flat_map f (range_with_len 0 g) ++ f g =
    ap (flat_map f) (range_more 0 g) ∙ flat_map-append f (range_with_len 0 g) ((0 + g) ∷ []) ∙ ap (λ (x : List ℕ). flat_map f (range_with_len 0 g) ++ x) (append-nil (f (0 + g)) ∙ ap f (omega arith)) in
    record {
      bytes = pushed ∙ ap (λ (x : List ℕ). x ++ f g) c.loop-group.invariant.bytes ∙ append_assoc c.args.out.now.items (flat_map f (range_with_len 0 g)) (f g) ∙ ap (λ (x : List ℕ). c.args.out.now.items ++ x) (sym more);
      len = omega (arith, c.push_u16.ensures.len, c.loop-group.invariant.len);
      capacity = c.push_u16.ensures.capacity ∙ c.loop-group.invariant.capacity;
    }
