use Rattle.std.proofs.Common.{◌≡◌, ℕ, ◌+◌, Bool, length, ap, ◌∙◌, sym, arith}
use Rattle.std.proofs.lemmas.List.FromFn.{length-map-range_with_len}
use Rattle.flk_dat.specs.Records.{is_among}
use Rattle.flk_dat.specs.BinaryRecords.{record_size}
use Rattle.flk_dat.proofs.channels.Channels.new.Goals as goal

pub invariant_of-result : goal.invariant_of-result
invariant_of-result c =
    let f : ℕ → Bool = λ k. is_among c.args.numbers.now (k + 1) in
    let selected : length c.in_ok-flags.field-0.items ≡ c.args.analog = ap length c.in_ok-flags.ensures ∙ length-map-range_with_len f 0 c.args.analog in
    record {
      analog_few = omega (arith, selected, c.requires.few);
      digital_few = omega (arith, c.requires.few);
      size_is = c.record_size.ensures ∙ ap (λ (n : ℕ). record_size c.args.form n c.args.digital) (sym selected);
    }

pub returns-clause-selected : goal.returns-clause-selected
returns-clause-selected c =
    let f : ℕ → Bool = λ k. is_among c.args.numbers.now (k + 1) in
    (c.in_ok-flags.ensures, ap length c.in_ok-flags.ensures ∙ length-map-range_with_len f 0 c.args.analog)
