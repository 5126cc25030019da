-- The data of a generated recording are accepted, whichever channels are selected.
use Rattle.std.proofs.Common.{◌≡◌, ◌≢◌, ℕ, zero, suc, ◌+◌, ◌<◌, ◌≤◌, List, length, ℤ, pos, negsuc, refl, sym, ap, ◌∙◌, subst, arith}
use Rattle.std.specs.Prelude.{unsigned_abs, slice_index_or}
use Rattle.std.proofs.lemmas.Int.{ints}
use Rattle.std.proofs.lemmas.List.FromFn.{length-map-range_with_len, get_or-map-range_with_len}
use Rattle.flk_dat.specs.Records.{DataRecord, no_record, record_at, HasWidth, layout_of, AreConsecutive}
use Rattle.flk_dat.specs.DataFile.{IsAccepted}
use Rattle.flk_dat.specs.Written.{IsWritable}
use Rattle.flk_dat.proofs.WrittenFiles.{written_file}
use Rattle.flk_gen.specs.Recording.{records_in, generated_configuration, generated_record, generated_records, generated_lines, generated_data}
use Rattle.flk_gen.specs.Workload.{value, values}
use Rattle.flk_gen.proofs.RecordingLemmas.{can_write}
use Rattle.flk_gen.proofs.ValueBounds.{value-small}

pub generated_at : (seed count k : ℕ) → k < count → record_at (generated_records seed count) k ≡ generated_record seed k
generated_at seed count k lt = get_or-map-range_with_len (generated_record seed) 0 count k k no_record lt (omega arith)

generated_count : (seed count : ℕ) → length (generated_records seed count) ≡ count
generated_count seed count = length-map-range_with_len (generated_record seed) 0 count

consecutive : (seed count : ℕ) → AreConsecutive (generated_records seed count)
consecutive seed count k lt =
    let less : k + 1 < count = omega (arith, lt, generated_count seed count) in
    ap (λ (r : DataRecord). r.number) (generated_at seed count (k + 1) less) ∙ sym (ap (λ (r : DataRecord). r.number + 1) (generated_at seed count k (omega (arith, less))))

-- no value is the one that marks a missing sample
not_missing : (z : ℤ) → unsigned_abs z ≤ 26022 → z ≢ pos 99999
not_missing (pos n) small same = omega (arith, ints, small, same)
not_missing (negsuc n) small same = omega (arith, ints, same)

present_at : (seed n i : ℕ) → slice_index_or (values seed n) i (pos 0) ≢ pos 99999
present_at seed n zero = not_missing (value seed 0 n) (value-small seed 0 n)
present_at seed n (suc zero) = not_missing (value seed 1 n) (value-small seed 1 n)
present_at seed n (suc (suc zero)) = not_missing (value seed 2 n) (value-small seed 2 n)
present_at seed n (suc (suc (suc i))) = λ same. omega (arith, ints, same)

pub data_accepted : (seed seconds : ℕ) → 1 ≤ seconds → seconds ≤ 8000 → (channels : List ℕ)
    → IsAccepted (layout_of (generated_configuration seconds) channels) (generated_data seed seconds) (generated_records seed (records_in seconds))
unfolding generated_lines
data_accepted seed seconds some most channels =
    let l = layout_of (generated_configuration seconds) channels in
    let count = records_in seconds in
    let rs = generated_records seed count in
    let long = generated_count seed count in
    let width : (i : ℕ) → i < length rs → HasWidth (length l.selected) l.digital (record_at rs i) = λ i lt.
    subst (HasWidth (length l.selected) l.digital) (sym (generated_at seed count i (omega (arith, lt, long)))) (record { analog_count = refl; digital_count = refl }) in
    let sets : (i : ℕ) → i < length rs → IsWritable l.form (record_at rs i) = λ i lt.
    let less : i < count = omega (arith, lt, long) in
    subst (IsWritable l.form) (sym (generated_at seed count i less)) (can_write seed i (omega (arith, less, most))) in
    record {
      file = written_file l rs (omega (arith, some)) (omega arith) (omega arith) long (consecutive seed count) width sets;
      present = λ k lt i chosen.
          subst (λ (r : DataRecord). slice_index_or r.analog i (pos 0) ≢ pos 99999) (sym (generated_at seed count k (omega (arith, lt, long)))) (present_at seed k i);
    }
