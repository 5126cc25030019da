-- Canonical records one after another are a file.
use Rattle.std.proofs.Common.{◌≡◌, ℕ, zero, suc, ◌+◌, ◌<◌, ◌≤◌, List, [], ◌∷◌, ◌++◌, length, take, refl, sym, ap, subst, ◌∙◌, arith, length-take, append_assoc, append-nil, add-one}
use Rattle.std.specs.List.{flat_map}
use Rattle.std.proofs.lemmas.Grind.{flat_map-append}
use Rattle.std.proofs.lemmas.List.{take_all, take_more, get_or-take}
use Rattle.flk_field.specs.declared.form.Form.{Form}
use Rattle.flk_field.specs.declared.form.Form.TheVariants.{Ascii, Binary}
use Rattle.flk_dat.specs.Records.{DataRecord, Layout, HasWidth, no_record, record_at, Follows, AreConsecutive, last_number}
use Rattle.flk_dat.specs.BinaryRecords.{record_size}
use Rattle.flk_dat.specs.DataFile.{after_records, IsRecord, MayFollow, AreFirst, IsFile}
use Rattle.flk_dat.specs.Written.{IsWritable, written_binary, written_record}
use Rattle.flk_dat.proofs.Sequences.{length_more, follows_at}
use Rattle.flk_dat.proofs.StreamLemmas.{after_front, after_next, after_none, first_none, first_more}
use Rattle.flk_dat.proofs.WrittenLines.{ascii_written}
use Rattle.flk_dat.proofs.WrittenWords.{binary_written, binary_length}
use Rattle.std.proofs.Math.Seq.{drop-append_seam}
use Rattle.std.proofs.Common.{drop}

-- the record can be written in the layout
pub record CanWrite (l : Layout) (r : DataRecord) : Type 0 where
  pub width : HasWidth (length l.selected) l.digital r
  pub sets : IsWritable l.form r

-- a record's bytes are its record and nothing more, whatever follows
step_of : (form : Form) (l : Layout) (k : ℕ) (r : DataRecord) (more : List ℕ) → l.form ≡ form → length l.selected ≤ 256 → l.digital ≤ 256 → HasWidth (length l.selected) l.digital r → IsWritable form r
    → IsRecord l k (written_record form r ++ more) r × (after_front form l k (written_record form r ++ more) ≡ more)
unfolding written_record
step_of Ascii l k r more form few some w is = ascii_written l k r more form few some w is
step_of Binary l k r more form few some w is =
    let size : length (written_binary r) ≡ record_size Binary (length l.selected) l.digital = binary_length r (length l.selected) l.digital w in
    (binary_written l k r more form w is, ap (λ (n : ℕ). drop n (written_binary r ++ more)) (sym size) ∙ drop-append_seam (written_binary r) more)

-- the bytes are those of the records, whatever follows them
record AreWritten (l : Layout) (bytes : List ℕ) (rs : List DataRecord) : Type 0 where
  first : (more : List ℕ) → AreFirst l (bytes ++ more) rs
  left : (more : List ℕ) → after_records l (length rs) (bytes ++ more) ≡ more

written_more : (l : Layout) (bytes : List ℕ) (rs : List DataRecord) (r : DataRecord) → AreWritten l bytes rs → length rs < l.records → length l.selected ≤ 256 → l.digital ≤ 256 → CanWrite l r
    → Follows (last_number rs) r.number → AreWritten l (bytes ++ written_record l.form r) (rs ++ r ∷ [])
written_more l bytes rs r w lt few some can follows =
    let chunk = written_record l.form r in
    let step = λ (more : List ℕ). step_of l.form l (length rs) r more refl few some can.width can.sets in
    record {
      first = λ more.
          let here : IsRecord l (length rs) (after_records l (length rs) (bytes ++ (chunk ++ more))) r = subst (λ (b : List ℕ). IsRecord l (length rs) b r) (sym (w.left (chunk ++ more))) (step more).0 in
          subst (λ (b : List ℕ). AreFirst l b (rs ++ r ∷ [])) (sym (append_assoc bytes chunk more)) (first_more l (bytes ++ (chunk ++ more)) rs r (w.first (chunk ++ more)) lt here follows);
      left = λ more.
          ap (λ (n : ℕ). after_records l n ((bytes ++ chunk) ++ more)) (length_more rs r)
          ∙ ap (after_records l (length rs + 1)) (append_assoc bytes chunk more)
          ∙ after_next l (length rs) (bytes ++ (chunk ++ more)) lt
          ∙ ap (after_front l.form l (length rs)) (w.left (chunk ++ more))
          ∙ (step more).1;
    }

written_upto : (l : Layout) (rs : List DataRecord) (k : ℕ) → 0 < l.records → length l.selected ≤ 256 → l.digital ≤ 256 → length rs ≡ l.records → AreConsecutive rs → ((i : ℕ) → i < length rs → CanWrite l (record_at rs i)) → k ≤ length rs
    → AreWritten l (flat_map (written_record l.form) (take k rs)) (take k rs)
written_upto l rs zero some few small count order can le = record { first = λ more. first_none l more; left = λ more. after_none l more some }
written_upto l rs (suc k) some few small count order can le =
    let before = written_upto l rs k some few small count order can (omega (arith, le)) in
    let r = record_at rs k in
    let lt : k < length rs = omega (arith, le) in
    let size : length (take k rs) ≡ k = omega (arith, length-take k rs, le) in
    let follows : Follows (last_number (take k rs)) r.number = follows_at rs (take k rs) k order lt size (λ i less. get_or-take k rs i no_record less) in
    let next = written_more l (flat_map (written_record l.form) (take k rs)) (take k rs) r before (omega (arith, size, lt, count)) few small (can k lt) follows in
    let more : take (suc k) rs ≡ take k rs ++ r ∷ [] = ap (λ (n : ℕ). take n rs) (sym (add-one k)) ∙ take_more rs k no_record lt in
    let bytes : flat_map (written_record l.form) (take (suc k) rs) ≡ flat_map (written_record l.form) (take k rs) ++ written_record l.form r =
    ap (flat_map (written_record l.form)) more ∙ flat_map-append (written_record l.form) (take k rs) (r ∷ []) ∙ ap (λ (x : List ℕ). flat_map (written_record l.form) (take k rs) ++ x) (append-nil (written_record l.form r)) in
    subst (λ (b : List ℕ). AreWritten l b (take (suc k) rs)) (sym bytes) (subst (λ (x : List DataRecord). AreWritten l (flat_map (written_record l.form) (take k rs) ++ written_record l.form r) x) (sym more) next)

nothing_follows : (form : Form) → MayFollow form []
nothing_follows Ascii = (record { bytes = refl; one = omega arith }, omega arith)
nothing_follows Binary = refl

pub written_file : (l : Layout) (rs : List DataRecord) → 0 < l.records → length l.selected ≤ 256 → l.digital ≤ 256 → length rs ≡ l.records → AreConsecutive rs → ((i : ℕ) → i < length rs → HasWidth (length l.selected) l.digital (record_at rs i))
    → ((i : ℕ) → i < length rs → IsWritable l.form (record_at rs i)) → IsFile l (flat_map (written_record l.form) rs) rs
written_file l rs some few small count order width sets =
    let bytes = flat_map (written_record l.form) rs in
    let all = written_upto l rs (length rs) some few small count order (λ i lt. record { width = width i lt; sets = sets i lt }) (omega arith) in
    let w : AreWritten l bytes rs = subst (λ (x : List DataRecord). AreWritten l (flat_map (written_record l.form) x) x) (take_all (length rs) rs (omega arith)) all in
    let end : after_records l l.records bytes ≡ [] = ap (λ (n : ℕ). after_records l n bytes) (sym count) ∙ ap (after_records l (length rs)) (sym (append-nil bytes)) ∙ w.left [] in
    record {
      count = count;
      first = subst (λ (b : List ℕ). AreFirst l b rs) (append-nil bytes) (w.first []);
      end = subst (MayFollow l.form) (sym end) (nothing_follows l.form);
    }
