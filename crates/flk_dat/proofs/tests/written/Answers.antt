use Rattle.std.proofs.Common.{◌≡◌, ◌<◌, ◌^◌, ℕ, ℤ, pos, negsuc, ◌≤ℤ◌, List, [], ◌∷◌, ◌++◌, Some, zero, suc, arith, refl, sym, ap, subst, ◌∙◌, rules}
use Rattle.std.specs.Prelude.{FitsSigned, All}
use Rattle.std.specs.Int.{w32}
use Rattle.std.proofs.lemmas.Int.{ints}
use Rattle.flk_field.specs.declared.form.Form.{Form}
use Rattle.flk_field.specs.declared.form.Form.TheVariants.{Ascii, Binary}
use Rattle.flk_dat.specs.Records.{DataRecord, Rows, record_at}
use Rattle.flk_dat.specs.SampleFields.{IsSampleValue}
use Rattle.flk_dat.specs.Written.{IsWritable}
use Rattle.flk_dat.proofs.tests.written.Goals as goal

abbrev the_record : ℕ → ℤ → DataRecord
the_record stamp value = record { number = 7; stamp = Some stamp; analog = value ∷ []; digital = [] }

one : (P : ℤ → Type 0) (z : ℤ) → P z → All P (z ∷ [])
one P z h zero d lt = h
one P z h (suc k) d lt = absurd (omega (arith, lt))

writable : (form : Form) (stamp : ℕ) (value : ℤ) → stamp < 2 ^ 32 → (negsuc 32767 ≤ℤ value) × (value ≤ℤ pos 32767) → IsWritable form (the_record stamp value)
writable Ascii stamp value few range =
    let wide : IsSampleValue value = (omega (arith, ints, range.0), omega (arith, ints, range.1)) in
    record { number = omega arith; stamp = omega (arith, few); analog = one IsSampleValue value wide }
writable Binary stamp value few range = record { number = omega arith; stamp = few; analog = one (λ z. (negsuc 32767 ≤ℤ z) × (z ≤ℤ pos 32767)) value range }

pub write_record-requires-clause-sets : goal.write_record-requires-clause-sets
write_record-requires-clause-sets c =
    let fits : FitsSigned w32 c.args.value = c.ranges.value in
    let r = the_record c.args.stamp c.args.value in
    let pushed : c.push.new.self ≡ record c.in_ok-out.out { records = c.in_ok-out.out.records ++ r ∷ [] } = search rules in
    let records : c.push.new.self.records ≡ r ∷ [] = ap (λ (b : Rows). b.records) pushed ∙ ap (λ (rs : List DataRecord). rs ++ r ∷ []) c.in_ok-out.ensures.2 in
    subst (λ (rs : List DataRecord). IsWritable c.in-Ok.config.form (record_at rs 0)) (sym records) (writable c.in-Ok.config.form c.args.stamp c.args.value c.requires.stamp c.requires.value)

pub new-requires : goal.new-requires
new-requires c = c.if-not-valid_cfg.ensures.0 refl

pub write_record-requires-clause-valid : goal.write_record-requires-clause-valid
write_record-requires-clause-valid c = c.if-not-valid_cfg.ensures.0 refl
