-- What the judges of single fields answer where a field is read as no whole number.
use Rattle.std.proofs.Common.{◌≡◌, ℕ, List, Err, refl, inl, inr}
use Rattle.flk_text.specs.WholeNumber.{IsWholeAnswer}
use Rattle.flk_text.specs.declared.decimals.NumFault.{NumFault}
use Rattle.flk_text.specs.declared.decimals.NumFault.TheVariants.{Syntax, Range}
use Rattle.flk_field.proofs.FieldJudges.{whole_far}
use Rattle.flk_dat.specs.SampleFields.{NoWhole, NoSample}
use Rattle.flk_dat.specs.declared.kind.Kind.{Kind}
use Rattle.flk_dat.specs.declared.kind.Kind.TheVariants as kinds

pub no_whole : (most : ℕ) (field : List ℕ) (fault : NumFault) (kind : Kind) → (fault ≡ Syntax → kind ≡ kinds.Number) → (fault ≡ Range → kind ≡ kinds.Range)
    → IsWholeAnswer field (Err fault) → NoWhole most field kind
no_whole most field Syntax kind syntax range answer = inl (syntax refl, answer)
no_whole most field Range kind syntax range answer = inr (range refl, answer.0, whole_far 0 most field answer.1)

pub no_sample : (field : List ℕ) (fault : NumFault) (kind : Kind) → (fault ≡ Syntax → kind ≡ kinds.Number) → (fault ≡ Range → kind ≡ kinds.Range)
    → IsWholeAnswer field (Err fault) → NoSample field kind
no_sample field Syntax kind syntax range answer = inl (syntax refl, answer)
no_sample field Range kind syntax range answer = inr (range refl, answer.0, λ z is. answer.1 z is.value)
