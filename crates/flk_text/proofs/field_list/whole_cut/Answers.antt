use Rattle.std.proofs.Common.{rules, ◌<◌, ℕ, Bool, ℤ, List, [], length, sym, subst, arith, FitsSigned}
use Rattle.std.specs.Int.{w64}
use Rattle.std.proofs.lemmas.Int.{to_z-of_z}
use Rattle.flk_text.specs.Decimal.{signed}
use Rattle.flk_text.proofs.NumeralLemmas.{Signed, sign_found}
use Rattle.flk_text.proofs.WholeFields.{IsSpelled, IsFirstWhole, whole_before_comma, whole_alone}
use Rattle.flk_text.proofs.field_list.whole_cut.Goals as goal
use Rattle.flk_text.proofs.field_list.whole_cut.Goals.{then-end-digits, else-end-digits}

pub returns : goal.returns
returns c =
    let bytes = c.sign-minus.result.1.now in
    let minus = c.sign-minus.result.0 in
    let size = c.in_ok-size.size in
    let end = c.in_ok-size.end in
    let fits : FitsSigned w64 c.signed.result = search rules in
    let some : 0 < end = search rules in
    let spelled : IsSpelled c.args.rest.now bytes minus size end = record {
      cut = subst (λ (s : Bool × List ℕ). Signed c.args.rest.now s.1 s.0) (sym c.sign-minus.ensures) (sign_found c.args.rest.now);
      some = some;
      within = c.in_ok-size.ensures.within;
      are = c.in_ok-size.ensures.are;
      value = c.in_ok-size.ensures.value;
      small = c.in_ok-size.ensures.small;
    } in
    let by : (left : List (List ℕ)) → IsFirstWhole c.args.rest.now (signed minus size) left → IsFirstWhole c.args.rest.now c.signed.result left =
    λ left. subst (λ (z : ℤ). IsFirstWhole c.args.rest.now z left) (sym c.signed.ensures.value) in
    elim c.if-end-digits.branch [
      | then-end-digits w ↦ rw w.left-is (simp to_z-of_z (by [] (whole_alone c.args.rest.now bytes minus size end spelled w.if-end-digits.true)))
      | else-end-digits w ↦
          let more : end < length bytes = omega (arith, c.in_ok-size.ensures.within, w.if-end-digits.false) in
          rw w.left-is (simp to_z-of_z (by _ (whole_before_comma c.args.rest.now bytes minus size end spelled more (c.in_ok-size.ensures.comma more))))
    ]
