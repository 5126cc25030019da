use Rattle.std.proofs.Common.{◌≡◌, ◌++◌, ℕ, List, [], ℤ, refl, sym, ap, ◌∙◌, append-nil}
use Rattle.flk_field.specs.declared.form.Form.TheVariants.{Ascii}
use Rattle.flk_dat.specs.Written.{written_record}
use Rattle.flk_gen.specs.Recording.{recorded, records_in, generated_record}
use Rattle.flk_gen.proofs.ProgressLemmas.{none_more, one_more}
use Rattle.flk_gen.proofs.recording.Recording.push_record.Goals as goal

pub returns-in_default-clause-gives : goal.returns-in_default-clause-gives
returns-in_default-clause-gives c = λ seed seconds n has.
    let end = c.in_default.ensures.none seed (records_in seconds) n has.workload in
    ([], sym (append-nil c.args.out.now.items), none_more c.args.self.now _ seed seconds n has end.0 end.1 refl)

pub returns-clause-gives : goal.returns-clause-gives
returns-clause-gives c = λ seed seconds n has.
    let one = c.in-Some.ensures.some seed (records_in seconds) n has.workload in
    let place : c.given-place.result ≡ n = c.given-place.ensures.given seed (records_in seconds) n has.workload in
    let line = λ (k : ℕ) (zs : List ℤ). c.args.out.now.items ++ written_record Ascii (recorded k zs) in
    let text = c.in_ok-push_line.ensures.text ∙ ap (λ (k : ℕ). line k c.in-Some.sample) place ∙ ap (line n) one.1 in
    (written_record Ascii (generated_record seed n), text, one_more _ seed seconds n one.2 one.1)
