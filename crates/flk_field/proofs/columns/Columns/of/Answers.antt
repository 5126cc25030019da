use Rattle.std.proofs.Common.{◌≡◌, ◌<◌, ◌≤◌, ℕ, arith, refl, ap, length, map, take, subst, ◌∙◌, length-set}
use Rattle.flk_text.specs.Fields.{fields}
use Rattle.flk_field.proofs.ColumnLemmas.{one_taken, taken_count, all_taken}
use Rattle.flk_field.proofs.columns.Columns.of.Goals as goal

pub loop-place-preserved : goal.loop-place-preserved
loop-place-preserved c =
    let lt : c.loop-place.place < length c.loop-place.parts = omega (arith, c.loop-place-test.true, c.requires, c.loop-place.invariant.size) in
    record {
      taken = one_taken (λ p. p.now) c.loop-place.parts c.loop-place.place c.in-Some.part (fields c.args.line.now) c.loop-place.left c.next_field.new.self lt c.loop-place.invariant.taken c.in-Some.ensures;
      size = length-set c.loop-place.parts c.loop-place.place c.in-Some.part ∙ c.loop-place.invariant.size;
    }

pub returns-in-Some-next_field : goal.returns-in-Some-next_field
returns-in-Some-next_field c =
    let le : c.loop-place.place ≤ length c.loop-place.parts = omega (arith, c.loop-place.auto.place-end, c.requires, c.loop-place.invariant.size) in
    let count = taken_count (λ p. p.now) c.loop-place.parts c.loop-place.place (fields c.args.line.now) c.loop-place.left le c.loop-place.invariant.taken in
    let more = ap length c.in-Some-next_field.ensures in
    (λ e. omega (arith, e, count, more, c.loop-place-test.false, c.loop-place.auto.place-end), refl)

pub returns-in-None-next_field : goal.returns-in-None-next_field
returns-in-None-next_field c =
    let le : c.loop-place.place ≤ length c.loop-place.parts = omega (arith, c.loop-place.auto.place-end, c.requires, c.loop-place.invariant.size) in
    let count = taken_count (λ p. p.now) c.loop-place.parts c.loop-place.place (fields c.args.line.now) c.loop-place.left le c.loop-place.invariant.taken in
    let none = ap length c.in-None-next_field.ensures.0 in
    let same : c.loop-place.place ≡ c.args.count = omega (arith, c.loop-place-test.false, c.loop-place.auto.place-end) in
    let all = all_taken (λ p. p.now) c.loop-place.parts c.loop-place.place (fields c.args.line.now) c.loop-place.left c.loop-place.invariant.taken c.in-None-next_field.ensures.0 in
    (subst (λ (n : ℕ). take n (map (λ p. p.now) c.loop-place.parts) ≡ fields c.args.line.now) same all, omega (arith, count, none, same), refl)
