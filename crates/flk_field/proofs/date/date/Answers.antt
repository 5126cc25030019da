use Rattle.std.proofs.Common.{◌≡◌, Some, None, pos, refl, inl, rules}
use Rattle.flk_field.specs.Sets.{Refuses}
use Rattle.flk_field.specs.DateParts.{date_of}
use Rattle.flk_field.proofs.DateJudges.{no_date, date_in, date_out, date_numbers}
use Rattle.flk_field.proofs.date.date.Goals as goal

pub returns-in_default : goal.returns-in_default
unfolding Refuses
returns-in_default c =
    let none : date_of c.args.field.now ≡ None = search rules in
    inl (refl, no_date c.args.field.now none)

pub returns-then-is_date : goal.returns-then-is_date
returns-then-is_date c =
    let n = date_numbers c.in-Some.numbers.day c.in-Some.numbers.month c.in-Some.numbers.year in
    let found : date_of c.args.field.now ≡ Some (date_numbers c.in-Some.numbers.day c.in-Some.numbers.month c.in-Some.numbers.year) = search rules in
    date_in c.args.field.now n _ found (search rules) (search rules)

pub returns-else-is_date : goal.returns-else-is_date
returns-else-is_date c =
    let n = date_numbers c.in-Some.numbers.day c.in-Some.numbers.month c.in-Some.numbers.year in
    let found : date_of c.args.field.now ≡ Some (date_numbers c.in-Some.numbers.day c.in-Some.numbers.month c.in-Some.numbers.year) = search rules in
    date_out c.args.field.now n (pos c.in-Some.numbers.year) found refl (search rules)
