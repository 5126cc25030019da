use Rattle.std.proofs.Common.{◌≡◌, ◌≤◌, Some, None, refl, inl, rules}
use Rattle.flk_field.specs.Sets.{Refuses}
use Rattle.flk_field.specs.DateParts.{time_of}
use Rattle.flk_field.proofs.DateJudges.{no_time, time_in, time_out, time_numbers}
use Rattle.flk_field.proofs.date.time.Goals as goal

pub returns-in_default : goal.returns-in_default
unfolding Refuses
returns-in_default c =
    let none : time_of c.args.field.now ≡ None = search rules in
    inl (refl, no_time c.args.field.now none)

pub returns-then-is_of_a_day : goal.returns-then-is_of_a_day
returns-then-is_of_a_day c =
    let n = c.in-Some.numbers in
    let found : time_of c.args.field.now ≡ Some (time_numbers c.in-Some.numbers.hour c.in-Some.numbers.minute c.in-Some.numbers.second c.in-Some.numbers.nanos) = search rules in
    let day : (c.in-Some.numbers.hour ≤ 23) × (c.in-Some.numbers.minute ≤ 59) × (c.in-Some.numbers.second ≤ 59) = search rules in
    time_in c.args.field.now (time_numbers c.in-Some.numbers.hour c.in-Some.numbers.minute c.in-Some.numbers.second c.in-Some.numbers.nanos) found day

pub returns-else-is_of_a_day : goal.returns-else-is_of_a_day
returns-else-is_of_a_day c =
    let found : time_of c.args.field.now ≡ Some (time_numbers c.in-Some.numbers.hour c.in-Some.numbers.minute c.in-Some.numbers.second c.in-Some.numbers.nanos) = search rules in
    let day : ((c.in-Some.numbers.hour ≤ 23) × (c.in-Some.numbers.minute ≤ 59) × (c.in-Some.numbers.second ≤ 59)) → ⊥ = search rules in
    time_out c.args.field.now (time_numbers c.in-Some.numbers.hour c.in-Some.numbers.minute c.in-Some.numbers.second c.in-Some.numbers.nanos) found day
