use Rattle.std.proofs.Common.{rules, ◌≡◌, pos, Some, None, List, ℕ, map}
use Rattle.toml.specs.Data.{get_member, as_array}
use Rattle.toml.specs.View.{view, items_view, table_view}
use Rattle.flk_job.specs.Table.{key_name, AreChannels}
use Rattle.flk_job.specs.Reading.{integers}
use Rattle.flk_job.proofs.KeyLemmas.{channels_other, channels_out, channels_there}
use Rattle.flk_job.proofs.channels.channels_in.Goals as goal

pub returns-in_default-2 : goal.returns-in_default-2
returns-in_default-2 c =
    let here : Some (view c.in-Some.value.now) ≡ get_member (key_name c.args.key) (table_view c.args.table.now) = search rules in
    let items : Some (items_view c.as_slice.result.now) ≡ as_array (view c.in-Some.value.now) = search rules in
    let whole : integers (items_view c.as_slice.result.now) ≡ None = search rules in
    (c.fault-in_default-2.ensures.key, channels_other _ _ _ _ here items whole c.fault-in_default-2.ensures.kind)

pub returns-in-Some-3 : goal.returns-in-Some-3
returns-in-Some-3 c =
    let here : Some (view c.in-Some.value.now) ≡ get_member (key_name c.args.key) (table_view c.args.table.now) = search rules in
    let items : Some (items_view c.as_slice.result.now) ≡ as_array (view c.in-Some.value.now) = search rules in
    let whole : integers (items_view c.as_slice.result.now) ≡ Some c.in-Some-2.numbers.items = search rules in
    let same : map (λ n. pos n) c.in-Some-3.channels ≡ c.in-Some-2.numbers.items = search rules in
    let set : AreChannels c.in-Some-3.channels = search rules in
    (channels_there _ _ _ _ _ here items whole same, set)

pub returns : goal.returns
returns c =
    let here : Some (view c.in-Some.value.now) ≡ get_member (key_name c.args.key) (table_view c.args.table.now) = search rules in
    let items : Some (items_view c.as_slice.result.now) ≡ as_array (view c.in-Some.value.now) = search rules in
    let whole : integers (items_view c.as_slice.result.now) ≡ Some c.in-Some-2.numbers.items = search rules in
    let out : (ns : List ℕ) → map (λ n. pos n) ns ≡ c.in-Some-2.numbers.items → ¬ AreChannels ns = search rules in
    (c.fault-in-None.ensures.key, channels_out _ _ _ _ _ here items whole out c.fault-in-None.ensures.kind)
