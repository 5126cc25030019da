use Rattle.std.proofs.Common.{rules, ◌≡◌, ◌++◌, length, vec_len, OnOk}
use Rattle.flk_field.specs.declared.form.Form.TheVariants.{Ascii}
use Rattle.flk_dat.specs.Written.{written_record}
use Rattle.flk_gen.specs.Recording.{recorded}
use Rattle.flk_gen.proofs.RowLemmas.{is_valid, line_short}
use Rattle.flk_gen.proofs.recording.push_line.Goals as goal

pub write_record-requires-clause-valid : goal.write_record-requires-clause-valid
write_record-requires-clause-valid c = is_valid c.args.configuration.now c.requires.configuration

pub returns-clause-size : goal.returns-clause-size
returns-clause-size c =
    let text : OnOk c.write_record.result (c.write_record.new.out.items ≡ c.args.out.now.items ++ written_record Ascii (recorded c.args.place c.args.sample.now)) = search rules in
    let old : vec_len c.args.out.now ≡ length c.args.out.now.items = search rules in
    let new : vec_len c.write_record.new.out ≡ length c.write_record.new.out.items = search rules in
    line_short c.write_record.result c.args.out.now.items c.write_record.new.out.items _ _ c.args.place c.args.sample.now text old new c.requires.place c.requires.channels c.requires.values
