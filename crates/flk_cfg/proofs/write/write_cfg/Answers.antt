use Rattle.std.proofs.Common.{◌≡◌, ◌++◌, length, rules}
use Rattle.flk_cfg.specs.Canonical.{line_text, lines_text, title_fields, counts_fields, analog_lines, digital_lines, setting_lines}
use Rattle.flk_cfg.proofs.CanonicalText.{canonical_whole}
use Rattle.flk_cfg.proofs.write.write_cfg.Goals as goal

pub returns : goal.returns
returns c =
    let config = c.args.c.now in
    let title : c.push_title.new.out.items ≡ line_text (title_fields config) = search rules in
    let counts : c.push_counts.new.out.items ≡ c.push_title.new.out.items ++ line_text (counts_fields (length config.analog) (length config.digital)) = search rules in
    let analog : c.push_analogs.new.out.items ≡ c.push_counts.new.out.items ++ lines_text (analog_lines 1 config.analog) = search rules in
    let digital : c.push_digitals.new.out.items ≡ c.push_analogs.new.out.items ++ lines_text (digital_lines 1 config.digital) = search rules in
    let settings : c.push_settings.new.out.items ≡ c.push_digitals.new.out.items ++ lines_text (setting_lines config) = search rules in
    canonical_whole config c.push_title.new.out.items c.push_counts.new.out.items c.push_analogs.new.out.items c.push_digitals.new.out.items c.push_settings.new.out.items title counts analog digital settings
