use Rattle.std.proofs.Common.{rules, arith, refl, ◌≡◌, ◌-◌, ◌<◌, ℕ, sym, ap, ◌∙◌, subst}
use Rattle.flk_cfg.specs.Canonical.{canonical}
use Rattle.flk_cfg.specs.Valid.{IsValid}
use Rattle.flk_cfg.specs.declared.config.Config.{Config}
use Rattle.flk_gen.specs.Recording.{records_in, generated_text, generated_data}
use Rattle.flk_gen.specs.Workload.{values}
use Rattle.flk_gen.proofs.ConfigurationLemmas.{generated_valid}
use Rattle.flk_top.specs.Command.{gen_configuration_name, gen_data_name}
use Rattle.flk_top.specs.GenDue.{gen_text}
use Rattle.flk_top.proofs.GenData.{on_err}
use Rattle.flk_top.proofs.GenReplies.{both_appended, first_begun, second_begun, nothing_begun_yet, all_begun, one_appended_only, two_appended_only, appended_as, front_as, others_as}
use Rattle.flk_top.proofs.generate.gen_reply.Goals as goal

-- ---- nothing is appended yet

pub returns-in_err-configuration-clause-front : goal.returns-in_err-configuration-clause-front
returns-in_err-configuration-clause-front g c =
    let t0 = g.F.Shelf.told c.args.shelf.now in
    let a = gen_configuration_name c.args.words.now in
    let b = gen_data_name c.args.words.now in
    let x = generated_text c.args.command.seconds in
    let y = generated_data c.args.command.seed c.args.command.seconds in
    on_err _ _ (nothing_begun_yet t0.added a b x y)

pub returns-in_err-recording-clause-front : goal.returns-in_err-recording-clause-front
returns-in_err-recording-clause-front g c =
    let t0 = g.F.Shelf.told c.args.shelf.now in
    let a = gen_configuration_name c.args.words.now in
    let b = gen_data_name c.args.words.now in
    let x = generated_text c.args.command.seconds in
    let y = generated_data c.args.command.seed c.args.command.seconds in
    on_err _ _ (nothing_begun_yet t0.added a b x y)

pub write_cfg-requires : goal.write_cfg-requires
write_cfg-requires g c =
    subst IsValid (sym c.in_ok-configuration.ensures) (generated_valid c.args.command.seconds c.requires.seconds_word.at_least c.requires.seconds_word.at_most)

pub returns-in_err-text-clause-front : goal.returns-in_err-text-clause-front
returns-in_err-text-clause-front g c =
    let t0 = g.F.Shelf.told c.args.shelf.now in
    let a = gen_configuration_name c.args.words.now in
    let b = gen_data_name c.args.words.now in
    let x = generated_text c.args.command.seconds in
    let y = generated_data c.args.command.seed c.args.command.seconds in
    on_err _ _ (nothing_begun_yet t0.added a b x y)

-- ---- the configuration is appended

pub returns-in_err-append_all-clause-front : goal.returns-in_err-append_all-clause-front
returns-in_err-append_all-clause-front g c =
    let t0 = g.F.Shelf.told c.args.shelf.now in
    let a = gen_configuration_name c.args.words.now in
    let b = gen_data_name c.args.words.now in
    let x = generated_text c.args.command.seconds in
    let y = generated_data c.args.command.seed c.args.command.seconds in
    let t1 = g.F.Shelf.told c.append_all.new.shelf in
    let is_a : c.word.result.now ≡ a = search rules in
    let is_x : c.deref.result.now ≡ x = c.deref.ensures.value ∙ c.in_ok-text.ensures ∙ ap canonical c.in_ok-configuration.ensures in
    let front = front_as t0.added t1.added c.word.result.now a c.deref.result.now x is_a is_x c.in_err-append_all.ensures.front in
    let others = others_as t0.added t1.added c.word.result.now a is_a c.in_err-append_all.ensures.others in
    on_err _ _ (first_begun t0.added t1.added a b x y front others)

pub returns-in_err-append_all-clause-names : goal.returns-in_err-append_all-clause-names
returns-in_err-append_all-clause-names g c =
    let t0 = g.F.Shelf.told c.args.shelf.now in
    let t1 = g.F.Shelf.told c.append_all.new.shelf in
    let a = gen_configuration_name c.args.words.now in
    let b = gen_data_name c.args.words.now in
    let is_a : c.word.result.now ≡ a = search rules in
    one_appended_only t0 t1 a b (others_as t0.added t1.added c.word.result.now a is_a c.in_err-append_all.ensures.others)

-- ---- the records are appended

pub returns-in_err-append_records-clause-front : goal.returns-in_err-append_records-clause-front
returns-in_err-append_records-clause-front g c =
    let t0 = g.F.Shelf.told c.args.shelf.now in
    let a = gen_configuration_name c.args.words.now in
    let b = gen_data_name c.args.words.now in
    let x = generated_text c.args.command.seconds in
    let y = generated_data c.args.command.seed c.args.command.seconds in
    let t1 = g.F.Shelf.told c.append_all.new.shelf in
    let is_a : c.word.result.now ≡ a = search rules in
    let is_x : c.deref.result.now ≡ x = c.deref.ensures.value ∙ c.in_ok-text.ensures ∙ ap canonical c.in_ok-configuration.ensures in
    let t2 = g.F.Shelf.told c.append_records.new.shelf in
    let is_b : c.word-2.result.now ≡ b = search rules in
    let first = appended_as t0.added t1.added c.word.result.now a c.deref.result.now x is_a is_x c.in_ok-append_all.ensures.whole in
    let others = others_as t0.added t1.added c.word.result.now a is_a c.in_ok-append_all.ensures.others in
    let had = c.in_err-append_records.ensures.front c.args.command.seed c.args.command.seconds c.in_ok-recording.ensures in
    let front = front_as t1.added t2.added c.word-2.result.now b y y is_b refl had in
    let rest = others_as t1.added t2.added c.word-2.result.now b is_b c.in_err-append_records.ensures.others in
    on_err _ _ (second_begun t0.added t1.added t2.added a b x y c.requires.names first others front rest)

pub returns-in_err-append_records-clause-names : goal.returns-in_err-append_records-clause-names
returns-in_err-append_records-clause-names g c =
    let t0 = g.F.Shelf.told c.args.shelf.now in
    let t1 = g.F.Shelf.told c.append_all.new.shelf in
    let a = gen_configuration_name c.args.words.now in
    let b = gen_data_name c.args.words.now in
    let is_a : c.word.result.now ≡ a = search rules in
    let t2 = g.F.Shelf.told c.append_records.new.shelf in
    let is_b : c.word-2.result.now ≡ b = search rules in
    let others = others_as t0.added t1.added c.word.result.now a is_a c.in_ok-append_all.ensures.others in
    two_appended_only t0 t1 t2 a b others (others_as t1.added t2.added c.word-2.result.now b is_b c.in_err-append_records.ensures.others)

-- ---- the summary

pub returns-in_err-text-2-clause-front : goal.returns-in_err-text-2-clause-front
returns-in_err-text-2-clause-front g c =
    let t0 = g.F.Shelf.told c.args.shelf.now in
    let a = gen_configuration_name c.args.words.now in
    let b = gen_data_name c.args.words.now in
    let x = generated_text c.args.command.seconds in
    let y = generated_data c.args.command.seed c.args.command.seconds in
    let t1 = g.F.Shelf.told c.append_all.new.shelf in
    let is_a : c.word.result.now ≡ a = search rules in
    let is_x : c.deref.result.now ≡ x = c.deref.ensures.value ∙ c.in_ok-text.ensures ∙ ap canonical c.in_ok-configuration.ensures in
    let t2 = g.F.Shelf.told c.append_records.new.shelf in
    let is_b : c.word-2.result.now ≡ b = search rules in
    let first = appended_as t0.added t1.added c.word.result.now a c.deref.result.now x is_a is_x c.in_ok-append_all.ensures.whole in
    let others = others_as t0.added t1.added c.word.result.now a is_a c.in_ok-append_all.ensures.others in
    let had = c.in_ok-append_records.ensures.whole c.args.command.seed c.args.command.seconds c.in_ok-recording.ensures in
    let second = appended_as t1.added t2.added c.word-2.result.now b y y is_b refl had.1 in
    let rest = others_as t1.added t2.added c.word-2.result.now b is_b c.in_ok-append_records.ensures.others in
    let both = both_appended t0.added t1.added t2.added a b x y c.requires.names first others second rest in
    on_err _ _ (all_begun t0.added t2.added a b x y both)

pub returns-in_err-text-2-clause-names : goal.returns-in_err-text-2-clause-names
returns-in_err-text-2-clause-names g c =
    let t0 = g.F.Shelf.told c.args.shelf.now in
    let t1 = g.F.Shelf.told c.append_all.new.shelf in
    let a = gen_configuration_name c.args.words.now in
    let b = gen_data_name c.args.words.now in
    let is_a : c.word.result.now ≡ a = search rules in
    let t2 = g.F.Shelf.told c.append_records.new.shelf in
    let is_b : c.word-2.result.now ≡ b = search rules in
    let others = others_as t0.added t1.added c.word.result.now a is_a c.in_ok-append_all.ensures.others in
    two_appended_only t0 t1 t2 a b others (others_as t1.added t2.added c.word-2.result.now b is_b c.in_ok-append_records.ensures.others)

pub returns-clause-names : goal.returns-clause-names
returns-clause-names g c =
    let t0 = g.F.Shelf.told c.args.shelf.now in
    let t1 = g.F.Shelf.told c.append_all.new.shelf in
    let a = gen_configuration_name c.args.words.now in
    let b = gen_data_name c.args.words.now in
    let is_a : c.word.result.now ≡ a = search rules in
    let t2 = g.F.Shelf.told c.append_records.new.shelf in
    let is_b : c.word-2.result.now ≡ b = search rules in
    let others = others_as t0.added t1.added c.word.result.now a is_a c.in_ok-append_all.ensures.others in
    two_appended_only t0 t1 t2 a b others (others_as t1.added t2.added c.word-2.result.now b is_b c.in_ok-append_records.ensures.others)

pub returns-clause-whole : goal.returns-clause-whole
returns-clause-whole g c =
    let t0 = g.F.Shelf.told c.args.shelf.now in
    let a = gen_configuration_name c.args.words.now in
    let b = gen_data_name c.args.words.now in
    let x = generated_text c.args.command.seconds in
    let y = generated_data c.args.command.seed c.args.command.seconds in
    let t1 = g.F.Shelf.told c.append_all.new.shelf in
    let is_a : c.word.result.now ≡ a = search rules in
    let is_x : c.deref.result.now ≡ x = c.deref.ensures.value ∙ c.in_ok-text.ensures ∙ ap canonical c.in_ok-configuration.ensures in
    let t2 = g.F.Shelf.told c.append_records.new.shelf in
    let is_b : c.word-2.result.now ≡ b = search rules in
    let first = appended_as t0.added t1.added c.word.result.now a c.deref.result.now x is_a is_x c.in_ok-append_all.ensures.whole in
    let others = others_as t0.added t1.added c.word.result.now a is_a c.in_ok-append_all.ensures.others in
    let had = c.in_ok-append_records.ensures.whole c.args.command.seed c.args.command.seconds c.in_ok-recording.ensures in
    let second = appended_as t1.added t2.added c.word-2.result.now b y y is_b refl had.1 in
    let rest = others_as t1.added t2.added c.word-2.result.now b is_b c.in_ok-append_records.ensures.others in
    let both = both_appended t0.added t1.added t2.added a b x y c.requires.names first others second rest in
    let seed = c.args.command.seed in
    let records = records_in c.args.command.seconds in
    let some : 0 < records = omega (arith, c.requires.seconds_word.at_least) in
    let count : c.in_ok-configuration.configuration.endsamp ≡ records = ap (λ (k : Config). k.endsamp) c.in_ok-configuration.ensures in
    let last = c.last.ensures seed c.args.command.seconds records had.0 some in
    let text = c.in_ok-text-2.ensures seed (last ∙ ap (λ (n : ℕ). values seed (n - 1)) (sym count)) in
    (record { status = refl; text = sym (text ∙ ap (λ (n : ℕ). gen_text seed n) count) }, both)
