use Rattle.std.proofs.Common.{rules, ◌≡◌, ◌<◌, true, false, length, [], get_or, map, Contains, sym, ◌∙◌, ap, subst, arith}
use Rattle.std.specs.Str.{bytes_eq}
use Rattle.std.proofs.lemmas.List.{get_or-map, length-map, take_all}
use Rattle.flk_io.specs.OpenFiles.{name_of}
use Rattle.flk_io.proofs.Names.{equal_names, unequal_names, not_among-more}
use Rattle.flk_io.proofs.open_files.place.Goals as goal

pub returns-then-eq-clause-named : goal.returns-then-eq-clause-named
returns-then-eq-clause-named c =
    let files = c.args.files.now in
    let file = c.index-files-i.result in
    let same : bytes_eq (name_of file) c.args.name.now ≡ true = search rules in
    get_or-map name_of files c.loop-i.i file [] c.loop-i-test.true ∙ ap name_of (sym c.index-files-i.is) ∙ equal_names (name_of file) c.args.name.now same

pub loop-i-preserved : goal.loop-i-preserved
loop-i-preserved c =
    let files = c.args.files.now in
    let file = c.index-files-i.result in
    let names = map name_of files in
    let other : bytes_eq (name_of file) c.args.name.now ≡ false = search rules in
    let at : get_or names c.loop-i.i [] ≡ name_of file = get_or-map name_of files c.loop-i.i file [] c.loop-i-test.true ∙ ap name_of (sym c.index-files-i.is) in
    let less : c.loop-i.i < length names = omega (arith, length-map files name_of, c.loop-i-test.true) in
    not_among-more names c.loop-i.i c.args.name.now less c.loop-i.invariant (λ same. unequal_names (name_of file) c.args.name.now other (sym at ∙ same))

pub returns-clause-none : goal.returns-clause-none
returns-clause-none c =
    let names = map name_of c.args.files.now in
    subst (λ ns. ¬ Contains ns c.args.name.now) (take_all c.loop-i.i names (omega (arith, length-map c.args.files.now name_of, c.loop-i-test.false))) c.loop-i.invariant
