use Rattle.std.proofs.Common.{rules, ◌<◌, length, map, arith}
use Rattle.std.proofs.lemmas.List.{length-map}
use Rattle.flk_io.specs.OpenFiles.{name_of}
use Rattle.flk_io.proofs.Names.{Contains-named, names-kept}
use Rattle.flk_io.proofs.open_files.OpenFiles.append.Goals as goal

pub returns-clause-opened : goal.returns-clause-opened
returns-clause-opened c =
    let files = c.find_or_open.new.self.files.items in
    let kept = names-kept files c.in_ok-i.i c.index_mut.result.now c.write.new.self c.write.ensures.name c.index_mut.ensures.value in
    let less : c.in_ok-i.i < length (map name_of files) = omega (arith, length-map files name_of, c.in_ok-i.ensures.within) in
    let there = Contains-named (map name_of files) c.in_ok-i.i c.args.name.now less c.in_ok-i.ensures.named in
    rw kept (search (rules, there))

pub returns-clause-once : goal.returns-clause-once
returns-clause-once c =
    let files = c.find_or_open.new.self.files.items in
    let kept = names-kept files c.in_ok-i.i c.index_mut.result.now c.write.new.self c.write.ensures.name c.index_mut.ensures.value in
    rw kept c.in_ok-i.ensures.once
