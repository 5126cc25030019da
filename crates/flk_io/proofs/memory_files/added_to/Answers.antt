use Rattle.std.proofs.Common.{[], sym, ◌∙◌}
use Rattle.flk_io.specs.Files.{extra}
use Rattle.flk_io.proofs.Lookups.{held-none, held-first}
use Rattle.flk_io.proofs.memory_files.added_to.Goals as goal

pub returns-in-None : goal.returns-in-None
returns-in-None c = sym (held-none [] extra c.args.files.now c.args.name.now c.in-None.ensures.none)

pub returns-in-Some : goal.returns-in-Some
returns-in-Some c =
    c.added.ensures ∙ sym (held-first [] extra c.args.files.now c.args.name.now c.in-Some.i c.index-files-i.result c.in-Some.ensures.found c.index-files-i.is)
