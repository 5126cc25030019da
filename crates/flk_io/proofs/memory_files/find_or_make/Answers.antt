use Rattle.std.proofs.Common.{rules, ◌≡◌, ◌++◌, ◌∷◌, [], length}
use Rattle.flk_io.specs.Files.{rest, extra, place, NoFile}
use Rattle.flk_io.proofs.Lookups.{IsFirst-new, held-new}
use Rattle.flk_io.proofs.memory_files.find_or_make.Goals as goal

pub returns-clause-found : goal.returns-clause-found
returns-clause-found c =
    let grown : c.push.new.self.items ≡ c.args.files.now.items ++ c.in_ok-new.field-0 ∷ [] = search rules in
    let none : NoFile c.args.files.now.items c.args.name.now = search rules in
    let last : c.len-i.result ≡ length c.args.files.now.items = search rules in
    rw last (IsFirst-new c.args.files.now.items c.push.new.self.items c.args.name.now c.in_ok-new.field-0 none c.in_ok-new.ensures.name grown)

pub returns-clause-left : goal.returns-clause-left
returns-clause-left c =
    let grown : c.push.new.self.items ≡ c.args.files.now.items ++ c.in_ok-new.field-0 ∷ [] = search rules in
    held-new [] rest c.args.files.now.items c.push.new.self.items c.in_ok-new.field-0 c.in_ok-new.ensures.rest grown

pub returns-clause-added : goal.returns-clause-added
returns-clause-added c =
    let grown : c.push.new.self.items ≡ c.args.files.now.items ++ c.in_ok-new.field-0 ∷ [] = search rules in
    held-new [] extra c.args.files.now.items c.push.new.self.items c.in_ok-new.field-0 c.in_ok-new.ensures.extra grown

pub returns-clause-room : goal.returns-clause-room
returns-clause-room c =
    let grown : c.push.new.self.items ≡ c.args.files.now.items ++ c.in_ok-new.field-0 ∷ [] = search rules in
    held-new 0 place c.args.files.now.items c.push.new.self.items c.in_ok-new.field-0 c.in_ok-new.ensures.place grown
