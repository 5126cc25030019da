use Rattle.std.proofs.Common.{rules, ◌≡◌, true, false}
use Rattle.flk_io.specs.Files.{has_name}
use Rattle.flk_io.proofs.Lookups.{NoFile-more, IsFirst-found}
use Rattle.flk_io.proofs.memory_files.find.Goals as goal

pub returns-then-eq-clause-found : goal.returns-then-eq-clause-found
returns-then-eq-clause-found c =
    let named : has_name c.index-files-i.result c.args.name.now ≡ true = search rules in
    IsFirst-found c.args.files.now c.args.name.now c.loop-i.i c.index-files-i.result c.loop-i-test.true c.loop-i.invariant (rw (← c.index-files-i.is) named)

pub loop-i-preserved : goal.loop-i-preserved
loop-i-preserved c =
    let other : has_name c.index-files-i.result c.args.name.now ≡ false = search rules in
    NoFile-more c.args.files.now c.args.name.now c.loop-i.i c.index-files-i.result c.loop-i-test.true c.loop-i.invariant (rw (← c.index-files-i.is) other)
