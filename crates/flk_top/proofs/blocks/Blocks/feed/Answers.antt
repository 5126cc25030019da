use Rattle.std.proofs.Common.{arith, refl, ap, List, ℕ, ◌++◌}
use Rattle.std.specs.Prelude.{slice_range}
use Rattle.flk_top.specs.Blocks.{records_of}
use Rattle.flk_top.proofs.BlocksLemmas.{fed_more, fed_fault, fed_fits}
use Rattle.flk_top.proofs.blocks.Blocks.feed.Goals as goal

pub overflow_add-self-in-Ok : goal.overflow_add-self-in-Ok
overflow_add-self-in-Ok c =
    let given = c.requires.given in
    let piece = slice_range c.deref.result.now c.args.self.now.at c.args.self.now.end in
    let is = ap (λ (xs : List ℕ). slice_range xs c.args.self.now.at c.args.self.now.end) c.deref.ensures.value in
    omega (arith, fed_fits given.0 c.args.self.now piece c.in-Ok.count given.1 (given.2 ++ records_of c.args.self.now) given.3 is c.in-Ok.ensures.within)

pub returns-in-Err-clause-fault : goal.returns-in-Err-clause-fault
returns-in-Err-clause-fault c = λ l bytes past h.
    let piece = slice_range c.deref.result.now c.args.self.now.at c.args.self.now.end in
    let is = ap (λ (xs : List ℕ). slice_range xs c.args.self.now.at c.args.self.now.end) c.deref.ensures.value in
    fed_fault l c.args.self.now piece c.args.self.now.block c.feed.new.out c.in-Err.fault bytes past h is c.feed.ensures.grows c.in-Err.ensures.fault

pub returns-in-Ok-clause-read : goal.returns-in-Ok-clause-read
returns-in-Ok-clause-read c = λ l bytes past h.
    let piece = slice_range c.deref.result.now c.args.self.now.at c.args.self.now.end in
    let is = ap (λ (xs : List ℕ). slice_range xs c.args.self.now.at c.args.self.now.end) c.deref.ensures.value in
    fed_more l c.args.self.now _ piece c.in-Ok.count bytes past h is c.in-Ok.ensures.within c.feed.ensures.grows c.feed.ensures.layout c.feed.ensures.fits c.in-Ok.ensures.stands refl refl refl refl
