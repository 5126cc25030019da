use Rattle.std.proofs.Common.{rules, ◌≡◌, ◌<◌, [], ◌∷◌, ◌++◌, length, refl}
use Rattle.flk_top.specs.Certified.{IsCertifiedSection, IsRefused}
use Rattle.flk_top.proofs.LampLemmas.{first_refused, accepted_more}
use Rattle.flk_top.proofs.certified.certify_sections.Goals as goal

pub returns-in-None-clause-refused : goal.returns-in-None-clause-refused
returns-in-None-clause-refused c =
    let i = c.loop-i.i in
    let k = c.index-sections-i.result in
    let sections = c.args.sections.now in
    let there : i < length sections = search rules in
    let fails : IsRefused k = search rules in
    (i, refl, first_refused sections i k c.loop-i.found.items there c.index-sections-i.is c.loop-i.invariant fails)

pub loop-i-preserved : goal.loop-i-preserved
loop-i-preserved c =
    let i = c.loop-i.i in
    let k = c.index-sections-i.result in
    let sections = c.args.sections.now in
    let there : i < length sections = search rules in
    let one : IsCertifiedSection k c.in-Some.section = search rules in
    let pushed : c.push.new.self.items ≡ c.loop-i.found.items ++ c.in-Some.section ∷ [] = search rules in
    accepted_more sections i k c.loop-i.found.items c.in-Some.section c.push.new.self.items there c.index-sections-i.is c.loop-i.invariant one pushed
