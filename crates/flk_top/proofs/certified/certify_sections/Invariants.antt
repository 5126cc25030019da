use Rattle.std.proofs.Common.{take}
use Rattle.std.specs.List.{AllZip}
use Rattle.flk_top.specs.Certified.{IsCertifiedSection}
use Rattle.flk_top.proofs.certified.certify_sections.Given as goal

abbrev pub invariant-loop-i : goal.invariant-loop-i
invariant-loop-i l = AllZip IsCertifiedSection (take l.i l.sections) l.found.items
