use Rattle.std.proofs.Common.{rules, ◌∷◌, ℕ}
use Rattle.flk_num.specs.Rate.{smoothing_number}
use Rattle.flk_stat.specs.Smooth.{rate_of}
use Rattle.flk_stat.specs.Rounded.{level_after, IsLevel}
use Rattle.flk_stat.proofs.SmoothingLaws.{number_in}
use Rattle.flk_stat.proofs.SmoothingLemmas.{level_held}
use Rattle.flk_stat.proofs.WidthLemmas.{level_spread}
use Rattle.flk_stat.proofs.smooth.Smooth.step.Goals as goal

pub returns-clause-holds : goal.returns-clause-holds
returns-clause-holds c = λ ws xs ps p stands held levels.
    let number : ℕ = smoothing_number (rate_of c.args.self.now) in
    let ends : IsLevel (level_after number (c.args.w ∷ ws)) c.interval_of.result = search rules in
    level_held number (c.args.w ∷ ws) xs ps p c.interval_of.result (number_in (rate_of c.args.self.now)).0 held levels ends

pub returns-clause-narrow : goal.returns-clause-narrow
returns-clause-narrow c = λ ws rw stands low near.
    let number : ℕ = smoothing_number (rate_of c.args.self.now) in
    let ends : IsLevel (level_after number (c.args.w ∷ ws)) c.interval_of.result = search rules in
    let n = number_in (rate_of c.args.self.now) in
    level_spread number (c.args.w ∷ ws) c.interval_of.result rw n.0 n.1 low near ends
