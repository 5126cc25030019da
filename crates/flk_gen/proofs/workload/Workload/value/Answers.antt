use Rattle.std.proofs.Common.{rules, refl, ◌≡◌, ◌+◌, ◌/◌, ◌%◌, FitsSigned, to_z-of_z}
use Rattle.std.specs.Int.{w32}
use Rattle.flk_gen.specs.Workload.{draw, depth_of, wave, lowered, shift}
use Rattle.flk_gen.proofs.workload.Workload.value.Goals as goal

pub returns-clause-value : goal.returns-clause-value
returns-clause-value c = λ seed all n stands.
    let fits : FitsSigned w32 c.lowered.result = search rules in
    let l : c.lowered.result ≡ lowered c.wave.result c.depth.result = search rules in
    let w : c.wave.result ≡ wave c.place_ahead.result = search rules in
    let d : c.depth.result ≡ depth_of c.draw_ahead-draw.result c.args.channel = search rules in
    let p : c.place_ahead.result ≡ (n + c.shift-ahead.result) % 48 = c.place_ahead.ensures.place seed all n stands in
    let r : c.draw_ahead-draw.result ≡ draw seed (1 + (n + c.shift-ahead.result) / 1200) = c.draw_ahead-draw.ensures seed all n stands in
    let s : c.shift-ahead.result ≡ shift c.args.channel = c.shift-ahead.ensures.value in
    simp to_z-of_z (rw (l, w, d, p, r, s) refl)
