use Rattle.std.proofs.Common.{◌≡◌, ◌-◌, ◌^◌, ◌≤◌, map, pos}
use Rattle.flk_cert.specs.Gain.{gain_numbers}
use Rattle.flk_section.specs.Forms.{no_form}
use Rattle.flk_section.specs.Chain.{chain_samples}
use Rattle.flk_section.proofs.FormLemmas.{IsFollowing}
use Rattle.flk_section.proofs.form.follow_back.Given as goal

abbrev pub invariant-loop : goal.invariant-loop
invariant-loop l = record {
  all : l.end ≡ chain_samples;
  few : l.end ≤ 4097;
  following : IsFollowing (map gain_numbers l.gains) l.form (no_form (map gain_numbers l.gains)) l.z (pos (2 ^ 32)) (l.end - l.counter) l.end l.weights l.shares;
}
