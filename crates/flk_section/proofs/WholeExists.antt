-- There is a bound of a whole cascade for gains that fit, where the rule's numbers keep their limits.
use Rattle.std.proofs.Common.{◌≡◌, ℕ, ◌*◌, ◌^◌, ◌<◌, List, map, drop, length, unsigned_abs, ℤ, pos, ◌+ℤ◌, ◌*ℤ◌, ◌≤ℤ◌, refl, sym, ap, subst, arith}
use Rattle.std.proofs.lemmas.Int.{ints}
use Rattle.std.proofs.lemmas.List.{drop-map}
use Rattle.flk_exact.specs.Rounding.{ceil_of}
use Rattle.flk_exact.proofs.WholeLemmas.{natural_is}
use Rattle.flk_cert.specs.declared.gain.Gain.{Gain}
use Rattle.flk_cert.specs.Gain.{GainNumbers, gain_numbers}
use Rattle.flk_section.specs.declared.whole.Whole.{Whole}
use Rattle.flk_section.specs.OwnBounds.{first_bound, signal_bounds}
use Rattle.flk_section.specs.Forms.{weights, shares, form_behind, no_form}
use Rattle.flk_section.specs.Radius.{FitsCascade}
use Rattle.flk_section.specs.Chain.{chain_samples, left_bound, chain_input, chain_rounding, HasChainBound}
use Rattle.flk_section.specs.Whole.{IsWholeOf}
use Rattle.flk_section.proofs.OwnLemmas.{natural_sum, natural_signals, form_bound_natural, unit_covers}
use Rattle.flk_section.proofs.ChainLemmas.{natural_first_bound}
use Rattle.flk_section.proofs.WholeLemmas.{IsRule, rule_bounds, numbers_are}

natural_times : (n : ℕ) (a : ℤ) → pos 0 ≤ℤ a → pos 0 ≤ℤ (pos n *ℤ a)
natural_times n a natural = let same : pos n *ℤ a ≡ pos (n * unsigned_abs a) = ap (λ (z : ℤ). pos n *ℤ z) (natural_is a natural) in omega (arith, ints, same)

-- the rule's numbers are natural
input_natural : (gs : List Gain) → pos 0 ≤ℤ chain_input (map gain_numbers gs)
input_natural gs =
    let G = map gain_numbers gs in
    let signals = natural_signals first_bound gs natural_first_bound in
    let left = form_bound_natural first_bound gs (form_behind (pos (2 ^ 32)) G (no_form G) chain_samples) natural_first_bound in
    let scaled = unit_covers (pos chain_samples *ℤ (signal_bounds first_bound G).input) (natural_times chain_samples (signal_bounds first_bound G).input signals.input) in
    let rest = unit_covers (left_bound G).input left.input in
    natural_sum (pos (weights (pos (2 ^ 32)) G (no_form G) chain_samples) +ℤ ceil_of (pos chain_samples *ℤ (signal_bounds first_bound G).input) (pos (2 ^ 32))) (ceil_of (left_bound G).input (pos (2 ^ 32)))
    (natural_sum (pos (weights (pos (2 ^ 32)) G (no_form G) chain_samples)) (ceil_of (pos chain_samples *ℤ (signal_bounds first_bound G).input) (pos (2 ^ 32))) (omega (arith, ints)) scaled.natural)
    rest.natural

rounding_natural : (gs : List Gain) → pos 0 ≤ℤ chain_rounding (map gain_numbers gs)
rounding_natural gs =
    let G = map gain_numbers gs in
    let signals = natural_signals first_bound gs natural_first_bound in
    let left = form_bound_natural first_bound gs (form_behind (pos (2 ^ 32)) G (no_form G) chain_samples) natural_first_bound in
    let all = natural_sum (pos (shares (pos (2 ^ 32)) G (no_form G) chain_samples) +ℤ pos chain_samples *ℤ (signal_bounds first_bound G).rounding) (left_bound G).rounding
    (natural_sum (pos (shares (pos (2 ^ 32)) G (no_form G) chain_samples)) (pos chain_samples *ℤ (signal_bounds first_bound G).rounding) (omega (arith, ints))
    (natural_times chain_samples (signal_bounds first_bound G).rounding signals.rounding))
    left.rounding in
    (unit_covers (pos (shares (pos (2 ^ 32)) G (no_form G) chain_samples) +ℤ pos chain_samples *ℤ (signal_bounds first_bound G).rounding +ℤ (left_bound G).rounding) all).natural

pub whole_exists : (gains : List Gain) → 0 < length gains → FitsCascade gains → HasChainBound (map gain_numbers gains) → (w : Whole) × IsWholeOf gains w
whole_exists gains some fits h =
    let behind = drop 1 (map gain_numbers gains) in
    let same : map gain_numbers (drop 1 gains) ≡ behind = sym (drop-map gain_numbers 1 gains) in
    let rule : IsRule gains (chain_input behind) (chain_rounding behind) = record { input = refl; rounding = refl } in
    let w : Whole = record {
      gains = gains;
      input = chain_input behind;
      rounding = chain_rounding behind;
      some = some;
      input_natural = subst (λ (gs : List GainNumbers). pos 0 ≤ℤ chain_input gs) same (input_natural (drop 1 gains));
      input_small = h.input;
      rounding_natural = subst (λ (gs : List GainNumbers). pos 0 ≤ℤ chain_rounding gs) same (rounding_natural (drop 1 gains));
      rounding_small = h.rounding;
      radius_small = h.radius;
      fits = ∣ fits ∣₁;
      bounds = rule_bounds gains (chain_input behind) (chain_rounding behind) rule;
    } in
    (w, record { holds = refl; numbers = numbers_are gains (chain_input behind) (chain_rounding behind) rule })
