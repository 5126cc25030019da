-- Gains bound a cascade or don't: what is asked of them is decided.
use Rattle.std.proofs.Common.{ℕ, zero, suc, ◌^◌, List, [], ◌∷◌, map, drop, inl, ℤ, pos, neg_ℤ, ◌<ℤ◌}
use Rattle.std.specs.List.{All}
use Rattle.std.specs.Int.RustNames.{unsigned_abs}
use Rattle.std.proofs.lemmas.List.Elements.{All-nil, All-cons, All-head, All-tail}
use Rattle.flk_cert.specs.declared.gain.Gain.{Gain}
use Rattle.flk_cert.specs.Gain.{input_of, coefs_of, GainNumbers, gain_numbers}
use Rattle.flk_cert.proofs.FitCases.{IsDecided, both, alike, below_cases, less_cases, equal_cases}
use Rattle.flk_section.specs.declared.form.FormPart.{FormPart}
use Rattle.flk_section.specs.declared.own.OwnBound.{OwnBound}
use Rattle.flk_section.specs.Points.{greatest_point}
use Rattle.flk_section.specs.Radius.{radii, FirstStartsAtRest, FitsCascade}
use Rattle.flk_section.specs.OwnBounds.{first_bound, first_state_bound, second_state_bound, output_bound, IsSmallBound, AreSmallBounds}
use Rattle.flk_section.specs.Forms.{number_at_output, weight_of, form_before, no_form, AreSmallNumbers, StaySmallNumbers}
use Rattle.flk_section.specs.Filter.{last_radius}
use Rattle.flk_section.specs.Chain.{chain_samples, chain_input, chain_rounding, filter_numbers, HasChainBound}
use Rattle.flk_top.specs.Certified.{IsBounded}

-- ---- what is decided

all_cases : {A : Type 0} (P : A → Type 0) → ((x : A) → IsDecided (P x)) → (xs : List A) → IsDecided (All P xs)
all_cases P each [] = inl (All-nil P)
all_cases P each (x ∷ xs) =
    alike (λ h. All-cons P x xs h.0 h.1) (λ h. (All-head P x xs h, All-tail P x xs h)) (both (each x) (all_cases P each xs))

-- ---- a cascade can be made

start_cases : (gs : List Gain) → IsDecided (FirstStartsAtRest gs)
start_cases [] = inl tt
start_cases (g ∷ gs) =
    let k = coefs_of g in
    alike (λ h. record { opposite = h.0; none = h.1 }) (λ h. (h.opposite, h.none)) (both (equal_cases k.b1 (neg_ℤ k.b0)) (equal_cases k.b2 (pos 0)))

fits_cases : (gs : List Gain) → IsDecided (FitsCascade gs)
fits_cases gs =
    alike (λ h. record { inputs = h.0; start = h.1.0; radii = h.1.1 }) (λ h. (h.inputs, (h.start, h.radii)))
    (both (all_cases (λ g. input_of g <ℤ pos (2 ^ 36)) (λ g. less_cases (input_of g) (pos (2 ^ 36))) gs)
    (both (start_cases gs) (all_cases (λ r. r <ℤ pos (2 ^ 60)) (λ r. less_cases r (pos (2 ^ 60))) (radii gs (pos greatest_point)))))

-- ---- it has a bound as a whole

small_bound_cases : (b : OwnBound) → IsDecided (IsSmallBound b)
small_bound_cases b =
    alike (λ h. record { input = h.0; rounding = h.1 }) (λ h. (h.input, h.rounding))
    (both (less_cases b.input (pos (2 ^ 60))) (less_cases b.rounding (pos (2 ^ 60))))

small_bounds_cases : (b : OwnBound) (ns : List GainNumbers) → IsDecided (AreSmallBounds b ns)
small_bounds_cases b [] = small_bound_cases b
small_bounds_cases b (n ∷ ns) =
    alike (λ h. (h.0, h.1.0, h.1.1.0, h.1.1.1)) (λ h. (h.0, (h.1, (h.2, h.3))))
    (both (small_bound_cases b) (both (small_bound_cases (first_state_bound n b))
    (both (small_bound_cases (second_state_bound n b)) (small_bounds_cases (output_bound n b) ns))))

small_numbers_cases : (z : ℤ) (ns : List GainNumbers) (fs : List FormPart) → IsDecided (AreSmallNumbers z ns fs)
small_numbers_cases z [] fs = inl tt
small_numbers_cases z (n ∷ ns) [] = inl tt
small_numbers_cases z (n ∷ ns) (f ∷ fs) =
    alike (λ h. (h.0, h.1.0, h.1.1)) (λ h. (h.0, (h.1, h.2)))
    (both (below_cases (unsigned_abs (number_at_output n (weight_of z ns fs) f)) (2 ^ 60))
    (both (below_cases (unsigned_abs (weight_of z (n ∷ ns) (f ∷ fs))) (2 ^ 60)) (small_numbers_cases z ns fs)))

stay_small_cases : (z : ℤ) (ns : List GainNumbers) (fs : List FormPart) (samples : ℕ) → IsDecided (StaySmallNumbers z ns fs samples)
stay_small_cases z ns fs zero = inl tt
stay_small_cases z ns fs (suc samples) = both (small_numbers_cases z ns fs) (stay_small_cases (pos 0) ns (form_before z ns fs) samples)

chain_bound_cases : (ns : List GainNumbers) → IsDecided (HasChainBound ns)
chain_bound_cases ns =
    let later = drop 1 ns in
    alike (λ h. record { bounds = h.0; numbers = h.1.0; input = h.1.1.0; rounding = h.1.1.1.0; radius = h.1.1.1.1 })
    (λ h. (h.bounds, (h.numbers, (h.input, (h.rounding, h.radius)))))
    (both (small_bounds_cases first_bound later)
    (both (stay_small_cases (pos (2 ^ 32)) later (no_form later) chain_samples)
    (both (less_cases (chain_input later) (pos (2 ^ 36)))
    (both (less_cases (chain_rounding later) (pos (2 ^ 40)))
    (less_cases (last_radius (filter_numbers ns) (pos greatest_point)) (pos (2 ^ 60)))))))

pub bounded_cases : (gs : List Gain) → IsDecided (IsBounded gs)
bounded_cases gs =
    alike (λ h. record { fits = h.0; bound = h.1 }) (λ h. (h.fits, h.bound)) (both (fits_cases gs) (chain_bound_cases (map gain_numbers gs)))
