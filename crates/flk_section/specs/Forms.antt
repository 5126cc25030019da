-- Forms of the errors of the states of sections in a row, and how one comes from another over one sample. The rules are
-- the project's own.
--
-- A form has two whole numbers over 2^32 for each section: `u` times the error of its first state and `v` times that of
-- its second are summed over all sections. A form of the states after a sample is another form of the states before it,
-- plus a *weight* times the error of the first section's input; what rounding adds is bounded by a *share*. Over the
-- samples this is the impulse response of the sections, read from the last output back. Sections and their numbers
-- stand in the order of the signal.
use Rattle.std.specs.Prelude.{ℕ, zero, suc, ◌+◌, ◌^◌, ◌<◌, List, [], ◌∷◌, map, ℤ, pos, ◌+ℤ◌, ◌*ℤ◌, if◌then◌else◌}
use Rattle.std.specs.Int.RustNames.{unsigned_abs}
use Rattle.flk_exact.specs.Rounding.{floor_of}
use Rattle.flk_cert.specs.Gain.{GainNumbers}
use Rattle.flk_cert.specs.Row.{fed_back}
use Rattle.flk_section.specs.declared.form.FormPart.{FormPart}
use Rattle.flk_section.specs.declared.own.OwnBound.{OwnBound}
use Rattle.flk_section.specs.OwnBounds.{no_bound, first_state_bound, second_state_bound, has_one_row, output_bound}

-- ---- one section

-- What multiplies the error of its output: z, which comes from the sections behind it, and what its first state takes
-- up of the output, rounded down. It is also the number of the new form for the first state.
abbrev pub number_at_output : GainNumbers → ℤ → FormPart → ℤ
number_at_output g z f = z +ℤ floor_of (fed_back g.coefs f.u f.v) (pos (2 ^ 32))

-- What then multiplies the error of its input, rounded down. The section before it has it as its z.
abbrev pub number_at_input : GainNumbers → ℤ → FormPart → ℤ
number_at_input g out f = floor_of (out *ℤ g.coefs.b0 +ℤ f.u *ℤ g.coefs.b1 +ℤ f.v *ℤ g.coefs.b2) (pos (2 ^ 32))

-- the second state gives off what the first one took up, and with one row of the certificate it has no error
abbrev pub part_before : GainNumbers → (out : ℤ) → FormPart → FormPart
part_before g out f = record { u = out; v = if has_one_row g then pos 0 else f.u }

-- ---- all sections, with the number z behind the last

abbrev pub weight_of : (z : ℤ) → List GainNumbers → List FormPart → ℤ
weight_of z (g ∷ gs) (f ∷ fs) = number_at_input g (number_at_output g (weight_of z gs fs) f) f
weight_of z _ _ = z

abbrev pub form_before : (z : ℤ) → List GainNumbers → List FormPart → List FormPart
form_before z (g ∷ gs) (f ∷ fs) = part_before g (number_at_output g (weight_of z gs fs) f) f ∷ form_before z gs fs
form_before z _ _ = []

abbrev pub share_of : (z : ℤ) → List GainNumbers → List FormPart → ℕ
share_of z (g ∷ gs) (f ∷ fs) =
    unsigned_abs (number_at_output g (weight_of z gs fs) f) + unsigned_abs f.u + unsigned_abs f.v + share_of z gs fs
share_of z _ _ = 0

-- all numbers on the way are below 2^60 in size
abbrev pub AreSmallNumbers : (z : ℤ) → List GainNumbers → List FormPart → Type 0
AreSmallNumbers z (g ∷ gs) (f ∷ fs) =
    (unsigned_abs (number_at_output g (weight_of z gs fs) f) < 2 ^ 60)
    × (unsigned_abs (weight_of z (g ∷ gs) (f ∷ fs)) < 2 ^ 60) × AreSmallNumbers z gs fs
AreSmallNumbers z _ _ = Unit {0}

-- ---- so many samples, with z behind the last section at the first of them, and 0 later

abbrev pub weights : (z : ℤ) → List GainNumbers → List FormPart → ℕ → ℕ
weights z gs fs zero = 0
weights z gs fs (suc n) = unsigned_abs (weight_of z gs fs) + weights (pos 0) gs (form_before z gs fs) n

abbrev pub shares : (z : ℤ) → List GainNumbers → List FormPart → ℕ → ℕ
shares z gs fs zero = 0
shares z gs fs (suc n) = share_of z gs fs + shares (pos 0) gs (form_before z gs fs) n

abbrev pub form_behind : (z : ℤ) → List GainNumbers → List FormPart → ℕ → List FormPart
form_behind z gs fs zero = fs
form_behind z gs fs (suc n) = form_behind (pos 0) gs (form_before z gs fs) n

abbrev pub StaySmallNumbers : (z : ℤ) → List GainNumbers → List FormPart → ℕ → Type 0
StaySmallNumbers z gs fs zero = Unit {0}
StaySmallNumbers z gs fs (suc n) = AreSmallNumbers z gs fs × StaySmallNumbers (pos 0) gs (form_before z gs fs) n

-- the form with no number
abbrev pub no_form : List GainNumbers → List FormPart
no_form gs = map (λ g. record { u = pos 0; v = pos 0 }) gs

-- ---- how large a form of the states can be, by their own bounds

abbrev pub form_bound : OwnBound → List GainNumbers → List FormPart → OwnBound
form_bound b (g ∷ gs) (f ∷ fs) =
    let one = first_state_bound g b in
    let two = second_state_bound g b in
    let rest = form_bound (output_bound g b) gs fs in
    record {
      input = pos (unsigned_abs f.u) *ℤ one.input +ℤ pos (unsigned_abs f.v) *ℤ two.input +ℤ rest.input;
      rounding = pos (unsigned_abs f.u) *ℤ one.rounding +ℤ pos (unsigned_abs f.v) *ℤ two.rounding +ℤ rest.rounding;
    }
form_bound b _ _ = no_bound
