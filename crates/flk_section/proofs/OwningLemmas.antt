-- The own bounds summed over the sections, as the code does it.
use Rattle.std.proofs.Common.{◌≡◌, ℕ, ◌+◌, ◌*◌, ◌^◌, ◌<◌, ◌≤◌, ◌↔◌, List, [], ◌∷◌, length, map, drop, refl, sym, ap, subst, ◌∙◌, arith}
use Rattle.std.proofs.Math.IntN.{ℤ, pos, ◌+ℤ◌, ◌*ℤ◌}
use Rattle.std.specs.Prelude.{◌≤ℤ◌}
use Rattle.std.specs.Int.RustNames.{unsigned_abs}
use Rattle.std.proofs.lemmas.Int.{ints}
use Rattle.std.proofs.lemmas.List.{drop_all}
use Rattle.flk_cert.specs.declared.gain.Gain.{Gain}
use Rattle.flk_cert.specs.Gain.{GainNumbers, gain_numbers}
use Rattle.flk_cert.specs.Row.{IsUpTo}
use Rattle.std.specs.Int.{w128}
use Rattle.std.proofs.Common.{FitsSigned}
use Rattle.flk_exact.specs.Rounding.{ceil_of}
use Rattle.flk_exact.proofs.WholeLemmas.{natural_is}
use Rattle.flk_section.proofs.OwnLemmas.{unit_near, unit_covers}
use Rattle.flk_exact.proofs.ProductLemmas.{size_of_product_within}
use Rattle.flk_section.proofs.Held.{kept, held_product}
use Rattle.flk_section.specs.declared.form.FormPart.{FormPart}
use Rattle.flk_section.specs.declared.own.OwnBound.{OwnBound}
use Rattle.flk_section.specs.declared.own.SectionBounds.{SectionBounds}
use Rattle.flk_section.specs.OwnBounds.{no_bound, both_bounds, output_bound, first_state_bound, second_state_bound, signal_bounds, IsSmallBound, AreSmallBounds}
use Rattle.flk_section.specs.Forms.{form_bound}
use Rattle.flk_section.specs.Owned.{IsBoundUpTo, part_bound, IsSectionBounds, IsOwned}

-- ---- numbers of 128 bits

pub sized : (m : ℕ) (z : ℤ) → IsUpTo m z → unsigned_abs z ≤ m
sized m z h =
    let low = h.low in
    let high = h.high in
    omega (arith, ints, low, high)

pub up_to : (m : ℕ) (z : ℤ) → pos 0 ≤ℤ z → unsigned_abs z ≤ m → IsUpTo m z
up_to m z low high = record { low = low; high = omega (arith, ints, low, high) }

-- a small bound
pub small_up : (m : ℕ) (b : OwnBound) → IsBoundUpTo m b → IsSmallBound b → IsBoundUpTo (2 ^ 60) b
small_up m b h s =
    let i = s.input in
    let r = s.rounding in
    record { input = record { low = h.input.low; high = omega (arith, ints, i) }; rounding = record { low = h.rounding.low; high = omega (arith, ints, r) } }

-- the size of a number below 2^60 times one up to 2^60
pub product_up_to : (size n number : ℤ) → size ≡ pos (unsigned_abs number) → unsigned_abs number < 2 ^ 60 → IsUpTo (2 ^ 60) n → IsUpTo (2 ^ 120) (kept (kept size *ℤ kept n))
product_up_to size n number e small up =
    let a : unsigned_abs size ≤ 2 ^ 60 = omega (arith, ap unsigned_abs e, small) in
    let b : unsigned_abs n ≤ 2 ^ 60 = sized (2 ^ 60) n up in
    let is = held_product size n (2 ^ 60) (2 ^ 60) a b (omega arith) (omega arith) (omega arith) in
    let most = size_of_product_within size n (2 ^ 60) (2 ^ 60) a b in
    let natural : size *ℤ n ≡ pos (unsigned_abs number * unsigned_abs n) = ap (λ (z : ℤ). z *ℤ n) e ∙ ap (λ (z : ℤ). pos (unsigned_abs number) *ℤ z) (natural_is n up.low) in
    subst (IsUpTo (2 ^ 120)) (sym is) (up_to (2 ^ 120) (size *ℤ n) (omega (arith, ints, natural)) (omega (arith, most)))

pub up_sum : (a b : ℤ) (m n k : ℕ) → IsUpTo m a → IsUpTo n b → m + n ≤ k → IsUpTo k (a +ℤ b)
up_sum a b m n k ha hb le =
    let a0 = ha.low in
    let a1 = ha.high in
    let b0 = hb.low in
    let b1 = hb.high in
    record { low = omega (arith, ints, a0, b0); high = omega (arith, ints, a1, b1, le) }

pub record IsSamplesProduct (n : ℕ) (z : ℤ) : Type 0 where
  pub fits : FitsSigned w128 (pos n *ℤ z)
  pub range : IsUpTo (2 ^ 111) (pos n *ℤ z)

pub samples_product : (n : ℕ) (z : ℤ) → n ≤ 4097 → IsUpTo (2 ^ 98) z → IsSamplesProduct n z
samples_product n z few h =
    let e : pos n *ℤ z ≡ pos (n * unsigned_abs z) = ap (λ (y : ℤ). pos n *ℤ y) (natural_is z h.low) in
    let most = size_of_product_within (pos n) z 4097 (2 ^ 98) few (sized (2 ^ 98) z h) in
    record { fits = omega (arith, ints, most); range = up_to (2 ^ 111) (pos n *ℤ z) (omega (arith, ints, e)) (omega (arith, most)) }

-- what is rounded up is no larger
pub ceil_up_to : (m k : ℕ) (z : ℤ) → IsUpTo m z → m + 2 ^ 32 ≤ k * 2 ^ 32 → IsUpTo k (ceil_of z (pos (2 ^ 32)))
ceil_up_to m k z h most =
    let near = unit_near z in
    let natural = (unit_covers z h.low).natural in
    let high = h.high in
    record { low = natural; high = omega (arith, ints, near, high, most) }

pub natural_up_to : (n k : ℕ) → n ≤ k → IsUpTo k (pos n)
natural_up_to n k h = record { low = omega (arith, ints); high = omega (arith, ints, h) }

-- a is b and c together
pub record IsSum (a b c : OwnBound) : Type 0 where
  pub input : a.input ≡ b.input +ℤ c.input
  pub rounding : a.rounding ≡ b.rounding +ℤ c.rounding

-- the sections from i on are left, with the bound b of their input, and so much for the signals and the form so far
pub record IsOwning (first : OwnBound) (gs : List Gain) (fs : List FormPart) (i : ℕ) (b s f : OwnBound) : Type 0 where
  pub few : i ≤ 6
  pub signals : IsSum (signal_bounds first (map gain_numbers gs)) s (signal_bounds b (map gain_numbers (drop i gs)))
  pub form : IsSum (form_bound first (map gain_numbers gs) fs) f (form_bound b (map gain_numbers (drop i gs)) (drop i fs))
  pub limits : AreSmallBounds first (map gain_numbers gs) ↔ AreSmallBounds b (map gain_numbers (drop i gs))
  pub bound : IsBoundUpTo (2 ^ 93) b
  pub small_signals : IsBoundUpTo (i * 2 ^ 95) s
  pub small_form : IsBoundUpTo (i * 2 ^ 121) f

sum_none : (b : OwnBound) → IsSum b no_bound b
sum_none b = record { input = omega (arith, ints); rounding = omega (arith, ints) }

none_up : (n : ℕ) → IsBoundUpTo n no_bound
none_up n = record { input = record { low = omega (arith, ints); high = omega (arith, ints) }; rounding = record { low = omega (arith, ints); high = omega (arith, ints) } }

pub owning_start : (first : OwnBound) (gs : List Gain) (fs : List FormPart) → IsBoundUpTo (2 ^ 93) first → IsOwning first gs fs 0 first no_bound no_bound
owning_start first gs fs small = record {
  few = omega arith;
  signals = sum_none _;
  form = sum_none _;
  limits = (λ h. h, λ h. h);
  bound = small;
  small_signals = none_up 0;
  small_form = none_up 0;
}

pub bound_up_sum : (b c : OwnBound) (m n k : ℕ) → IsBoundUpTo m b → IsBoundUpTo n c → m + n ≤ k → IsBoundUpTo k (both_bounds b c)
bound_up_sum b c m n k hb hc le = record { input = up_sum b.input c.input m n k hb.input hc.input le; rounding = up_sum b.rounding c.rounding m n k hb.rounding hc.rounding le }

sum_more : (a s c d r : OwnBound) → IsSum a s (both_bounds (both_bounds c d) r) → IsSum a (both_bounds s (both_bounds c d)) r
sum_more a s c d r h =
    let x = h.input in
    let y = h.rounding in
    record { input = omega (arith, ints, x); rounding = omega (arith, ints, y) }

form_more : (a f p r : OwnBound) → IsSum a f (both_bounds p r) → IsSum a (both_bounds f p) r
form_more a f p r h =
    let x = h.input in
    let y = h.rounding in
    record { input = omega (arith, ints, x); rounding = omega (arith, ints, y) }

-- the three bounds of a section are below their limits
abbrev pub AreSectionBounds : GainNumbers → OwnBound → Type 0
AreSectionBounds g b = IsSmallBound b × IsSmallBound (first_state_bound g b) × IsSmallBound (second_state_bound g b)

-- what is left begins with a section and its part
owning_at : (first : OwnBound) (gs : List Gain) (fs : List FormPart) (i : ℕ) (b s f : OwnBound) (g : Gain) (hs : List Gain) (p : FormPart) (ps : List FormPart)
    → drop i gs ≡ g ∷ hs → drop i fs ≡ p ∷ ps → IsOwning first gs fs i b s f
    → IsSum (signal_bounds first (map gain_numbers gs)) s (signal_bounds b (gain_numbers g ∷ map gain_numbers hs))
    × IsSum (form_bound first (map gain_numbers gs) fs) f (form_bound b (gain_numbers g ∷ map gain_numbers hs) (p ∷ ps))
    × (AreSmallBounds first (map gain_numbers gs) ↔ AreSmallBounds b (gain_numbers g ∷ map gain_numbers hs))
owning_at first gs fs i b s f g hs p ps eg ep h = (
  subst (λ (ks : List Gain). IsSum (signal_bounds first (map gain_numbers gs)) s (signal_bounds b (map gain_numbers ks))) eg h.signals,
  subst (λ (qs : List FormPart). IsSum (form_bound first (map gain_numbers gs) fs) f (form_bound b (gain_numbers g ∷ map gain_numbers hs) qs)) ep
      (subst (λ (ks : List Gain). IsSum (form_bound first (map gain_numbers gs) fs) f (form_bound b (map gain_numbers ks) (drop i fs))) eg h.form),
  subst (λ (ks : List Gain). AreSmallBounds first (map gain_numbers gs) ↔ AreSmallBounds b (map gain_numbers ks)) eg h.limits,
)

pub owning_step : (first : OwnBound) (gs : List Gain) (fs : List FormPart) (i : ℕ) (b s f : OwnBound) (g : Gain) (p : FormPart) (o : SectionBounds)
    → drop i gs ≡ g ∷ drop (i + 1) gs → drop i fs ≡ p ∷ drop (i + 1) fs → i < 6 → IsOwning first gs fs i b s f → AreSectionBounds (gain_numbers g) b → IsSectionBounds (gain_numbers g) b p o
    → IsOwning first gs fs (i + 1) o.output (both_bounds s (both_bounds b o.output)) (both_bounds f o.part)
owning_step first gs fs i b s f g p o eg ep less h small section =
    let at = owning_at first gs fs i b s f g (drop (i + 1) gs) p (drop (i + 1) fs) eg ep h in
    let G = map gain_numbers (drop (i + 1) gs) in
    let F = drop (i + 1) fs in
    let more = sum_more _ s b (output_bound (gain_numbers g) b) (signal_bounds (output_bound (gain_numbers g) b) G) at.0 in
    let form = form_more _ f (part_bound (gain_numbers g) b p) (form_bound (output_bound (gain_numbers g) b) G F) at.1 in
    let signal_at : IsSum (signal_bounds first (map gain_numbers gs)) (both_bounds s (both_bounds b o.output)) (signal_bounds o.output G) =
    subst (λ (c : OwnBound). IsSum (signal_bounds first (map gain_numbers gs)) (both_bounds s (both_bounds b c)) (signal_bounds c G)) (sym section.output) more in
    let form_out : IsSum (form_bound first (map gain_numbers gs) fs) (both_bounds f (part_bound (gain_numbers g) b p)) (form_bound o.output G F) =
    subst (λ (c : OwnBound). IsSum (form_bound first (map gain_numbers gs) fs) (both_bounds f (part_bound (gain_numbers g) b p)) (form_bound c G F)) (sym section.output) form in
    record {
      few = omega (arith, less);
      signals = signal_at;
      form = subst (λ (c : OwnBound). IsSum (form_bound first (map gain_numbers gs) fs) (both_bounds f c) (form_bound o.output G F)) (sym section.part) form_out;
      limits = subst (λ (c : OwnBound). AreSmallBounds first (map gain_numbers gs) ↔ AreSmallBounds c G) (sym section.output) (λ l. (at.2.0 l).3, λ l. at.2.1 (small.0, small.1, small.2, l));
      bound = section.small_output;
      small_signals =
          bound_up_sum s (both_bounds b o.output) (i * 2 ^ 95) (2 ^ 95) ((i + 1) * 2 ^ 95) h.small_signals
          (bound_up_sum b o.output (2 ^ 93) (2 ^ 93) (2 ^ 95) h.bound section.small_output (omega arith)) (omega arith);
      small_form = bound_up_sum f o.part (i * 2 ^ 121) (2 ^ 121) ((i + 1) * 2 ^ 121) h.small_form section.small_part (omega arith);
    }

pub not_owning : (first : OwnBound) (gs : List Gain) (fs : List FormPart) (i : ℕ) (b s f : OwnBound) (g : Gain) (p : FormPart)
    → drop i gs ≡ g ∷ drop (i + 1) gs → drop i fs ≡ p ∷ drop (i + 1) fs → IsOwning first gs fs i b s f → ¬ AreSectionBounds (gain_numbers g) b
    → ¬ AreSmallBounds first (map gain_numbers gs)
not_owning first gs fs i b s f g p eg ep h large small =
    let at = (owning_at first gs fs i b s f g (drop (i + 1) gs) p (drop (i + 1) fs) eg ep h).2.0 small in
    large (at.0, at.1, at.2)

-- all sections are done
pub own_same : (a b : OwnBound) → a.input ≡ b.input → a.rounding ≡ b.rounding → a ≡ b
own_same a b e f =
    let made : ℤ → ℤ → OwnBound = λ i r. record { input = i; rounding = r } in
    ap (λ (z : ℤ). made z a.rounding) e ∙ ap (λ (z : ℤ). made b.input z) f

sum_end : (a s : OwnBound) → IsSum a s no_bound → s ≡ a
sum_end a s h =
    let x = h.input in
    let y = h.rounding in
    own_same s a (omega (arith, ints, x)) (omega (arith, ints, y))

owning_last : (first : OwnBound) (gs : List Gain) (fs : List FormPart) (b s f : OwnBound) (hs : List Gain) → drop 6 gs ≡ hs → hs ≡ [] → IsOwning first gs fs 6 b s f
    → (s ≡ signal_bounds first (map gain_numbers gs)) × (f ≡ form_bound first (map gain_numbers gs) fs) × (AreSmallBounds first (map gain_numbers gs) ↔ IsSmallBound b)
owning_last first gs fs b s f hs e none h =
    let d : drop 6 gs ≡ [] = e ∙ none in (
      sum_end _ s (subst (λ (ks : List Gain). IsSum (signal_bounds first (map gain_numbers gs)) s (signal_bounds b (map gain_numbers ks))) d h.signals),
      sum_end _ f (subst (λ (ks : List Gain). IsSum (form_bound first (map gain_numbers gs) fs) f (form_bound b (map gain_numbers ks) (drop 6 fs))) d h.form),
      subst (λ (ks : List Gain). AreSmallBounds first (map gain_numbers gs) ↔ AreSmallBounds b (map gain_numbers ks)) d h.limits,
    )

pub owning_end : (first : OwnBound) (gs : List Gain) (fs : List FormPart) (b s f : OwnBound) → length gs ≡ 6 → IsOwning first gs fs 6 b s f
    → IsOwned first (map gain_numbers gs) fs (record { signals = s; form = f }) × (AreSmallBounds first (map gain_numbers gs) ↔ IsSmallBound b)
owning_end first gs fs b s f len h =
    let at = owning_last first gs fs b s f (drop 6 gs) refl (drop_all 6 gs (omega (arith, len))) h in
    (record { signals = at.0; form = at.1; small_signals = h.small_signals; small_form = h.small_form }, at.2)
