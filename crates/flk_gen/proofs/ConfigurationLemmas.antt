-- The configuration of a generated recording can be written.
use Rattle.std.proofs.Common.{ℕ, ◌*◌, ◌^◌, ◌≤◌, List, [], ◌∷◌, codes, pos, neg_ℤ, refl, arith, inl, inr}
use Rattle.std.proofs.lemmas.Int.{ints}
use Rattle.std.proofs.lemmas.List.Elements.{All-nil, All-cons}
use Rattle.flk_cfg.specs.Valid.{IsName, IsValue, IsValidStamp, IsValidAnalog, IsValidDigital, IsValid}
use Rattle.flk_gen.specs.Recording.{whole_decimal, generated_channel, start, generated_configuration}

-- ---- texts

no_text : IsName []
no_text = record { few = omega arith; bytes = refl; front = λ e. omega (arith, e); back = λ e. omega (arith, e) }

volt : IsName (codes "V")
volt = record { few = omega arith; bytes = refl; front = λ e. omega (arith, e); back = λ e. omega (arith, e) }

-- ---- decimals

nothing : IsValue (whole_decimal (pos 0)).n
nothing = record { m = 0; places = 0; is = refl; reduced = inl refl; digits = omega arith; most = omega arith }

one : IsValue (whole_decimal (pos 1)).n
one = record { m = 1; places = 24; is = refl; reduced = inr (λ e. omega (arith, e)); digits = omega arith; most = omega arith }

fifty : IsValue (whole_decimal (pos 50)).n
fifty = record { m = 5; places = 25; is = refl; reduced = inr (λ e. omega (arith, e)); digits = omega arith; most = omega arith }

step : IsValue (pos (125 * 10 ^ 20))
step = record { m = 125; places = 20; is = refl; reduced = inr (λ e. omega (arith, e)); digits = omega arith; most = omega arith }

least : IsValue (whole_decimal (neg_ℤ (pos 99999))).n
least = record { m = 99999; places = 24; is = refl; reduced = inr (λ e. omega (arith, e)); digits = omega arith; most = omega arith }

greatest : IsValue (whole_decimal (pos 99999)).n
greatest = record { m = 99999; places = 24; is = refl; reduced = inr (λ e. omega (arith, e)); digits = omega arith; most = omega arith }

-- ---- channels, and the instant

channel : (id ph : List ℕ) → IsName id → IsName ph → IsValidAnalog (generated_channel id ph)
channel id ph is phase = record {
  id = is;
  ph = phase;
  ccbm = no_text;
  uu = volt;
  a = step;
  b = nothing;
  skew = nothing;
  min = least;
  max = greatest;
  primary = one;
  secondary = one;
  ps = inl refl;
}

instant : IsValidStamp start
instant = record {
  from = omega (arith, ints);
  civil = ((omega (arith, ints), omega (arith, ints)), (omega (arith, ints), omega (arith, ints)), (omega (arith, ints), omega (arith, ints)));
  hour = omega arith;
  minute = omega arith;
  second = omega arith;
  nanos = omega arith;
}

-- ---- the configuration

pub generated_valid : (seconds : ℕ) → 1 ≤ seconds → seconds ≤ 8000 → IsValid (generated_configuration seconds)
generated_valid seconds some most =
    let a = generated_channel (codes "UA") (codes "A") in
    let b = generated_channel (codes "UB") (codes "B") in
    let c = generated_channel (codes "UC") (codes "C") in
    let at_a = channel (codes "UA") (codes "A")
    (record { few = omega arith; bytes = refl; front = λ e. omega (arith, e); back = λ e. omega (arith, e) })
    (record { few = omega arith; bytes = refl; front = λ e. omega (arith, e); back = λ e. omega (arith, e) }) in
    let at_b = channel (codes "UB") (codes "B")
    (record { few = omega arith; bytes = refl; front = λ e. omega (arith, e); back = λ e. omega (arith, e) })
    (record { few = omega arith; bytes = refl; front = λ e. omega (arith, e); back = λ e. omega (arith, e) }) in
    let at_c = channel (codes "UC") (codes "C")
    (record { few = omega arith; bytes = refl; front = λ e. omega (arith, e); back = λ e. omega (arith, e) })
    (record { few = omega arith; bytes = refl; front = λ e. omega (arith, e); back = λ e. omega (arith, e) }) in
    record {
      station = record { few = omega arith; bytes = refl; front = λ e. omega (arith, e); back = λ e. omega (arith, e) };
      device = record { few = omega arith; bytes = refl; front = λ e. omega (arith, e); back = λ e. omega (arith, e) };
      analog_some = omega arith;
      analog_most = omega arith;
      analog = All-cons IsValidAnalog a (b ∷ c ∷ []) at_a (All-cons IsValidAnalog b (c ∷ []) at_b (All-cons IsValidAnalog c [] at_c (All-nil IsValidAnalog)));
      digital_most = omega arith;
      digital = All-nil IsValidDigital;
      lf = fifty;
      lf_above = omega (arith, ints);
      endsamp_some = omega (arith, some);
      endsamp_most = omega (arith, most);
      first = instant;
      trigger = instant;
      timemult = one;
    }
