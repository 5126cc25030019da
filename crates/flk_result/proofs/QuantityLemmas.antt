-- A run that is long enough has quantities, and no run has two.
use Rattle.std.proofs.Common.{◌≡◌, ℕ, ◌+◌, ◌*◌, ◌^◌, ◌<◌, ◌≤◌, true, List, [], ◌∷◌, length, map, get_or, ℤ, pos, ◌-ℤ◌, ◌*ℤ◌, ◌≤ℤ◌, Option, Some, None, refl, sym, ap, subst, ◌∙◌, arith, ⊎_elim}
use Rattle.std.specs.Prelude.{reverse}
use Rattle.std.specs.List.{AllZip}
use Rattle.std.proofs.lemmas.Bool.{cases_lt}
use Rattle.std.proofs.lemmas.Int.{ints}
use Rattle.std.proofs.lemmas.List.{reverse-reverse, length-map, length-reverse, ext_get_or}
use Rattle.flk_exact.specs.Fraction.{Fraction, ◌≤ℚ◌, ◌≈ℚ◌, ◌-ℚ◌, ◌*ℚ◌, whole}
use Rattle.flk_exact.specs.HalfPeriod.{AreHalfPeriodValues}
use Rattle.flk_exact.specs.Run.{IsAdmittedRun, relative_to}
use Rattle.flk_exact.proofs.ProductLemmas.{mul_assoc, swap}
use Rattle.flk_exact.proofs.NumeratorLemmas.{IsOver, over_times, over_difference, over_same, same_over, numerators, number}
use Rattle.flk_exact.proofs.ListLemmas.{AllZip-weaker, AllZip-reverse, AllZip-slice_range}
use Rattle.flk_exact.proofs.CutLemmas.{cuts_exist, cuts_unique}
use Rattle.flk_exact.proofs.HalfPeriodLemmas.{values_exist, values_unique}
use Rattle.flk_exact.proofs.RunLemmas.{recorded_run_is_admitted}
use Rattle.flk_num.specs.declared.lamp.Lamp.{Lamp}
use Rattle.flk_num.specs.declared.rate.Rate.{Rate}
use Rattle.flk_num.specs.Rate.{sampling_interval, adaptor_exponent, smoothing_number}
use Rattle.flk_cert.specs.declared.coefs.Coefs.{Coefs}
use Rattle.flk_scale.specs.Voltage.{is_below_zero}
use Rattle.flk_change.specs.Steady.{IsSteady}
use Rattle.flk_change.specs.Changes.{Quantity, Dc, Dmax, Tmax, readings, IsOfValues}
use Rattle.flk_change.proofs.QuantityLemmas.{quantity_unique}
use Rattle.flk_change.proofs.EnclosureLemmas.{values_have}
use Rattle.flk_front.proofs.AdaptorLaws.{IsAdapted-exists, IsAdapted-unique}
use Rattle.flk_design.specs.Lamp.{constants_of}
use Rattle.flk_design.proofs.DesignLemmas.{design_unique}
use Rattle.flk_design.proofs.DesignCases.{design_exists}
use Rattle.flk_section.specs.Cascade.{IsCascade}
use Rattle.flk_section.proofs.CascadeLemmas.{sections_exist, sections_alike}
use Rattle.flk_stat.specs.Smoothing.{scale, IsNextLevel, newest_level, AreLevels}
use Rattle.flk_stat.specs.Severity.{IsSeverity}
use Rattle.flk_stat.proofs.SmoothingLaws.{AreLevels-exists, AreLevels-unique}
use Rattle.flk_stat.proofs.SeverityLemmas.{severity_exists, severity_≤}
use Rattle.flk_stat.proofs.LongTermLemmas.{long_term_exists, long_term_unique}
use Rattle.flk_result.specs.Conditions.{Conditions, half_in, window_in, of_interval, AreEnough, AreSensible}
use Rattle.flk_result.specs.RunQuantities.{RunQuantities, AreSmoothedLevels, IsLongTermOfTwelve, AreQuantities}
use Rattle.flk_result.proofs.LengthLemmas.{outputs_length, sections_length, levels_length, interval_some, list_by_index}
use Rattle.flk_result.proofs.HoldLemmas.{window_some}
use Rattle.flk_num.proofs.RateLemmas.{half_some}

-- ---- levels of fractions of one value

square_alike : (w u : Fraction) → w ≈ℚ u → (w *ℚ w) ≈ℚ (u *ℚ u)
square_alike w u same =
    let a = w.num in
    let b = pos u.den in
    let p = u.num in
    let q = pos w.den in
    let both : (a *ℤ b) *ℤ (a *ℤ b) ≡ (p *ℤ q) *ℤ (p *ℤ q) = ap (λ (z : ℤ). z *ℤ z) same.cross in
    let left : (a *ℤ a) *ℤ (b *ℤ b) ≡ (a *ℤ b) *ℤ (a *ℤ b) = sym (mul_assoc (a *ℤ a) b b) ∙ ap (λ (z : ℤ). z *ℤ b) (swap a a b) ∙ mul_assoc (a *ℤ b) a b in
    let right : (p *ℤ p) *ℤ (q *ℤ q) ≡ (p *ℤ q) *ℤ (p *ℤ q) = sym (mul_assoc (p *ℤ p) q q) ∙ ap (λ (z : ℤ). z *ℤ q) (swap p p q) ∙ mul_assoc (p *ℤ q) p q in
    record { cross = left ∙ both ∙ sym right }

-- the next level of one signal is that of another of the same value
next_alike_over : (c delta : ℕ) (m w u x : Fraction) (a k l q : ℤ) → 0 < delta → IsOver delta m a → IsOver delta (w *ℚ w) k → IsOver delta (u *ℚ u) l → IsOver delta x q
    → w ≈ℚ u → IsNextLevel c m u x → IsNextLevel c m w x
next_alike_over c delta m w u x a k l q hd over_m over_w over_u over_x same h =
    let squares : k ≡ l = over_same delta (w *ℚ w) (u *ℚ u) k l hd (square_alike w u same) over_w over_u in
    let left = over_times delta (pos (2 ^ 32)) (x -ℚ m) (q -ℤ a) (over_difference delta x m q a over_x over_m) in
    let right = over_times delta (pos c) _ _ (over_difference delta _ m _ a (over_times delta (pos scale) (u *ℚ u) l over_u) over_m) in
    let there = over_times delta (pos c) _ _ (over_difference delta _ m _ a (over_times delta (pos scale) (w *ℚ w) k over_w) over_m) in
    let equal : pos (2 ^ 32) *ℤ (q -ℤ a) ≡ pos c *ℤ (pos scale *ℤ l -ℤ a) = over_same delta _ _ _ _ hd h.is left right in
    let moved : pos (2 ^ 32) *ℤ (q -ℤ a) ≡ pos c *ℤ (pos scale *ℤ k -ℤ a) = subst (λ (z : ℤ). pos (2 ^ 32) *ℤ (q -ℤ a) ≡ pos c *ℤ (pos scale *ℤ z -ℤ a)) (sym squares) equal in
    record { is = same_over delta _ _ _ hd (subst (IsOver delta (whole (pos (2 ^ 32)) *ℚ (x -ℚ m))) moved left) there }

next_alike : (c : ℕ) (m w u x : Fraction) → w ≈ℚ u → IsNextLevel c m u x → IsNextLevel c m w x
next_alike c m w u x same h =
    let fs : List Fraction = m ∷ w *ℚ w ∷ u *ℚ u ∷ x ∷ [] in
    let p = numerators fs in
    next_alike_over c (p.base * 2 ^ 48) m w u x _ _ _ _ (omega (arith, p.some)) (number fs p 0 (omega arith)) (number fs p 1 (omega arith))
    (number fs p 2 (omega arith)) (number fs p 3 (omega arith)) same h

levels_of_other : (c : ℕ) (ws us ps : List Fraction) → AllZip (λ w u. w ≈ℚ u) ws us → AreLevels c us ps → AreLevels c ws ps
levels_of_other c [] [] ps same h = h
levels_of_other c [] (u ∷ us) ps same h = absurd same
levels_of_other c (w ∷ ws) [] ps same h = absurd same
levels_of_other c (w ∷ ws) (u ∷ us) [] same h = absurd h
levels_of_other c (w ∷ ws) (u ∷ us) (p ∷ ps) same h = (next_alike c (newest_level ps) w u p same.0 h.0, levels_of_other c ws us ps same.1 h.1)

-- ---- the smoothed levels of a run

record Smoothed (lamp : Lamp) (rate : Rate) (run : List Fraction) : Type 0 where
  levels : List Fraction
  are : AreSmoothedLevels lamp rate run levels

smoothed_exist : (lamp : Lamp) (rate : Rate) (run : List Fraction) → Smoothed lamp rate run
smoothed_exist lamp rate run =
    let adapted = IsAdapted-exists (adaptor_exponent rate) (reverse run) in
    let design = design_exists lamp rate in
    let signal = sections_exist design.0 true adapted.1 in
    let levels = AreLevels-exists (smoothing_number rate) signal.0 in
    record {
      levels = reverse levels.0;
      are = record {
        means = adapted.0;
        outputs = adapted.1;
        signal = signal.0;
        adapted = adapted.2;
        weighted = (design.0, design.1, signal.1);
        smoothed = subst (AreLevels (smoothing_number rate) signal.0) (sym (reverse-reverse levels.0)) levels.1;
      };
    }

-- one level for each voltage
smoothed_length : (lamp : Lamp) (rate : Rate) (run levels : List Fraction) → AreSmoothedLevels lamp rate run levels → length levels ≡ length run
smoothed_length lamp rate run levels are =
    let outputs = outputs_length (adaptor_exponent rate) (reverse run) are.means are.outputs are.adapted in
    let signal = sections_length are.weighted.0 true are.outputs are.signal are.weighted.2 in
    let turned = levels_length (smoothing_number rate) are.signal (reverse levels) are.smoothed in
    omega (arith, outputs, signal, turned, length-reverse run, length-reverse levels)

smoothed_alike : (lamp : Lamp) (rate : Rate) (run ps qs : List Fraction) → AreSmoothedLevels lamp rate run ps → AreSmoothedLevels lamp rate run qs → AllZip (λ p q. p ≈ℚ q) ps qs
smoothed_alike lamp rate run ps qs a b =
    let e = adaptor_exponent rate in
    let c = smoothing_number rate in
    let outputs : AllZip (λ x y. x ≈ℚ y) a.outputs b.outputs = (IsAdapted-unique e (reverse run) a.means a.outputs b.means b.outputs a.adapted b.adapted).1 in
    let sections : b.weighted.0 ≡ a.weighted.0 = design_unique (sampling_interval rate) (constants_of lamp) b.weighted.0 a.weighted.0 b.weighted.1 a.weighted.1 in
    let other : IsCascade a.weighted.0 b.outputs b.signal = subst (λ (ks : List Coefs). IsCascade ks b.outputs b.signal) sections b.weighted.2 in
    let signals = sections_alike a.weighted.0 true a.outputs b.outputs a.signal b.signal outputs a.weighted.2 other in
    let turned : AllZip (λ p q. p ≈ℚ q) (reverse ps) (reverse qs) =
    AreLevels-unique c a.signal (reverse ps) (reverse qs) a.smoothed (levels_of_other c a.signal b.signal (reverse qs) signals b.smoothed) in
    let back = AllZip-reverse (λ p q. p ≈ℚ q) (reverse ps) (reverse qs) turned in
    subst (λ (us : List Fraction). AllZip (λ p q. p ≈ℚ q) us qs) (reverse-reverse ps)
    (subst (λ (vs : List Fraction). AllZip (λ p q. p ≈ℚ q) (reverse (reverse ps)) vs) (reverse-reverse qs) back)

-- ---- severities

alike_back : (ps qs : List Fraction) → AllZip (λ p q. p ≈ℚ q) ps qs → AllZip (λ p q. p ≈ℚ q) qs ps
alike_back [] [] h = tt
alike_back [] (q ∷ qs) h = absurd h
alike_back (p ∷ ps) [] h = absurd h
alike_back (p ∷ ps) (q ∷ qs) h = (record { cross = sym h.0.cross }, alike_back ps qs h.1)

severity_no_more : (ps qs : List Fraction) (v w : ℤ) → AllZip (λ p q. p ≈ℚ q) ps qs → IsSeverity ps v → IsSeverity qs w → v ≤ℤ w
severity_no_more ps qs v w same a b =
    severity_≤ ps qs v w (AllZip-weaker (λ p q. p ≈ℚ q) ◌≤ℚ◌ (λ p q e. record { cross = omega (arith, ints, e.cross) }) ps qs same) a b

severity_alike : (ps qs : List Fraction) (v w : ℤ) → AllZip (λ p q. p ≈ℚ q) ps qs → IsSeverity ps v → IsSeverity qs w → v ≡ w
severity_alike ps qs v w same a b = omega (arith, ints, severity_no_more ps qs v w same a b, severity_no_more qs ps w v (alike_back ps qs same) b a)

long_term_of_twelve_exists : (count : ℕ) (severities : List ℤ) → count ≤ 12 → (plt : Option ℤ) × IsLongTermOfTwelve count severities plt
long_term_of_twelve_exists count severities few =
    ⊎_elim
    (λ less. (None, less))
    (λ most.
    let w = long_term_exists severities in
    let twelve : count ≡ 12 = omega (arith, few, most) in
    (Some w.0, (twelve, w.1)))
    (cases_lt count 12)

long_term_of_twelve_same : (count : ℕ) (severities : List ℤ) (p q : Option ℤ) → IsLongTermOfTwelve count severities p → IsLongTermOfTwelve count severities q → p ≡ q
long_term_of_twelve_same count severities None None a b = refl
long_term_of_twelve_same count severities None (Some w) a b = absurd (omega (arith, a, b.0))
long_term_of_twelve_same count severities (Some v) None a b = absurd (omega (arith, b, a.0))
long_term_of_twelve_same count severities (Some v) (Some w) a b = ap Some (long_term_unique severities v w a.1 b.1)

-- ---- the quantities

pub quantities_exist : (c : Conditions) (recorded run : List Fraction) → AreSensible c → AreEnough c (length run) → (q : RunQuantities) × AreQuantities c recorded run q
quantities_exist c recorded run sensible enough =
    let window = window_in c in
    let some = window_some c.lamp in
    let cuts = cuts_exist (half_in c) (map is_below_zero recorded) in
    let values = values_exist (half_in c) cuts.0 run (half_some c.lamp c.rate) in
    let dc = values_have Dc window values.0 some in
    let dmax = values_have Dmax window values.0 some in
    let tmax = values_have Tmax window values.0 some in
    let smoothed = smoothed_exist c.lamp c.rate run in
    let long : AreEnough c (length smoothed.levels) = omega (arith, enough, smoothed_length c.lamp c.rate run smoothed.levels smoothed.are) in
    let severities = list_by_index (λ i w. IsSeverity (of_interval c i smoothed.levels) w) (pos 0) c.count
    (λ i low. severity_exists (of_interval c i smoothed.levels) (interval_some c i smoothed.levels sensible long low)) in
    let plt = long_term_of_twelve_exists c.count severities.0 sensible.few in
    let q : RunQuantities = record { dc = dc.0; dmax = dmax.0; tmax = tmax.0; severities = severities.0; long_term = plt.0 } in (
      q,
      record {
        cuts = cuts.0;
        values = values.0;
        levels = smoothed.levels;
        are_cuts = cuts.1;
        are_values = values.1;
        dc_is = dc.1;
        dmax_is = dmax.1;
        tmax_is = tmax.1;
        are_levels = smoothed.are;
        count_is = severities.1;
        severities_are = severities.2;
        long_term_is = plt.1;
      },
    )

quantities_same : (p q : RunQuantities) → p.dc ≡ q.dc → p.dmax ≡ q.dmax → p.tmax ≡ q.tmax → p.severities ≡ q.severities → p.long_term ≡ q.long_term → p ≡ q
quantities_same p q dc dmax tmax severities long_term =
    let made : ℤ → ℤ → ℤ → List ℤ → Option ℤ → RunQuantities = λ a b c ws w. record { dc = a; dmax = b; tmax = c; severities = ws; long_term = w } in
    ap (λ (z : ℤ). made z p.dmax p.tmax p.severities p.long_term) dc ∙ ap (λ (z : ℤ). made q.dc z p.tmax p.severities p.long_term) dmax
    ∙ ap (λ (z : ℤ). made q.dc q.dmax z p.severities p.long_term) tmax ∙ ap (λ (ws : List ℤ). made q.dc q.dmax q.tmax ws p.long_term) severities
    ∙ ap (λ (w : Option ℤ). made q.dc q.dmax q.tmax q.severities w) long_term

pub quantities_unique : (c : Conditions) (recorded run : List Fraction) (p q : RunQuantities) → AreQuantities c recorded run p → AreQuantities c recorded run q → p ≡ q
quantities_unique c recorded run p q a b =
    let window = window_in c in
    let cuts : b.cuts ≡ a.cuts = cuts_unique (half_in c) (map is_below_zero recorded) b.cuts a.cuts b.are_cuts a.are_cuts in
    let values : b.values ≡ a.values =
    values_unique (half_in c) a.cuts run b.values a.values (subst (λ (ps : List ℕ). AreHalfPeriodValues (half_in c) ps run b.values) cuts b.are_values) a.are_values in
    let quantity : (k : Quantity) (m n : ℤ) → IsOfValues k window a.values m → IsOfValues k window b.values n → m ≡ n =
    λ k m n h g. quantity_unique k (IsSteady window a.values) window (length a.values) (readings window a.values) m n h
    (subst (λ (xs : List ℤ). IsOfValues k window xs n) values g)
    in
    let levels = smoothed_alike c.lamp c.rate run a.levels b.levels a.are_levels b.are_levels in
    let each : (i : ℕ) → i < length p.severities → get_or p.severities i (pos 0) ≡ get_or q.severities i (pos 0) =
    λ i low.
    let judged : i < c.count = omega (arith, low, a.count_is) in
    severity_alike (of_interval c i a.levels) (of_interval c i b.levels) (get_or p.severities i (pos 0)) (get_or q.severities i (pos 0))
    (AllZip-slice_range (λ p q. p ≈ℚ q) (c.run_in + i * c.interval) (c.run_in + (i + 1) * c.interval) a.levels b.levels levels)
    (a.severities_are i judged) (b.severities_are i judged)
    in
    let severities : p.severities ≡ q.severities = ext_get_or (pos 0) p.severities q.severities (a.count_is ∙ sym b.count_is) each in
    quantities_same p q (quantity Dc p.dc q.dc a.dc_is b.dc_is) (quantity Dmax p.dmax q.dmax a.dmax_is b.dmax_is) (quantity Tmax p.tmax q.tmax a.tmax_is b.tmax_is) severities
    (long_term_of_twelve_same c.count p.severities p.long_term q.long_term a.long_term_is
    (subst (λ (ws : List ℤ). IsLongTermOfTwelve c.count ws q.long_term) (sym severities) b.long_term_is))

-- ---- a run that the recorded voltages admit

pub own_run : (c : Conditions) (recorded : List Fraction) → AreSensible c → AreEnough c (length recorded)
    → (run : List Fraction) × (q : RunQuantities) × IsAdmittedRun (1000 * c.nominal) c.uncertainty recorded run × AreQuantities c recorded run q
own_run c recorded sensible enough =
    let positive : 0 < 1000 * c.nominal = omega (arith, sensible.nominal) in
    let run = map (relative_to (1000 * c.nominal) positive) recorded in
    let quantities = quantities_exist c recorded run sensible (omega (arith, enough, length-map recorded (relative_to (1000 * c.nominal) positive))) in
    (run, quantities.0, recorded_run_is_admitted (1000 * c.nominal) c.uncertainty positive recorded, quantities.1)
