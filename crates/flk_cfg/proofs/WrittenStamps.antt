-- Dates and times as they are written.
use Rattle.std.proofs.Common.{◌≡◌, ℕ, ◌-◌, ◌*◌, ◌/◌, ◌%◌, ◌^◌, ◌<◌, ◌≤◌, ◌≤ℤ◌, Bool, true, false, cond, eqb, List, [], ◌∷◌, length, refl, sym, ap, subst, ◌∙◌, arith, inl, inr, ℤ, pos, negsuc}
use Rattle.std.specs.Prelude.{unsigned_abs}
use Rattle.std.proofs.lemmas.Int.{ints}
use Rattle.std.proofs.lemmas.Bool.{cases_Bool, eqb-true}
use Rattle.std.proofs.Math.Nat.{div-add-mod'}
use Rattle.jiff.specs.Words.{days_in_month}
use Rattle.flk_field.specs.Dates.{IsDateText, IsDateOf, IsSecondFraction, IsTimeText, IsTimeOf}
use Rattle.flk_cfg.specs.Rows.{IsStamp}
use Rattle.flk_cfg.specs.Valid.{IsValidStamp}
use Rattle.flk_cfg.specs.Canonical.{padded, date_text, second_digits, time_text, stamp_fields}
use Rattle.flk_cfg.specs.declared.config.Stamp.{Stamp}
use Rattle.flk_cfg.proofs.WrittenFields.{IsFree, free-append, padded_are, padded_number, padded_free}

-- ---- the numbers of a date are small

cond_most : (b : Bool) (x y n : ℕ) → x ≤ n → y ≤ n → cond b x y ≤ n
cond_most true x y n p q = p
cond_most false x y n p q = q

days_most : (y : ℤ) (m : ℕ) → days_in_month y m ≤ 31
days_most y m =
    let short : (b : Bool) → cond b 29 28 ≤ 31 = λ b. cond_most b 29 28 31 (omega arith) (omega arith) in
    let other : (b : Bool) → cond b 30 31 ≤ 31 = λ b. cond_most b 30 31 31 (omega arith) (omega arith) in
    cond_most _ _ _ 31 (short _) (other _)

pub day_small : (s : Stamp) → IsValidStamp s → s.day < 10 ^ 2
day_small s v = omega (arith, ints, v.civil.2.1, days_most s.year s.month)

pub month_small : (s : Stamp) → IsValidStamp s → s.month < 10 ^ 2
month_small s v = omega (arith, ints, v.civil.1.1)

pub year_small : (s : Stamp) → IsValidStamp s → unsigned_abs s.year < 10 ^ 4
year_small s v = omega (arith, ints, v.civil.0.1, v.from)

natural : (z : ℤ) → pos 1 ≤ℤ z → (z ≡ pos (unsigned_abs z)) × (1 ≤ unsigned_abs z)
natural (pos n) h = (refl, omega (arith, ints, h))
natural (negsuc n) h = absurd (omega (arith, ints, h))

pub date_is : (s : Stamp) → IsValidStamp s → IsDateOf (date_text s) s.year s.month s.day
date_is s v =
    let year = unsigned_abs s.year in
    let n = natural s.year v.from in
    let text : IsDateText (date_text s) s.day s.month year = record {
      d = padded 2 s.day;
      m = padded 2 s.month;
      y = padded 4 year;
      text_is = refl;
      day_is = padded_number 2 1 2 s.day (day_small s v) (omega arith) (omega arith);
      month_is = padded_number 2 1 2 s.month (month_small s v) (omega arith) (omega arith);
      year_is = padded_number 4 4 4 year (year_small s v) (omega arith) (omega arith);
    } in
    record { number = year; text = text; year_is = n.0; from = n.1; civil = v.civil }

-- ---- times

pub thousandth_small : (nanos : ℕ) → nanos ≤ 999999999 → nanos / 1000 < 10 ^ 6
thousandth_small nanos most = omega (arith, most, div-add-mod' nanos 1000)

six : (nanos : ℕ) → nanos % 1000 ≡ 0 → second_digits nanos ≡ padded 6 (nanos / 1000)
six nanos none = rw none refl

nine : (nanos : ℕ) → eqb (nanos % 1000) 0 ≡ false → second_digits nanos ≡ padded 9 nanos
nine nanos off = rw off refl

whole_thousands : (nanos : ℕ) → nanos % 1000 ≡ 0 → nanos ≡ nanos / 1000 * 1000
whole_thousands nanos none = omega (arith, none, div-add-mod' nanos 1000)

second_is : (nanos : ℕ) → nanos ≤ 999999999 → IsSecondFraction (46 ∷ second_digits nanos) nanos
second_is nanos most =
    elim (cases_Bool (eqb (nanos % 1000) 0)) [
      | inl so ↦
          let none : nanos % 1000 ≡ 0 = eqb-true (nanos % 1000) 0 so in
          let n = nanos / 1000 in
          let small = thousandth_small nanos most in
          let count : length (padded 6 n) ≡ 6 = (padded_are 6 0 n small).count in
          let value : nanos ≡ n * 10 ^ (9 - length (padded 6 n)) = whole_thousands nanos none ∙ ap (λ (k : ℕ). n * 10 ^ (9 - k)) (sym count) in
          let whole : IsSecondFraction (46 ∷ padded 6 n) nanos = inr (padded 6 n, n, refl, padded_number 6 1 9 n small (omega arith) (omega arith), value) in
          subst (λ (d : List ℕ). IsSecondFraction (46 ∷ d) nanos) (sym (six nanos none)) whole
      | inr off ↦
          let small : nanos < 10 ^ 9 = omega (arith, most) in
          let count : length (padded 9 nanos) ≡ 9 = (padded_are 9 0 nanos small).count in
          let once : nanos ≡ nanos * 10 ^ (9 - 9) = omega arith in
          let value : nanos ≡ nanos * 10 ^ (9 - length (padded 9 nanos)) = once ∙ ap (λ (k : ℕ). nanos * 10 ^ (9 - k)) (sym count) in
          let whole : IsSecondFraction (46 ∷ padded 9 nanos) nanos = inr (padded 9 nanos, nanos, refl, padded_number 9 1 9 nanos small (omega arith) (omega arith), value) in
          subst (λ (d : List ℕ). IsSecondFraction (46 ∷ d) nanos) (sym (nine nanos off)) whole
    ]

pub time_is : (s : Stamp) → IsValidStamp s → IsTimeOf (time_text s) s.hour s.minute s.second s.nanos
time_is s v =
    let text : IsTimeText (time_text s) s.hour s.minute s.second s.nanos = record {
      h = padded 2 s.hour;
      m = padded 2 s.minute;
      s = padded 2 s.second;
      part = 46 ∷ second_digits s.nanos;
      text_is = refl;
      hour_is = padded_number 2 1 2 s.hour (omega (arith, v.hour)) (omega arith) (omega arith);
      minute_is = padded_number 2 2 2 s.minute (omega (arith, v.minute)) (omega arith) (omega arith);
      second_is = padded_number 2 2 2 s.second (omega (arith, v.second)) (omega arith) (omega arith);
      nanos_is = second_is s.nanos v.nanos;
    } in
    record { text = text; hour_most = v.hour; minute_most = v.minute; second_most = v.second }

pub stamp_is : (s : Stamp) → IsValidStamp s → IsStamp (stamp_fields s) s
stamp_is s v = record { count = refl; date = date_is s v; time = time_is s v }

-- ---- they are free of what ends a field or a line

slash_free : IsFree (47 ∷ [])
slash_free = record { comma = refl; space = refl; lf = refl; mark = refl }

colon_free : IsFree (58 ∷ [])
colon_free = record { comma = refl; space = refl; lf = refl; mark = refl }

point_free : IsFree (46 ∷ [])
point_free = record { comma = refl; space = refl; lf = refl; mark = refl }

pub date_free : (s : Stamp) → IsValidStamp s → IsFree (date_text s)
date_free s v =
    let year = padded_free 4 (unsigned_abs s.year) (year_small s v) in
    let month = padded_free 2 s.month (month_small s v) in
    let day = padded_free 2 s.day (day_small s v) in
    free-append _ _ day (free-append (47 ∷ []) _ slash_free (free-append _ _ month (free-append (47 ∷ []) _ slash_free year)))

digits_free : (nanos : ℕ) → nanos ≤ 999999999 → IsFree (second_digits nanos)
digits_free nanos most =
    elim (cases_Bool (eqb (nanos % 1000) 0)) [
      | inl so ↦ subst IsFree (sym (six nanos (eqb-true (nanos % 1000) 0 so))) (padded_free 6 (nanos / 1000) (thousandth_small nanos most))
      | inr off ↦ subst IsFree (sym (nine nanos off)) (padded_free 9 nanos (omega (arith, most)))
    ]

pub time_free : (s : Stamp) → IsValidStamp s → IsFree (time_text s)
time_free s v =
    let hour = padded_free 2 s.hour (omega (arith, v.hour)) in
    let minute = padded_free 2 s.minute (omega (arith, v.minute)) in
    let second = padded_free 2 s.second (omega (arith, v.second)) in
    let part = free-append (46 ∷ []) (second_digits s.nanos) point_free (digits_free s.nanos v.nanos) in
    free-append _ _ hour (free-append (58 ∷ []) _ colon_free (free-append _ _ minute (free-append (58 ∷ []) _ colon_free (free-append _ _ second part))))
