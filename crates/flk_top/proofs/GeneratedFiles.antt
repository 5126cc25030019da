-- Generated files are accepted.
use Rattle.std.proofs.Common.{◌≡◌, ℕ, zero, suc, ◌+◌, ◌*◌, ◌/◌, ◌%◌, ◌^◌, ◌<◌, ◌≤◌, List, [], ◌∷◌, ◌++◌, length, ℤ, pos, negsuc, unsigned_abs, refl, sym, ap, arith, inl, inr, length-append, codes}
use Rattle.std.specs.Prelude.{eqb}
use Rattle.std.proofs.lemmas.Bool.{cases_Bool}
use Rattle.std.specs.Fmt.{decimal}
use Rattle.std.proofs.lemmas.Fmt.{length-decimal-le}
use Rattle.flk_text.specs.Fields.{joined_fields}
use Rattle.flk_text.specs.PlainText.{places_below, fraction_text, plain_size, plain}
use Rattle.flk_cfg.specs.Canonical.{padded, analog_fields, stamp_fields, all_lines, line_text, lines_text, canonical}
use Rattle.flk_cfg.proofs.CanonicalLaws.{canonical_writes}
use Rattle.flk_dat.specs.Records.{record_at}
use Rattle.flk_gen.specs.Recording.{records_in, generated_channel, start, generated_configuration, generated_text, generated_records, generated_data}
use Rattle.flk_gen.proofs.AcceptedFiles.{generated_at, data_accepted}
use Rattle.flk_gen.proofs.ConfigurationLemmas.{generated_valid}
use Rattle.flk_top.specs.CheckDue.{IsDueForCheck, checked, read}
use Rattle.flk_top.specs.Configuration.{configuration_limit, IsConfiguration}
use Rattle.flk_top.specs.Outcome.{completed}
use Rattle.flk_top.specs.Text.{check_text}

-- ---- the text of the configuration is short

-- a bound of a line, and of lines
abbrev line_size : List (List ℕ) → ℕ
line_size [] = 2
line_size (f ∷ fs) = length f + (1 + line_size fs)

abbrev text_size : List (List (List ℕ)) → ℕ
text_size [] = 0
text_size (l ∷ ls) = line_size l + text_size ls

line_within : (fs : List (List ℕ)) → length (line_text fs) ≤ line_size fs
line_within [] = omega arith
line_within (f ∷ []) = omega (arith, length-append f (codes "\r\n"))
line_within (f ∷ g ∷ gs) =
    let rest = joined_fields (g ∷ gs) in
    omega (
      arith,
      line_within (g ∷ gs),
      length-append f (44 ∷ rest),
      length-append (f ++ (44 ∷ rest)) (codes "\r\n"),
      length-append rest (codes "\r\n"),
    )

text_within : (ls : List (List (List ℕ))) → length (lines_text ls) ≤ text_size ls
text_within [] = omega arith
text_within (l ∷ ls) = omega (arith, line_within l, text_within ls, length-append (line_text l) (lines_text ls))

-- ---- the fields are short

decimal_short : (n : ℕ) → n < 2 ^ 64 → length (decimal n) ≤ 20
decimal_short n small = length-decimal-le 20 n (omega arith) (omega (arith, small)) small

places_short : (k f : ℕ) → length (places_below k f) ≤ k
unfolding places_below
places_short zero f = omega arith
places_short (suc k) f = elim (cases_Bool (eqb f 0)) [ inl here ↦ rw here (omega arith) | inr other ↦ rw other (omega (arith, places_short k (f % 10 ^ k))) ]

fraction_short : (f : ℕ) → length (fraction_text f) ≤ 25
fraction_short f = elim (cases_Bool (eqb f 0)) [ inl here ↦ rw here (omega arith) | inr other ↦ rw other (omega (arith, places_short 24 f)) ]

size_short : (u : ℕ) → u < 2 ^ 64 * 10 ^ 24 → length (plain_size u) ≤ 45
size_short u small =
    omega (arith, decimal_short (u / 10 ^ 24) (omega (arith, small)), fraction_short (u % 10 ^ 24), length-append (decimal (u / 10 ^ 24)) (fraction_text (u % 10 ^ 24)))

plain_short : (z : ℤ) → unsigned_abs z < 2 ^ 64 * 10 ^ 24 → length (plain z) ≤ 46
plain_short (pos u) small = omega (arith, size_short u small)
plain_short (negsuc u) small = omega (arith, size_short (suc u) small)

padded_long : (k n : ℕ) → length (padded k n) ≡ k
unfolding padded
padded_long zero n = refl
padded_long (suc k) n = omega (arith, padded_long k (n % 10 ^ k))

-- the fields of a channel
channel_within : (position : ℕ) (id ph : List ℕ) → position < 2 ^ 64 → length id ≤ 9 → length ph ≤ 9 → line_size (analog_fields position (generated_channel id ph)) ≤ 1000
channel_within position id ph few name phase =
    let c = generated_channel id ph in
    omega (
      arith,
      name,
      phase,
      decimal_short position few,
      plain_short c.a.n (omega arith),
      plain_short c.b.n (omega arith),
      plain_short c.min.n (omega arith),
      plain_short c.max.n (omega arith),
      plain_short c.primary.n (omega arith),
    )

stamp_within : line_size (stamp_fields start) ≤ 100
stamp_within = omega (arith, length-append {A = ℕ}, padded_long)

text_short : (seconds : ℕ) → seconds ≤ 8000 → length (generated_text seconds) ≤ configuration_limit
unfolding canonical
text_short seconds most =
    let c = generated_configuration seconds in
    omega (
      arith,
      text_within (all_lines c),
      channel_within 1 (codes "UA") (codes "A") (omega arith) (omega arith) (omega arith),
      channel_within 2 (codes "UB") (codes "B") (omega arith) (omega arith) (omega arith),
      channel_within 3 (codes "UC") (codes "C") (omega arith) (omega arith) (omega arith),
      stamp_within,
      decimal_short 0 (omega arith),
      decimal_short 3 (omega arith),
      decimal_short (records_in seconds) (omega (arith, most)),
      plain_short c.lf.n (omega arith),
      plain_short c.timemult.n (omega arith),
      length-append (decimal 3) (codes "A"),
      length-append (decimal 0) (codes "D"),
    )

-- ---- the files

pub configuration_accepted : (seconds : ℕ) → 1 ≤ seconds → seconds ≤ 8000 → IsConfiguration (generated_text seconds) (generated_configuration seconds)
configuration_accepted seconds some most = record {
  small = text_short seconds most;
  writes = canonical_writes (generated_configuration seconds) (generated_valid seconds some most);
}

pub generated_checked : (seed seconds : ℕ) → 1 ≤ seconds → seconds ≤ 8000
    → IsDueForCheck (generated_text seconds) (generated_data seed seconds) (completed (check_text (generated_configuration seconds) 1))
generated_checked seed seconds some most =
    let c = generated_configuration seconds in
    let rs = generated_records seed (records_in seconds) in
    let first : (record_at rs 0).number ≡ 1 = ap (λ r. r.number) (generated_at seed (records_in seconds) 0 (omega (arith, some))) in
    read c (configuration_accepted seconds some most) (checked rs (data_accepted seed seconds some most []) (ap (λ (n : ℕ). completed (check_text c n)) (sym first)))
