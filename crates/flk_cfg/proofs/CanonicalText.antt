-- The steps by which the canonical text is written.
use Rattle.std.proofs.Common.{◌≡◌, ℕ, zero, suc, ◌+◌, ◌-◌, ◌/◌, ◌%◌, ◌^◌, ◌<◌, List, [], ◌∷◌, ◌++◌, length, refl, sym, ap, ◌∙◌, arith, append_assoc}
use Rattle.flk_cfg.specs.Canonical.{padded, line_text, lines_text, title_fields, counts_fields, analog_lines, digital_lines, setting_lines, canonical}
use Rattle.flk_cfg.specs.declared.config.Config.{Config}

padded_more : (k n : ℕ) → padded (suc k) n ≡ (48 + n / 10 ^ k) ∷ padded k (n % 10 ^ k)
unfolding padded
padded_more k n = refl

next_digits : (left count unit : ℕ) → 0 < count → unit ≡ 10 ^ (count - 1) → padded count left ≡ (48 + left / unit) ∷ padded (count - 1) (left % unit)
next_digits left zero unit some is = absurd (omega (arith, some))
next_digits left (suc k) unit some is =
    let less : suc k - 1 ≡ k = omega arith in
    rw (is, less) (padded_more k left)

pub push_digit : (items more : List ℕ) (left count unit : ℕ) → 0 < count → unit ≡ 10 ^ (count - 1) → more ≡ items ++ ((48 + left / unit) ∷ [])
    → more ++ padded (count - 1) (left % unit) ≡ items ++ padded count left
push_digit items more left count unit some is pushed =
    rw (pushed, next_digits left count unit some is) (append_assoc items ((48 + left / unit) ∷ []) (padded (count - 1) (left % unit)))

pub padded_none : (n : ℕ) → padded 0 n ≡ []
unfolding padded
padded_none n = refl

pub lines_text-append : (xs ys : List (List (List ℕ))) → lines_text (xs ++ ys) ≡ lines_text xs ++ lines_text ys
lines_text-append [] ys = refl
lines_text-append (x ∷ xs) ys = ap (λ (r : List ℕ). line_text x ++ r) (lines_text-append xs ys) ∙ sym (append_assoc (line_text x) (lines_text xs) (lines_text ys))

pub settings_after : (old a b c : List ℕ) (x y z : List (List (List ℕ))) → a ≡ old ++ lines_text x → b ≡ a ++ lines_text y → c ≡ b ++ lines_text z → c ≡ old ++ lines_text (x ++ (y ++ z))
settings_after old a b c x y z p q r =
    rw (lines_text-append x (y ++ z), lines_text-append y z, r, q, p) (append_assoc (old ++ lines_text x) (lines_text y) (lines_text z) ∙ append_assoc old (lines_text x) (lines_text y ++ lines_text z))

pub canonical_whole : (c : Config) (t u v w x : List ℕ) → t ≡ line_text (title_fields c) → u ≡ t ++ line_text (counts_fields (length c.analog) (length c.digital))
    → v ≡ u ++ lines_text (analog_lines 1 c.analog) → w ≡ v ++ lines_text (digital_lines 1 c.digital) → x ≡ w ++ lines_text (setting_lines c) → x ≡ canonical c
unfolding canonical
canonical_whole c t u v w x title counts analog digital settings =
    let first = line_text (title_fields c) in
    let second = line_text (counts_fields (length c.analog) (length c.digital)) in
    let channels = analog_lines 1 c.analog in
    let bits = digital_lines 1 c.digital in
    let e : v ≡ (first ++ second) ++ lines_text channels = analog ∙ ap (λ (l : List ℕ). l ++ lines_text channels) (counts ∙ ap (λ (l : List ℕ). l ++ second) title) in
    let all : x ≡ (first ++ second) ++ lines_text (channels ++ (bits ++ setting_lines c)) = settings_after (first ++ second) v w x channels bits (setting_lines c) e digital settings in
    all ∙ append_assoc first second (lines_text (channels ++ (bits ++ setting_lines c)))
