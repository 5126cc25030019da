-- The plain text of a decimal is text.
use Rattle.std.proofs.Common.{◌≡◌, ℕ, suc, ◌/◌, ◌%◌, ◌^◌, ◌<◌, ◌≤◌, Bool, true, false, cond, eqb, List, [], ◌∷◌, length, get_or, ℤ, pos, negsuc, sym, subst, arith}
use Rattle.std.specs.Int.RustNames.{unsigned_abs}
use Rattle.std.specs.List.{list_all}
use Rattle.std.specs.Str.{IsAscii, IsUtf8}
use Rattle.std.specs.Fmt.{decimal}
use Rattle.std.proofs.Math.Nat.{mod-lt}
use Rattle.std.proofs.lemmas.Bool.Decides.{nat_tests}
use Rattle.std.proofs.lemmas.List.Sums.{AllPass-from_list_all}
use Rattle.std.proofs.lemmas.Str.{IsUtf8-from_ascii, IsAscii-append}
use Rattle.std.proofs.lemmas.Str.Ascii.{IsAscii-nil, IsAscii-cons, IsAscii-from_reads}
use Rattle.std.proofs.lemmas.Fmt.{IsAscii-decimal_wide}
use Rattle.flk_text.specs.Numeral.{is_digit}
use Rattle.flk_text.specs.PlainText.{places_below, fraction_text, plain_size, plain}
use Rattle.flk_text.proofs.PlainTextLemmas.{places_are}

digit_ascii : (d : ℕ) → is_digit d ≡ true → d < 128
digit_ascii d h = grind (arith, nat_tests)

digits_ascii : (ds : List ℕ) → list_all is_digit ds ≡ true → IsAscii ds
digits_ascii ds h = IsAscii-from_reads ds (length ds) (omega arith) (λ k less. digit_ascii (get_or ds k 0) (AllPass-from_list_all is_digit ds h k 0 less))

either_ascii : (b : Bool) (xs ys : List ℕ) → IsAscii xs → IsAscii ys → IsAscii (cond b xs ys)
either_ascii true xs ys h k = h
either_ascii false xs ys h k = k

fraction_ascii : (f : ℕ) → f < 10 ^ 24 → IsAscii (fraction_text f)
fraction_ascii f less =
    either_ascii (eqb f 0) [] (46 ∷ places_below 24 f) IsAscii-nil (IsAscii-cons 46 (places_below 24 f) (omega arith) (digits_ascii (places_below 24 f) (places_are 24 f 0 less).are))

size_ascii : (u : ℕ) → u ≤ 2 ^ 127 → IsAscii (plain_size u)
size_ascii u small =
    IsAscii-append (decimal (u / 10 ^ 24)) (fraction_text (u % 10 ^ 24)) (IsAscii-decimal_wide (u / 10 ^ 24) (omega (arith, small))) (fraction_ascii (u % 10 ^ 24) (mod-lt u (omega arith)))

plain_ascii : (z : ℤ) → unsigned_abs z ≤ 2 ^ 127 → IsAscii (plain z)
plain_ascii (pos u) small = size_ascii u (omega (arith, small))
plain_ascii (negsuc n) small = IsAscii-cons 45 (plain_size (suc n)) (omega arith) (size_ascii (suc n) (omega (arith, small)))

pub plain_utf8 : (z : ℤ) (bytes : List ℕ) → unsigned_abs z ≤ 2 ^ 127 → bytes ≡ plain z → IsUtf8 bytes
plain_utf8 z bytes small is = subst IsUtf8 (sym is) (IsUtf8-from_ascii (plain z) (plain_ascii z small))
