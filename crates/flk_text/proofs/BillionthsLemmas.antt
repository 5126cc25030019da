-- Nine digits, as a format with a width writes them.
use Rattle.std.proofs.Common.{◌≡◌, ℕ, ◌-◌, ◌/◌, ◌%◌, ◌^◌, [], ◌∷◌, ◌++◌, length, refl, sym, arith, append_assoc}
use Rattle.std.proofs.lemmas.List.{append-nil}
use Rattle.std.specs.Fmt.{decimal, styled_decimal, padded_integral, format_spec, char_count}
use Rattle.flk_text.specs.Billionths.{nine_digits, billionths}

padded_is : (n : ℕ) → styled_decimal (format_spec 32 0 4 9 (2 ^ 64 - 1)) n ≡ nine_digits n
unfolding padded_integral char_count
padded_is n =
    let nothing : decimal n ++ [] ≡ decimal n = append-nil (decimal n) in
    let zeros : 9 - length (decimal n) - 0 - 0 ≡ 9 - length (decimal n) = omega arith in
    rw (nothing, zeros) refl

pub billionths_written : (n : ℕ) → decimal (n / 10 ^ 9) ++ (46 ∷ styled_decimal (format_spec 32 0 4 9 (2 ^ 64 - 1)) (n % 10 ^ 9)) ≡ billionths n
billionths_written n = rw (padded_is (n % 10 ^ 9)) (sym (append_assoc (decimal (n / 10 ^ 9)) (46 ∷ []) (nine_digits (n % 10 ^ 9))))
