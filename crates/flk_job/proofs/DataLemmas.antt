-- Values of a document by their TOML types.
use Rattle.std.proofs.Common.{◌≡◌, ◌≢◌, ℕ, ℤ, pos, List, [], ◌∷◌, map, Option, Some, None, refl, sym, ap, ◌∙◌, unsigned_abs}
use Rattle.std.specs.Option.{option_and_then}
use Rattle.std.proofs.lemmas.Option.{same_Some, none-some}
use Rattle.toml.specs.Data.{Data, string, integer, float, boolean, datetime, array, table, Items, no_items, item, as_str, as_integer, as_array}
use Rattle.flk_job.specs.Table.{integer_items}
use Rattle.flk_job.specs.Reading.{integers}

pub is_string : (d : Data) (s : List ℕ) → as_str d ≡ Some s → d ≡ string s
is_string (string t) s e = ap string (same_Some t s e)
is_string (integer z) s e = absurd (none-some s e)
is_string (float x) s e = absurd (none-some s e)
is_string (boolean b) s e = absurd (none-some s e)
is_string (datetime t) s e = absurd (none-some s e)
is_string (array ds) s e = absurd (none-some s e)
is_string (table ms) s e = absurd (none-some s e)

pub is_integer : (d : Data) (z : ℤ) → as_integer d ≡ Some z → d ≡ integer z
is_integer (integer y) z e = ap integer (same_Some y z e)
is_integer (string s) z e = absurd (none-some z e)
is_integer (float x) z e = absurd (none-some z e)
is_integer (boolean b) z e = absurd (none-some z e)
is_integer (datetime t) z e = absurd (none-some z e)
is_integer (array ds) z e = absurd (none-some z e)
is_integer (table ms) z e = absurd (none-some z e)

pub is_array : (d : Data) (ds : Items) → as_array d ≡ Some ds → d ≡ array ds
is_array (array es) ds e = ap array (same_Some es ds e)
is_array (string s) ds e = absurd (none-some ds e)
is_array (integer z) ds e = absurd (none-some ds e)
is_array (float x) ds e = absurd (none-some ds e)
is_array (boolean b) ds e = absurd (none-some ds e)
is_array (datetime t) ds e = absurd (none-some ds e)
is_array (table ms) ds e = absurd (none-some ds e)

pub no_string : (d : Data) → as_str d ≡ None → (s : List ℕ) → d ≢ string s
no_string d e s is = none-some s (sym e ∙ ap as_str is)

pub no_integer : (d : Data) → as_integer d ≡ None → (z : ℤ) → d ≢ integer z
no_integer d e z is = none-some z (sym e ∙ ap as_integer is)

pub same_strings : (s t : List ℕ) → string s ≡ string t → s ≡ t
same_strings s t e = same_Some s t (ap as_str e)

pub same_integers : (y z : ℤ) → integer y ≡ integer z → y ≡ z
same_integers y z e = same_Some y z (ap as_integer e)

-- ---- arrays of integers

-- the integers of an array of integers
abbrev pub integers_in : Data → Option (List ℤ)
integers_in d = option_and_then integers (as_array d)

-- the rest of an array before which an item stands
front : (o : Option ℤ) (p : Option (List ℤ)) (d : Data) (ds : Items) (zs : List ℤ) → as_integer d ≡ o → ((ys : List ℤ) → p ≡ Some ys → ds ≡ integer_items ys)
    → option_and_then (λ z. option_and_then (λ ys. Some (z ∷ ys)) p) o ≡ Some zs → item d ds ≡ integer_items zs
front None p d ds zs a b e = absurd (none-some zs e)
front (Some z) None d ds zs a b e = absurd (none-some zs e)
front (Some z) (Some ys) d ds zs a b e = rw (is_integer d z a, b ys refl) (ap integer_items (same_Some (z ∷ ys) zs e))

pub are_integers : (ds : Items) (zs : List ℤ) → integers ds ≡ Some zs → ds ≡ integer_items zs
are_integers no_items zs e = ap integer_items (same_Some [] zs e)
are_integers (item d ds) zs e = front (as_integer d) (integers ds) d ds zs refl (λ ys h. are_integers ds ys h) e

pub integers_back : (zs : List ℤ) → integers (integer_items zs) ≡ Some zs
integers_back [] = refl
integers_back (z ∷ zs) = rw (integers_back zs)

pub no_integers : (d : Data) → integers_in d ≡ None → (zs : List ℤ) → d ≢ array (integer_items zs)
no_integers d e zs is = none-some zs (sym e ∙ ap integers_in is ∙ integers_back zs)

pub same_arrays : (ys zs : List ℤ) → array (integer_items ys) ≡ array (integer_items zs) → ys ≡ zs
same_arrays ys zs e = same_Some ys zs (sym (integers_back ys) ∙ ap integers_in e ∙ integers_back zs)

-- natural numbers as integers, and back
naturals : (ns : List ℕ) → map unsigned_abs (map (λ n. pos n) ns) ≡ ns
naturals [] = refl
naturals (n ∷ ns) = ap (λ rest. n ∷ rest) (naturals ns)

pub same_naturals : (ms ns : List ℕ) → map (λ n. pos n) ms ≡ map (λ n. pos n) ns → ms ≡ ns
same_naturals ms ns e = sym (naturals ms) ∙ ap (map unsigned_abs) e ∙ naturals ns
