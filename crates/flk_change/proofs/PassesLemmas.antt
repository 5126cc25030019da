-- The passes of all last steady windows: what one window more does to them, and what they tell together.
use Rattle.std.proofs.Common.{◌≡◌, ◌⊎◌, inl, inr, ℕ, ◌+◌, ◌<◌, ◌≤◌, Bool, true, false, cond, Option, Some, None, List, [], ◌∷◌, ◌++◌, length, take, set, get_or, take_all, ℤ, pos, refl, sym, ap, subst, ◌∙◌, arith, add-one}
use Rattle.std.specs.Int.{int_min, int_max}
use Rattle.std.specs.List.{All, Contains}
use Rattle.std.proofs.lemmas.Int.{ints}
use Rattle.std.proofs.lemmas.Bool.{false≢true, cases_lt}
use Rattle.std.proofs.lemmas.List.{take_more, take_more_set}
use Rattle.std.proofs.lemmas.List.Elements.{All-push, Contains-push, Contains-push_cases, Contains-append_left}
use Rattle.std.proofs.lemmas.List.Sums.{sum_by_more, count_by_more_yes}
use Rattle.flk_num.specs.declared.interval.Interval.{Interval}
use Rattle.flk_change.specs.declared.flag.Flag.{Flag}
use Rattle.flk_change.specs.declared.flag.Flag.TheVariants.{Early, Sure, Not, Doubtful}
use Rattle.flk_change.specs.declared.outcome.Outcome.{Outcome}
use Rattle.flk_change.specs.declared.pass.Pass.{Pass}
use Rattle.flk_num.specs.Interval.{lows, highs}
use Rattle.flk_num.specs.Values.{IsHalfPeriodRange}
use Rattle.flk_change.specs.Changes.{level, Readings, Quantity, Dc, Dmax, Tmax}
use Rattle.flk_change.specs.Resolutions.{Resolves, IsTaken, is_doubtful, doubtful_count, least_readings, greatest_readings}
use Rattle.flk_change.specs.Pass.{at_most, at_least, interval_in, AreHulls, closed_number, HasLast, HasNext, MayResolve, HasPassed, HavePassed, IsPassInRange, kept_before}
use Rattle.flk_change.proofs.ChangeLemmas.{last_untaken, last_taken, last_none}
use Rattle.flk_change.proofs.FirstLemmas.{first_same, least_join, greatest_join}
use Rattle.flk_change.proofs.ResolutionLemmas.{choice_at}
use Rattle.flk_change.proofs.EnclosureLemmas.{cases_taken}
use Rattle.flk_change.proofs.PassLemmas.{hulls_start, hulls_untaken}

-- ---- the hulls of several families

pub hulls_same : (window : ℕ) (halves : List Interval) (F G : List Bool → Type 0) (number : Quantity → Readings → List Bool → ℤ → Type 0) (o : Outcome) → ((b : List Bool) → F b → G b) → ((b : List Bool) → G b → F b)
    → AreHulls window halves F number o → AreHulls window halves G number o
hulls_same window halves F G number o to back h = record {
  low = λ q. first_same at_most F G (number q (least_readings window halves)) (interval_in q o).lo to back (h.low q);
  high = λ q. first_same at_least F G (number q (greatest_readings window halves)) (interval_in q o).hi to back (h.high q);
}

-- what the code does to the ends of two
pub record AreJoined (o p r : Outcome) : Type 0 where
  pub dc_low : r.dc.lo ≡ int_min o.dc.lo p.dc.lo
  pub dc_high : r.dc.hi ≡ int_max o.dc.hi p.dc.hi
  pub dmax_low : r.dmax.lo ≡ int_min o.dmax.lo p.dmax.lo
  pub dmax_high : r.dmax.hi ≡ int_max o.dmax.hi p.dmax.hi
  pub t_low : r.t.lo ≡ int_min o.t.lo p.t.lo
  pub t_high : r.t.hi ≡ int_max o.t.hi p.t.hi

joined_low : (o p r : Outcome) (q : Quantity) → AreJoined o p r → (interval_in q r).lo ≡ int_min (interval_in q o).lo (interval_in q p).lo
joined_low o p r Dc h = h.dc_low
joined_low o p r Dmax h = h.dmax_low
joined_low o p r Tmax h = h.t_low

joined_high : (o p r : Outcome) (q : Quantity) → AreJoined o p r → (interval_in q r).hi ≡ int_max (interval_in q o).hi (interval_in q p).hi
joined_high o p r Dc h = h.dc_high
joined_high o p r Dmax h = h.dmax_high
joined_high o p r Tmax h = h.t_high

-- the resolutions of which one of these passes tells
abbrev pub Among : (ℕ → List Bool → Type 0) → List Pass → List Bool → Type 0
Among family passes resolution = (p : Pass) × Contains passes p × family p.last resolution

only_one : (x y : Pass) → Contains (x ∷ []) y → x ≡ y
only_one x y here = elim (Contains-push_cases [] x y here) [ inl (k, there, e) ↦ absurd (omega (arith, there)) | inr e ↦ e ]

pub hulls_one : (window : ℕ) (halves : List Interval) (family : ℕ → List Bool → Type 0) (number : Quantity → Readings → List Bool → ℤ → Type 0) (passes : List Pass) (p : Pass) (o : Outcome)
    → 0 < length passes → p ≡ get_or passes 0 p → AreHulls window halves (family p.last) number o → AreHulls window halves (Among family (take 1 passes)) number o
hulls_one window halves family number [] p o some is h = absurd (omega (arith, some))
hulls_one window halves family number (x ∷ passes) p o some is h =
    let there : Contains (x ∷ []) p = subst (Contains (x ∷ [])) (sym is) (Contains-push [] x) in
    hulls_same window halves (family p.last) (Among family (x ∷ [])) number o
    (λ b f. (p, there, f))
    (λ b (y, here, f). subst (λ (z : Pass). family z.last b) (sym (is ∙ only_one x y here)) f)
    h

-- one pass more
pub hulls_more : (window : ℕ) (halves : List Interval) (family : ℕ → List Bool → Type 0) (number : Quantity → Readings → List Bool → ℤ → Type 0) (passes : List Pass) (k : ℕ) (p : Pass) (o s r : Outcome)
    → k < length passes → p ≡ get_or passes k p → AreJoined o s r → AreHulls window halves (Among family (take k passes)) number o → AreHulls window halves (family p.last) number s
    → AreHulls window halves (Among family (take (k + 1) passes)) number r
hulls_more window halves family number passes k p o s r there is joined h new =
    let all = take k passes in
    let more : all ++ p ∷ [] ≡ take (k + 1) passes = ap (λ (z : Pass). all ++ z ∷ []) is ∙ sym (take_more passes k p there) in
    let F = Among family all in
    let G = family p.last in
    let H = Among family (all ++ p ∷ []) in
    let first : (b : List Bool) → F b → H b = λ b (x, here, f). (x, Contains-append_left all (p ∷ []) x here, f) in
    let second : (b : List Bool) → G b → H b = λ b f. (p, Contains-push all p, f) in
    let cover : (b : List Bool) → H b → F b ⊎ G b = λ b (x, here, f). elim (Contains-push_cases all p x here) [
      | inl old ↦ inl (x, old, f)
      | inr e ↦ inr (subst (λ (z : Pass). family z.last b) (sym e) f)
    ] in
    let there_now : AreHulls window halves H number r = record {
      low = λ q. least_join F G H (number q (least_readings window halves)) (interval_in q o).lo (interval_in q s).lo (interval_in q r).lo (joined_low o s r q joined) first second cover (h.low q) (new.low q);
      high = λ q. greatest_join F G H (number q (greatest_readings window halves)) (interval_in q o).hi (interval_in q s).hi (interval_in q r).hi (joined_high o s r q joined) first second cover (h.high q) (new.high q);
    } in
    subst (λ (ps : List Pass). AreHulls window halves (Among family ps) number r) more there_now

-- ---- the passes

pub within : (window : ℕ) (halves : List Interval) (flags : List Flag) (n : ℕ) (p : Pass) → HasPassed window halves flags n p → p.last ≤ n
within window halves flags n p h = let some = (h.outcome.low Dc).reached in let t = some.1 in t.1.within

pub pass_at : (window : ℕ) (halves : List Interval) (flags : List Flag) (n : ℕ) (passes : List Pass) (k : ℕ) (p : Pass) → HavePassed window halves flags n passes → k < length passes → p ≡ get_or passes k p
    → HasPassed window halves flags n p
pass_at window halves flags n passes k p h there is = subst (HasPassed window halves flags n) (sym is) (h.each k p there)

pub ranges_in : (window : ℕ) (halves : List Interval) (flags : List Flag) (n : ℕ) (passes : List Pass) → HavePassed window halves flags n passes → All IsPassInRange passes
ranges_in window halves flags n passes h = λ k d there. (h.each k d there).in_range

all_none : (o : Outcome) → (o.dc.lo ≡ pos 0) × (o.dc.hi ≡ pos 0) × (o.dmax.lo ≡ pos 0) × (o.dmax.hi ≡ pos 0) × (o.t.lo ≡ pos 0) × (o.t.hi ≡ pos 0) → (q : Quantity) → ((interval_in q o).lo ≡ pos 0) × ((interval_in q o).hi ≡ pos 0)
all_none o e Dc = (e.0, e.1)
all_none o e Dmax = (e.2, e.3)
all_none o e Tmax = (e.4, e.5)

pub passes_start : (window : ℕ) (halves : List Interval) (flags : List Flag) (p : Pass) → p.last ≡ 0 → p.before.lo ≡ pos 1000000000 → p.before.hi ≡ pos 1000000000
    → (p.outcome.dc.lo ≡ pos 0) × (p.outcome.dc.hi ≡ pos 0) × (p.outcome.dmax.lo ≡ pos 0) × (p.outcome.dmax.hi ≡ pos 0) × (p.outcome.t.lo ≡ pos 0) × (p.outcome.t.hi ≡ pos 0)
    → HavePassed window halves flags 0 (p ∷ [])
passes_start window halves flags p last low high e =
    let passed : HasPassed window halves flags 0 p = record {
      before_low = rw last low;
      before_high = rw last high;
      in_range = record { low = omega (arith, ints, low); high = omega (arith, ints, high) };
      outcome = rw last (hulls_start window halves flags p.outcome (all_none p.outcome e));
    } in
    record {
      each = All-push (HasPassed window halves flags 0) [] p (λ k d there. absurd (omega (arith, there))) passed;
      cover = λ b is. (p, Contains-push [] p, rw last (last_none (IsTaken b)));
    }

-- the pass of a window that may be steady, from all that tell of the windows before
pub passed_next : (window : ℕ) (halves : List Interval) (flags : List Flag) (n : ℕ) (passes : List Pass) (q : Pass) → HavePassed window halves flags n passes → q.last ≡ n + 1
    → q.before.lo ≡ level window (lows halves) (n + 1) → q.before.hi ≡ level window (highs halves) (n + 1) → IsHalfPeriodRange q.before
    → AreHulls window halves (Among (HasNext flags n) passes) (closed_number window (length halves) (n + 1)) q.outcome → HasPassed window halves flags (n + 1) q
passed_next window halves flags n passes q h last low high range hulls = record {
  before_low = rw (last, add-one) (rw add-one at low);
  before_high = rw (last, add-one) (rw add-one at high);
  in_range = range;
  outcome = rw last (hulls_same window halves (Among (HasNext flags n) passes) (HasLast flags (n + 1) (n + 1)) (closed_number window (length halves) (n + 1)) q.outcome
      (λ b (p, here, ((is, t), taken)). (is, last_taken (IsTaken b) n taken))
      (λ b (is, t). let c = h.cover b is in let taken = t.here (omega arith) in (c.0, c.1, ((is, c.2), taken)))
      hulls);
}

passed_untaken : (window : ℕ) (halves : List Interval) (flags : List Flag) (n : ℕ) (p : Pass) → MayResolve flags n false → HasPassed window halves flags n p → HasPassed window halves flags (n + 1) p
passed_untaken window halves flags n p may h = record {
  before_low = h.before_low;
  before_high = h.before_high;
  in_range = h.in_range;
  outcome = hulls_untaken window halves flags n p.last p.outcome (within window halves flags n p h) may h.outcome;
}

untaken_at : (resolution : List Bool) (n : ℕ) → get_or resolution n false ≡ false → ¬ IsTaken resolution (n + 1)
untaken_at resolution n h t = let k : get_or resolution n false ≡ true = (rw add-one at t) in false≢true (sym h ∙ k)

taken_at : (resolution : List Bool) (n : ℕ) → get_or resolution n false ≡ true → IsTaken resolution (n + 1)
taken_at resolution n h = rw add-one h

-- a window that is steady in no resolution
pub passes_untaken : (window : ℕ) (halves : List Interval) (flags : List Flag) (n : ℕ) (passes : List Pass) → n < length flags → ((b : Bool) → Resolves (get_or flags n Early) b → b ≡ false) → Resolves (get_or flags n Early) false
    → HavePassed window halves flags n passes → HavePassed window halves flags (n + 1) passes
passes_untaken window halves flags n passes there only may h = record {
  each = λ k d low. passed_untaken window halves flags n (get_or passes k d) (there, may) (h.each k d low);
  cover = λ b is. let c = h.cover b is in
      (c.0, c.1, last_untaken (IsTaken b) n (c.0).last (untaken_at b n (only (get_or b n false) (choice_at flags b n there is))) c.2);
}

-- one that is steady in all
pub passes_taken : (window : ℕ) (halves : List Interval) (flags : List Flag) (n : ℕ) (p : Pass) → n < length flags → ((b : Bool) → Resolves (get_or flags n Early) b → b ≡ true) → p.last ≡ n + 1
    → HasPassed window halves flags (n + 1) p → HavePassed window halves flags (n + 1) (p ∷ [])
passes_taken window halves flags n p there only last h = record {
  each = All-push (HasPassed window halves flags (n + 1)) [] p (λ k d low. absurd (omega (arith, low))) h;
  cover = λ b is. (p, Contains-push [] p, rw last (last_taken (IsTaken b) n (taken_at b n (only (get_or b n false) (choice_at flags b n there is)))));
}

-- one that is steady in some
pub passes_either : (window : ℕ) (halves : List Interval) (flags : List Flag) (n : ℕ) (passes : List Pass) (p : Pass) → MayResolve flags n false → p.last ≡ n + 1
    → HavePassed window halves flags n passes → HasPassed window halves flags (n + 1) p → HavePassed window halves flags (n + 1) (passes ++ p ∷ [])
passes_either window halves flags n passes p may last h new = record {
  each = All-push (HasPassed window halves flags (n + 1)) passes p (λ k d low. passed_untaken window halves flags n (get_or passes k d) may (h.each k d low)) new;
  cover = λ b is. elim (cases_taken b (n + 1)) [
    | inl taken ↦ (p, Contains-push passes p, rw last (last_taken (IsTaken b) n taken))
    | inr never ↦ (let c = h.cover b is in (c.0, Contains-append_left passes (p ∷ []) c.0 c.1, last_untaken (IsTaken b) n (c.0).last never c.2))
  ];
}

-- ---- how many passes stay

abbrev number_in : Option ℕ → ℕ
number_in None = 0
number_in (Some n) = n

abbrev is_there : Option ℕ → Bool
is_there None = false
is_there (Some n) = true

more : (window : ℕ) (halves : List Interval) (flags : List Flag) (n : ℕ) (old : List Pass) (count kept : ℕ) (f : Flag) (p : Pass) (passes : List Pass) → n < length flags → f ≡ get_or flags n Early → Some kept ≡ kept_before f count
    → old ≡ take count passes → p.last ≡ n + 1 → HavePassed window halves flags n old → HasPassed window halves flags (n + 1) p → HavePassed window halves flags (n + 1) (take kept passes ++ p ∷ [])
more window halves flags n old count kept Early p passes there is stay same last h new = absurd (false≢true (sym (ap is_there stay)))
more window halves flags n old count kept Not p passes there is stay same last h new = absurd (false≢true (sym (ap is_there stay)))
more window halves flags n old count kept Sure p passes there is stay same last h new =
    let none : kept ≡ 0 = ap number_in stay in
    rw none (passes_taken window halves flags n p there (λ b r. subst (λ (f : Flag). Resolves f b) (sym is) r) last new)
more window halves flags n old count kept Doubtful p passes there is stay same last h new =
    let all : kept ≡ count = ap number_in stay in
    let may : MayResolve flags n false = (there, subst (λ (f : Flag). Resolves f false) is tt) in
    rw all (passes_either window halves flags n (take count passes) p may last (subst (HavePassed window halves flags n) same h) new)

-- after a window whose pass is the next one
pub passes_more : (window : ℕ) (halves : List Interval) (flags : List Flag) (n : ℕ) (passes : List Pass) (count kept : ℕ) (f : Flag) (p : Pass) → n < length flags → f ≡ get_or flags n Early → Some kept ≡ kept_before f count
    → kept < length passes → p.last ≡ n + 1 → HavePassed window halves flags n (take count passes) → HasPassed window halves flags (n + 1) p → HavePassed window halves flags (n + 1) (take (kept + 1) (set passes kept p))
passes_more window halves flags n passes count kept f p there is stay room last h new =
    subst (HavePassed window halves flags (n + 1)) (sym (take_more_set passes kept p room))
    (more window halves flags n (take count passes) count kept f p passes there is stay refl last h new)

-- after a window that is steady in no resolution
pub passes_same : (window : ℕ) (halves : List Interval) (flags : List Flag) (n : ℕ) (passes : List Pass) (count : ℕ) (f : Flag) → n < length flags → f ≡ get_or flags n Early → None ≡ kept_before f count
    → HavePassed window halves flags n passes → HavePassed window halves flags (n + 1) passes
passes_same window halves flags n passes count Early there is stay h =
    passes_untaken window halves flags n passes there (λ b r. subst (λ (f : Flag). Resolves f b) (sym is) r) (subst (λ (f : Flag). Resolves f false) is refl) h
passes_same window halves flags n passes count Not there is stay h =
    passes_untaken window halves flags n passes there (λ b r. subst (λ (f : Flag). Resolves f b) (sym is) r) (subst (λ (f : Flag). Resolves f false) is refl) h
passes_same window halves flags n passes count Sure there is stay h = absurd (false≢true (ap is_there stay))
passes_same window halves flags n passes count Doubtful there is stay h = absurd (false≢true (ap is_there stay))

may_be : (f : Flag) (count kept : ℕ) → Some kept ≡ kept_before f count → Resolves f true
may_be Early count kept stay = absurd (false≢true (sym (ap is_there stay)))
may_be Not count kept stay = absurd (false≢true (sym (ap is_there stay)))
may_be Sure count kept stay = refl
may_be Doubtful count kept stay = tt

-- a window with a pass may be taken as steady
pub may_take : (flags : List Flag) (n count kept : ℕ) (f : Flag) → n < length flags → f ≡ get_or flags n Early → Some kept ≡ kept_before f count → MayResolve flags n true
may_take flags n count kept f there is stay = (there, subst (λ (g : Flag). Resolves g true) is (may_be f count kept stay))

-- the passes are no more than the Doubtful windows so far, and one
pub few_kept : (flags : List Flag) (n count kept : ℕ) (f : Flag) → n < length flags → f ≡ get_or flags n Early → Some kept ≡ kept_before f count → count ≤ doubtful_count (take n flags) + 1 → kept ≤ doubtful_count (take (n + 1) flags)
few_kept flags n count kept Early there is stay few = absurd (false≢true (sym (ap is_there stay)))
few_kept flags n count kept Not there is stay few = absurd (false≢true (sym (ap is_there stay)))
few_kept flags n count kept Sure there is stay few = omega (arith, ap number_in stay)
few_kept flags n count kept Doubtful there is stay few = omega (arith, few, ap number_in stay, count_by_more_yes is_doubtful flags n Early there (ap is_doubtful (sym is)))

pub few_more : (flags : List Flag) (n : ℕ) → doubtful_count (take n flags) ≤ doubtful_count (take (n + 1) flags)
few_more flags n = elim (cases_lt n (length flags)) [
  | inl less ↦ omega (arith, sum_by_more (λ g. cond {A = ℕ} (is_doubtful g) 1 0) flags n Early less)
  | inr most ↦ (let a = take_all n flags most in let b = take_all (n + 1) flags (omega arith) in omega (arith, ap doubtful_count (a ∙ sym b)))
]
