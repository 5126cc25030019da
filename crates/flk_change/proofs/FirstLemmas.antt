-- The first of the numbers of some resolutions, in an order: how it follows from that of others.
use Rattle.std.proofs.Common.{◌≡◌, ◌⊎◌, inl, inr, Bool, false, true, List, [], ◌∷◌, ℤ, refl, sym, ap, subst, arith}
use Rattle.std.specs.Int.{int_min, int_max}
use Rattle.std.proofs.lemmas.Int.{ints, clamps, by_lt_z}
use Rattle.flk_change.specs.declared.flag.Flag.{Flag}
use Rattle.flk_change.specs.declared.flag.Flag.TheVariants.{Early, Sure, Not, Doubtful}
use Rattle.flk_change.specs.Resolutions.{Resolves, AreResolved}
use Rattle.flk_change.specs.Pass.{IsFirst, at_most, at_least}

-- what is asked of an order
pub record IsOrder (order : ℤ → ℤ → Type 0) : Type 0 where
  pub through : (x y z : ℤ) → order x y → order y z → order x z
  pub kept : (x y r : ℤ) → order x y → order (int_max x r) (int_max y r)

pub upwards : IsOrder at_most
upwards = record { through = λ x y z a b. omega (arith, ints, a, b); kept = λ x y r a. omega (arith, ints, clamps, a) }

pub downwards : IsOrder at_least
downwards = record { through = λ x y z a b. omega (arith, ints, a, b); kept = λ x y r a. omega (arith, ints, clamps, a) }

-- each resolution of G is one of F, and f leads to its number there; each of F leads to one of G
pub first_step : (order : ℤ → ℤ → Type 0) (F G : List Bool → Type 0) (P Q : List Bool → ℤ → Type 0) (f : ℤ → ℤ) (v : ℤ) → ((x y : ℤ) → order x y → order (f x) (f y))
    → ((b : List Bool) → G b → F b × ((m : ℤ) → P b m → Q b (f m)))
    → ((b : List Bool) (m : ℤ) → F b → P b m → (c : List Bool) × G c × Q c (f m))
    → IsFirst order F P v → IsFirst order G Q (f v)
first_step order F G P Q f v kept to back h = record {
  reached = (let r = h.reached in back r.0 v r.1 r.2);
  bounds = λ b g. let from = to b g in let m = h.bounds b from.0 in (f m.0, from.1 m.0 m.1, kept v m.0 m.2);
}

pub first_same : (order : ℤ → ℤ → Type 0) (F G : List Bool → Type 0) (P : List Bool → ℤ → Type 0) (v : ℤ) → ((b : List Bool) → F b → G b) → ((b : List Bool) → G b → F b)
    → IsFirst order F P v → IsFirst order G P v
first_same order F G P v to back h = record { reached = (let r = h.reached in (r.0, to r.0 r.1, r.2)); bounds = λ b g. h.bounds b (back b g) }

-- the resolutions of F and those of G make up those of H
pub first_join : (order : ℤ → ℤ → Type 0) → IsOrder order → (F G H : List Bool → Type 0) (P : List Bool → ℤ → Type 0) (v w x : ℤ) → order x v → order x w → (x ≡ v) ⊎ (x ≡ w)
    → ((b : List Bool) → F b → H b) → ((b : List Bool) → G b → H b) → ((b : List Bool) → H b → F b ⊎ G b)
    → IsFirst order F P v → IsFirst order G P w → IsFirst order H P x
first_join order is F G H P v w x a b either first second cover h k = record {
  reached = elim either [
    | inl e ↦ (let r = h.reached in (r.0, first r.0 r.1, subst (P r.0) (sym e) r.2))
    | inr e ↦ (let r = k.reached in (r.0, second r.0 r.1, subst (P r.0) (sym e) r.2))
  ];
  bounds = λ c there. elim (cover c there) [
    | inl f ↦ (let m = h.bounds c f in (m.0, m.1, is.through x v m.0 a m.2))
    | inr g ↦ (let m = k.bounds c g in (m.0, m.1, is.through x w m.0 b m.2))
  ];
}

pub least_join : (F G H : List Bool → Type 0) (P : List Bool → ℤ → Type 0) (v w x : ℤ) → x ≡ int_min v w
    → ((b : List Bool) → F b → H b) → ((b : List Bool) → G b → H b) → ((b : List Bool) → H b → F b ⊎ G b)
    → IsFirst at_most F P v → IsFirst at_most G P w → IsFirst at_most H P x
least_join F G H P v w x e first second cover h k =
    first_join at_most upwards F G H P v w x (omega (arith, ints, clamps, e)) (omega (arith, ints, clamps, e))
    (by_lt_z w v (λ less. inr (omega (arith, ints, clamps, e))) (λ most. inl (omega (arith, ints, clamps, e))))
    first second cover h k

pub greatest_join : (F G H : List Bool → Type 0) (P : List Bool → ℤ → Type 0) (v w x : ℤ) → x ≡ int_max v w
    → ((b : List Bool) → F b → H b) → ((b : List Bool) → G b → H b) → ((b : List Bool) → H b → F b ⊎ G b)
    → IsFirst at_least F P v → IsFirst at_least G P w → IsFirst at_least H P x
greatest_join F G H P v w x e first second cover h k =
    first_join at_least downwards F G H P v w x (omega (arith, ints, clamps, e)) (omega (arith, ints, clamps, e))
    (by_lt_z v w (λ less. inr (omega (arith, ints, clamps, e))) (λ most. inl (omega (arith, ints, clamps, e))))
    first second cover h k

-- ---- there is one over all resolutions of some flags

-- the resolutions of f and then fs that begin so
abbrev BeginsWith : Bool → List Flag → List Bool → Type 0
BeginsWith b fs cs = (bs : List Bool) × (b ∷ bs ≡ cs) × AreResolved fs bs

begun : (order : ℤ → ℤ → Type 0) (b : Bool) (fs : List Flag) (P : List Bool → ℤ → Type 0) (v : ℤ) → IsFirst order (AreResolved fs) (λ bs. P (b ∷ bs)) v → IsFirst order (BeginsWith b fs) P v
begun order b fs P v h = record {
  reached = (let r = h.reached in (b ∷ r.0, (r.0, refl, r.1), r.2));
  bounds = λ cs (bs, e, is). let m = h.bounds bs is in (m.0, subst (λ (ds : List Bool). P ds m.0) e m.1, m.2);
}

either_way : (fs : List Flag) (cs : List Bool) → AreResolved (Doubtful ∷ fs) cs → BeginsWith false fs cs ⊎ BeginsWith true fs cs
either_way fs [] h = absurd h
either_way fs (false ∷ bs) h = inl (bs, refl, h.1)
either_way fs (true ∷ bs) h = inr (bs, refl, h.1)

one_way : (f : Flag) (b : Bool) (fs : List Flag) (cs : List Bool) → ((c : Bool) → Resolves f c → c ≡ b) → AreResolved (f ∷ fs) cs → BeginsWith b fs cs
one_way f b fs [] only h = absurd h
one_way f b fs (c ∷ bs) only h = (bs, ap (λ (d : Bool). d ∷ bs) (sym (only c h.0)), h.1)

some_way : (f : Flag) (b : Bool) (fs : List Flag) (cs : List Bool) → Resolves f b → BeginsWith b fs cs → AreResolved (f ∷ fs) cs
some_way f b fs cs may (bs, e, is) = subst (AreResolved (f ∷ fs)) e (may, is)

none_left : (bs : List Bool) → AreResolved [] bs → [] ≡ bs
none_left [] h = refl
none_left (b ∷ bs) h = absurd h

pub first_exists : (order : ℤ → ℤ → Type 0) → IsOrder order → ((x y : ℤ) → order x y ⊎ order y x) → ((x : ℤ) → order x x) → (flags : List Flag) (P : List Bool → ℤ → Type 0)
    → ((bs : List Bool) → (m : ℤ) × P bs m) → (v : ℤ) × IsFirst order (AreResolved flags) P v
first_exists order is total same [] P have =
    let m = have [] in (
      m.0,
      record {
        reached = ([], tt, m.1);
        bounds = λ bs h. (m.0, subst (λ (cs : List Bool). P cs m.0) (none_left bs h) m.1, same m.0);
      },
    )
first_exists order is total same (Early ∷ fs) P have =
    let v = first_exists order is total same fs (λ bs. P (false ∷ bs)) (λ bs. have (false ∷ bs)) in
    (v.0, first_same order (BeginsWith false fs) (AreResolved (Early ∷ fs)) P v.0 (λ cs. some_way Early false fs cs refl) (λ cs. one_way Early false fs cs (λ c e. e)) (begun order false fs P v.0 v.1))
first_exists order is total same (Sure ∷ fs) P have =
    let v = first_exists order is total same fs (λ bs. P (true ∷ bs)) (λ bs. have (true ∷ bs)) in
    (v.0, first_same order (BeginsWith true fs) (AreResolved (Sure ∷ fs)) P v.0 (λ cs. some_way Sure true fs cs refl) (λ cs. one_way Sure true fs cs (λ c e. e)) (begun order true fs P v.0 v.1))
first_exists order is total same (Not ∷ fs) P have =
    let v = first_exists order is total same fs (λ bs. P (false ∷ bs)) (λ bs. have (false ∷ bs)) in
    (v.0, first_same order (BeginsWith false fs) (AreResolved (Not ∷ fs)) P v.0 (λ cs. some_way Not false fs cs refl) (λ cs. one_way Not false fs cs (λ c e. e)) (begun order false fs P v.0 v.1))
first_exists order is total same (Doubtful ∷ fs) P have =
    let v = first_exists order is total same fs (λ bs. P (false ∷ bs)) (λ bs. have (false ∷ bs)) in
    let w = first_exists order is total same fs (λ bs. P (true ∷ bs)) (λ bs. have (true ∷ bs)) in
    let first = begun order false fs P v.0 v.1 in
    let second = begun order true fs P w.0 w.1 in
    let join : (x : ℤ) → order x v.0 → order x w.0 → (x ≡ v.0) ⊎ (x ≡ w.0) → IsFirst order (AreResolved (Doubtful ∷ fs)) P x =
    λ x a b e. first_join order is (BeginsWith false fs) (BeginsWith true fs) (AreResolved (Doubtful ∷ fs)) P v.0 w.0 x a b e
    (λ cs. some_way Doubtful false fs cs tt) (λ cs. some_way Doubtful true fs cs tt) (either_way fs) first second in
    elim (total v.0 w.0) [
      | inl low ↦ (v.0, join v.0 (same v.0) low (inl refl))
      | inr high ↦ (w.0, join w.0 high (same w.0) (inr refl))
    ]
