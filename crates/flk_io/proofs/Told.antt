-- What one call after another leaves of what a shelf tells.
use Rattle.std.proofs.Common.{ℕ, refl, ◌∙◌, arith}
use Rattle.flk_io.specs.Causes.{CountsOn}
use Rattle.flk_io.specs.Told.{ShelfTold, OnlyReads, OnlyAppends}

pub CountsOn-same : (n : ℕ) → CountsOn n n
CountsOn-same n = record { later = omega arith; stands = λ e. refl }

pub CountsOn-trans : {a b c : ℕ} → CountsOn a b → CountsOn b c → CountsOn a c
CountsOn-trans {a} {b} {c} p q = record {
  later = omega (arith, p.later, q.later);
  stands = λ e. q.stands (p.stands e ∙ e) ∙ p.stands e;
}

pub OnlyReads-same : (a : ShelfTold) → OnlyReads a a
OnlyReads-same a = record { nothing_added = λ name. refl; append_faults = refl; count = CountsOn-same a.read_faults }

pub OnlyReads-trans : {a b c : ShelfTold} → OnlyReads a b → OnlyReads b c → OnlyReads a c
OnlyReads-trans {a} {b} {c} p q = record {
  nothing_added = λ name. q.nothing_added name ∙ p.nothing_added name;
  append_faults = q.append_faults ∙ p.append_faults;
  count = CountsOn-trans p.count q.count;
}

pub OnlyAppends-same : (a : ShelfTold) → OnlyAppends a a
OnlyAppends-same a = record { nothing_taken = λ name. refl; read_faults = refl; count = CountsOn-same a.append_faults }

pub OnlyAppends-trans : {a b c : ShelfTold} → OnlyAppends a b → OnlyAppends b c → OnlyAppends a c
OnlyAppends-trans {a} {b} {c} p q = record {
  nothing_taken = λ name. q.nothing_taken name ∙ p.nothing_taken name;
  read_faults = q.read_faults ∙ p.read_faults;
  count = CountsOn-trans p.count q.count;
}
