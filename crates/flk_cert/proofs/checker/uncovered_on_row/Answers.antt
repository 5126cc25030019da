use Rattle.std.proofs.Common.{◌↔◌, ◌≤◌, ◌^◌, IsTrue, sym, subst, ◌∙◌}
use Rattle.std.specs.Int.RustNames.{unsigned_abs}
use Rattle.std.proofs.lemmas.Bool.{false≢true}
use Rattle.flk_cert.specs.declared.certificate.CertRow.{CertRow}
use Rattle.flk_cert.specs.Row.{input_share, rounding_share}
use Rattle.flk_cert.specs.Certificate.{Covers, CoversInput, CoversRounding}
use Rattle.flk_cert.proofs.CheckLemmas.{small_factors, at_rows}
use Rattle.flk_cert.proofs.checker.uncovered_on_row.Goals as goal

pub covers_input-requires-clause-c : goal.covers_input-requires-clause-c
covers_input-requires-clause-c c =
    let s = small_factors c.args.k.now c.args.rows.now c.args.i c.requires.judged c.requires.within c.requires.identity in
    subst (λ (r : CertRow). unsigned_abs r.c ≤ 2 ^ 64) (sym c.row_at-row.ensures) s.0

pub covers_input-requires-clause-d : goal.covers_input-requires-clause-d
covers_input-requires-clause-d c =
    let s = small_factors c.args.k.now c.args.rows.now c.args.i c.requires.judged c.requires.within c.requires.identity in
    subst (λ (r : CertRow). unsigned_abs r.d ≤ 2 ^ 64) (sym c.row_at-row.ensures) s.1

pub covers_rounding-requires-clause-c : goal.covers_rounding-requires-clause-c
covers_rounding-requires-clause-c c =
    let s = small_factors c.args.k.now c.args.rows.now c.args.i c.requires.judged c.requires.within c.requires.identity in
    subst (λ (r : CertRow). unsigned_abs r.c ≤ 2 ^ 64) (sym c.row_at-row.ensures) s.0

pub covers_rounding-requires-clause-d : goal.covers_rounding-requires-clause-d
covers_rounding-requires-clause-d c =
    let s = small_factors c.args.k.now c.args.rows.now c.args.i c.requires.judged c.requires.within c.requires.identity in
    subst (λ (r : CertRow). unsigned_abs r.d ≤ 2 ^ 64) (sym c.row_at-row.ensures) s.1

pub returns-then-not-covers_input-clause-some : goal.returns-then-not-covers_input-clause-some
returns-then-not-covers_input-clause-some c =
    let k = c.args.k.now in
    let input : IsTrue c.covers_input.result ↔ CoversInput k c.args.rows.now c.args.i =
    at_rows (λ r f s n. IsTrue c.covers_input.result ↔ Covers r f.g s.g n.g (input_share k r.x r.y) r.g) _ _ _ _ _ _ _ _ c.row_at-row.ensures c.row_at-first.ensures
    c.row_at-second.ensures c.row_at-next.ensures c.covers_input.ensures in
    (c.requires.identity, λ covers. false≢true (sym c.if-not-covers_input.true ∙ input.1 covers))

pub returns-then-not-covers_rounding-clause-some : goal.returns-then-not-covers_rounding-clause-some
returns-then-not-covers_rounding-clause-some c =
    let k = c.args.k.now in
    let input : IsTrue c.covers_input.result ↔ CoversInput k c.args.rows.now c.args.i =
    at_rows (λ r f s n. IsTrue c.covers_input.result ↔ Covers r f.g s.g n.g (input_share k r.x r.y) r.g) _ _ _ _ _ _ _ _ c.row_at-row.ensures c.row_at-first.ensures
    c.row_at-second.ensures c.row_at-next.ensures c.covers_input.ensures in
    let rounding : IsTrue c.covers_rounding.result ↔ CoversRounding k c.args.rows.now c.args.i =
    at_rows (λ r f s n. IsTrue c.covers_rounding.result ↔ Covers r f.h s.h n.h (rounding_share k r.x r.y) r.h) _ _ _ _ _ _ _ _ c.row_at-row.ensures c.row_at-first.ensures
    c.row_at-second.ensures c.row_at-next.ensures c.covers_rounding.ensures in
    (c.requires.identity, input.0 c.if-not-covers_input.false, λ covers. false≢true (sym c.if-not-covers_rounding.true ∙ rounding.1 covers))

pub returns-else-not-covers_rounding-clause-none : goal.returns-else-not-covers_rounding-clause-none
returns-else-not-covers_rounding-clause-none c =
    let k = c.args.k.now in
    let input : IsTrue c.covers_input.result ↔ CoversInput k c.args.rows.now c.args.i =
    at_rows (λ r f s n. IsTrue c.covers_input.result ↔ Covers r f.g s.g n.g (input_share k r.x r.y) r.g) _ _ _ _ _ _ _ _ c.row_at-row.ensures c.row_at-first.ensures
    c.row_at-second.ensures c.row_at-next.ensures c.covers_input.ensures in
    let rounding : IsTrue c.covers_rounding.result ↔ CoversRounding k c.args.rows.now c.args.i =
    at_rows (λ r f s n. IsTrue c.covers_rounding.result ↔ Covers r f.h s.h n.h (rounding_share k r.x r.y) r.h) _ _ _ _ _ _ _ _ c.row_at-row.ensures c.row_at-first.ensures
    c.row_at-second.ensures c.row_at-next.ensures c.covers_rounding.ensures in
    record { identity = c.requires.identity; input = input.0 c.if-not-covers_input.false; rounding = rounding.0 c.if-not-covers_rounding.false }
