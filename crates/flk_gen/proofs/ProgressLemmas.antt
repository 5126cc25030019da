-- How far a recording is given after a record, and after a piece.
use Rattle.std.proofs.Common.{◌≡◌, ℕ, ◌+◌, ◌-◌, ◌<◌, ◌≤◌, Bool, true, false, List, [], ◌++◌, refl, sym, ap, ◌∙◌, arith, append-nil, append_assoc}
use Rattle.std.proofs.lemmas.Bool.{false≢true, true≢false}
use Rattle.flk_field.specs.declared.form.Form.TheVariants.{Ascii}
use Rattle.flk_dat.specs.Written.{written_record}
use Rattle.flk_gen.specs.Recording.{records_in, generated_record, generated_lines}
use Rattle.flk_gen.specs.Progress.{HasGiven, Continues}
use Rattle.flk_gen.specs.Stands.{Stands}
use Rattle.flk_gen.specs.Workload.{values}
use Rattle.flk_gen.specs.declared.recording.Recording.{Recording}
use Rattle.flk_gen.proofs.RecordingLemmas.{lines_more}

-- ---- a record

pub none_more : (old new : Recording) (seed seconds n : ℕ) → HasGiven old seed seconds n → n ≡ records_in seconds
    → Stands new.workload seed (records_in seconds) n → new.last ≡ old.last → Continues false seed seconds n [] new
none_more old new seed seconds n has all stands last = record {
  next = n;
  given = record { workload = stands; last = λ some. last ∙ has.last some };
  lines = sym (append-nil (generated_lines seed n));
  further = λ e. absurd (false≢true e);
  end = λ e. (all, refl);
}

pub one_more : (new : Recording) (seed seconds n : ℕ) → Stands new.workload seed (records_in seconds) (n + 1) → new.last ≡ values seed n
    → Continues true seed seconds n (written_record Ascii (generated_record seed n)) new
one_more new seed seconds n stands last = record {
  next = n + 1;
  given = record { workload = stands; last = λ some. let e : n ≡ n + 1 - 1 = omega arith in last ∙ ap (values seed) e };
  lines = lines_more seed n;
  further = λ e. omega arith;
  end = λ e. absurd (true≢false e);
}

-- ---- a piece

-- of n records given, so many more or beyond are given, and these bytes are their lines
pub record Reaches (seed seconds n more : ℕ) (bytes : List ℕ) (new : Recording) : Type 0 where
  pub next : ℕ
  pub given : HasGiven new seed seconds next
  pub lines : generated_lines seed next ≡ generated_lines seed n ++ bytes
  pub far : n + more ≤ next
  pub none : more ≡ 0 → next ≡ n

more_lines : (seed n next last : ℕ) (bytes line : List ℕ) → generated_lines seed next ≡ generated_lines seed n ++ bytes
    → generated_lines seed last ≡ generated_lines seed next ++ line → generated_lines seed last ≡ generated_lines seed n ++ (bytes ++ line)
more_lines seed n next last bytes line first second =
    second ∙ ap (λ (x : List ℕ). x ++ line) first ∙ append_assoc (generated_lines seed n) bytes line

pub reaches_more : (r new : Recording) (seed seconds n more : ℕ) (bytes line : List ℕ) (reached : Reaches seed seconds n more bytes r)
    → Continues true seed seconds reached.next line new → Reaches seed seconds n (more + 1) (bytes ++ line) new
reaches_more r new seed seconds n more bytes line reached one = record {
  next = one.next;
  given = one.given;
  lines = more_lines seed n reached.next one.next bytes line reached.lines one.lines;
  far = omega (arith, reached.far, one.further refl);
  none = λ e. omega (arith, e);
}

-- the piece is whole
pub reaches_piece : (r : Recording) (seed seconds n more : ℕ) (bytes : List ℕ) → 0 < more → Reaches seed seconds n more bytes r → Continues true seed seconds n bytes r
reaches_piece r seed seconds n more bytes some reached =
    record { next = reached.next; given = reached.given; lines = reached.lines; further = λ e. omega (arith, reached.far, some); end = λ e. absurd (true≢false e) }

-- the recording has ended
pub reaches_end : (r new : Recording) (seed seconds n more : ℕ) (bytes line : List ℕ) (b : Bool) (reached : Reaches seed seconds n more bytes r)
    → Continues false seed seconds reached.next line new → (b ≡ true → 0 < more) → (b ≡ false → more ≡ 0)
    → Continues b seed seconds n (bytes ++ line) new
reaches_end r new seed seconds n more bytes line b reached last some none =
    let all = last.end refl in
    record {
      next = last.next;
      given = last.given;
      lines = more_lines seed n reached.next last.next bytes line reached.lines last.lines;
      further = λ e. omega (arith, reached.far, some e, all.1);
      end = λ e. let same = reached.none (none e) in (sym same ∙ all.0, all.1 ∙ same);
    }
