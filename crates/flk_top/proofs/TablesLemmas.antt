-- The lines of `tables`, one section after the other, and that a lamp at a rate has one answer.
use Rattle.std.proofs.Common.{◌≡◌, ℕ, ◌+◌, ◌<◌, ◌≤◌, List, [], ◌∷◌, ◌++◌, length, drop, get_or, refl, sym, ap, ◌∙◌, Result, Ok, Err, IfOk, string_bytes}
use Rattle.std.specs.List.{AllZip}
use Rattle.std.proofs.lemmas.List.{drop_more, append_assoc, append-nil, drop_all}
use Rattle.flk_num.specs.declared.lamp.Lamp.{Lamp}
use Rattle.flk_num.specs.declared.rate.Rate.{Rate}
use Rattle.flk_cert.specs.Gain.{GainNumbers, gain_numbers}
use Rattle.flk_section.specs.Filter.{FilterNumbers}
use Rattle.flk_section.specs.Chain.{filter_numbers}
use Rattle.flk_section.specs.Whole.{numbers_of, IsWholeOf}
use Rattle.flk_section.specs.declared.whole.Whole.{Whole}
use Rattle.flk_top.specs.Certified.{gains_in, IsRefusedLamp, lamp_fault_number}
use Rattle.flk_top.specs.Faults.{lamp_line}
use Rattle.flk_top.specs.Outcome.{Outcome, completed}
use Rattle.flk_top.specs.Replies.{outcome_of}
use Rattle.flk_top.specs.Tables.{section_line, gain_line, section_lines, lines_from, cascade_line, bound_of, tables_text, IsDueForTables, certified, refused}
use Rattle.flk_top.specs.declared.certified.CertifiedSection.{CertifiedSection}
use Rattle.flk_top.specs.declared.certified.LampFault.{LampFault}
use Rattle.flk_top.specs.declared.reply.Reply.{Reply}
use Rattle.flk_top.specs.declared.reply.Status.TheVariants.{Refused}
use Rattle.flk_top.proofs.LampLemmas.{AreAlike, numbers_alike, lamp_alike, lamp_has_one_reason, certified_is_not_refused}
use Rattle.flk_top.proofs.Outcomes.{is_refusal, agreed}

-- ---- the lines, in a loop

-- the text is that of the first i sections: with the lines of the rest it is that of all
pub record AreLinesTo (ss : List CertifiedSection) (i : ℕ) (text : List ℕ) : Type 0 where
  pub is : lines_from 1 ss ≡ text ++ lines_from (i + 1) (drop i ss)

pub lines_none : (ss : List CertifiedSection) (text : List ℕ) → text ≡ [] → AreLinesTo ss 0 text
lines_none ss text none = record { is = rw none refl }

pub lines_more : (ss : List CertifiedSection) (i : ℕ) (s : CertifiedSection) (text lines new : List ℕ) → i < length ss → s ≡ get_or ss i s
    → AreLinesTo ss i text → lines ≡ section_lines (i + 1) s → new ≡ text ++ lines → AreLinesTo ss (i + 1) new
lines_more ss i s text lines new there is begun are joined =
    let step : drop i ss ≡ s ∷ drop (i + 1) ss = drop_more ss i s there ∙ ap (λ x. x ∷ drop (i + 1) ss) (sym is) in
    record {
      is = begun.is ∙ ap (λ xs. text ++ lines_from (i + 1) xs) step ∙ ap (λ x. text ++ (x ++ lines_from (i + 1 + 1) (drop (i + 1) ss))) (sym are)
          ∙ sym (append_assoc text lines (lines_from (i + 1 + 1) (drop (i + 1) ss))) ∙ ap (λ x. x ++ lines_from (i + 1 + 1) (drop (i + 1) ss)) (sym joined);
    }

lines_at_the_end : (ss : List CertifiedSection) (i : ℕ) (text : List ℕ) → length ss ≤ i → AreLinesTo ss i text → lines_from 1 ss ≡ text
lines_at_the_end ss i text end begun = begun.is ∙ ap (λ xs. text ++ lines_from (i + 1) xs) (drop_all i ss end) ∙ append-nil text

-- the last line is that of the bound
pub all_lines : (ss : List CertifiedSection) (i : ℕ) (whole : Whole) (text line new : List ℕ) → length ss ≤ i → AreLinesTo ss i text
    → IsWholeOf (gains_in ss) whole → line ≡ cascade_line (numbers_of whole).chain_input (numbers_of whole).chain_rounding
    → new ≡ text ++ line → new ≡ tables_text ss
all_lines ss i whole text line new end begun of last joined =
    joined ∙ ap (λ x. x ++ line) (sym (lines_at_the_end ss i text end begun))
    ∙ ap (λ x. lines_from 1 ss ++ x) (last ∙ ap (λ (f : FilterNumbers). cascade_line f.chain_input f.chain_rounding) of.numbers)

-- ---- one answer

abbrev lines_by : (i : ℕ) → GainNumbers → (rows : ℕ) → List ℕ
lines_by i n rows = section_line i n.coefs ++ gain_line i n.input n.rounding rows

lines_alike : (i : ℕ) (ss ts : List CertifiedSection) → AllZip AreAlike ss ts → lines_from i ss ≡ lines_from i ts
lines_alike i [] [] h = refl
lines_alike i [] (t ∷ ts) h = absurd h
lines_alike i (s ∷ ss) [] h = absurd h
lines_alike i (s ∷ ss) (t ∷ ts) h =
    let one : section_lines i s ≡ section_lines i t
    = ap (λ (n : GainNumbers). lines_by i n s.rows) h.0.numbers ∙ ap (λ rows. lines_by i (gain_numbers t.gain) rows) h.0.rows in
    ap (λ x. x ++ lines_from (i + 1) ss) one ∙ ap (λ x. section_lines i t ++ x) (lines_alike (i + 1) ss ts h.1)

text_alike : (ss ts : List CertifiedSection) → AllZip AreAlike ss ts → tables_text ss ≡ tables_text ts
text_alike ss ts h =
    ap (λ x. x ++ cascade_line (bound_of ss).chain_input (bound_of ss).chain_rounding) (lines_alike 1 ss ts h)
    ∙ ap (λ (ns : List GainNumbers). lines_from 1 ts ++ cascade_line (filter_numbers ns).chain_input (filter_numbers ns).chain_rounding) (numbers_alike ss ts h)

pub one_table : (lamp : Lamp) (rate : Rate) (o p : Outcome) → IsDueForTables lamp rate o → IsDueForTables lamp rate p → o ≡ p
one_table lamp rate o p (certified ss h done) (certified ts j also) = done ∙ ap completed (text_alike ss ts (lamp_alike lamp rate ss ts h j)) ∙ sym also
one_table lamp rate o p (certified ss h done) (refused g j also) = absurd (certified_is_not_refused lamp rate ss g h j)
one_table lamp rate o p (refused f h done) (certified ts j also) = absurd (certified_is_not_refused lamp rate ts f j h)
one_table lamp rate o p (refused f h done) (refused g j also) = agreed done also (ap (λ x. lamp_line (lamp_fault_number x)) (lamp_has_one_reason lamp rate f g h j))

-- ---- the reply to a lamp that is refused

pub refused_reply : {E : Type 0} (lamp : Lamp) (rate : Rate) (fault : LampFault) (r : Result Reply E) → IsRefusedLamp lamp rate fault
    → IfOk r (λ x. (x.status ≡ Refused) × (string_bytes x.text ≡ lamp_line (lamp_fault_number fault)))
    → IfOk r (λ x. IsDueForTables lamp rate (outcome_of x))
refused_reply lamp rate fault (Ok x) is h = refused fault is (is_refusal x (lamp_line (lamp_fault_number fault)) h.0 h.1)
refused_reply lamp rate fault (Err e) is h = tt
