-- The lines of all channels, one channel after another.
use Rattle.std.proofs.Common.{◌≡◌, ℕ, ◌+◌, ◌<◌, List, ◌∷◌, ◌++◌, length, drop, get_or, refl, sym, ap, ◌∙◌, arith, append_assoc}
use Rattle.std.proofs.lemmas.List.{drop_more, reverse-append}
use Rattle.std.specs.Prelude.{reverse}
use Rattle.flk_num.specs.declared.rate.Rate.{Rate}
use Rattle.flk_job.specs.declared.job.Job.{Job}
use Rattle.flk_result.specs.declared.result.PhaseResult.{PhaseResult}
use Rattle.flk_report.specs.Report.{channel_lines, all_channel_lines, title_lines, recording_lines, verdict_line, report_text}
use Rattle.flk_report.specs.Verdict.{overall_of}
use Rattle.flk_report.specs.declared.verdict.Verdict.{Verdict}
use Rattle.flk_report.specs.declared.verdict.Verdict.TheVariants.{Pass, Fail, Undecided}

-- the lines of channel i follow the text so far
pub channels_more : (j : Job) (ns : List ℕ) (rs : List PhaseResult) (i n : ℕ) (r : PhaseResult) (text lines new all : List ℕ) → i < length ns → i < length rs → n ≡ get_or ns i 0 → r ≡ get_or rs i r
    → lines ≡ channel_lines j n r → new ≡ text ++ lines → text ++ all_channel_lines j (drop i ns) (drop i rs) ≡ all → new ++ all_channel_lines j (drop (i + 1) ns) (drop (i + 1) rs) ≡ all
channels_more j ns rs i n r text lines new all there here number result is joined old =
    let rest = all_channel_lines j (drop (i + 1) ns) (drop (i + 1) rs) in
    let numbers : drop i ns ≡ n ∷ drop (i + 1) ns = drop_more ns i 0 there ∙ ap (λ x. x ∷ drop (i + 1) ns) (sym number) in
    let results : drop i rs ≡ r ∷ drop (i + 1) rs = drop_more rs i r here ∙ ap (λ x. x ∷ drop (i + 1) rs) (sym result) in
    let first : all_channel_lines j (drop i ns) (drop i rs) ≡ channel_lines j n r ++ rest
    = ap (λ x. all_channel_lines j x (drop i rs)) numbers ∙ ap (λ x. all_channel_lines j (n ∷ drop (i + 1) ns) x) results in
    ap (λ x. x ++ rest) joined ∙ append_assoc text lines rest ∙ ap (λ x. text ++ (x ++ rest)) is ∙ ap (λ x. text ++ x) (sym first) ∙ old

-- the parts of the report, one after another
pub whole_report : (j : Job) (rate : Rate) (records : ℕ) (rs : List PhaseResult) (verdict : Verdict) (title recording channels text : List ℕ) → title ≡ title_lines j rate
    → recording ≡ recording_lines j rate records → channels ≡ all_channel_lines j j.channels rs → verdict ≡ overall_of j rs
    → text ≡ title ++ (recording ++ (channels ++ verdict_line verdict)) → text ≡ report_text j rate records rs
whole_report j rate records rs verdict title recording channels text first second third last joined =
    let P : Verdict → List ℕ = verdict_line in
    joined ∙ ap (λ x. x ++ (recording ++ (channels ++ P verdict))) first ∙ ap (λ x. title_lines j rate ++ (x ++ (channels ++ P verdict))) second
    ∙ ap (λ x. title_lines j rate ++ (recording_lines j rate records ++ (x ++ P verdict))) third
    ∙ ap (λ v. title_lines j rate ++ (recording_lines j rate records ++ (all_channel_lines j j.channels rs ++ P v))) last

-- ---- the last line tells the verdict: the last letters of the three differ

abbrev mark : Verdict → ℕ
mark v = get_or (reverse (verdict_line v)) 1 0

mark_stands : (v : Verdict) (xs : List ℕ) → get_or (reverse (verdict_line v) ++ xs) 1 0 ≡ mark v
mark_stands Pass xs = refl
mark_stands Fail xs = refl
mark_stands Undecided xs = refl

mark_tells : (v w : Verdict) → mark v ≡ mark w → v ≡ w
mark_tells Pass Pass h = refl
mark_tells Pass Fail h = absurd (omega (arith, h))
mark_tells Pass Undecided h = absurd (omega (arith, h))
mark_tells Fail Pass h = absurd (omega (arith, h))
mark_tells Fail Fail h = refl
mark_tells Fail Undecided h = absurd (omega (arith, h))
mark_tells Undecided Pass h = absurd (omega (arith, h))
mark_tells Undecided Fail h = absurd (omega (arith, h))
mark_tells Undecided Undecided h = refl

mark_of : (front : List ℕ) (v : Verdict) → get_or (reverse (front ++ verdict_line v)) 1 0 ≡ mark v
mark_of front v = ap (λ x. get_or x 1 0) (reverse-append front (verdict_line v)) ∙ mark_stands v (reverse front)

same_verdict : (xs ys : List ℕ) (v w : Verdict) → xs ++ verdict_line v ≡ ys ++ verdict_line w → v ≡ w
same_verdict xs ys v w same = mark_tells v w (sym (mark_of xs v) ∙ ap (λ x. get_or (reverse x) 1 0) same ∙ mark_of ys w)

pub last_verdict : (j : Job) (rate : Rate) (records : ℕ) (rs : List PhaseResult) (front : List ℕ) (v : Verdict) → report_text j rate records rs ≡ front ++ verdict_line v → v ≡ overall_of j rs
last_verdict j rate records rs front v ends =
    let title = title_lines j rate in
    let recording = recording_lines j rate records in
    let channels = all_channel_lines j j.channels rs in
    let last = verdict_line (overall_of j rs) in
    let whole : title ++ (recording ++ channels) ++ last ≡ report_text j rate records rs
    = append_assoc title (recording ++ channels) last ∙ ap (λ x. title ++ x) (append_assoc recording channels last) in
    sym (same_verdict (title ++ (recording ++ channels)) front (overall_of j rs) v (whole ∙ ends))
