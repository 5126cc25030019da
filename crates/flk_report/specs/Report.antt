-- The text of a report. Values are from 0, in billionths, and written with nine digits after the point; Tmax counts
-- half-periods. (Appended from the right, as a format is.)
use Rattle.std.specs.Prelude.{ℕ, suc, ◌-◌, ◌/◌, min, ◌&&◌, nat_eq, if◌then◌else◌, List, [], ◌∷◌, ◌++◌, take, Option, Some, None, codes, ℤ}
use Rattle.std.specs.Int.RustNames.{unsigned_abs}
use Rattle.std.specs.Fmt.{decimal}
use Rattle.flk_num.specs.declared.interval.Interval.{Interval}
use Rattle.flk_num.specs.declared.rate.Rate.{Rate}
use Rattle.flk_num.specs.Rate.{samples_per_second}
use Rattle.flk_text.specs.Billionths.{billionths, ends_text}
use Rattle.flk_change.specs.declared.summary.ChangeSummary.{ChangeSummary}
use Rattle.flk_job.specs.Table.{lamp_name}
use Rattle.flk_job.specs.Times.{run_in_samples, interval_samples}
use Rattle.flk_job.specs.declared.job.Job.{Job}
use Rattle.flk_result.specs.declared.result.PhaseResult.{PhaseResult}
use Rattle.flk_report.specs.Limits.{dc_limit, dmax_limit, tmax_limit, pst_limit, plt_limit}
use Rattle.flk_report.specs.Verdict.{verdict_of, verdict_name, overall_of}
use Rattle.flk_report.specs.declared.verdict.Verdict.{Verdict}

-- the intervals that are judged: the first twelve whole ones after the run-in
abbrev pub interval_count : Job → Rate → (records : ℕ) → ℕ
interval_count j rate records =
    min 12 ((records - run_in_samples j rate) / interval_samples j rate)

-- the times are those of the standard: a run-in of 60 seconds, and intervals of ten minutes
abbrev pub form_name : Job → List ℕ
form_name j = if nat_eq j.run_in_s 60 && nat_eq j.interval_s 600 then codes "standard" else codes "informative"

-- a quantity in billionths
abbrev pub value_line : List ℕ → Interval → (limit : ℤ) → List ℕ
value_line name v limit =
    name ++ (codes " " ++ (ends_text (unsigned_abs v.lo) (unsigned_abs v.hi) ++ (codes " limit "
    ++ (billionths (unsigned_abs limit) ++ (codes " " ++ (verdict_name (verdict_of v limit) ++ codes "\n"))))))

-- a count of half-periods
abbrev pub count_line : List ℕ → Interval → (limit : ℤ) → List ℕ
count_line name v limit =
    name ++ (codes " " ++ (decimal (unsigned_abs v.lo) ++ (codes " to " ++ (decimal (unsigned_abs v.hi)
    ++ (codes " limit " ++ (decimal (unsigned_abs limit) ++ (codes " "
    ++ (verdict_name (verdict_of v limit) ++ codes "\n"))))))))

-- the severity of the interval with this number, which counts from 1
abbrev pub severity_line : (number : ℕ) → Interval → List ℕ
severity_line number v = value_line (codes "pst " ++ decimal number) v pst_limit

-- the severities of intervals, the first of which has this number
abbrev pub severity_lines : ℕ → List Interval → List ℕ
severity_lines number [] = []
severity_lines number (v ∷ vs) = severity_line number v ++ severity_lines (suc number) vs

abbrev pub long_term_line : Option Interval → List ℕ
long_term_line None = codes "plt none\n"
long_term_line (Some v) = value_line (codes "plt") v plt_limit

-- the number of the channel, and how many half-periods and Doubtful windows it has
abbrev pub channel_head : (channel : ℕ) → PhaseResult → List ℕ
channel_head channel r =
    codes "channel " ++ (decimal channel ++ (codes "\nhalf-periods " ++ (decimal r.halves ++ (codes "\ndoubtful "
    ++ (decimal r.changes.doubtful ++ codes "\n")))))

abbrev pub changes_lines : Job → ChangeSummary → List ℕ
changes_lines j s =
    value_line (codes "dc") s.dc dc_limit ++ (value_line (codes "dmax") s.dmax (dmax_limit j)
    ++ count_line (codes "t") s.t (tmax_limit j.lamp))

abbrev pub channel_lines : Job → (channel : ℕ) → PhaseResult → List ℕ
channel_lines j channel r =
    channel_head channel r ++ (changes_lines j r.changes ++ (severity_lines 1 (take r.count r.pst)
    ++ long_term_line r.plt))

-- the channels in the job's order, each with its result
abbrev pub all_channel_lines : Job → List ℕ → List PhaseResult → List ℕ
all_channel_lines j (channel ∷ channels) (r ∷ rs) = channel_lines j channel r ++ all_channel_lines j channels rs
all_channel_lines j _ _ = []

-- how the report judges: its form, the lamp and the sampling rate
abbrev pub title_lines : Job → Rate → List ℕ
title_lines j rate =
    codes "report\nprofile flicker-1\nform " ++ (form_name j ++ (codes "\nlamp " ++ (lamp_name j.lamp
    ++ (codes "\nrate " ++ (decimal (samples_per_second rate) ++ codes "\n")))))

-- what the report is of: the supply, the records and the intervals that are judged
abbrev pub recording_lines : Job → Rate → (records : ℕ) → List ℕ
recording_lines j rate records =
    codes "nominal-mv " ++ (decimal j.supply.nominal_mv ++ (codes "\nuncertainty-uv "
    ++ (decimal j.supply.uncertainty_uv ++ (codes "\nrecords " ++ (decimal records ++ (codes "\nintervals "
    ++ (decimal (interval_count j rate records) ++ codes "\n")))))))

-- the last line
abbrev pub verdict_line : Verdict → List ℕ
verdict_line v = codes "verdict " ++ (verdict_name v ++ codes "\n")

abbrev pub report_text : Job → Rate → (records : ℕ) → List PhaseResult → List ℕ
report_text j rate records rs =
    title_lines j rate ++ (recording_lines j rate records ++ (all_channel_lines j j.channels rs
    ++ verdict_line (overall_of j rs)))
