-- Laws of a report as a whole: the lines that are put are the report of the rules, and what is refused. Assumes nothing.
use Prim.Native.Nat.{ℕ, ◌≤◌, ◌<◌}
use mathlib.Core.Path.{◌≡◌, ◌∙◌, ap₂}
use mathlib.Core.Bool.{true, false}
use mathlib.Core.List.{List, ◌++◌}
use native.Mathlib.Omega.{arith}
use lib.ListN.{length, take, drop, length-append}
use borrow.Author.Tests.{lt-ltb, le-ltb}
use Rattle.rules.specs.declared.Size.{Size}
use Rattle.rules.specs.Sizes.{table_bytes, most_records}
use Rattle.rules.specs.Numbers.{lent, bad_log}
use Rattle.rules.specs.Daylog.{records_in, commits_in}
use Rattle.rules.specs.Layout.{well_laid_out}
use Rattle.rules.specs.Checker.{log_events}
use Rattle.rules.proofs.Log.LaidOut.{laid_out_has}
use Rattle.rules.specs.Report.{log_report, refused_line, report}
use Rattle.texts.specs.Said.{placed, joined}
use Rattle.texts.proofs.Fitting.{joined_append, all_fit}
use Rattle.report.specs.Reported.{first_told, all_told, all_of, reported, report_room}
use Rattle.report.proofs.Telling.{first_short, all_short, first_is, all_are}

-- ---- the report of a well laid out log

-- the pieces together
whole : (log : List ℕ) → joined (all_of log) ≡ log_report log
unfolding all_of log_report log_events
whole log =
    let n = records_in log in
    let total = commits_in log n in
    joined_append (first_told n total) (all_told log n) ∙ ap₂ ◌++◌ (first_is n total) (all_are log n (omega arith))

-- fit into a buffer with room for every report
whole_short : (log : List ℕ) → records_in log ≤ most_records → length (joined (all_of log)) ≤ report_room
unfolding all_of
whole_short log few =
    let n = records_in log in
    let total = commits_in log n in
    rw (joined_append, length-append) (omega (arith, first_short n total, all_short log n))

pub report_fits : (z : Size) (out log last : List ℕ) (end : ℕ) → (last, end) ≡ placed out 0 (all_of log) → report_room ≤ length out → well_laid_out z log ≡ true
    → take end last ≡ log_report log
report_fits z out log last end e room right =
    all_fit out (all_of log) e (omega (arith, whole_short log (laid_out_has z log right).1)) ∙ whole log

-- ---- the report of any log

module _ (z : Size) (log : List ℕ) where
  pub reported_bad : well_laid_out z log ≡ false → refused_line bad_log ≡ reported z log
  unfolding reported
  reported_bad e = rw e

  pub reported_right : well_laid_out z log ≡ true → log_report log ≡ reported z log
  unfolding reported
  reported_right e = rw e

-- ---- the report of any input

module _ (z : Size) (input : List ℕ) where
  pub report_short : length input < table_bytes z → refused_line lent ≡ report z input
  unfolding report
  report_short h = rw (lt-ltb (length input) (table_bytes z) h)

  pub report_whole : table_bytes z ≤ length input → reported z (drop (table_bytes z) input) ≡ report z input
  unfolding report reported
  report_whole h = rw (le-ltb (length input) (table_bytes z) h)
