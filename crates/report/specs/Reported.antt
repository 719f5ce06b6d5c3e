-- Document 01, "Report program": its lines as pieces put one behind the other, a transaction's from what is read back of it.
-- What is printed is `report` of the rules; these say how it is put together.
use Rattle.std.specs.Prelude.{ℕ, zero, suc, ◌+◌, ◌*◌, not, cond, List, [], ◌∷◌, ◌++◌}
use Rattle.basics.specs.Text.{text, decimal}
use Rattle.rules.specs.declared.Size.{Size}
use Rattle.rules.specs.Sizes.{most_records}
use Rattle.rules.specs.Numbers.{bad_log}
use Rattle.rules.specs.Daylog.{records_in, commits_in}
use Rattle.rules.specs.Layout.{well_laid_out}
use Rattle.rules.specs.Day.{is_transaction}
use Rattle.rules.specs.Checker.{log_events}
use Rattle.rules.specs.Report.{log_report, refused_line}
use Rattle.log_back.specs.declared.course.Standing.{Standing}
use Rattle.log_back.specs.declared.course.Standing.TheVariants.{Live, Committed, GaveUp, Conflict, Post}
use Rattle.log_back.specs.declared.transaction.Transaction.{Transaction}
use Rattle.log_back.specs.Course.{transaction_of}

-- how a transaction stands
unfoldable pub word_told : Standing → List ℕ
word_told Live = text "live"
word_told Committed = text "committed"
word_told GaveUp = text "gaveup"
word_told Conflict = text "conflict"
word_told Post = text "post"

-- a number behind its label
unfoldable pub labelled : List ℕ → ℕ → List (List ℕ)
labelled label n = label ∷ (decimal n ∷ [])

-- the first line
unfoldable pub first_told : ℕ → ℕ → List (List ℕ)
first_told records total = labelled (text "records ") records ++ (labelled (text " commits ") total ++ (text "\n" ∷ []))

-- a transaction's line
unfoldable pub told : Transaction → List (List ℕ)
told its =
    decimal its.begin
    ∷ (labelled (text " place ") its.place
    ++ (text " " ∷ (word_told its.standing ∷ (labelled (text " moment ") its.moment ++ (text "\n" ∷ [])))))

-- the lines of the transactions that a log's first n records start
unfoldable pub all_told : List ℕ → ℕ → List (List ℕ)
all_told log zero = []
all_told log (suc n) = all_told log n ++ cond (is_transaction (log_events log) (suc n)) (told (transaction_of log (suc n))) []

-- the lines of a whole log
unfoldable pub all_of : List ℕ → List (List ℕ)
all_of log = first_told (records_in log) (commits_in log (records_in log)) ++ all_told log (records_in log)

-- the report of any log
unfoldable pub reported : Size → List ℕ → List ℕ
reported z log = cond (not (well_laid_out z log)) (refused_line bad_log) (log_report log)

-- room for every report: the first line, and 41 bytes for each record that starts a transaction
abbrev pub report_room : ℕ
report_room = 64 + 41 * most_records
