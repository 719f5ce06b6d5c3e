-- Document 01, "Report program": the lines, as bytes of text.
use Rattle.std.specs.Prelude.{ℕ, not, cond, List, [], ◌∷◌, ◌++◌, length, drop, ltb}
use Rattle.basics.specs.Text.{text, decimal}
use Rattle.rules.specs.Sizes.{Size, table_bytes}
use Rattle.rules.specs.Numbers.{lent, bad_log}
use Rattle.rules.specs.Kinds.{kind_starts}
use Rattle.rules.specs.Daylog.{commits_in, records_in, day_of}
use Rattle.rules.specs.Layout.{well_laid_out}
use Rattle.rules.specs.Day.{Event, events, moment_of, Standing, stands_live, stands_committed, stands_gaveup, stands_conflict, stands_post, stands}

-- how it stands
unfoldable pub standing_word : Standing → List ℕ
standing_word stands_live = text "live"
standing_word stands_committed = text "committed"
standing_word stands_gaveup = text "gaveup"
standing_word stands_conflict = text "conflict"
standing_word stands_post = text "post"

-- first line: records, commits with posts
unfoldable pub first_line : ℕ → ℕ → List ℕ
first_line records total = text "records " ++ (decimal records ++ (text " commits " ++ (decimal total ++ text "\n")))

-- then: begin record, place, how it stands, moment
unfoldable pub transaction_line : List Event → Event → List ℕ
transaction_line es e =
    decimal e.number
    ++ (text " place "
    ++ (decimal e.place
    ++ (text " "
    ++ (standing_word (stands es e.number) ++ (text " moment " ++ (decimal (moment_of es e.number) ++ text "\n"))))))

-- by begin record: a line for each of the events to be listed that starts a transaction, the oldest first; how it stands is told by all of the day
unfoldable pub transaction_lines : (all to_list : List Event) → List ℕ
transaction_lines all [] = []
transaction_lines all (e ∷ earlier) =
    let line = transaction_line all e in
    transaction_lines all earlier ++ cond (kind_starts e.kind) line []

-- the report of a well laid out log
unfoldable pub log_report : List ℕ → List ℕ
log_report log =
    let n = records_in log in
    let es = events (day_of log n) in
    first_line n (commits_in log n) ++ transaction_lines es es

-- on input that is refused: `refused` and the number
unfoldable pub refused_line : ℕ → List ℕ
refused_line n = text "refused " ++ (decimal n ++ text "\n")

-- what is printed for what is read from standard input: opening bytes and a log; 1 if under 256 bytes, else 10
unfoldable pub report : Size → List ℕ → List ℕ
report z input =
    let log = drop (table_bytes z) input in
    cond (ltb (length input) (table_bytes z)) (refused_line lent)
    (cond (not (well_laid_out z log)) (refused_line bad_log) (log_report log))
