-- A run of the machine's own calls: what a caller holds between calls, what each call's promise leaves of it, and what the caller knows of the day.
-- Nothing is altered between the calls.
use Rattle.std.specs.Prelude.{ℕ, ◌*◌, ◌≡◌, Bool, true, false, cond, List, [], ◌++◌, length, eqb}
use Rattle.basics.specs.Bytes.{AreBytes, part}
use Rattle.rules.specs.declared.Record.{Record}
use Rattle.rules.specs.Sizes.{yard, table_bytes, drafts_bytes, log_bytes, order_numbers, record_bytes}
use Rattle.rules.specs.Books.{opened}
use Rattle.rules.specs.Numbers.{granted}
use Rattle.rules.specs.Daylog.{trailer, commits_in}
use Rattle.rules.specs.State.{shown_bytes}
use Rattle.rules.specs.Calls.{Call, Open, Begin, Write, Read, Show, Commit, GiveUp, Post, Order, Close}
use Rattle.rules.specs.Runs.{DayStarts, value_taken, told}
use Rattle.machine.specs.declared.books.Books.{Books}
use Rattle.machine.specs.declared.books.Answer.{Answer}
use Rattle.machine.specs.declared.books.Told.{Told}
use Rattle.machine.specs.declared.call.Call.{Call as ByValue}
use Rattle.machine.specs.View.{view, books_back, in_numbers}
use Rattle.machine.specs.Promises.{begin_outcome, write_outcome, read_outcome, show_outcome, commit_outcome, give_up_outcome, post_outcome, order_outcome, close_outcome, call_outcome, LeavesLog, LeavesTable, LeavesDrafts, LeavesBuffer, LeavesAll}
use Rattle.machine.specs.Called.{call_of}

-- ---- what a caller holds

-- the books as the last call handed them back, and the bytes and numbers that it lends
pub record Held : Type 0 where
  pub books : Books
  pub table : List ℕ
  pub drafts : List ℕ
  pub log : List ℕ
  pub numbers : List ℕ

-- the log as it stands: the lent log's first records, as many as the books count, and a true trailer behind them
unfoldable pub as_it_stands : Held → List ℕ
as_it_stands k =
    let records = k.books.records in
    part 0 (record_bytes * records) k.log ++ trailer records (commits_in k.log records)

-- held after a call: the new books, and the table, drafts, log and numbers as the call left them
abbrev pub with_log : Held → Books → List ℕ → Held
with_log k b log = record { books = b; table = k.table; drafts = k.drafts; log = log; numbers = k.numbers }

abbrev pub with_table : Held → Books → List ℕ → List ℕ → Held
with_table k b table log = record { books = b; table = table; drafts = k.drafts; log = log; numbers = k.numbers }

abbrev pub with_drafts : Held → Books → List ℕ → List ℕ → Held
with_drafts k b drafts log = record { books = b; table = k.table; drafts = drafts; log = log; numbers = k.numbers }

abbrev pub with_numbers : Held → Books → List ℕ → Held
with_numbers k b numbers = record { books = b; table = k.table; drafts = k.drafts; log = k.log; numbers = numbers }

-- ---- a call

-- a call of the machine that meets its promise: from what is held, the call, the number and the answer that it gives back, and what is held then
pub data Called (k : Held) : Call → ℕ → ℕ → Held → Type 0 where
  open_called : {b : Books} → b ≡ books_back opened → Called k Open granted 0 (with_log k b k.log)
  begin_called : (r : Answer) {log : List ℕ} → LeavesLog k.books.records k.log (begin_outcome k.books k.log) r log
      → Called k Begin (in_numbers r).number (in_numbers r).answer (with_log k r.books log)
  write_called : {h c : ℕ} {value : List ℕ} (r : Answer) {drafts log : List ℕ}
      → LeavesDrafts k.books.records k.log (write_outcome k.books h c value k.drafts k.log) r drafts log
      → Called k (Write h c value) (in_numbers r).number (in_numbers r).answer (with_drafts k r.books drafts log)
  read_called : {h c : ℕ} (r : Answer) {log : List ℕ}
      → LeavesLog k.books.records k.log (read_outcome k.books h c k.table k.drafts k.log) r log
      → Called k (Read h c) (in_numbers r).number (in_numbers r).answer (with_log k r.books log)
  -- a show hands back a part and no number, and leaves all that is held
  show_called : {given h c : ℕ} → Called k (Show given h c) granted 0 k
  commit_called : {h : ℕ} (r : Answer) {table log : List ℕ}
      → LeavesTable k.books.records k.log (commit_outcome k.books h k.table k.drafts k.log) r table log
      → Called k (Commit h) (in_numbers r).number (in_numbers r).answer (with_table k r.books table log)
  give_up_called : {h : ℕ} (r : Answer) {log : List ℕ} → LeavesLog k.books.records k.log (give_up_outcome k.books h k.log) r log
      → Called k (GiveUp h) (in_numbers r).number (in_numbers r).answer (with_log k r.books log)
  post_called : {c : ℕ} {value : List ℕ} (r : Answer) {table log : List ℕ}
      → LeavesTable k.books.records k.log (post_outcome k.books c value k.table k.log) r table log
      → Called k (Post c value) (in_numbers r).number (in_numbers r).answer (with_table k r.books table log)
  order_called : {h : ℕ} (r : Answer) {numbers : List ℕ} → LeavesBuffer k.numbers (order_outcome k.books h k.numbers) r numbers
      → Called k (Order h) (in_numbers r).number (in_numbers r).answer (with_numbers k r.books numbers)
  close_called : (r : Answer) {log : List ℕ} → LeavesLog k.books.records k.log (close_outcome k.books k.log) r log
      → Called k Close (in_numbers r).number (in_numbers r).answer (with_log k r.books log)
  -- any of them, issued by value
  stepped_called : (call : ByValue) (value : List ℕ) {r : Told} {table drafts log numbers : List ℕ}
      → LeavesAll k.books.records k.log k.numbers r table drafts log numbers (call_outcome k.books call value k.table k.drafts k.log k.numbers)
      → Called k (call_of call value) r.number r.answer (record { books = r.books; table = table; drafts = drafts; log = log; numbers = numbers })

-- the bytes that a show right behind a read hands back, by its promise; behind another call, none
abbrev pub ShownBehind : Call → ℕ → Held → List ℕ → Type 0
ShownBehind Open number k shown = shown ≡ []
ShownBehind Begin number k shown = shown ≡ []
ShownBehind (Write h c value) number k shown = shown ≡ []
ShownBehind (Read h c) number k shown = shown ≡ shown_bytes k.drafts k.table (show_outcome k.books number h c k.drafts k.table).shown
ShownBehind (Show given h c) number k shown = shown ≡ []
ShownBehind (Commit h) number k shown = shown ≡ []
ShownBehind (GiveUp h) number k shown = shown ≡ []
ShownBehind (Post c value) number k shown = shown ≡ []
ShownBehind (Order h) number k shown = shown ≡ []
ShownBehind Close number k shown = shown ≡ []

-- ---- a run

-- the call begins a new day: an open, or a granted close
abbrev pub renews : Call → ℕ → Bool
renews Open number = true
renews Begin number = false
renews (Write h c value) number = false
renews (Read h c) number = false
renews (Show given h c) number = false
renews (Commit h) number = false
renews (GiveUp h) number = false
renews (Post c value) number = false
renews (Order h) number = false
renews Close number = eqb number granted

-- what a caller knows: what it holds, the table at the opening or the last close, and the events since then, told by what it saw
pub record Known : Type 0 where
  pub held : Held
  pub opening : List ℕ
  pub day : List Record

abbrev pub known_then : Known → Call → ℕ → ℕ → List ℕ → Held → Known
known_then k c number answer shown held =
    record { held = held; opening = cond (renews c number) held.table k.opening; day = told k.day c number answer shown }

-- buffers of the right lengths, in bytes
pub record Lends (k : Held) : Type 0 where
  pub table : (length k.table ≡ table_bytes yard) × AreBytes k.table
  pub drafts : (length k.drafts ≡ drafts_bytes yard) × AreBytes k.drafts
  pub log : length k.log ≡ log_bytes
  pub numbers : length k.numbers ≡ order_numbers yard

-- what a run may come to: the books of an opening, or what a close leaves; then any calls, with any arguments, whatever they answer
pub data Run : Known → Type 0 where
  start : {k : Held} → DayStarts (view k.books) → Lends k → Run (record { held = k; opening = k.table; day = [] })
  goes_on : (k : Known) (c : Call) (number answer : ℕ) (shown : List ℕ) (after : Held) → Run k → AreBytes (value_taken c) → Called k.held c number answer after
      → ShownBehind c number after shown → Run (known_then k c number answer shown after)
