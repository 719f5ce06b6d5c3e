-- What is proved of every run of the machine's calls, against the checker's and the layout's own promises: the types of the theorems, to be read
-- without their proofs. `Run` is any list of calls from an opening or a close, any number of days.
use Rattle.std.specs.Prelude.{ℕ, ◌+◌, ◌*◌, ◌%◌, ◌≡◌, ◌↔◌, true, List, ◌∷◌, ◌++◌, length, take, Result, Ok, Err}
use Rattle.basics.specs.Bytes.{part}
use Rattle.basics.specs.Walk.{Cycle}
use Rattle.rules.specs.declared.Record.{Record}
use Rattle.rules.specs.declared.refusal.Refusal.{Refusal}
use Rattle.rules.specs.declared.refusal.Refusal.TheVariants.{NoOrder}
use Rattle.rules.specs.Sizes.{yard, record_bytes}
use Rattle.rules.specs.Handles.{good_handle}
use Rattle.rules.specs.Sound.{sound}
use Rattle.rules.specs.Numbers.{granted, conflict, no_order}
use Rattle.rules.specs.Refusals.{said}
use Rattle.rules.specs.Daylog.{standing, records_in, day_of}
use Rattle.rules.specs.Calls.{Call}
use Rattle.rules.specs.Day.{events}
use Rattle.rules.specs.Checker.{checked}
use Rattle.rules.specs.Runs.{DayStarts, holder, AnsweredBy, DayPair, WouldAdd, MeetsNone}
use Rattle.rules.specs.History.{Permissive}
use Rattle.log_layout.specs.Walked.{layout_number}
use Rattle.log_back.specs.Course.{entry_read}
use Rattle.checker.specs.Desk.{pairs_of, checked_pairs}
use Rattle.machine.specs.declared.books.Answer.{Answer}
use Rattle.machine.specs.View.{view, in_numbers}
use Rattle.machine.specs.Promises.{order_outcome, close_outcome, LeavesLog, LeavesBuffer}
use Rattle.theorems.specs.Calling.{Held, as_it_stands, with_log, Called, Known, Lends, Run}

-- ---- read-back

pub record ReadsBack (k : Known) : Type 0 where
  -- the layout's answer refuses nothing of the log as it stands, so its number is 0
  pub laid_out : (r : Result (Unit {0}) Refusal) → said r ≡ layout_number yard (as_it_stands k.held) → r ≡ Ok tt
  pub laid_out_number : (r : ℕ) → r ≡ layout_number yard (as_it_stands k.held) → r ≡ granted
  -- its records are exactly the events of the calls since the opening or the last close, and the books count them
  pub events_back : let log = as_it_stands k.held in day_of log (records_in log) ≡ k.day
  pub counted : k.held.books.records ≡ length k.day
  -- so the reader's answer for each of these records is the event of its call
  pub read_one : (newer earlier : List Record) (e : Record) → k.day ≡ newer ++ (e ∷ earlier) → (r : Result Record Refusal)
      → r ≡ entry_read yard (as_it_stands k.held) (length earlier + 1) → r ≡ Ok e
  -- a granted close leaves the log as it stood in the front of the lent log
  pub closes : (r : Answer) (log : List ℕ) → LeavesLog k.held.books.records k.held.log (close_outcome k.held.books k.held.log) r log
      → (in_numbers r).number ≡ granted → part 0 (record_bytes * k.held.books.records + record_bytes) log ≡ as_it_stands k.held

-- ---- orders

pub record GivesOrders (k : Known) : Type 0 where
  -- the checker refuses nothing of an order that is given, as the lent numbers have it
  pub accepted : (h : ℕ) (r : Answer) (numbers : List ℕ) → LeavesBuffer k.held.numbers (order_outcome k.held.books h k.held.numbers) r numbers
      → (in_numbers r).number ≡ granted → (x : Result (Unit {0}) Refusal)
      → said x ≡ checked yard k.opening (as_it_stands k.held) (holder k.day h) (take (in_numbers r).answer numbers) → x ≡ Ok tt
  -- so its number is 0
  pub accepted_number : (h : ℕ) (r : Answer) (numbers : List ℕ) → LeavesBuffer k.held.numbers (order_outcome k.held.books h k.held.numbers) r numbers
      → (in_numbers r).number ≡ granted → (x : ℕ) → x ≡ checked yard k.opening (as_it_stands k.held) (holder k.day h) (take (in_numbers r).answer numbers) → x ≡ granted
  -- so it is from the duty desk's C entry, as little-endian pairs of bytes
  pub accepted_in_pairs : (h : ℕ) (r : Answer) (numbers bytes : List ℕ)
      → LeavesBuffer k.held.numbers (order_outcome k.held.books h k.held.numbers) r numbers → (in_numbers r).number ≡ granted → length bytes % 2 ≡ 0
      → pairs_of bytes ≡ take (in_numbers r).answer numbers → (x : ℕ) → x ≡ checked_pairs yard k.opening (as_it_stands k.held) (holder k.day h) bytes
      → x ≡ granted
  -- and one is given for every good handle
  pub given : (h : ℕ) (r : Answer) (numbers : List ℕ) → LeavesBuffer k.held.numbers (order_outcome k.held.books h k.held.numbers) r numbers
      → good_handle yard (view k.held.books) h ≡ true → (in_numbers r).number ≡ granted

-- ---- Conflict

-- the log with one record more
abbrev pub log_with : Known → Record → List ℕ
log_with k r = standing (r ∷ k.day)

-- a call of a handle answers Conflict exactly when, were it granted with the record r, ..
pub record ConflictExactly (k : Known) (h : ℕ) (r : Record) (number : ℕ) : Type 0 where
  -- .. the pairs of the log with the record would contain a cycle
  pub by_cycle : (number ≡ conflict) ↔ Cycle (DayPair yard (events (r ∷ k.day)) (holder k.day h))
  -- .. the checker would refuse every list as no order
  pub by_lists : (number ≡ conflict)
      ↔ ((list : List ℕ) (x : Result (Unit {0}) Refusal) → said x ≡ checked yard k.opening (log_with k r) (holder k.day h) list → x ≡ Err NoOrder)
  -- .. its number would be 12 for every list
  pub by_numbers : (number ≡ conflict) ↔ ((list : List ℕ) (x : ℕ) → x ≡ checked yard k.opening (log_with k r) (holder k.day h) list → x ≡ no_order)

-- so it is with every judged call that meets none of 1 to 8; which cells a transaction has written is told by what the caller saw of the day
abbrev pub MeetsConflict : Known → Type 0
MeetsConflict k =
    (c : Call) (h : ℕ) (r : Record) → WouldAdd k.day k.held.table c h r
    → (number answer : ℕ) (after : Held) → Called k.held c number answer after → MeetsNone number → ConflictExactly k h r number

-- ---- of every run

pub record OfEveryRun : Type 0 where
  -- a run may start with what a granted close leaves
  pub closes : (k : Known) → Run k → (r : Answer) (log : List ℕ)
      → LeavesLog k.held.books.records k.held.log (close_outcome k.held.books k.held.log) r log → (in_numbers r).number ≡ granted
      → DayStarts (view r.books) × Lends (with_log k.held r.books log)
  pub reads_back : (k : Known) → Run k → ReadsBack k
  -- the books are sound, so a handle is good exactly if it is not stale
  pub books_sound : (k : Known) → Run k → sound yard (view k.held.books) ≡ true
  -- a good handle names the transaction of the begin or post that answered it
  pub handles : (k : Known) → Run k → (h : ℕ) → good_handle yard (view k.held.books) h ≡ true → AnsweredBy k.day h
  pub orders : (k : Known) → Run k → GivesOrders k
  pub conflicts : (k : Known) → Run k → MeetsConflict k
  -- conflict local opacity and permissiveness, as source document 000 has them
  pub permissive : (k : Known) → Run k → Permissive k.opening k.day
