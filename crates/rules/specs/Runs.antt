-- What is proved of runs: any list of calls, whatever their arguments and whatever they answer, from an opening or from what a close leaves.
-- The types of the theorems, to be read without their proofs. A close or an open inside a run begins a new day, so they speak of any number of
-- days: the log as it stands and the opening table are always those since the last of these.
use Rattle.std.specs.Prelude.{ℕ, ◌+◌, ◌≡◌, ◌↔◌, ◌⊎◌, Bool, true, false, cond, length, take, eqb}
use mathlib.Core.List.{List, [], ◌∷◌, ◌++◌, Memᴰ}
use Rattle.basics.specs.Bytes.{AreBytes}
use Rattle.basics.specs.Lists.{member}
use Rattle.basics.specs.Walk.{Cycle}
use Rattle.rules.specs.declared.Record.{Record}
use Rattle.rules.specs.Sizes.{Size, Within, table_bytes, drafts_bytes, order_numbers}
use Rattle.rules.specs.Books.{Books, Shaped, opened, closed}
use Rattle.rules.specs.Handles.{handle_of, place_of, turn_of, good_handle}
use Rattle.rules.specs.Numbers.{granted, conflict, no_order}
use Rattle.rules.specs.Cells.{cell_of}
use Rattle.rules.specs.Kinds.{begin_kind, judged_read_kind, own_read_kind, write_kind, commit_kind, give_up_kind, read_conflict_kind, commit_conflict_kind, post_kind, kind_starts}
use Rattle.rules.specs.Daylog.{no_value, filled, day_bytes, standing, records_in, day_of}
use Rattle.rules.specs.State.{Outcome, entry_bytes, shown_bytes, buffer_after}
use Rattle.rules.specs.Calls.{Call, Open, Begin, Write, Read, Show, Commit, GiveUp, Post, Order, Close}
use Rattle.rules.specs.Run.{Machine, outcome, new_day, after_call, played, fresh}
use Rattle.rules.specs.Layout.{seat, well_laid_out}
use Rattle.rules.specs.Day.{Event, events, company_of, day_before}
use Rattle.rules.specs.Checker.{checked}

-- ---- a run

-- the books of an opening, or those that a close leaves
abbrev pub DayStarts : Books → Type 0
DayStarts b = (b ≡ opened) ⊎ ((before : Books) × Shaped before × (b ≡ closed before))

-- a machine at the start of a day: table and drafts of the right lengths, no record yet, the opening table the table as it is
pub record Starts (z : Size) (m : Machine) : Type 0 where
  pub books : DayStarts m.state.books
  pub table : (length m.state.table ≡ table_bytes z) × AreBytes m.state.table
  pub drafts : (length m.state.drafts ≡ drafts_bytes z) × AreBytes m.state.drafts
  pub new : m ≡ new_day m.state

-- the value that a call takes
abbrev pub value_taken : Call → List ℕ
value_taken Open = []
value_taken Begin = []
value_taken (Write h c value) = value
value_taken (Read h c) = []
value_taken (Show given h c) = []
value_taken (Commit h) = []
value_taken (GiveUp h) = []
value_taken (Post c value) = value
value_taken (Order h) = []
value_taken Close = []

-- values are bytes, of any length; handles, cells and numbers may be any
abbrev pub InBytes : List Call → Type 0
InBytes calls = (c : Call) → Memᴰ c calls → AreBytes (value_taken c)

-- the machine after a run
abbrev pub ran : Size → List Call → Machine → Machine
ran z calls m = (played z calls m).machine

-- a machine that a run has come to
pub record Reached (z : Size) (m : Machine) : Type 0 where
  pub start : Machine
  pub starts : Starts z start
  pub calls : List Call
  pub in_bytes : InBytes calls
  pub come_to : m ≡ ran z calls start

-- what is stated of every machine that a run has come to, of any number of places and cells up to 32
abbrev pub AfterRuns : (Size → Machine → Type 0) → Type 0
AfterRuns P = (z : Size) (m : Machine) → Within z → Reached z m → P z m

-- ---- days

-- a run may start: with fresh books, with what a granted close leaves, and with what an open leaves
pub record DaysFollow : Type 0 where
  pub from_fresh : (z : Size) → Starts z (fresh z)
  pub from_close : AfterRuns (λ z m. (outcome z Close m).number ≡ granted → Starts z (after_call m (outcome z Close m)))
  pub from_open : AfterRuns (λ z m. Starts z (after_call m (outcome z Open m)))

-- ---- the events of the calls, told by what a caller sees

-- a record that names the transaction of a handle
abbrev pub record_of : ℕ → ℕ → ℕ → List ℕ → Record
record_of kind h c value = filled kind (place_of h) c (turn_of h) value

-- the transaction at the handle's place has written the cell
unfoldable pub reads_own : List Record → ℕ → ℕ → Bool
reads_own day h c = member c (seat day (place_of h)).written

abbrev pub read_kind : List Record → ℕ → ℕ → ℕ
read_kind day h c = cond (reads_own day h c) own_read_kind judged_read_kind

-- the day after a call, by the call, the number and the answer that it gives back, and the bytes shown behind it: which call, whose, which
-- cell, which value, how it ended
unfoldable pub told : List Record → Call → ℕ → ℕ → List ℕ → List Record
told day Open number answer shown = []
told day Begin number answer shown = cond (eqb number granted) (record_of begin_kind answer 0 no_value ∷ day) day
told day (Write h c value) number answer shown = cond (eqb number granted) (record_of write_kind h c value ∷ day) day
told day (Read h c) number answer shown =
    cond (eqb number granted) (record_of (read_kind day h c) h c shown ∷ day)
    (cond (eqb number conflict) (record_of read_conflict_kind h c no_value ∷ day) day)
told day (Show given h c) number answer shown = day
told day (Commit h) number answer shown =
    cond (eqb number granted) (record_of commit_kind h 0 no_value ∷ day)
    (cond (eqb number conflict) (record_of commit_conflict_kind h 0 no_value ∷ day) day)
told day (GiveUp h) number answer shown = cond (eqb number granted) (record_of give_up_kind h 0 no_value ∷ day) day
told day (Post c value) number answer shown = cond (eqb number granted) (record_of post_kind answer c value ∷ day) day
told day (Order h) number answer shown = day
told day Close number answer shown = cond (eqb number granted) [] day

-- the bytes that a show of the same handle and cell gives on a machine
unfoldable pub shown_on : Size → Machine → ℕ → ℕ → ℕ → List ℕ
shown_on z m given h c = shown_bytes m.state.drafts m.state.table (outcome z (Show given h c) m).shown

-- what a reader is shown right behind a read; a call that is no read is shown nothing
abbrev pub shown_behind : Size → Call → ℕ → Machine → List ℕ
shown_behind z Open number m = []
shown_behind z Begin number m = []
shown_behind z (Write h c value) number m = []
shown_behind z (Read h c) number m = shown_on z m number h c
shown_behind z (Show given h c) number m = []
shown_behind z (Commit h) number m = []
shown_behind z (GiveUp h) number m = []
shown_behind z (Post c value) number m = []
shown_behind z (Order h) number m = []
shown_behind z Close number m = []

-- the day after one call, and after a list of calls
unfoldable pub told_call : Size → Call → Machine → List Record → List Record
told_call z c m day = let o = outcome z c m in told day c o.number o.answer (shown_behind z c o.number (after_call m o))

unfoldable pub told_run : Size → List Call → Machine → List Record → List Record
told_run z [] m day = day
told_run z (c ∷ calls) m day = told_run z calls (after_call m (outcome z c m)) (told_call z c m day)

-- ---- read-back

-- the log as it stands is well laid out, and its records are exactly the events of the calls since the opening or the last close
pub record ReadsBack (z : Size) (calls : List Call) (start : Machine) : Type 0 where
  pub laid_out : well_laid_out z (standing (ran z calls start).day) ≡ true
  pub events_back : let log = standing (ran z calls start).day in day_of log (records_in log) ≡ told_run z calls start []
  -- the books count these records
  pub counted : (ran z calls start).state.books.records ≡ length (told_run z calls start [])
  -- a granted close writes the trailer that makes the log stand
  pub closes : let m = ran z calls start in let o = outcome z Close m in o.number ≡ granted → day_bytes m.day ++ entry_bytes o.entry ≡ standing m.day

abbrev pub RunsReadBack : Type 0
RunsReadBack = (z : Size) (calls : List Call) (start : Machine) → Within z → Starts z start → InBytes calls → ReadsBack z calls start

-- ---- who holds a handle

-- the begin record of the transaction at a handle's place, by the log
unfoldable pub holder : List Record → ℕ → ℕ
holder day h = (seat day (place_of h)).begin

-- it is the record of the begin or post that answered the handle: it names the handle's place and turn
pub record AnsweredBy (day : List Record) (h : ℕ) : Type 0 where
  pub newer : List Record
  pub answering : Record
  pub earlier : List Record
  pub split : day ≡ newer ++ (answering ∷ earlier)
  pub numbered : holder day h ≡ length earlier + 1
  pub starts : kind_starts answering.kind ≡ true
  pub names : handle_of answering.place answering.turn ≡ h

-- a good handle is one that a begin or post of the day answered, and names its transaction
abbrev pub HandlesName : Type 0
HandlesName = AfterRuns (λ z m. (h : ℕ) → good_handle z m.state.books h ≡ true → AnsweredBy m.day h)

-- ---- orders

-- the number that the checker gives for a list, on the log as it stands with these records and the table at the opening or the last close
abbrev pub checked_on : Size → Machine → List Record → ℕ → List ℕ → ℕ
checked_on z m day t order = checked z m.opening (standing day) t order

-- an order that is given, as the buffer has it, is accepted; and one is given to everybody who holds a place
pub record GivesOrders (z : Size) (m : Machine) : Type 0 where
  pub accepted : (h : ℕ) (buffer : List ℕ) → length buffer ≡ order_numbers z → let o = outcome z (Order h) m in
      o.number ≡ granted → checked_on z m m.day (holder m.day h) (take o.answer (buffer_after o.order buffer)) ≡ granted
  pub given : (h : ℕ) → good_handle z m.state.books h ≡ true → (outcome z (Order h) m).number ≡ granted

abbrev pub OrdersAccepted : Type 0
OrdersAccepted = AfterRuns GivesOrders

-- ---- Conflict

-- K and M are of the company of t, and K stands before M
abbrev pub DayPair : Size → List Event → ℕ → ℕ → ℕ → Type 0
DayPair z es t k m = (company_of es t k ≡ true) × (company_of es t m ≡ true) × (day_before z es k m ≡ true)

-- the judged calls, by a day and a table: the handle that each is of, and the record that it adds, were it granted
pub data WouldAdd (day : List Record) (table : List ℕ) : Call → ℕ → Record → Type 0 where
  -- a read of a cell that the transaction has not written: kind 2, with the value that the table has
  adds_read : (h c : ℕ) → reads_own day h c ≡ false → WouldAdd day table (Read h c) h (record_of judged_read_kind h c (cell_of table c))
  -- a commit: kind 5
  adds_commit : (h : ℕ) → WouldAdd day table (Commit h) h (record_of commit_kind h 0 no_value)

-- a call that gives back this number meets none of 1 to 8
abbrev pub MeetsNone : ℕ → Type 0
MeetsNone number = (number ≡ granted) ⊎ (number ≡ conflict)

-- the call of a handle meets Conflict exactly when, were it granted with the record r, ..
pub record ConflictExactly (z : Size) (m : Machine) (h : ℕ) (r : Record) (o : Outcome) : Type 0 where
  -- .. the pairs of the log with the record would contain a cycle
  pub by_cycle : (o.number ≡ conflict) ↔ Cycle (DayPair z (events (r ∷ m.day)) (holder m.day h))
  -- .. no list at all would be accepted for the log with the record
  pub by_lists : (o.number ≡ conflict) ↔ ((order : List ℕ) → checked_on z m (r ∷ m.day) (holder m.day h) order ≡ no_order)

-- so it is with every judged call that meets none of 1 to 8; which cells a transaction has written is told by the log
abbrev pub MeetsConflict : Size → Machine → Type 0
MeetsConflict z m =
    (c : Call) (h : ℕ) (r : Record) → WouldAdd m.day m.state.table c h r → let o = outcome z c m in
    MeetsNone o.number → ConflictExactly z m h r o

abbrev pub ConflictsMet : Type 0
ConflictsMet = AfterRuns MeetsConflict
