-- What a step rule works on and what it answers.
use Rattle.std.specs.Prelude.{ℕ, ◌+◌, ◌*◌, cond, List, [], eqb}
use Rattle.basics.specs.Bytes.{part, splice}
use Rattle.rules.specs.declared.Place.{Place}
use Rattle.rules.specs.declared.Record.{Record}
use Rattle.rules.specs.Sizes.{Size, cell_bytes, record_bytes}
use Rattle.rules.specs.Books.{Books}
use Rattle.rules.specs.Numbers.{Reason, first_reason}
use Rattle.rules.specs.Cells.{draft_cell}
use Rattle.rules.specs.Daylog.{filled, encode, trailer}

-- the books, and the lent table and drafts (a buffer that a call is not lent is of no concern to its rule)
pub record State : Type 0 where
  pub books : Books
  pub table : List ℕ
  pub drafts : List ℕ

-- the state of a call by its books and what it is lent; a buffer that it is not lent stands as []
abbrev pub state_of : Books → List ℕ → List ℕ → State
state_of b table drafts = record { books = b; table = table; drafts = drafts }

-- the state with other books
abbrev pub with_books : State → Books → State
with_books s b = record { books = b; table = s.table; drafts = s.drafts }

-- what a call means for the day: nothing; one record more; its end, with a trailer for so many records and commits; freshly opened books
pub data Entry : Type 0 where
  nothing : Entry
  adds : Record → Entry
  closes : ℕ → ℕ → Entry
  opens : Entry

-- the bytes that it puts into the log at 16 × the records before it
unfoldable pub entry_bytes : Entry → List ℕ
entry_bytes nothing = []
entry_bytes (adds r) = encode r
entry_bytes (closes records total) = trailer records total
entry_bytes opens = []

-- the lent log after the call; all bytes not named stay
unfoldable pub log_after : ℕ → Entry → List ℕ → List ℕ
log_after records entry log = splice (record_bytes * records) (entry_bytes entry) log

-- the lent order buffer after the call: the order in its first numbers, the others stay
unfoldable pub buffer_after : List ℕ → List ℕ → List ℕ
buffer_after order buffer = splice 0 order buffer

-- what a reader is shown: an empty part, or the eight bytes in the drafts or in the table themselves, from a place on
pub data Shown : Type 0 where
  empty : Shown
  in_drafts : ℕ → Shown
  in_table : ℕ → Shown

-- the bytes that are shown, of the lent drafts and table
unfoldable pub shown_bytes : List ℕ → List ℕ → Shown → List ℕ
shown_bytes drafts table empty = []
shown_bytes drafts table (in_drafts at) = part at cell_bytes drafts
shown_bytes drafts table (in_table at) = part at cell_bytes table

-- where the shown part begins in memory (a block and an offset in it), by where the lent drafts and table begin; an empty part is at the table's front
unfoldable pub shown_at : (ℕ × ℕ) → (ℕ × ℕ) → Shown → ℕ × ℕ
shown_at drafts table empty = table
shown_at drafts table (in_drafts at) = (drafts.0, at + drafts.1)
shown_at drafts table (in_table at) = (table.0, at + table.1)

-- where a place's draft of a cell, or a cell of the table, is shown
abbrev pub shown_draft : Size → ℕ → ℕ → Shown
shown_draft z i c = in_drafts (cell_bytes * draft_cell z i c)

abbrev pub shown_cell : ℕ → Shown
shown_cell c = in_table (cell_bytes * c)

-- the number given back; the handle of a begin or post or the count of an order; the order; what is shown; the state and the log's entry
pub record Outcome : Type 0 where
  pub number : ℕ
  pub answer : ℕ
  pub order : List ℕ
  pub shown : Shown
  pub after : State
  pub entry : Entry

-- a refusal answers its number and nothing else, and changes nothing
unfoldable pub refused : ℕ → State → Outcome
refused n s = record { number = n; answer = 0; order = []; shown = empty; after = s; entry = nothing }

-- the first reason that applies, and only if none does the outcome
unfoldable pub unless_refused : List Reason → State → Outcome → Outcome
unless_refused reasons s outcome = let n = first_reason reasons in cond (eqb n 0) outcome (refused n s)

-- an outcome with a number, an answer and one record
unfoldable pub recorded : ℕ → ℕ → State → Record → Outcome
recorded n answer s r = record { number = n; answer = answer; order = []; shown = empty; after = s; entry = adds r }

-- a record of a kind at a place, with the place's turn
abbrev pub record_at : ℕ → ℕ → Place → ℕ → List ℕ → Record
record_at kind i p c value = filled kind i c p.turn value
