-- Calls one after the other: a machine, the outcome of a call on it, and the machine after the call.
use Rattle.std.specs.Prelude.{ℕ, List, [], ◌∷◌, replicate}
use Rattle.rules.specs.declared.Record.{Record}
use Rattle.rules.specs.Sizes.{Size, table_bytes, drafts_bytes, log_bytes, order_numbers}
use Rattle.rules.specs.Books.{opened}
use Rattle.rules.specs.Daylog.{commit_total}
use Rattle.rules.specs.State.{State, Entry, nothing, adds, closes, opens, Outcome}
use Rattle.rules.specs.Calls.{Call, Lending, issued}

-- the books, table and drafts; the records since the opening or the last close, the newest first; and the table as it was then
pub record Machine : Type 0 where
  pub state : State
  pub day : List Record
  pub opening : List ℕ

-- what a call on the machine is lent: a log and an order buffer of the right lengths, the log with the day's records
abbrev pub lends : Size → Machine → Lending
lends z m = record { log = log_bytes; buffer = order_numbers z; total = commit_total m.day }

-- the outcome of a call on the machine
unfoldable pub outcome : Size → Call → Machine → Outcome
outcome z c m = issued z (lends z m) c m.state

-- a new day begins with the table as it is
unfoldable pub new_day : State → Machine
new_day s = record { state = s; day = []; opening = s.table }

-- the machine after a call: a record is added to the day; an open or a close begins a new one
unfoldable pub moved_on : Machine → State → Entry → Machine
moved_on m s nothing = record { state = s; day = m.day; opening = m.opening }
moved_on m s (adds r) = record { state = s; day = r ∷ m.day; opening = m.opening }
moved_on m s (closes records total) = new_day s
moved_on m s opens = new_day s

unfoldable pub after_call : Machine → Outcome → Machine
after_call m o = moved_on m o.after o.entry

-- the outcomes of a list of calls, and the machine after them
pub record Played : Type 0 where
  pub outcomes : List Outcome
  pub machine : Machine

unfoldable pub played : Size → List Call → Machine → Played
played z [] m = record { outcomes = []; machine = m }
played z (c ∷ calls) m =
    let o = outcome z c m in
    let rest = played z calls (after_call m o) in
    record { outcomes = o ∷ rest.outcomes; machine = rest.machine }

-- freshly opened books on a table and drafts of zeros
unfoldable pub fresh : Size → Machine
fresh z = new_day (record { books = opened; table = replicate (table_bytes z) 0; drafts = replicate (drafts_bytes z) 0 })
