-- What the machine's calls promise: the outcome of each call's rule on what the call takes, and what a result leaves of all that is lent.
use Rattle.std.specs.Prelude.{◌≡◌, ℕ, List, [], length}
use Rattle.rules.specs.Sizes.{yard}
use Rattle.rules.specs.Daylog.{commits_in}
use Rattle.rules.specs.State.{Outcome, state_of}
use Rattle.rules.specs.Steps.{begin_rule, write_rule, read_rule, show_rule, commit_rule, give_up_rule, post_rule, order_rule, close_rule}
use Rattle.rules.specs.Calls.{issued}
use Rattle.effects.specs.Left.{Leaves, LogIs, BufferIs, TableAndLog, DraftsAndLog}
use Rattle.machine.specs.declared.books.Books.{Books}
use Rattle.machine.specs.declared.books.Answer.{Answer}
use Rattle.machine.specs.declared.books.Told.{Told}
use Rattle.machine.specs.declared.call.Call.{Call}
use Rattle.machine.specs.View.{view, in_numbers, answer_of}
use Rattle.machine.specs.Called.{call_of, lent_to}

-- ---- the outcome of each call, by its books and what it is lent

abbrev pub begin_outcome : Books → List ℕ → Outcome
begin_outcome b log = begin_rule yard (length log) (state_of (view b) [] [])

abbrev pub write_outcome : Books → ℕ → ℕ → List ℕ → List ℕ → List ℕ → Outcome
write_outcome b handle cell value drafts log = write_rule yard (length log) (state_of (view b) [] drafts) handle cell value

abbrev pub read_outcome : Books → ℕ → ℕ → List ℕ → List ℕ → List ℕ → Outcome
read_outcome b handle cell table drafts log = read_rule yard (length log) (state_of (view b) table drafts) handle cell

abbrev pub show_outcome : Books → ℕ → ℕ → ℕ → List ℕ → List ℕ → Outcome
show_outcome b given handle cell drafts table = show_rule yard (state_of (view b) table drafts) given handle cell

abbrev pub commit_outcome : Books → ℕ → List ℕ → List ℕ → List ℕ → Outcome
commit_outcome b handle table drafts log = commit_rule yard (length log) (state_of (view b) table drafts) handle

abbrev pub give_up_outcome : Books → ℕ → List ℕ → Outcome
give_up_outcome b handle log = give_up_rule yard (length log) (state_of (view b) [] []) handle

abbrev pub post_outcome : Books → ℕ → List ℕ → List ℕ → List ℕ → Outcome
post_outcome b cell value table log = post_rule yard (length log) (state_of (view b) table []) cell value

abbrev pub order_outcome : Books → ℕ → List ℕ → Outcome
order_outcome b handle numbers = order_rule yard (length numbers) (state_of (view b) [] []) handle

-- the commits and posts are counted among the records of the lent log
abbrev pub close_outcome : Books → List ℕ → Outcome
close_outcome b log = close_rule yard (length log) (commits_in log b.records) (state_of (view b) [] [])

-- any call by value, on all that a call may be lent
abbrev pub call_outcome : Books → Call → List ℕ → List ℕ → List ℕ → List ℕ → List ℕ → Outcome
call_outcome b call value table drafts log numbers = issued yard (lent_to b log numbers) (call_of call value) (state_of (view b) table drafts)

-- ---- what a result leaves, by the outcome

-- the answer and the log: begin, read, give up, close
abbrev pub LeavesLog : ℕ → List ℕ → Outcome → Answer → List ℕ → Type 0
LeavesLog records log o r after = Leaves answer_of (in_numbers r) (LogIs records log after) o

-- the table too: commit, post
abbrev pub LeavesTable : ℕ → List ℕ → Outcome → Answer → List ℕ → List ℕ → Type 0
LeavesTable records log o r table after = Leaves answer_of (in_numbers r) (TableAndLog records table log after) o

-- the drafts too: write
abbrev pub LeavesDrafts : ℕ → List ℕ → Outcome → Answer → List ℕ → List ℕ → Type 0
LeavesDrafts records log o r drafts after = Leaves answer_of (in_numbers r) (DraftsAndLog records drafts log after) o

-- the answer and the order buffer: order
abbrev pub LeavesBuffer : List ℕ → Outcome → Answer → List ℕ → Type 0
LeavesBuffer numbers o r filled = Leaves answer_of (in_numbers r) (BufferIs numbers filled) o

-- all that a call may be lent: any call by value
abbrev pub LeavesAll : ℕ → List ℕ → List ℕ → Told → List ℕ → List ℕ → List ℕ → List ℕ → Outcome → Type 0
LeavesAll records log numbers r table drafts after filled o =
    (r ≡ answer_of o) × ((table ≡ o.after.table) × ((drafts ≡ o.after.drafts) × (LogIs records log after o × BufferIs numbers filled o)))
