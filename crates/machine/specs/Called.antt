-- A call by value, as the rules see it, and what it is lent.
use Rattle.std.specs.Prelude.{ℕ, List, length}
use Rattle.rules.specs.Calls as rule
use Rattle.rules.specs.Daylog.{commits_in}
use Rattle.machine.specs.declared.books.Books.{Books}
use Rattle.machine.specs.declared.call.Call.{Call}
use Rattle.machine.specs.declared.call.Call.TheVariants.{Open, Begin, Write, Read, Show, Commit, GiveUp, Post, Order, Close}

-- the rules' call, with the value that is lent beside it
abbrev pub call_of : Call → List ℕ → rule.Call
call_of Open value = rule.Open
call_of Begin value = rule.Begin
call_of (Write handle cell) value = rule.Write handle cell value
call_of (Read handle cell) value = rule.Read handle cell
call_of (Show given handle cell) value = rule.Show given handle cell
call_of (Commit handle) value = rule.Commit handle
call_of (GiveUp handle) value = rule.GiveUp handle
call_of (Post cell) value = rule.Post cell value
call_of (Order handle) value = rule.Order handle
call_of Close value = rule.Close

-- the lengths of the lent log and order buffer, and the commits and posts among the log's records
abbrev pub lent_to : Books → List ℕ → List ℕ → rule.Lending
lent_to b log buffer = record { log = length log; buffer = length buffer; total = commits_in log b.records }
