-- Document 01, "Numbers given back": the number of each refusal, and the number that an answer gives back.
use Rattle.std.specs.Prelude.{ℕ, Result, Ok, Err, Option, Some, None}
use Rattle.rules.specs.declared.refusal.Refusal.{Refusal}
use Rattle.rules.specs.declared.refusal.Refusal.TheVariants.{Lent, Unsound, Stale, Ended, NoCell, Full, LogFull, Busy, Conflict, BadLog, Unknown, NoOrder}
use Rattle.rules.specs.Numbers.{granted, lent, unsound, stale, ended, no_cell, full, log_full, busy, conflict, bad_log, unknown, no_order}

-- each by its number
abbrev pub number_of : Refusal → ℕ
number_of Lent = lent
number_of Unsound = unsound
number_of Stale = stale
number_of Ended = ended
number_of NoCell = no_cell
number_of Full = full
number_of LogFull = log_full
number_of Busy = busy
number_of Conflict = conflict
number_of BadLog = bad_log
number_of Unknown = unknown
number_of NoOrder = no_order

-- 0 where nothing refuses, else the refusal's number
abbrev pub said : {A : Type 0} → Result A Refusal → ℕ
said (Ok _) = granted
said (Err r) = number_of r

-- what it gives besides
abbrev pub given : {A : Type 0} → Result A Refusal → Option A
given (Ok a) = Some a
given (Err _) = None
