-- The calls of document 01 with their arguments, the step rule that each of them follows, and which of them are judged.
use Rattle.std.specs.Prelude.{ℕ, ◌≡◌, Bool, false, List, [], length}
use Rattle.rules.specs.Sizes.{Size}
use Rattle.rules.specs.Books.{Books, wrote}
use Rattle.rules.specs.Handles.{place_of, named_place}
use Rattle.rules.specs.Numbers.{Reason}
use Rattle.rules.specs.State.{State, Outcome}
use Rattle.rules.specs.Judged.{Judged}
use Rattle.rules.specs.Steps.{begin_reasons, write_reasons, read_reasons, show_reasons, commit_reasons, give_up_reasons, post_reasons, order_reasons, close_reasons, judged_read, judged_commit, open_rule, begin_rule, write_rule, read_rule, show_rule, commit_rule, give_up_rule, post_rule, order_rule, close_rule}

-- the ten calls, with a handle, a cell, a value, or the number that a read gave
pub data Call : Type 0 where
  Open : Call
  Begin : Call
  Write : ℕ → ℕ → List ℕ → Call
  Read : ℕ → ℕ → Call
  Show : ℕ → ℕ → ℕ → Call
  Commit : ℕ → Call
  GiveUp : ℕ → Call
  Post : ℕ → List ℕ → Call
  Order : ℕ → Call
  Close : Call

-- what a call may be lent beside table and drafts: the lengths of the log and of the order buffer, and how many of the log's records are
-- commits and posts
pub record Lending : Type 0 where
  pub log : ℕ
  pub buffer : ℕ
  pub total : ℕ

-- the outcome of a call, by its step rule
unfoldable pub issued : Size → Lending → Call → State → Outcome
issued z l Open s = open_rule s
issued z l Begin s = begin_rule z l.log s
issued z l (Write h c value) s = write_rule z l.log s h c value
issued z l (Read h c) s = read_rule z l.log s h c
issued z l (Show given h c) s = show_rule z s given h c
issued z l (Commit h) s = commit_rule z l.log s h
issued z l (GiveUp h) s = give_up_rule z l.log s h
issued z l (Post c value) s = post_rule z l.log s c value
issued z l (Order h) s = order_rule z l.buffer s h
issued z l Close s = close_rule z l.log l.total s

-- the reasons that may refuse it
unfoldable pub reasons_of : Size → Lending → Call → State → List Reason
reasons_of z l Open s = []
reasons_of z l Begin s = begin_reasons z l.log s.books
reasons_of z l (Write h c value) s = write_reasons z (length value) (length s.drafts) l.log s.books h c
reasons_of z l (Read h c) s = read_reasons z (length s.table) (length s.drafts) l.log s.books h c
reasons_of z l (Show given h c) s = show_reasons z (length s.table) (length s.drafts) s.books given h c
reasons_of z l (Commit h) s = commit_reasons z (length s.table) (length s.drafts) l.log s.books h
reasons_of z l (GiveUp h) s = give_up_reasons z l.log s.books h
reasons_of z l (Post c value) s = post_reasons z (length value) (length s.table) l.log s.books c
reasons_of z l (Order h) s = order_reasons z l.buffer s.books h
reasons_of z l Close s = close_reasons z l.log s.books

-- the transaction of the handle has written the cell, by the books
abbrev pub owns : Books → ℕ → ℕ → Bool
owns b h c = wrote (named_place b h) c

-- the judged calls, each with the handle that it is of and with what is weighed of it; `own` says which cells a handle's transaction has written
pub data IsJudged (z : Size) (own : ℕ → ℕ → Bool) (s : State) : Call → ℕ → Judged → Type 0 where
  -- a read of a cell that the transaction has not written
  read_judged : (h c : ℕ) → own h c ≡ false → IsJudged z own s (Read h c) h (judged_read z s (place_of h) c)
  -- a commit
  commit_judged : (h : ℕ) → IsJudged z own s (Commit h) h (judged_commit z s (place_of h))
