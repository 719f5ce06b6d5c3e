-- What is proved of the machine's calls: the types of the theorems, to be read without their proofs.
use Rattle.std.specs.Prelude.{◌≡◌, ◌↔◌, ℕ, Bool, true, List}
use Rattle.rules.specs.declared.Record.{Record}
use Rattle.rules.specs.declared.Size.{Size}
use Rattle.rules.specs.Sizes.{yard}
use Rattle.rules.specs.Books.{Shaped, opened}
use Rattle.rules.specs.Sound.{sound, Sound}
use Rattle.rules.specs.State.{state_of}
use Rattle.rules.specs.Run.{Machine, after_call}
use Rattle.rules.specs.Kept.{Joined}
use Rattle.effects.specs.Left.{LogIs, Shows}
use Rattle.machine.specs.declared.books.Books.{Books}
use Rattle.machine.specs.declared.books.Answer.{Answer}
use Rattle.machine.specs.declared.books.Told.{Told}
use Rattle.machine.specs.declared.call.Call.{Call}
use Rattle.machine.specs.View.{view, books_back, answer_of}
use Rattle.machine.specs.Promises.{begin_outcome, write_outcome, read_outcome, show_outcome, commit_outcome, give_up_outcome, post_outcome, order_outcome, close_outcome, call_outcome, LeavesLog, LeavesTable, LeavesDrafts, LeavesBuffer, LeavesAll}

-- what `is_sound` promises of its answer r, of whatever books: it is true exactly if the clauses of soundness hold
abbrev pub AnswerSaysSound : Type 0
AnswerSaysSound = (z : Size) (b : Books) (r : Bool) → r ≡ sound z (view b) → (r ≡ true) ↔ Sound z (view b)

-- ---- two results that meet a promise are equal

-- both parts of two results, or all three, are equal
abbrev pub SameTwo : {A B : Type 0} → A → B → A → B → Type 0
SameTwo r x r' x' = (r ≡ r') × (x ≡ x')

abbrev pub SameThree : {A B C : Type 0} → A → B → C → A → B → C → Type 0
SameThree r x y r' x' y' = (r ≡ r') × ((x ≡ x') × (y ≡ y'))

pub record ResultsUnique : Type 0 where
  pub of_yard_size : (r r' : Size) → r ≡ yard → r' ≡ yard → r ≡ r'
  pub of_is_sound : (b : Books) (r r' : Bool) → r ≡ sound yard (view b) → r' ≡ sound yard (view b) → r ≡ r'
  pub of_open : (r r' : Books) → r ≡ books_back opened → r' ≡ books_back opened → r ≡ r'
  pub of_begin : (b : Books) (log : List ℕ) (r r' : Answer) (after after' : List ℕ) → let o = begin_outcome b log in
      LeavesLog b.records log o r after → LeavesLog b.records log o r' after' → SameTwo r after r' after'
  pub of_write : (b : Books) (handle cell : ℕ) (value drafts log : List ℕ) (r r' : Answer) (put put' after after' : List ℕ) → let o = write_outcome b handle cell value drafts log in
      LeavesDrafts b.records log o r put after → LeavesDrafts b.records log o r' put' after' → SameThree r put after r' put' after'
  pub of_read : (b : Books) (handle cell : ℕ) (table drafts log : List ℕ) (r r' : Answer) (after after' : List ℕ) → let o = read_outcome b handle cell table drafts log in
      LeavesLog b.records log o r after → LeavesLog b.records log o r' after' → SameTwo r after r' after'
  -- of what is shown, the bytes and the place are settled; no more can be told of a part
  pub of_show : (b : Books) (given handle cell : ℕ) (drafts table : List ℕ) (drafts_at table_at : ℕ × ℕ) (bytes bytes' : List ℕ) (at at' : ℕ × ℕ) → let o = show_outcome b given handle cell drafts table in
      Shows drafts table drafts_at table_at bytes at o → Shows drafts table drafts_at table_at bytes' at' o → SameTwo bytes at bytes' at'
  pub of_commit : (b : Books) (handle : ℕ) (table drafts log : List ℕ) (r r' : Answer) (laid laid' after after' : List ℕ) → let o = commit_outcome b handle table drafts log in
      LeavesTable b.records log o r laid after → LeavesTable b.records log o r' laid' after' → SameThree r laid after r' laid' after'
  pub of_give_up : (b : Books) (handle : ℕ) (log : List ℕ) (r r' : Answer) (after after' : List ℕ) → let o = give_up_outcome b handle log in
      LeavesLog b.records log o r after → LeavesLog b.records log o r' after' → SameTwo r after r' after'
  pub of_post : (b : Books) (cell : ℕ) (value table log : List ℕ) (r r' : Answer) (laid laid' after after' : List ℕ) → let o = post_outcome b cell value table log in
      LeavesTable b.records log o r laid after → LeavesTable b.records log o r' laid' after' → SameThree r laid after r' laid' after'
  pub of_order : (b : Books) (handle : ℕ) (numbers : List ℕ) (r r' : Answer) (filled filled' : List ℕ) → let o = order_outcome b handle numbers in
      LeavesBuffer numbers o r filled → LeavesBuffer numbers o r' filled' → SameTwo r filled r' filled'
  pub of_close : (b : Books) (log : List ℕ) (r r' : Answer) (after after' : List ℕ) → let o = close_outcome b log in
      LeavesLog b.records log o r after → LeavesLog b.records log o r' after' → SameTwo r after r' after'
  pub of_stepped : (b : Books) (call : Call) (value table drafts log numbers : List ℕ) (r r' : Told) (laid laid' put put' after after' filled filled' : List ℕ) → let o = call_outcome b call value table drafts log numbers in
      LeavesAll b.records log numbers r laid put after filled o → LeavesAll b.records log numbers r' laid' put' after' filled' o
      → (r ≡ r') × ((laid ≡ laid') × ((put ≡ put') × ((after ≡ after') × (filled ≡ filled'))))

-- ---- soundness is kept

pub record SoundnessStays : Type 0 where
  -- opened books are sound, and their arrays as wide as declared
  pub opening : (r : Books) → r ≡ books_back opened → (sound yard (view r) ≡ true) × Shaped (view r)
  -- from sound books every call hands back sound books, whatever it is lent
  pub each_call : (b : Books) (call : Call) (value table drafts log numbers : List ℕ) (r : Told) → Shaped (view b) → sound yard (view b) ≡ true
      → r ≡ answer_of (call_outcome b call value table drafts log numbers) → (sound yard (view r.books) ≡ true) × Shaped (view r.books)

-- ---- the lent log is the day

-- the books, table and drafts as a machine of the rules, with the day's records and its opening table
abbrev pub machine_of : Books → List ℕ → List ℕ → List Record → List ℕ → Machine
machine_of b table drafts day opening = record { state = state_of (view b) table drafts; day = day; opening = opening }

-- where the bytes in use of the lent log are the records of the day in order, they are so after every call, for the day after it
abbrev pub LentLogIsDay : Type 0
LentLogIsDay =
    (b : Books) (call : Call) (value table drafts log numbers : List ℕ) (day : List Record) (opening after : List ℕ) → let o = call_outcome b call value table drafts log numbers in
    Joined (machine_of b table drafts day opening) log → LogIs b.records log after o → Joined (after_call (machine_of b table drafts day opening) o) after
