-- A run of the machine's calls is a run of the rules: what the caller knows stands for a machine of the rules whose day the lent log holds, and every
-- call keeps that. Rests on what each call leaves of all that is lent (machine), on the log that joins the day, and on what every call of the rules
-- keeps. Assumes nothing.
use Prim.Native.Nat.{ℕ}
use mathlib.Core.Path.{◌≡◌, refl, sym, ◌∙◌, ap, subst}
use mathlib.Core.Bool.{Bool, true, false, cond, true≢false}
use mathlib.Core.List.{List}
use lib.ListN.{length}
use native.Mathlib.Omega.{arith}
use Rattle.basics.specs.Bytes.{AreBytes}
use Rattle.basics.proofs.Bytes.{splice_length}
use Rattle.rules.specs.declared.Record.{Record}
use Rattle.rules.specs.Sizes.{yard, order_numbers}
use Rattle.rules.specs.Numbers.{granted}
use Rattle.rules.specs.Daylog.{commits_in}
use Rattle.rules.specs.State.{Outcome, state_of, log_after, buffer_after}
use Rattle.rules.specs.Calls.{Call, Open, Begin, Write, Read, Show, Commit, GiveUp, Post, Order, Close, issued}
use Rattle.rules.specs.Steps.{open_rule}
use Rattle.rules.specs.Run.{Machine, lends, outcome, new_day, after_call}
use Rattle.rules.specs.Kept.{Joined}
use Rattle.rules.specs.Runs.{value_taken, told, told_call, shown_behind, shown_on, WouldAdd, adds_read, adds_commit}
use Rattle.rules.proofs.Books.Shape.{yard_within}
use Rattle.rules.proofs.Calls.Joined.{log_joins_day}
use Rattle.rules.proofs.Runs.Running.{Kept, kept_new, kept_after}
use Rattle.rules.proofs.Runs.Told.{told_right}
use Rattle.rules.proofs.Calls.Unlent.{unlent}
use Rattle.machine.specs.declared.books.Answer.{Answer}
use Rattle.machine.specs.declared.books.Told.{Told}
use Rattle.machine.specs.View.{view, in_numbers, answer_of}
use Rattle.machine.specs.Promises.{order_outcome, close_outcome, LeavesLog, LeavesBuffer}
use Rattle.machine.specs.Statements.{machine_of}
use Rattle.machine.specs.Called.{call_of, lent_to}
use Rattle.machine.proofs.Issuing.{Left, neither_left, write_left, post_left, read_left, commit_left, order_left, open_left}
use Rattle.theorems.proofs.AfterCall.{moved_state, same_machine, opening_right, order_few}
use Rattle.theorems.specs.Calling.{Held, Called, open_called, begin_called, write_called, read_called, show_called, commit_called, give_up_called, post_called, order_called, close_called, stepped_called, ShownBehind, renews, Known, known_then, Run, start, goes_on}

-- the machine of the rules that a caller's knowledge stands for
abbrev pub machine_known : Known → Machine
machine_known k = machine_of k.held.books k.held.table k.held.drafts k.day k.opening

-- it has what every call keeps, and the lent log holds its day
pub record Follows (k : Known) : Type 0 where
  pub kept : Kept yard (machine_known k)
  pub joined : Joined (machine_known k) k.held.log
  pub numbers : length k.held.numbers ≡ order_numbers yard

-- ---- one call

-- a show hands back a part and no number
abbrev pub is_show : Call → Bool
is_show Open = false
is_show Begin = false
is_show (Write h c value) = false
is_show (Read h c) = false
is_show (Show given h c) = true
is_show (Commit h) = false
is_show (GiveUp h) = false
is_show (Post c value) = false
is_show (Order h) = false
is_show Close = false

-- a judged call is none
pub adds_no_show : {day : List Record} {table : List ℕ} {c : Call} {h : ℕ} {r : Record} → WouldAdd day table c h r → is_show c ≡ false
adds_no_show (adds_read h c other) = refl
adds_no_show (adds_commit h) = refl

-- what a caller is shown is what the rules show behind the call
shown_same : (c : Call) (number : ℕ) (k : Held) (shown : List ℕ) (m : Machine) → m.state ≡ state_of (view k.books) k.table k.drafts
    → ShownBehind c number k shown → shown ≡ shown_behind yard c number m
unfolding shown_on outcome issued
shown_same Open number k shown m q e = e
shown_same Begin number k shown m q e = e
shown_same (Write h c value) number k shown m q e = e
shown_same (Read h c) number k shown m q e = rw q e
shown_same (Show given h c) number k shown m q e = e
shown_same (Commit h) number k shown m q e = e
shown_same (GiveUp h) number k shown m q e = e
shown_same (Post c value) number k shown m q e = e
shown_same (Order h) number k shown m q e = e
shown_same Close number k shown m q e = e

module _ (k : Known) (follows : Follows k) where
  -- what is held, and the machine that it stands for
  abbrev held : Held
  held = k.held

  abbrev m : Machine
  m = machine_known k

  -- what the call is issued on is lent as the machine lends it
  lent_same : (c : Call) → issued yard (lent_to held.books held.log held.numbers) c m.state ≡ outcome yard c m
  lent_same c =
      ap (λ n. issued yard (record { log = length held.log; buffer = n; total = commits_in held.log held.books.records }) c m.state) follows.numbers
      ∙ log_joins_day.own_outcome yard c m held.log follows.joined

  module _ (c : Call) (bytes : AreBytes (value_taken c)) (number answer : ℕ) (shown : List ℕ) (after : Held) (behind : ShownBehind c number after shown) where
    abbrev o : Outcome
    o = outcome yard c m

    -- the knowledge after the call, and the machine after it
    abbrev next : Known
    next = known_then k c number answer shown after

    joined_then : Joined (after_call m o) (log_after held.books.records o.entry held.log)
    joined_then =
        subst (λ (x : Outcome). Joined (after_call m x) (log_after held.books.records x.entry held.log))
        (log_joins_day.own_outcome yard c m held.log follows.joined)
        (log_joins_day.after yard (order_numbers yard) c m held.log follows.joined)

    -- the call leaves what its rule does
    module _ (told_number : number ≡ o.number) (told_answer : answer ≡ o.answer)
        (told_state : state_of (view after.books) after.table after.drafts ≡ o.after) where
      state_then : (after_call m o).state ≡ state_of (view after.books) after.table after.drafts
      unfolding after_call
      state_then = moved_state m o.after o.entry ∙ sym told_state

      day_then : (after_call m o).day ≡ next.day
      unfolding told_call
      day_then =
          let behind_it = shown_same c number after shown (after_call m o) state_then behind in
          sym (told_right yard m yard_within follows.kept.mirror c)
          ∙ ap (λ n. told m.day c n o.answer (shown_behind yard c n (after_call m o))) (sym told_number)
          ∙ ap (λ a. told m.day c number a (shown_behind yard c number (after_call m o))) (sym told_answer)
          ∙ ap (told m.day c number answer) (sym behind_it)

      opening_then : (after_call m o).opening ≡ next.opening
      opening_then =
          opening_right yard m c refl
          ∙ ap (λ n. cond (renews c n) o.after.table m.opening) (sym told_number)
          ∙ ap (λ s. cond (renews c number) s.table m.opening) (sym told_state)

      machine_then : after_call m o ≡ machine_known next
      machine_then = same_machine (after_call m o) (machine_known next) state_then day_then opening_then

      pub follows_then : after.log ≡ log_after held.books.records o.entry held.log → length after.numbers ≡ order_numbers yard → Follows next
      follows_then told_log right =
          record {
            kept = subst (Kept yard) machine_then (kept_after yard m yard_within follows.kept c bytes);
            joined = subst (λ (n : Machine). Joined n after.log) machine_then (subst (Joined (after_call m o)) (sym told_log) joined_then);
            numbers = right;
          }

  -- what a call leaves of all that is lent, by its outcome on the machine
  module _ (c : Call) (r : Told) (table drafts log numbers : List ℕ)
      (left : Left held.books held.table held.drafts held.log held.numbers c r table drafts log numbers) where
    pub answer_left : r ≡ answer_of (outcome yard c m)
    answer_left = left.0 ∙ ap answer_of (lent_same c)

    pub log_left : log ≡ log_after held.books.records (outcome yard c m).entry held.log
    log_left = left.1.1.1.0 ∙ ap (λ x. log_after held.books.records x.entry held.log) (lent_same c)

    pub numbers_left : numbers ≡ buffer_after (outcome yard c m).order held.numbers
    numbers_left = left.1.1.1.1 ∙ ap (λ x. buffer_after x.order held.numbers) (lent_same c)

    state_left : state_of (view r.books) table drafts ≡ (outcome yard c m).after
    state_left =
        let s = (outcome yard c m).after in
        ap (λ a. state_of (view a.books) table drafts) answer_left
        ∙ ap (λ t. state_of s.books t drafts) (left.1.0 ∙ ap (λ x. x.after.table) (lent_same c))
        ∙ ap (state_of s.books s.table) (left.1.1.0 ∙ ap (λ x. x.after.drafts) (lent_same c))

    -- the lent numbers keep their length
    length_left : length numbers ≡ order_numbers yard
    unfolding buffer_after
    length_left =
        ap length numbers_left ∙ splice_length 0 _ held.numbers (omega (arith, follows.numbers, order_few yard m c)) ∙ follows.numbers

    left_then : AreBytes (value_taken c) → (shown : List ℕ) → let after : Held = record { books = r.books; table = table; drafts = drafts; log = log; numbers = numbers } in
        ShownBehind c r.number after shown → Follows (known_then k c r.number r.answer shown after)
    left_then bytes shown behind =
        follows_then c bytes r.number r.answer shown (record { books = r.books; table = table; drafts = drafts; log = log; numbers = numbers }) behind
        (ap (λ a. a.number) answer_left) (ap (λ a. a.answer) answer_left) state_left log_left length_left

  -- each call leaves it so
  abbrev All : Call → Told → List ℕ → List ℕ → List ℕ → List ℕ → Type 0
  All = Left held.books held.table held.drafts held.log held.numbers

  pub order_all : (h : ℕ) (r : Answer) {numbers : List ℕ} → LeavesBuffer held.numbers (order_outcome held.books h held.numbers) r numbers
      → All (Order h) (in_numbers r) held.table held.drafts held.log numbers
  order_all h r left = order_left held.books held.table held.drafts held.log held.numbers h left

  pub close_all : (r : Answer) {log : List ℕ} → LeavesLog held.books.records held.log (close_outcome held.books held.log) r log
      → All Close (in_numbers r) held.table held.drafts log held.numbers
  unfolding issued
  close_all r left =
      neither_left held.books held.table held.drafts held.log held.numbers Close refl (unlent.of_close yard (length held.log) _ m.state) left

  -- so does every call of the machine but show, which gives no number back
  called_all : {c : Call} {number answer : ℕ} {after : Held} → Called held c number answer after → is_show c ≡ false
      → All c (record { number = number; answer = answer; books = after.books }) after.table after.drafts after.log after.numbers
  unfolding issued open_rule
  called_all (open_called {b} e) other =
      open_left held.books held.table held.drafts held.log held.numbers (ap (λ x. record { number = granted; answer = 0; books = x }) e)
  called_all (begin_called r left) other =
      neither_left held.books held.table held.drafts held.log held.numbers Begin refl (unlent.of_begin yard (length held.log) m.state) left
  called_all (write_called {h} {c} {value} r left) other =
      write_left held.books held.table held.drafts held.log held.numbers h c value left
  called_all (read_called {h} {c} r left) other = read_left held.books held.table held.drafts held.log held.numbers h c left
  called_all show_called other = absurd (true≢false other)
  called_all (commit_called {h} r left) other = commit_left held.books held.table held.drafts held.log held.numbers h left
  called_all (give_up_called {h} r left) other =
      neither_left held.books held.table held.drafts held.log held.numbers (GiveUp h) refl (unlent.of_give_up yard (length held.log) m.state h) left
  called_all (post_called {c} {value} r left) other = post_left held.books held.table held.drafts held.log held.numbers c value left
  called_all (order_called {h} r left) other = order_all h r left
  called_all (close_called r left) other = close_all r left
  called_all (stepped_called call value left) other = left

  -- the number that it gives back is that of its outcome
  pub called_number : {c : Call} {number answer : ℕ} {after : Held} → Called held c number answer after → is_show c ≡ false → number ≡ (outcome yard c m).number
  called_number {c} called other = ap (λ a. a.number) (answer_left c _ _ _ _ _ (called_all called other))

  -- and what it leaves follows the rules
  all_then : {c : Call} {number answer : ℕ} {after : Held} → Called held c number answer after → is_show c ≡ false → (shown : List ℕ) → AreBytes (value_taken c)
      → ShownBehind c number after shown → Follows (known_then k c number answer shown after)
  all_then {c} called other shown bytes behind = left_then c _ _ _ _ _ (called_all called other) bytes shown behind

  -- every call of the machine
  pub called_then : {c : Call} {number answer : ℕ} {after : Held} → Called held c number answer after → (shown : List ℕ) → AreBytes (value_taken c)
      → ShownBehind c number after shown → Follows (known_then k c number answer shown after)
  unfolding told
  called_then (open_called e) = all_then (open_called e) refl
  called_then (begin_called r left) = all_then (begin_called r left) refl
  called_then (write_called r left) = all_then (write_called r left) refl
  called_then (read_called r left) = all_then (read_called r left) refl
  called_then show_called = λ shown bytes behind. follows
  called_then (commit_called r left) = all_then (commit_called r left) refl
  called_then (give_up_called r left) = all_then (give_up_called r left) refl
  called_then (post_called r left) = all_then (post_called r left) refl
  called_then (order_called r left) = all_then (order_called r left) refl
  called_then (close_called r left) = all_then (close_called r left) refl
  called_then (stepped_called call value left) = λ shown bytes behind. left_then (call_of call value) _ _ _ _ _ left bytes shown behind

-- ---- a run

-- from the start of a day, and with every call
pub run_follows : {k : Known} → Run k → Follows k
unfolding new_day
run_follows (start {k} books lends) =
    let kept = kept_new yard (new_day (state_of (view k.books) k.table k.drafts)) yard_within (record { books = books; table = lends.table; drafts = lends.drafts; new = refl }) in
    record { kept = kept; joined = log_joins_day.new _ k.log kept.mirror.counted lends.log; numbers = lends.numbers }
run_follows (goes_on k c number answer shown after run bytes called behind) = called_then k (run_follows run) called shown bytes behind
