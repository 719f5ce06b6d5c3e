-- What each call leaves of all that a call may be lent is what its issue by value leaves. Rests on the laws that a call is not concerned with what it
-- is not lent, that looking changes nothing, and that only order gives an order.
use mathlib.Core.Path.{◌≡◌, refl, sym, ◌∙◌, ap, subst}
use mathlib.Core.Logic.{⊎_elim}
use Prim.Native.Nat.{ℕ}
use mathlib.Core.Bool.{false}
use mathlib.Core.List.{List, []}
use lib.ListN.{length}
use Rattle.basics.proofs.Bytes.{splice_nothing}
use Rattle.rules.specs.Sizes.{yard}
use Rattle.rules.specs.Books.{opened}
use Rattle.rules.specs.Handles.{place_of}
use Rattle.rules.specs.Numbers.{first_reason}
use Rattle.rules.specs.State.{State, Outcome, refused, entry_bytes, state_of, log_after, buffer_after}
use Rattle.rules.specs.Steps.{open_rule, write_rule, read_rule, commit_rule, post_rule, order_rule, show_reasons, show_rule, show_of}
use Rattle.rules.specs.Calls.{Call, Lending, issued}
use Rattle.rules.specs.Calls as rule
use Rattle.rules.specs.Kept.{AsLent, NeitherLent}
use Rattle.rules.proofs.Calls.Reasons.{refused_or_not, refusals_change_nothing}
use Rattle.rules.proofs.Calls.Unlent.{unlent, gives_order, orderless}
use Rattle.steps.proofs.Either.{log_stays, buffer_stays}
use Rattle.machine.specs.declared.books.Books.{Books}
use Rattle.machine.specs.declared.books.Told.{Told}
use Rattle.machine.specs.View.{view, answer_of}
use Rattle.machine.specs.declared.call.Call.{Call as MachineCall}
use Rattle.machine.specs.Promises.{LeavesAll}
use Rattle.machine.specs.Called.{lent_to, call_of}

-- answers of outcomes that agree are equal
same_answer : {o narrow : Outcome} → AsLent o narrow → answer_of narrow ≡ answer_of o
same_answer {o} {narrow} a = rw (a.number, a.answer, a.books)

module _ (from : Books) (table drafts log numbers : List ℕ) where
  -- the state, and what the call is lent
  abbrev s : State
  s = state_of (view from) table drafts

  abbrev l : Lending
  l = lent_to from log numbers

  -- after a call on all of it
  abbrev pub Left : Call → Told → List ℕ → List ℕ → List ℕ → List ℕ → Type 0
  Left c r table' drafts' after filled = LeavesAll from.records log numbers r table' drafts' after filled (issued yard l c s)

  -- what the call on less than all of it leaves of the log
  abbrev LogBy : Outcome → List ℕ → Type 0
  LogBy narrow after = after ≡ log_after from.records narrow.entry log

  module _ (c : Call) (other : gives_order c ≡ false) where
    -- the order buffer stays for every call but order
    numbers_stay : numbers ≡ buffer_after (issued yard l c s).order numbers
    numbers_stay = buffer_stays numbers ∙ ap (λ order. buffer_after order numbers) (sym (orderless yard l c s other))

    -- the log is that of a call that agrees
    log_agrees : {narrow : Outcome} {after : List ℕ} → AsLent (issued yard l c s) narrow → LogBy narrow after → LogBy (issued yard l c s) after
    log_agrees agrees e = e ∙ ap (λ entry. log_after from.records entry log) (sym agrees.entry)

    -- a call that is lent neither table nor drafts, and one that is lent one of them and may change it
    pub neither_left : {narrow : Outcome} {r : Told} {after : List ℕ} → NeitherLent s (issued yard l c s) narrow → (r ≡ answer_of narrow) × LogBy narrow after
        → Left c r table drafts after numbers
    neither_left n left =
        (left.0 ∙ same_answer n.agrees, (sym n.table, (sym n.drafts, (log_agrees n.agrees left.1, numbers_stay))))

  pub write_left : (h c : ℕ) (value : List ℕ) {r : Told} {drafts' after : List ℕ}
      → let o = write_rule yard (length log) (state_of (view from) [] drafts) h c value in (r ≡ answer_of o) × ((drafts' ≡ o.after.drafts) × LogBy o after)
      → Left (rule.Write h c value) r table drafts' after numbers
  unfolding issued
  write_left h c value left =
      let call = rule.Write h c value in
      let agrees = unlent.of_write yard (length log) s h c value in
      (left.0 ∙ same_answer agrees, (sym (unlent.write_table yard (length log) s h c value), (left.1.0 ∙ sym (unlent.write_drafts yard (length log) s h c value), (log_agrees call refl agrees left.1.1, numbers_stay call refl))))

  pub post_left : (c : ℕ) (value : List ℕ) {r : Told} {table' after : List ℕ}
      → let o = post_rule yard (length log) (state_of (view from) table []) c value in (r ≡ answer_of o) × ((table' ≡ o.after.table) × LogBy o after)
      → Left (rule.Post c value) r table' drafts after numbers
  unfolding issued
  post_left c value left =
      let call = rule.Post c value in
      let agrees = unlent.of_post yard (length log) s c value in
      (left.0 ∙ same_answer agrees, (left.1.0 ∙ sym (unlent.post_table yard (length log) s c value), (sym (unlent.post_drafts yard (length log) s c value), (log_agrees call refl agrees left.1.1, numbers_stay call refl))))

  pub read_left : (h c : ℕ) {r : Told} {after : List ℕ} → let o = read_rule yard (length log) s h c in (r ≡ answer_of o) × LogBy o after
      → Left (rule.Read h c) r table drafts after numbers
  unfolding issued
  read_left h c left =
      (left.0, (sym (unlent.read_table yard (length log) s h c), (sym (unlent.read_drafts yard (length log) s h c), (left.1, numbers_stay (rule.Read h c) refl))))

  pub commit_left : (h : ℕ) {r : Told} {table' after : List ℕ} → let o = commit_rule yard (length log) s h in (r ≡ answer_of o) × ((table' ≡ o.after.table) × LogBy o after)
      → Left (rule.Commit h) r table' drafts after numbers
  unfolding issued
  commit_left h left = (left.0, (left.1.0, (sym (unlent.commit_drafts yard (length log) s h), (left.1.1, numbers_stay (rule.Commit h) refl))))

  -- order and show only look
  pub order_left : (h : ℕ) {r : Told} {filled : List ℕ} → let o = order_rule yard (length numbers) (state_of (view from) [] []) h in (r ≡ answer_of o) × (filled ≡ buffer_after o.order numbers)
      → Left (rule.Order h) r table drafts log filled
  unfolding issued
  order_left h left =
      let n = unlent.of_order yard (length numbers) s h in
      let looks = (refusals_change_nothing.looking yard l 0 h 0 s).0 in
      (left.0 ∙ same_answer n.agrees, (sym n.table, (sym n.drafts, (log_stays from.records log ∙ ap (λ entry. log_after from.records entry log) (sym looks.1), left.1 ∙ ap (λ order. buffer_after order numbers) (sym n.agrees.order)))))

  pub open_left : {r : Told} → r ≡ answer_of (open_rule (state_of opened [] [])) → Left rule.Open r table drafts log numbers
  unfolding issued open_rule log_after entry_bytes
  open_left e = (e, (refl, (refl, (sym (splice_nothing _ log), numbers_stay rule.Open refl))))

  show_answer : (given h c : ℕ) {r : Told} → r ≡ record { number = first_reason (show_reasons yard (length table) (length drafts) (view from) given h c); answer = 0; books = from }
      → r ≡ answer_of (show_rule yard s given h c)
  unfolding show_rule show_of refused
  show_answer given h c e =
      ⊎_elim (λ g. e ∙ ap (λ (n : ℕ). record { number = n; answer = 0; books = from }) g.0 ∙ ap answer_of (sym g.1)) (λ g. e ∙ ap answer_of (sym g.1))
      (refused_or_not (show_reasons yard (length table) (length drafts) (view from) given h c) s (show_of yard s (place_of h) c))

  pub show_left : (given h c : ℕ) {r : Told} → r ≡ record { number = first_reason (show_reasons yard (length table) (length drafts) (view from) given h c); answer = 0; books = from }
      → Left (rule.Show given h c) r table drafts log numbers
  unfolding issued
  show_left given h c e =
      let looks = (refusals_change_nothing.looking yard l given h c s).1 in
      (show_answer given h c e, (ap (λ x. x.table) (sym looks.0), (ap (λ x. x.drafts) (sym looks.0), (log_stays from.records log ∙ ap (λ entry. log_after from.records entry log) (sym looks.1), numbers_stay (rule.Show given h c) refl))))

  -- what is left, by the names of the clauses of `stepped`
  abbrev pub ByClause : Told → List ℕ → List ℕ → List ℕ → List ℕ → Outcome → Type 0
  ByClause r table' drafts' after filled o =
      record {
        answer : r ≡ answer_of o;
        table : table' ≡ o.after.table;
        drafts : drafts' ≡ o.after.drafts;
        log : after ≡ log_after from.records o.entry log;
        numbers : filled ≡ buffer_after o.order numbers;
      }

  -- of the call that was given, where it is known which it is
  pub issued_as : (call known : MachineCall) (value : List ℕ) {r : Told} {table' drafts' after filled : List ℕ} → call ≡ known
      → Left (call_of known value) r table' drafts' after filled → ByClause r table' drafts' after filled (issued yard l (call_of call value) s)
  issued_as call known value {r = r} {table' = table'} {drafts' = drafts'} {after = after} {filled = filled} same left =
      let given = subst (λ (x : MachineCall). Left (call_of x value) r table' drafts' after filled) (sym same) left in
      record { answer = given.0; table = given.1.0; drafts = given.1.1.0; log = given.1.1.1.0; numbers = given.1.1.1.1 }
