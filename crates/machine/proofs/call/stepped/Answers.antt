-- `machine::call::stepped` issues any call by value: it is that call. Rests on the calls' promises and on what a call is not concerned with.
use mathlib.Core.Path.{refl, ◌∙◌, ap}
use lib.ListN.{length}
use Rattle.rules.specs.Sizes.{yard}
use Rattle.rules.specs.Numbers.{granted}
use Rattle.rules.specs.Daylog.{commits_in}
use Rattle.rules.specs.State.{state_of}
use Rattle.rules.specs.Steps.{open_rule}
use Rattle.rules.specs.Calls.{issued}
use Rattle.rules.specs.Calls as rule
use Rattle.rules.proofs.Calls.Unlent.{unlent}
use Rattle.machine.specs.View.{view, in_numbers}
use Rattle.machine.proofs.Issuing.{issued_as, open_left, neither_left, write_left, read_left, show_left, commit_left, post_left, order_left}
use Rattle.machine.proofs.call.stepped.Goals as goal
use Rattle.machine.proofs.call.stepped.Goals.{in-Begin, in-Write, in-Read, in-Commit, in-GiveUp, in-Post, in-Order, in-Close}

pub returns-in-Open : goal.returns-in-Open
unfolding open_rule
returns-in-Open c =
    let a = c.args in
    issued_as a.from a.table.now a.drafts.now a.log.now a.numbers.now a.call _ a.value.now c.in-Open.is
    (open_left a.from a.table.now a.drafts.now a.log.now a.numbers.now (ap (λ b. record { number = granted; answer = 0; books = b }) c.open.ensures))

pub returns-in-Show : goal.returns-in-Show
returns-in-Show c =
    let a = c.args in
    issued_as a.from a.table.now a.drafts.now a.log.now a.numbers.now a.call _ a.value.now c.in-Show.is
    (show_left a.from a.table.now a.drafts.now a.log.now a.numbers.now c.in-Show.given c.in-Show.handle c.in-Show.cell c.looked.ensures)

pub returns : goal.returns
unfolding issued
returns c =
    let a = c.args in
    elim c.match-call.branch [
      | in-Begin w ↦
          rw (w.table-is, w.drafts-is, w.log-is, w.numbers-is)
          (issued_as a.from a.table.now a.drafts.now a.log.now a.numbers.now a.call _ a.value.now w.in-Begin.is
          (neither_left a.from a.table.now a.drafts.now a.log.now a.numbers.now rule.Begin refl (unlent.of_begin yard (length a.log.now) (state_of (view a.from) a.table.now a.drafts.now)) (c.from.ensures ∙ ap in_numbers w.answer-is ∙ w.begin-answer.ensures.answer, w.begin-answer.ensures.log)))
      | in-Write w ↦
          rw (w.table-is, w.drafts-is, w.log-is, w.numbers-is)
          (issued_as a.from a.table.now a.drafts.now a.log.now a.numbers.now a.call _ a.value.now w.in-Write.is
          (write_left a.from a.table.now a.drafts.now a.log.now a.numbers.now w.in-Write.handle w.in-Write.cell a.value.now (c.from.ensures ∙ ap in_numbers w.answer-is ∙ w.write-answer.ensures.answer, (w.write-answer.ensures.drafts, w.write-answer.ensures.log))))
      | in-Read w ↦
          rw (w.table-is, w.drafts-is, w.log-is, w.numbers-is)
          (issued_as a.from a.table.now a.drafts.now a.log.now a.numbers.now a.call _ a.value.now w.in-Read.is
          (read_left a.from a.table.now a.drafts.now a.log.now a.numbers.now w.in-Read.handle w.in-Read.cell (c.from.ensures ∙ ap in_numbers w.answer-is ∙ w.read-answer.ensures.answer, w.read-answer.ensures.log)))
      | in-Commit w ↦
          rw (w.table-is, w.drafts-is, w.log-is, w.numbers-is)
          (issued_as a.from a.table.now a.drafts.now a.log.now a.numbers.now a.call _ a.value.now w.in-Commit.is
          (commit_left a.from a.table.now a.drafts.now a.log.now a.numbers.now w.in-Commit.handle (c.from.ensures ∙ ap in_numbers w.answer-is ∙ w.commit-answer.ensures.answer, (w.commit-answer.ensures.table, w.commit-answer.ensures.log))))
      | in-GiveUp w ↦
          rw (w.table-is, w.drafts-is, w.log-is, w.numbers-is)
          (issued_as a.from a.table.now a.drafts.now a.log.now a.numbers.now a.call _ a.value.now w.in-GiveUp.is
          (neither_left a.from a.table.now a.drafts.now a.log.now a.numbers.now (rule.GiveUp w.in-GiveUp.handle) refl (unlent.of_give_up yard (length a.log.now) (state_of (view a.from) a.table.now a.drafts.now) w.in-GiveUp.handle) (c.from.ensures ∙ ap in_numbers w.answer-is ∙ w.give_up-answer.ensures.answer, w.give_up-answer.ensures.log)))
      | in-Post w ↦
          rw (w.table-is, w.drafts-is, w.log-is, w.numbers-is)
          (issued_as a.from a.table.now a.drafts.now a.log.now a.numbers.now a.call _ a.value.now w.in-Post.is
          (post_left a.from a.table.now a.drafts.now a.log.now a.numbers.now w.in-Post.cell a.value.now (c.from.ensures ∙ ap in_numbers w.answer-is ∙ w.post-answer.ensures.answer, (w.post-answer.ensures.table, w.post-answer.ensures.log))))
      | in-Order w ↦
          rw (w.table-is, w.drafts-is, w.log-is, w.numbers-is)
          (issued_as a.from a.table.now a.drafts.now a.log.now a.numbers.now a.call _ a.value.now w.in-Order.is
          (order_left a.from a.table.now a.drafts.now a.log.now a.numbers.now w.in-Order.handle (c.from.ensures ∙ ap in_numbers w.answer-is ∙ w.order-answer.ensures.answer, w.order-answer.ensures.numbers)))
      | in-Close w ↦
          rw (w.table-is, w.drafts-is, w.log-is, w.numbers-is)
          (issued_as a.from a.table.now a.drafts.now a.log.now a.numbers.now a.call _ a.value.now w.in-Close.is
          (neither_left a.from a.table.now a.drafts.now a.log.now a.numbers.now rule.Close refl (unlent.of_close yard (length a.log.now) (commits_in a.log.now a.from.records) (state_of (view a.from) a.table.now a.drafts.now)) (c.from.ensures ∙ ap in_numbers w.answer-is ∙ w.close-answer.ensures.answer, w.close-answer.ensures.log)))
    ]
