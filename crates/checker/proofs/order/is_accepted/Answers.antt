-- `checker::order::is_accepted` meets its contract: a list that is too long, has repeats or lacks t is refused, and the replay settles the
-- others. Assumes nothing.
use mathlib.Core.Path.{sym, ◌∙◌}
use native.Mathlib.Omega.{arith}
use Rattle.rules.proofs.Log.LaidOut.{laid_out_has}
use Rattle.check_list.proofs.Behind.{contained}
use Rattle.checker.proofs.Refused.{unlisted_refused}
use Rattle.checker.proofs.order.is_accepted.Goals as goal

pub returns-then-not-contains : goal.returns-then-not-contains
returns-then-not-contains c =
    let a = c.args in
    let pre = c.requires in
    sym
    (unlisted_refused a.z.size a.values.opening.now a.values.log.now a.t a.list.now
    (sym (contained a.t a.list.now) ∙ sym c.contains.ensures.value ∙ c.if-not-contains.true) pre.opening_len.1 pre.t_value)

pub overflow_cast-records : goal.overflow_cast-records
overflow_cast-records c =
    let a = c.args in
    omega (arith, c.records_in-records.ensures, (laid_out_has a.z.size a.values.log.now c.requires.opening_len.1).1)

pub is_replayed-requires-clause-records_in_bounds : goal.is_replayed-requires-clause-records_in_bounds
is_replayed-requires-clause-records_in_bounds c =
    let a = c.args in
    let has = laid_out_has a.z.size a.values.log.now c.requires.opening_len.1 in
    (omega (arith, c.records_in-records.ensures, has.0), rw c.records_in-records.ensures has.2)

pub is_replayed-requires-clause-list_value : goal.is_replayed-requires-clause-list_value
is_replayed-requires-clause-list_value c =
    let a = c.args in
    (sym c.is_distinct.ensures ∙ c.if-not-is_distinct.false, sym (contained a.t a.list.now) ∙ sym c.contains.ensures.value ∙ c.if-not-contains.false)
