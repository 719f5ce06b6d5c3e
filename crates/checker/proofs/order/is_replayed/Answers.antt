-- `checker::order::is_replayed` meets its contract. The loop's invariant: what is kept mirrors the first n records, and each of them is
-- explained. Assumes nothing.
use mathlib.Core.Path.{◌≡◌, sym, ◌∙◌}
use native.Mathlib.Omega.{arith}
use Rattle.checker.proofs.Turns.{turn_none, entry_place, entry_cell, past_only, turn_on, turn_fails, turn_ends}
use Rattle.checker.proofs.order.is_replayed.Goals as goal
use Rattle.checker.proofs.order.is_replayed.Goals.{in-Some+else-not-is_explained, in_default}

pub loop-n-init : goal.loop-n-init
loop-n-init c = rw c.fresh-kept.ensures (turn_none _ _ _ _ _)

pub whose-who-requires : goal.whose-who-requires
whose-who-requires c =
    entry_place _ _ _ _ _ _ c.args.z.within c.requires.records_in_bounds.1 c.requires.list_value.0 c.requires.opening_len.1 _ _ c.loop-n-test.true c.loop-n.invariant _
    c.record_at-entry.ensures

pub is_explained-requires-clause-past_only : goal.is_explained-requires-clause-past_only
is_explained-requires-clause-past_only c =
    past_only _ _ _ _ _ _ c.args.z.within c.requires.records_in_bounds.1 c.requires.list_value.0 c.requires.opening_len.1 _ _ c.loop-n-test.true c.loop-n.invariant

pub is_explained-requires-clause-cell_right : goal.is_explained-requires-clause-cell_right
is_explained-requires-clause-cell_right c =
    entry_cell _ _ _ _ _ _ c.args.z.within c.requires.records_in_bounds.1 c.requires.list_value.0 c.requires.opening_len.1 _ _ c.loop-n-test.true c.loop-n.invariant _
    c.record_at-entry.ensures

pub returns-then-not-is_explained : goal.returns-then-not-is_explained
returns-then-not-is_explained c =
    sym
    (turn_fails _ _ _ _ _ _ c.args.z.within c.requires.records_in_bounds.1 c.requires.list_value.0 c.requires.opening_len.1 _ _ c.loop-n-test.true c.loop-n.invariant
    c.requires.t_value c.requires.list_value.1 _ c.record_at-entry.ensures _ _ c.whose-who.ensures c.position-position.ensures _ c.in-Some.is
    (sym c.is_explained.ensures ∙ c.if-not-is_explained.true))

pub follow-requires-clause-within : goal.follow-requires-clause-within
follow-requires-clause-within c =
    let place =
    entry_place _ _ _ _ _ _ c.args.z.within c.requires.records_in_bounds.1 c.requires.list_value.0 c.requires.opening_len.1 _ _ c.loop-n-test.true c.loop-n.invariant _
    c.record_at-entry.ensures in
    let cell =
    entry_cell _ _ _ _ _ _ c.args.z.within c.requires.records_in_bounds.1 c.requires.list_value.0 c.requires.opening_len.1 _ _ c.loop-n-test.true c.loop-n.invariant _
    c.record_at-entry.ensures in
    (place, cell.within)

pub loop-n-preserved : goal.loop-n-preserved
loop-n-preserved c =
    rw c.follow.ensures
    (elim c.match-position.branch [
      | in-Some+else-not-is_explained w ↦ turn_on _ _ _ _ _ _ c.args.z.within c.requires.records_in_bounds.1 c.requires.list_value.0 c.requires.opening_len.1 _ _
          c.loop-n-test.true c.loop-n.invariant c.requires.list_value.1 _ c.record_at-entry.ensures _ _ c.whose-who.ensures
          (w.position-is ∙ sym w.in-Some.is ∙ c.position-position.ensures) (rw w.position-is (sym w.is_explained.ensures ∙ w.if-not-is_explained.false))
      | in_default w ↦ turn_on _ _ _ _ _ _ c.args.z.within c.requires.records_in_bounds.1 c.requires.list_value.0 c.requires.opening_len.1 _ _
          c.loop-n-test.true c.loop-n.invariant c.requires.list_value.1 _ c.record_at-entry.ensures _ _ c.whose-who.ensures
          (w.position-is ∙ c.position-position.ensures) (rw (w.position-is ∙ w.in_default.is) tt)
    ])

pub returns : goal.returns
returns c =
    let all : c.loop-n.n ≡ c.args.records = omega arith in
    let turn = rw all at c.loop-n.invariant in
    c.is_in_time.ensures
    ∙ turn_ends _ _ _ _ _ _ c.args.z.within c.requires.records_in_bounds.1 c.requires.list_value.0 c.requires.opening_len.1 _ c.requires.t_value
    c.requires.list_value.1 turn
