-- `check_list::lists::is_distinct` meets its contract. The loop's invariant: what is left of the list tells as much as all. Assumes nothing.
use Rattle.check_list.proofs.Behind.{again_there, not_again, none_left}
use Rattle.check_list.proofs.lists.is_distinct.Goals as goal

pub returns-then-contains : goal.returns-then-contains
returns-then-contains c = again_there c.args.list.now c.loop-i.i c.loop-i-test.true c.contains.ensures.value c.loop-i.invariant c.if-contains.true

pub loop-i-preserved : goal.loop-i-preserved
loop-i-preserved c = not_again c.args.list.now c.loop-i.i c.loop-i-test.true c.contains.ensures.value c.loop-i.invariant c.if-contains.false

pub returns : goal.returns
returns c = none_left c.args.list.now c.loop-i.i c.loop-i-test.false c.loop-i.invariant
