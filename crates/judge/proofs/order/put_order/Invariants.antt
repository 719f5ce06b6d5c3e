-- `judge::order::put_order` meets its contract. The invariant: the numbers of those taken so far stand in the buffer, and they and the order
-- of those left are the order of those present; a round takes the next one, and after as many rounds as places nobody is left. Assumes nothing.
use Rattle.pairs.specs.Square.{said_before}
use Rattle.judge.specs.Ordered.{begin_of}
use Rattle.judge.proofs.Rounds.{PutSoFar}
use Rattle.judge.proofs.order.put_order.Given as goal

abbrev pub invariant-loop-count : goal.invariant-loop-count
invariant-loop-count l = PutSoFar l.places (said_before l.rows) (begin_of l.begins) l.initial.left l.left l.count l.initial.order l.order
