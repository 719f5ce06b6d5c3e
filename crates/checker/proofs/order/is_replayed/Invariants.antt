-- `checker::order::is_replayed` meets its contract. The loop's invariant: what is kept mirrors the first n records, and each of them is
-- explained. Assumes nothing.
use Rattle.checker.proofs.Turns.{Turn}
use Rattle.checker.proofs.order.is_replayed.Given as goal

abbrev pub invariant-loop-n : goal.invariant-loop-n
invariant-loop-n l = Turn l.z.size l.values.opening.now l.values.log.now l.t l.list l.n l.kept
