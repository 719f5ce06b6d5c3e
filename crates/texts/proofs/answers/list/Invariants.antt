-- `texts::answers::list` meets its contract. The loop's invariant: the numbers so far are put. Assumes nothing.
use Rattle.texts.specs.Said.{Puts, listed}
use Rattle.texts.proofs.answers.list.Given as goal

abbrev pub invariant-loop-n : goal.invariant-loop-n
invariant-loop-n l = Puts l.initial.out l.out (listed l.numbers l.n-index)
