-- `texts::answers::cells` meets its contract. The loop's invariant: the cells so far are put. Assumes nothing.
use Rattle.std.proofs.Common.{length}
use Rattle.texts.specs.Said.{Puts, celled}
use Rattle.texts.proofs.answers.cells.Given as goal

abbrev pub invariant-loop-cell : goal.invariant-loop-cell
invariant-loop-cell l = Puts l.initial.out l.out (celled l.table (length l.yielded))
