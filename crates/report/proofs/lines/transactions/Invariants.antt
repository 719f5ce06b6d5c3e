-- `report::lines::transactions` meets its contract. The loop's invariant: the lines of the first records are put.
-- Assumes nothing.
use Rattle.texts.specs.Said.{Puts}
use Rattle.report.specs.Reported.{all_told}
use Rattle.report.proofs.lines.transactions.Given as goal

abbrev pub invariant-loop-before : goal.invariant-loop-before
invariant-loop-before l = Puts l.initial.out l.out (all_told l.log l.before)
