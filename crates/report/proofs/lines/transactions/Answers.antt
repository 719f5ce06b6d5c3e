-- `report::lines::transactions` meets its contract. The loop's invariant: the lines of the first records are put.
-- Assumes nothing.
use mathlib.Core.Path.{sym, ◌∙◌}
use Rattle.report.specs.Reported.{told, all_told}
use Rattle.report.proofs.Telling.{puts_more, told_more, told_skips}
use Rattle.report.proofs.lines.transactions.Goals as goal
use Rattle.report.proofs.lines.transactions.Goals.{then-is_start, else-is_start}

pub loop-before-preserved : goal.loop-before-preserved
loop-before-preserved c =
    let log = c.args.log.now in
    let turn = c.loop-before in
    elim c.if-is_start.branch [
      | then-is_start w ↦
          let more = told_more log turn.before w.found.result (sym c.is_start.ensures ∙ w.if-is_start.true) w.found.ensures in
          rw (w.out-is, more) (puts_more c.args.out.now turn.out w.line.new.out (all_told log turn.before) (told w.found.result) turn.invariant w.line.ensures)
      | else-is_start w ↦ rw (w.out-is, told_skips log turn.before (sym c.is_start.ensures ∙ w.if-is_start.false)) turn.invariant
    ]
