-- `report::day::report` meets its contract: what follows an opening table is the log. Assumes nothing.
use mathlib.Core.Path.{refl, ◌∙◌, ap₂}
use native.Mathlib.Omega.{arith}
use lib.ListN.{length}
use Rattle.rules.specs.Sizes.{yard}
use Rattle.texts.proofs.Putting.{tail_is}
use Rattle.report.specs.Reported.{reported}
use Rattle.report.proofs.Reporting.{report_whole}
use Rattle.report.proofs.day.report.Goals as goal

pub returns : goal.returns
returns c =
    let input = c.args.input.now in
    c.of_log.ensures
    ∙ ap₂ reported c.yard_limits.ensures (tail_is input 256 (length input) refl)
    ∙ report_whole yard input (omega arith)
