-- `checker::desk::nogturshan_check` meets its contract: the first 33 numbers are unpacked, and the checker answers as for all. Assumes nothing.
use mathlib.Core.Path.{◌∙◌, ap}
use native.Mathlib.Omega.{arith}
use lib.ListN.{replicate}
use Rattle.rules.specs.Sizes.{yard}
use Rattle.rules.specs.Checker.{checked}
use Rattle.checker.proofs.Unpacked.{front_read, counted_alike}
use Rattle.checker.proofs.desk.nogturshan_check.Goals as goal

pub returns : goal.returns
returns c =
    let a = c.args in
    let bytes = a.list.now in
    let count = c.min-count.result in
    let least = c.min-count.ensures in
    c.said.ensures
    ∙ c.checked.ensures
    ∙ ap (checked yard a.opening.now a.log.now a.begin) (front_read bytes (replicate 33 0) c.unpack.new.into count (omega arith) (omega arith) c.unpack.ensures)
    ∙ counted_alike a.opening.now a.log.now bytes a.begin count c.if-list-ne0.false least
