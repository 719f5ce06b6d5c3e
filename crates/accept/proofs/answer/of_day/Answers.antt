-- `accept::answer::of_day` meets its contract: a day that is cut short has no opening table. Assumes nothing.
use lib.ListN.{drop}
use Rattle.accept.proofs.Listing.{day_short}
use Rattle.accept.proofs.answer.of_day.Goals as goal

pub returns-then-input-lt-TABLE_BYTES : goal.returns-then-input-lt-TABLE_BYTES
returns-then-input-lt-TABLE_BYTES c =
    let a = c.args in
    day_short a.input.now (drop 256 a.input.now) a.begin a.order.now c.if-input-lt-TABLE_BYTES.true
