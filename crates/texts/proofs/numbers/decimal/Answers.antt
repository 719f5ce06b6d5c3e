-- `texts::numbers::decimal` meets its contract: nothing stands behind the digits. Assumes nothing.
use Rattle.std.proofs.Common.{◌∙◌, append-nil}
use Rattle.texts.proofs.Counting.{digits_are}
use Rattle.texts.proofs.numbers.decimal.Goals as goal

pub returns-clause-digits : goal.returns-clause-digits
returns-clause-digits c = c.write_digits-from.ensures.written ∙ append-nil _ ∙ digits_are c.args.n c.ranges.n.fits
