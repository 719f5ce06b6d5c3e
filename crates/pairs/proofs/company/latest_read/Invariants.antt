-- `pairs::company::latest_read` meets its contract. The loop's invariant: `latest` is the greatest of the last reads of the cells below c. Assumes nothing.
use mathlib.Core.Path.{◌≡◌}
use Rattle.basics.specs.Below.{greatest_below}
use Rattle.rules.specs.Books.{last_read}
use Rattle.pairs.proofs.company.latest_read.Given as goal

abbrev pub invariant-loop-c : goal.invariant-loop-c
invariant-loop-c l = l.latest ≡ greatest_below (last_read l.fn.p) l.c
