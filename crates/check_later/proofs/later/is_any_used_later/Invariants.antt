-- `check_later::later::is_any_used_later` meets its contract. The loop's invariant: no cell below c was written and used later. Assumes nothing.
use mathlib.Core.Path.{◌≡◌}
use mathlib.Core.Bool.{false}
use Rattle.basics.specs.Below.{any_below}
use Rattle.check_later.specs.Later.{written_used}
use Rattle.check_later.proofs.later.is_any_used_later.Given as goal

abbrev pub invariant-loop-c : goal.invariant-loop-c
invariant-loop-c l = any_below (written_used l.listed l.at l.count) l.c ≡ false
