-- `check_list::lists::is_distinct` meets its contract. The loop's invariant: what is left of the list tells as much as all. Assumes nothing.
use mathlib.Core.Path.{◌≡◌}
use lib.ListN.{drop}
use Rattle.basics.specs.Lists.{distinct}
use Rattle.check_list.proofs.lists.is_distinct.Given as goal

abbrev pub invariant-loop-i : goal.invariant-loop-i
invariant-loop-i l = distinct (drop l.i l.list) ≡ distinct l.list
