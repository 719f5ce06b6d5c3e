-- `sound_cells::cells::are_clear_below` meets its contract. The loop's invariant: the flag says whether all cells passed are clear. Assumes nothing.
use mathlib.Core.Path.{◌≡◌}
use mathlib.Core.Bool.{false, not, ◌&&◌}
use lib.Dec.{eqb}
use lib.ListN.{get_or}
use Rattle.basics.specs.Below.{all_below}
use Rattle.sound_cells.proofs.cells.are_clear_below.Given as goal

abbrev pub invariant-loop-c : goal.invariant-loop-c
invariant-loop-c l =
    l.clear ≡ all_below (λ k. not (get_or l.fn.p.written k false) && (eqb (get_or l.fn.p.first k 0) 0 && eqb (get_or l.fn.p.last k 0) 0)) l.c
