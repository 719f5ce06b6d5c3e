-- `check_replay::state::lay` meets its contract. The loop's invariant: what was written to the first c cells is in the table. Assumes nothing.
use mathlib.Core.Path.{◌≡◌}
use Rattle.basics.specs.Below.{run_below}
use Rattle.check_replay.specs.Kept.{laid_cell}
use Rattle.check_replay.proofs.state.lay.Given as goal

abbrev pub invariant-loop-c : goal.invariant-loop-c
invariant-loop-c l = l.table ≡ run_below (laid_cell l.own) l.c l.initial.table
