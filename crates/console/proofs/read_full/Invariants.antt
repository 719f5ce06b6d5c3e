-- `console::read_full` counts up to the buffer's length, by what each piece brings. Assumes nothing.
use Rattle.std.proofs.Common.{length, ◌-◌, ◌≤◌}
use Rattle.console.proofs.read_full.Given as goal

abbrev pub invariant-loop-done : goal.invariant-loop-done
invariant-loop-done l = l.done ≤ length l.input

abbrev pub decreases-loop-done : goal.decreases-loop-done
decreases-loop-done l = length l.input - l.done
