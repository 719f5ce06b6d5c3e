-- `checker::desk::unpack` meets its contract. The loop's invariant: the first i numbers are those of the pairs. Assumes nothing.
use mathlib.Core.Path.{◌≡◌}
use lib.ListN.{take}
use Rattle.checker.specs.Desk.{pairs_of}
use Rattle.checker.proofs.desk.unpack.Given as goal

abbrev pub invariant-loop-i : goal.invariant-loop-i
invariant-loop-i l = take l.i l.into ≡ take l.i (pairs_of l.pairs)
