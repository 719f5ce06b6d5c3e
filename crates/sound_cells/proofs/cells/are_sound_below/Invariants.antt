-- `sound_cells::cells::are_sound_below` meets its contract. The loop's invariant: the flag says whether the reads of all cells passed are sound.
-- Rests on the contract of `is_read_sound`.
use mathlib.Core.Path.{◌≡◌}
use Rattle.basics.specs.Below.{all_below}
use Rattle.rules.specs.Sound.{reads_sound}
use Rattle.sound_cells.proofs.cells.are_sound_below.Given as goal

abbrev pub invariant-loop-c : goal.invariant-loop-c
invariant-loop-c l = l.sound ≡ all_below (reads_sound l.records l.p) l.c
