-- `script::values::bytes_of` meets its contract. The loop's invariant: the first i bytes are put. Assumes nothing.
use Rattle.std.proofs.Common.{◌≡◌}
use Rattle.script.specs.Hex.{value_bytes}
use Rattle.script.specs.Fronts.{with_front}
use Rattle.script.proofs.values.bytes_of.Given as goal

abbrev pub invariant-loop-i : goal.invariant-loop-i
invariant-loop-i l = l.out ≡ with_front l.initial.out l.i (value_bytes l.word)
