-- `script::numbers::number_of` meets its contract. The loop's invariant: n is what the bytes so far name. Assumes nothing.
use Rattle.std.proofs.Common.{◌≡◌}
use Rattle.script.proofs.Naming.{named_by}
use Rattle.script.proofs.numbers.number_of.Given as goal

abbrev pub invariant-loop-b : goal.invariant-loop-b
invariant-loop-b l = l.n ≡ named_by l.word l.b-index
