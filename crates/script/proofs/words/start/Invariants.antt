-- `script::words::start` meets its contract. The loop's invariant: the word of number i starts at the place. Assumes nothing.
use Rattle.std.proofs.Common.{◌≡◌, ◌<◌, length}
use Rattle.script.specs.Blanks.{word_start}
use Rattle.script.proofs.words.start.Given as goal

abbrev pub invariant-loop : goal.invariant-loop
invariant-loop l = (l.at ≡ word_start l.line l.counter) × (l.at < length l.line)
