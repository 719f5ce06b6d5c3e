-- `pairs::pair::comes_first` meets its contract. The loop's invariant: each flag says whether there is such a cell below c. Assumes nothing.
use mathlib.Core.Path.{◌≡◌}
use Rattle.pairs.specs.CellPass.{overlap_of, read_after_of, read_before_of}
use Rattle.pairs.proofs.pair.comes_first.Given as goal

abbrev pub invariant-loop-c : goal.invariant-loop-c
invariant-loop-c l =
    (l.common ≡ overlap_of l.k.written l.m.written l.c) × (l.read_after ≡ read_after_of l.k.written l.commit l.m.last l.c) × (l.read_before ≡ read_before_of l.k.first l.m.written l.sealed l.c)
