-- `pairs::square::square` meets its contract. The loop's invariant: the rows below m are filled in, those of the ones present as `row_of` says, the others
-- empty of marks. Assumes nothing.
use mathlib.Core.Path.{◌≡◌}
use mathlib.Core.Bool.{false, cond}
use lib.ListN.{replicate}
use Rattle.basics.specs.Below.{filled_below}
use Rattle.rules.specs.Sizes.{width}
use Rattle.rules.specs.Books.{of_places}
use Rattle.pairs.specs.Square.{is_in, row_of}
use Rattle.pairs.proofs.square.square.Given as goal

abbrev pub invariant-loop-m : goal.invariant-loop-m
invariant-loop-m l = l.rows ≡ filled_below (λ i. cond (is_in l.present i) (row_of l.z.size (of_places l.places) l.present i) (replicate width false)) (replicate width false) l.m width
