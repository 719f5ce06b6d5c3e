-- `pairs::square::row_of` meets its contract. The loop's invariant: the row of m is filled in below k by who is present and stands before m. Assumes nothing.
use mathlib.Core.Path.{◌≡◌}
use mathlib.Core.Bool.{false, ◌&&◌}
use Rattle.basics.specs.Below.{filled_below}
use Rattle.rules.specs.Sizes.{width}
use Rattle.rules.specs.Books.{of_places}
use Rattle.rules.specs.Judging.{stands_before}
use Rattle.pairs.specs.Square.{is_in}
use Rattle.pairs.proofs.square.row_of.Given as goal

abbrev pub invariant-loop-k : goal.invariant-loop-k
invariant-loop-k l = l.row ≡ filled_below (λ i. is_in l.present i && stands_before l.z.size (of_places l.places) i l.m) false l.k width
