-- `survey::columns::begins_of` fills in the begin records place by place. Assumes nothing.
use mathlib.Core.Path.{◌≡◌}
use Rattle.basics.specs.Below.{filled_below}
use Rattle.rules.specs.Sizes.{width}
use Rattle.rules.specs.Books.{of_places, place_at}
use Rattle.survey.proofs.columns.begins_of.Given as goal

abbrev pub invariant-loop-i : goal.invariant-loop-i
invariant-loop-i l = l.begins ≡ filled_below (λ k. (place_at (of_places l.places) k).begin) 0 l.i width
