-- `pairs::company::company_of` meets its contract. The loop's invariant: `present` is filled in below k by who is in the company. Assumes nothing.
use mathlib.Core.Path.{◌≡◌}
use mathlib.Core.Bool.{false}
use Rattle.basics.specs.Below.{filled_below}
use Rattle.rules.specs.Books.{of_places}
use Rattle.rules.specs.Sizes.{width}
use Rattle.rules.specs.Judging.{company}
use Rattle.pairs.proofs.company.company_of.Given as goal

abbrev pub invariant-loop-k : goal.invariant-loop-k
invariant-loop-k l = l.present ≡ filled_below (company l.fn.z.size (of_places l.places) l.i) false l.k width
