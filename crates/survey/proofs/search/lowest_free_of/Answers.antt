-- `survey::search::lowest_free_of` meets its contract: the first free place of the range is the lowest. Rests on `first_found`.
use mathlib.Core.Path.{◌≡◌}
use mathlib.Core.Bool.{true, false}
use borrow.Author.Rules.{rules}
use borrow.Author.Tests.{tests}
use Rattle.std.proofs.lemmas.Iterator.{first_from_Range}
use Rattle.rules.specs.Books.{lowest_free, is_free, place_at, of_places}
use Rattle.survey.proofs.Slices.{first_found}
use Rattle.survey.proofs.search.lowest_free_of.Goals as goal

pub returns : goal.returns
unfolding lowest_free
returns c =
    let b = of_places c.args.places.now in
    first_found (λ k. is_free (place_at b k)) c.args.z.size.places c.find.result
    (first_from_Range _ _ _ c.find.result (λ k. is_free (place_at b k) ≡ true) (λ k. is_free (place_at b k) ≡ false) c.find.ensures.ran (λ x q k. search (rules, tests)) (λ x q k. search (rules, tests)))
