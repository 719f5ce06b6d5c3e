-- `reasons::shared::of_handle` asks for the books, and then looks the handle up: the first of 2, 3 and 4. Rests on the contracts of `of_books`, `place_of` and `lookup`.
use Rattle.rules.specs.Books.{books_at}
use Rattle.reasons.proofs.Parts.{status_known, handle_asked}
use Rattle.reasons.proofs.shared.of_handle.Goals as goal

pub lookup-requires : goal.lookup-requires
lookup-requires c = let a = c.args in status_known a.at.limits.size (books_at a.at) a.handle a.call c.in_ok-of_books.ensures c.place_of.ensures

pub returns : goal.returns
returns c = let a = c.args in handle_asked a.at.limits.size (books_at a.at) a.handle a.call c.in_ok-of_books.ensures c.place_of.ensures c.lookup.ensures
