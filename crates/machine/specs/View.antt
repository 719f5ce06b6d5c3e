-- The machine's books and answers as the rules see them.
use Rattle.machine.specs.declared.books.Books.{Books}
use Rattle.machine.specs.declared.books.Answer.{Answer}
use Rattle.machine.specs.declared.books.Told.{Told}
use Rattle.effects.specs.Stepped.{Step, answer_in}
use Rattle.rules.specs.Refusals.{said}
use Rattle.rules.specs.Books.{Books as RuleBooks, books_of}
use Rattle.rules.specs.State.{Outcome}

-- the same records and the same places
abbrev pub view : Books → RuleBooks
view b = books_of b.records b.places

abbrev pub books_back : RuleBooks → Books
books_back b = record { records = b.records; places = b.places }

-- an answer in document 01's numbers: the number, the handle or count (else 0), and the new books
abbrev pub in_numbers : Answer → Told
in_numbers a = record { number = said a.given; answer = answer_in a.given; books = a.books }

-- by the outcome of its rule: the number, the handle or count, and the books after it
abbrev pub answer_of : Outcome → Told
answer_of o = record { number = o.number; answer = o.answer; books = books_back o.after.books }

-- what a step comes to, as an answer
abbrev pub answer_of_step : Step → Answer
answer_of_step s = record { given = s.given; books = record { records = s.records; places = s.places } }
