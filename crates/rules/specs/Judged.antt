-- Document 01, "What is judged": a judged call is weighed with itself counted as granted, and granted or turned back.
use Rattle.std.specs.Prelude.{ℕ, Bool, cond, List}
use Rattle.rules.specs.declared.Place.{Place}
use Rattle.rules.specs.Sizes.{Size}
use Rattle.rules.specs.Books.{Books, place_at, freed, with_place}
use Rattle.rules.specs.Judging.{has_cycle}
use Rattle.rules.specs.Numbers.{granted, conflict}
use Rattle.rules.specs.Daylog.{no_value}
use Rattle.rules.specs.State.{State, Outcome, recorded, with_books, record_at}

-- what is weighed of a judged call, counted as granted
pub record Judged : Type 0 where
  -- the record that it adds: kind, cell and value
  pub kind : ℕ
  pub cell : ℕ
  pub value : List ℕ
  -- the caller's place, the table and the drafts then
  pub place : Place
  pub table : List ℕ
  pub drafts : List ℕ
  -- the kind of its Conflict
  pub back : ℕ

-- the books as they would be if it were granted
unfoldable pub books_granted : Books → ℕ → Judged → Books
books_granted b i j = with_place b i j.place

-- granted: one record more, and place, table and drafts as weighed
unfoldable pub granted_of : State → ℕ → Judged → Outcome
granted_of s i j =
    recorded granted 0 (record { books = books_granted s.books i j; table = j.table; drafts = j.drafts })
    (record_at j.kind i (place_at s.books i) j.cell j.value)

-- Conflict ends the caller's transaction, frees its place and adds one record
unfoldable pub turned_back : State → ℕ → ℕ → ℕ → Outcome
turned_back s kind i c =
    let p = place_at s.books i in
    recorded conflict 0 (with_books s (with_place s.books i (freed p))) (record_at kind i p c no_value)

-- Conflict exactly if the pairs contain a cycle; that the test says so is the theorem `given_orders` (`cycle_told`)
unfoldable pub meets_conflict : Size → Books → ℕ → Bool
meets_conflict z b i = has_cycle z b i

-- a judged call is weighed with itself counted as granted, in the books as they would then be
unfoldable pub judged_of : Size → State → ℕ → Judged → Outcome
judged_of z s i j = cond (meets_conflict z (books_granted s.books i j) i) (turned_back s j.back i j.cell) (granted_of s i j)
