-- Document 01, "Books": what the books hold, and how a place changes.
use Rattle.std.specs.Prelude.{ℕ, ◌+◌, ◌%◌, ◌<◌, ◌≡◌, Bool, true, false, ◌||◌, cond, List, [], map, length, get_or, set, replicate, eqb}
use Rattle.basics.specs.Below.{count_below, least_below}
use Rattle.rules.specs.declared.Place.{Place}
use Rattle.rules.specs.declared.Controller.{Controller}
use Rattle.rules.specs.Sizes.{Size, turns, width}

-- the record count and the places
pub record Books : Type 0 where
  pub records : ℕ
  pub places : List Place

-- ---- a place's status

abbrev pub free_status : ℕ
free_status = 0

abbrev pub live_status : ℕ
live_status = 1

abbrev pub committed_status : ℕ
committed_status = 2

abbrev pub is_free : Place → Bool
is_free p = eqb p.status free_status

abbrev pub is_live : Place → Bool
is_live p = eqb p.status live_status

abbrev pub is_committed : Place → Bool
is_committed p = eqb p.status committed_status

-- a held place is live or committed
abbrev pub held_status : ℕ → Bool
held_status status = eqb status live_status || eqb status committed_status

abbrev pub is_held : Place → Bool
is_held p = held_status p.status

-- ---- what a place holds for a cell

-- the cell is written
abbrev pub wrote : Place → ℕ → Bool
wrote p c = get_or p.written c false

-- the first judged read of the cell, 0 for none
abbrev pub first_read : Place → ℕ → ℕ
first_read p c = get_or p.first c 0

-- the last judged read of the cell, 0 for none
abbrev pub last_read : Place → ℕ → ℕ
last_read p c = get_or p.last c 0

-- ---- changes of a place

-- no cell written, no read
abbrev pub no_cells : List Bool
no_cells = replicate width false

abbrev pub no_reads : List ℕ
no_reads = replicate width 0

-- a turn goes up by one and passes from 65,535 to 0
abbrev pub next_turn : ℕ → ℕ
next_turn t = (t + 1) % turns

-- a free place with that turn: zero in all else
abbrev pub blank : ℕ → Place
blank turn = record { turn = turn; status = free_status; begin = 0; commit = 0; written = no_cells; first = no_reads; last = no_reads }

-- freed: zero in all but the turn
unfoldable pub freed : Place → Place
freed p = blank p.turn

-- begun at record n: live, the turn one up
unfoldable pub begun : Place → ℕ → Place
begun p n = record { turn = next_turn p.turn; status = live_status; begin = n; commit = 0; written = no_cells; first = no_reads; last = no_reads }

-- begin, write of the cell and commit in one record, n
unfoldable pub posted : Place → ℕ → ℕ → Place
posted p c n = record { turn = next_turn p.turn; status = committed_status; begin = n; commit = n; written = set no_cells c true; first = no_reads; last = no_reads }

-- the cell marked written
unfoldable pub marked : Place → ℕ → Place
marked p c = record { turn = p.turn; status = p.status; begin = p.begin; commit = p.commit; written = set p.written c true; first = p.first; last = p.last }

-- the first judged read once there is one at record n: an earlier one is kept
abbrev pub first_kept : ℕ → ℕ → ℕ
first_kept earlier n = cond (eqb earlier 0) n earlier

-- a judged read of the cell at record n: the first is kept, the last moves
unfoldable pub read_marked : Place → ℕ → ℕ → Place
read_marked p c n = record { turn = p.turn; status = p.status; begin = p.begin; commit = p.commit; written = p.written; first = set p.first c (first_kept (first_read p c) n); last = set p.last c n }

-- committed at record n
unfoldable pub sealed : Place → ℕ → Place
sealed p n = record { turn = p.turn; status = committed_status; begin = p.begin; commit = n; written = p.written; first = p.first; last = p.last }

-- ---- the books as a whole

-- what stands for a place that is not there
abbrev pub no_place : Place
no_place = record { turn = 0; status = 0; begin = 0; commit = 0; written = []; first = []; last = [] }

-- the place of a number
abbrev pub place_at : Books → ℕ → Place
place_at b i = get_or b.places i no_place

-- books by their record count and their places
abbrev pub books_of : ℕ → List Place → Books
books_of records places = record { records = records; places = places }

-- the books of a controller
abbrev pub books_at : Controller → Books
books_at k = books_of k.records k.places.now

-- the record that a call adds has this number
abbrev pub number_of : Books → ℕ
number_of b = b.records + 1

-- books with these places, for what does not depend on the record count
abbrev pub of_places : List Place → Books
of_places places = books_of 0 places

-- one record more, and the place of that number changed
unfoldable pub with_place : Books → ℕ → Place → Books
with_place b i p = record { records = b.records + 1; places = set b.places i p }

-- one record more, no place changed
unfoldable pub with_record : Books → Books
with_record b = record { records = b.records + 1; places = b.places }

-- every place free, turns 0, no records
unfoldable pub opened : Books
opened = record { records = 0; places = replicate width (freed no_place) }

-- every place freed, turns kept, no records
unfoldable pub closed : Books → Books
closed b = record { records = 0; places = map freed b.places }

-- the lowest free place; the number of places if none is free
unfoldable pub lowest_free : Size → Books → ℕ
lowest_free z b = least_below (λ i. is_free (place_at b i)) z.places

-- no place is free
unfoldable pub no_free : Size → Books → Bool
no_free z b = eqb (lowest_free z b) z.places

-- how many transactions are live
unfoldable pub live_count : Size → Books → ℕ
live_count z b = count_below (λ i. is_live (place_at b i)) z.places

-- the room taken in the log: the records, and one for each live transaction to end with
unfoldable pub room_taken : Size → Books → ℕ
room_taken z b = b.records + live_count z b

-- the arrays are as wide as they are declared
pub record Shaped (b : Books) : Type 0 where
  pub places : length b.places ≡ width
  pub written : (i : ℕ) → i < width → length (place_at b i).written ≡ width
  pub first : (i : ℕ) → i < width → length (place_at b i).first ≡ width
  pub last : (i : ℕ) → i < width → length (place_at b i).last ≡ width
