-- `sound::whole::are_sound` meets its contract: the room, the places, the begin and the commit records are asked in this order.
-- Rests on the contracts of `columns_of`, `each_sound` and `are_apart`.
use Prim.Native.Nat.{ℕ, ◌≤◌, ◌+◌}
use mathlib.Core.Path.{◌≡◌, ◌∙◌}
use mathlib.Core.Bool.{◌&&◌}
use mathlib.Core.List.{List}
use native.Mathlib.Omega.{arith}
use lib.Dec.{leb}
use Rattle.std.proofs.lemmas.Bool.Decides.{nat_tests}
use Rattle.basics.specs.Below.{all_below}
use Rattle.basics.proofs.Below.{count_at_most}
use Rattle.rules.specs.declared.Place.{Place}
use Rattle.rules.specs.declared.Size.{Size}
use Rattle.rules.specs.Sizes.{width, most_records}
use Rattle.rules.specs.Books.{Books, books_of, of_places, place_at, is_live, is_held, is_committed, live_count, room_taken}
use Rattle.rules.specs.Sound.{sound, place_sound}
use Rattle.rules.proofs.Books.Shape.{live_by_places}
use Rattle.survey.specs.declared.columns.Columns.{Columns}
use Rattle.survey.specs.Columned.{Columned}
use Rattle.sound_keys.specs.Apart.{apart}
use Rattle.sound_keys.proofs.Differ.{apart_is_differ}
use Rattle.sound.proofs.whole.are_sound.Goals as goal

-- no more are live than there are places
live_at_most : (z : Size) (b : Books) → live_count z b ≤ z.places
unfolding live_count
live_at_most z b = count_at_most (λ i. is_live (place_at b i)) z.places

-- what is asked of the columns is what is asked of the books
module _ (z : Size) (fits : z.places ≤ width) (records : ℕ) (places : List Place) (columns : Columns) (columned : Columned z (of_places places) columns) where
  abbrev books : Books
  books = books_of records places

  -- the live ones that were counted
  counted_live : columns.live ≡ live_count z books
  counted_live = columned.live ∙ live_by_places z books

  asked_of_columns : sound z books
      ≡ leb (records + columns.live) most_records
      && (all_below (λ i. place_sound z records (place_at books i)) z.places
      && (all_below (apart columns.held columns.begins) z.places && all_below (apart columns.committed columns.commits) z.places))
  unfolding sound room_taken
  asked_of_columns =
      rw (
        counted_live,
        apart_is_differ z fits books is_held (λ p. p.begin) columns.held columns.begins columned.held columned.begins,
        apart_is_differ z fits books is_committed (λ p. p.commit) columns.committed columns.commits columned.committed columned.commits,
      )

pub overflow_add-at : goal.overflow_add-at
overflow_add-at c =
    let a = c.args in
    omega (arith, counted_live a.at.limits.size a.at.limits.within.places a.at.records a.at.places.now _ c.columns_of-seen.ensures, live_at_most a.at.limits.size (books_of a.at.records a.at.places.now))

pub returns-then-are_apart : goal.returns-then-are_apart
returns-then-are_apart c =
    let a = c.args in
    let says = asked_of_columns a.at.limits.size a.at.limits.within.places a.at.records a.at.places.now _ c.columns_of-seen.ensures in
    grind (arith, nat_tests)

pub returns-else-are_apart : goal.returns-else-are_apart
returns-else-are_apart c =
    let a = c.args in
    let says = asked_of_columns a.at.limits.size a.at.limits.within.places a.at.records a.at.places.now _ c.columns_of-seen.ensures in
    grind (arith, nat_tests)
