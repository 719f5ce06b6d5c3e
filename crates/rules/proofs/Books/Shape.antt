-- The shape of the books: which changes keep it, and what stands at a place after a change. Assumes nothing.
use Prim.Native.Nat.{ℕ, ◌<◌}
use mathlib.Core.Path.{◌≡◌, refl, sym, ◌∙◌, subst}
use mathlib.Core.Logic.{◌≢◌}
use mathlib.Core.Bool.{true, false}
use lib.ListN.{length, replicate, length-set, length-map, get_or-replicate}
use lib.Seq.{get_or-set_same, get_or-set_other}
use native.Mathlib.Omega.{arith}
use Rattle.basics.proofs.Bools.{equal_or_not}
use Rattle.basics.proofs.Elements.{get_or_map_within}
use Rattle.rules.specs.declared.Place.{Place}
use Rattle.rules.specs.Sizes.{Size, Within, yard, width}
use Rattle.rules.specs.Books.{Books, Shaped, place_at, no_place, freed, begun, posted, marked, read_marked, sealed, with_place, with_record, opened, closed, of_places, lowest_free, live_count}

-- document 01's controller fits the arrays
pub yard_within : Within yard
yard_within = record { places = omega arith; cells = omega arith }

-- ---- one place

-- a place's three lists are as wide as they are declared
pub record Wide (p : Place) : Type 0 where
  pub written : length p.written ≡ width
  pub first : length p.first ≡ width
  pub last : length p.last ≡ width

-- a place freed, begun or posted is wide, and a wide place stays so when marked, read-marked or sealed
pub wide_freed : (p : Place) → Wide (freed p)
unfolding freed
wide_freed p = record { written = refl; first = refl; last = refl }

pub wide_begun : (p : Place) (n : ℕ) → Wide (begun p n)
unfolding begun
wide_begun p n = record { written = refl; first = refl; last = refl }

pub wide_posted : (p : Place) (c n : ℕ) → Wide (posted p c n)
unfolding posted
wide_posted p c n = record { written = length-set (replicate width false) c true; first = refl; last = refl }

pub wide_marked : {p : Place} (c : ℕ) → Wide p → Wide (marked p c)
unfolding marked
wide_marked {p} c w = record { written = length-set p.written c true ∙ w.written; first = w.first; last = w.last }

pub wide_read_marked : {p : Place} (c n : ℕ) → Wide p → Wide (read_marked p c n)
unfolding read_marked
wide_read_marked c n w = record { written = w.written; first = simp length-set w.first; last = simp length-set w.last }

pub wide_sealed : {p : Place} (n : ℕ) → Wide p → Wide (sealed p n)
unfolding sealed
wide_sealed n w = record { written = w.written; first = w.first; last = w.last }

-- ---- the place of a number, after a change of the books

-- as many places as the width
inside : {b : Books} {i : ℕ} → Shaped b → i < width → i < length b.places
inside s h = omega arith

-- the changed place, any other, and the places after a record alone, an opening and a close
pub place_at_same : {b : Books} (i : ℕ) (p : Place) → Shaped b → i < width → place_at (with_place b i p) i ≡ p
unfolding with_place
place_at_same {b} i p s h = get_or-set_same b.places i p no_place (inside s h)

pub place_at_other : (b : Books) (i j : ℕ) (p : Place) → j ≢ i → place_at (with_place b i p) j ≡ place_at b j
unfolding with_place
place_at_other b i j p h = get_or-set_other b.places i j p no_place h

pub place_at_opened : (i : ℕ) → i < width → place_at opened i ≡ freed no_place
unfolding opened
place_at_opened i h = get_or-replicate width i (freed no_place) no_place h

pub place_at_closed : {b : Books} (i : ℕ) → Shaped b → i < width → place_at (closed b) i ≡ freed (place_at b i)
unfolding closed
place_at_closed {b} i s h = get_or_map_within freed b.places i no_place no_place (inside s h)

-- books that differ at one place alone: what holds of that place, and of each other as it was, holds of each
pub each_changed : (b after : Books) (i n : ℕ) → ((j : ℕ) → j < n → j ≢ i → place_at after j ≡ place_at b j) → (P : ℕ → Place → Type 0)
    → (i < n → P i (place_at after i)) → ((j : ℕ) → j < n → j ≢ i → P j (place_at b j)) → (j : ℕ) → j < n → P j (place_at after j)
each_changed b after i n others P here stays j h =
    equal_or_not j i (λ e. subst (λ (k : ℕ). P k (place_at after k)) (sym e) (here (subst (λ (k : ℕ). k < n) e h)))
    (λ other. rw (others j h other) (stays j h other))

-- ---- the shape

-- books are shaped exactly if they have as many places as the width, and each is wide
pub shaped_wide : {b : Books} (i : ℕ) → Shaped b → i < width → Wide (place_at b i)
shaped_wide i s h = record { written = s.written i h; first = s.first i h; last = s.last i h }

pub shaped_of : {b : Books} → length b.places ≡ width → ((i : ℕ) → i < width → Wide (place_at b i)) → Shaped b
shaped_of n w = record { places = n; written = λ i h. (w i h).written; first = λ i h. (w i h).first; last = λ i h. (w i h).last }

-- opened books are shaped, and the shape is kept by a close, a record, and a change to a wide place
pub shaped_opened : Shaped opened
unfolding opened
shaped_opened = shaped_of refl (λ i h. subst Wide (sym (place_at_opened i h)) (wide_freed no_place))

pub shaped_closed : {b : Books} → Shaped b → Shaped (closed b)
unfolding closed
shaped_closed {b} s = shaped_of (length-map b.places freed ∙ s.places) (λ i h. subst Wide (sym (place_at_closed i s h)) (wide_freed (place_at b i)))

pub shaped_with_record : {b : Books} → Shaped b → Shaped (with_record b)
unfolding with_record
shaped_with_record s = shaped_of s.places (λ i h. shaped_wide i s h)

pub shaped_with_place : {b : Books} (i : ℕ) {p : Place} → Wide p → Shaped b → Shaped (with_place b i p)
unfolding with_place
shaped_with_place {b} i {p} w s =
    shaped_of (length-set b.places i p ∙ s.places)
    (each_changed b (with_place b i p) i width (λ j h other. place_at_other b i j p other) (λ j q. Wide q)
    (λ h. subst Wide (sym (place_at_same i p s h)) w) (λ j h other. shaped_wide j s h))

-- who is free and who is live depends on the places alone, and not on the record count
module _ (z : Size) (b : Books) where
  pub free_by_places : lowest_free z (of_places b.places) ≡ lowest_free z b
  unfolding lowest_free
  free_by_places = refl

  pub live_by_places : live_count z (of_places b.places) ≡ live_count z b
  unfolding live_count
  live_by_places = refl
