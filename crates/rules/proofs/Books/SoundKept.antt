-- Opened books and closed books are sound, whatever the size. Assumes nothing.
use Prim.Native.Nat.{ℕ, ◌≤◌, ◌<◌}
use mathlib.Core.Path.{◌≡◌, refl, ap}
use mathlib.Core.Bool.{true, false}
use lib.ListN.{replicate}
use lib.Dec.{eqb}
use native.Mathlib.Omega.{arith}
use borrow.Author.Tests.{eqb-true}
use Rattle.basics.proofs.Below.{count_nobody}
use Rattle.basics.proofs.Elements.{get_or_replicate_same, get_or_map_all}
use Rattle.rules.specs.declared.Place.{Place}
use Rattle.rules.specs.Sizes.{Size, width, most_records}
use Rattle.rules.specs.Books.{Books, place_at, no_place, is_live, freed, opened, closed, live_count, room_taken}
use Rattle.rules.specs.Sound.{sound, Sound}
use Rattle.rules.proofs.Books.SoundnessSays.{Clear, clear_place, held_status, sound_says}

-- a free place with zero in all but its turn
abbrev pub Blank : Size → Place → Type 0
Blank z p = (p.status ≡ 0) × Clear z p

-- books whose places are all blank, with room for their records, are sound
module _ (z : Size) (b : Books) (blank : (i : ℕ) → i < z.places → Blank z (place_at b i)) where
  blank_no_live : live_count z b ≡ 0
  unfolding live_count
  blank_no_live = count_nobody (λ i. is_live (place_at b i)) z.places (λ i h. ap (λ (s : ℕ). eqb s 1) (blank i h).0)

  pub blank_sound : b.records ≤ most_records → Sound z b
  unfolding room_taken
  blank_sound room =
      record {
        room = omega (arith, blank_no_live);
        each = λ i h. clear_place z b.records (place_at b i) (blank i h).0 (blank i h).1;
        begins_differ = λ i j h k p q e. omega (arith, (blank i h).0, held_status (place_at b i) p);
        commits_differ = λ i j h k p q e. omega (arith, (blank i h).0, eqb-true (place_at b i).status 2 p);
      }

-- ---- freed places

-- no place, and a freed place, are blank
pub blank_no_place : (z : Size) → Blank z no_place
blank_no_place z = (refl, (refl, (refl, λ c h. (refl, (refl, refl)))))

pub blank_freed : (z : Size) (p : Place) → Blank z (freed p)
unfolding freed
blank_freed z p =
    (refl, (refl, (refl, λ c h. (get_or_replicate_same width c false, (get_or_replicate_same width c 0, get_or_replicate_same width c 0)))))

-- ---- opened and closed books

pub sound_closed : (z : Size) (b : Books) → sound z (closed b) ≡ true
unfolding closed
sound_closed z b =
    (sound_says z (closed b)).1
    (blank_sound z (closed b) (λ i h. get_or_map_all (Blank z) freed b.places i no_place (blank_no_place z) (blank_freed z)) (omega arith))

pub sound_opened : (z : Size) → sound z opened ≡ true
unfolding opened closed
sound_opened z = sound_closed z (record { records = 0; places = replicate width no_place })
