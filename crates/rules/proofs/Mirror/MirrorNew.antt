-- Books at the start of a day, those of an opening and those that a close leaves, mirror the empty day. Rests on such books being sound. Assumes nothing.
use Prim.Native.Nat.{ℕ, ◌<◌}
use mathlib.Core.Path.{◌≡◌, refl, sym, subst}
use mathlib.Core.Logic.{⊎_elim}
use mathlib.Core.List.{[]}
use native.Mathlib.Omega.{arith}
use Rattle.basics.proofs.Bools.{never}
use Rattle.rules.specs.declared.Place.{Place}
use Rattle.rules.specs.Sizes.{Size, Within}
use Rattle.rules.specs.Books.{Books, Shaped, place_at, freed, no_place, opened, closed}
use Rattle.rules.specs.Sound.{Sound}
use Rattle.rules.specs.Layout.{seat, walks}
use Rattle.rules.specs.Runs.{DayStarts}
use Rattle.rules.proofs.Mirror.Mirrors.{Mirrors, Mirrored}
use Rattle.rules.proofs.Mirror.CommittedHeld.{none_committed}
use Rattle.rules.proofs.Books.Shape.{place_at_opened, place_at_closed, shaped_opened, shaped_closed}
use Rattle.rules.proofs.Books.SoundnessSays.{sound_says}
use Rattle.rules.proofs.Books.SoundKept.{sound_opened, sound_closed}

-- a place that was freed stands as a seat of no records
mirrors_blank : (z : Size) (i : ℕ) (p : Place) → Mirrors z [] i (freed p)
unfolding freed seat
mirrors_blank z i p = record { status = refl; holds = never }

-- books whose places were all freed, before the first record
module _ (z : Size) where
  blank_day : (b : Books) → Shaped b → Sound z b → b.records ≡ 0 → (freed_of : ℕ → Place)
      → ((i : ℕ) → i < z.places → place_at b i ≡ freed (freed_of i)) → Mirrored z b []
  unfolding walks
  blank_day b shape sound none freed_of blank =
      record {
        shape = shape;
        sound = sound;
        counted = none;
        walking = refl;
        places = λ i h. rw (blank i h) (mirrors_blank z i (freed_of i));
        kept = none_committed z b;
      }

  module _ (w : Within z) where
    -- an opening and a close leave such books
    pub mirrored_opened : Mirrored z opened []
    unfolding opened
    mirrored_opened =
        blank_day opened shaped_opened ((sound_says z _).0 (sound_opened z)) refl (λ i. no_place) (λ i h. place_at_opened i (omega (arith, w.places)))

    pub mirrored_closed : (before : Books) → Shaped before → Mirrored z (closed before) []
    unfolding closed
    mirrored_closed before s =
        blank_day (closed before) (shaped_closed s) ((sound_says z _).0 (sound_closed z before)) refl (place_at before)
        (λ i h. place_at_closed i s (omega (arith, w.places)))

-- the books of an opening, and those that a close leaves
pub mirrored_new : (z : Size) (b : Books) → Within z → DayStarts b → Mirrored z b []
mirrored_new z b w =
    ⊎_elim (λ e. subst (λ (x : Books). Mirrored z x []) (sym e) (mirrored_opened z w))
    (λ x. subst (λ (y : Books). Mirrored z y []) (sym x.2) (mirrored_closed z w x.0 x.1))
