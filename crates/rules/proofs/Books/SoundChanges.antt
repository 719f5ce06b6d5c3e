-- Each change of a place fits, and books stay sound with one place changed and one record more. Rests on the shape of changed places, on the clauses
-- of soundness and on the step of one record. Assumes nothing.
use Prim.Native.Nat.{ℕ, ◌+◌, ◌≤◌, ◌<◌}
use mathlib.Core.Path.{◌≡◌, refl, sym, subst}
use mathlib.Core.Logic.{◌⊎◌, inl, inr, ⊎_elim}
use mathlib.Core.Bool.{true}
use lib.ListN.{get_or}
use lib.Seq.{get_or-set_same, get_or-set_other}
use lib.Dec.{eqb}
use native.Mathlib.Omega.{arith}
use borrow.Author.Tests.{eqb-true, eqb-false}
use Rattle.basics.proofs.Bools.{split, equal_or_not, never}
use Rattle.basics.proofs.Elements.{get_or_replicate_same}
use Rattle.rules.specs.declared.Place.{Place}
use Rattle.rules.specs.Sizes.{Size, Within, width, most_records}
use Rattle.rules.specs.Books.{Books, Shaped, place_at, is_held, first_read, last_read, first_kept, no_reads, freed, begun, posted, marked, read_marked, sealed, with_place, with_record, room_taken}
use Rattle.rules.specs.Sound.{SoundPlace, Sound}
use Rattle.rules.proofs.Books.Shape.{Wide, place_at_same, place_at_other}
use Rattle.rules.proofs.Books.SoundnessSays.{ReadsSound, HeldSound, clear_place, held_place, held_of_place, held_says}
use Rattle.rules.proofs.Books.SoundStep.{Fits, sound_after}
use Rattle.rules.proofs.Books.SoundKept.{blank_freed}

-- ---- each change of a place

-- a held place is sound as a held one with more records
held_more : (z : Size) (n : ℕ) (p : Place) → HeldSound z n p → HeldSound z (n + 1) p
held_more z n p s = (s.0, (omega arith, λ c h. ⊎_elim inl (λ r. inr (r.0, (r.1.0, omega arith))) (s.1.1 c h)))

-- a live place has status 1, and is no committed one
not_two : {n : ℕ} → n ≡ 1 → eqb n 2 ≡ true → ⊥
not_two {n} one e = let two : n ≡ 2 = eqb-true n 2 e in omega arith

-- free places: begun and posted
module _ (z : Size) (b : Books) (p : Place) (free : p.status ≡ 0) where
  abbrev n : ℕ
  n = b.records + 1

  -- a place that begins at that record and has no reads is sound as a held one
  no_read : (c : ℕ) → get_or no_reads c 0 ≡ 0
  no_read c = get_or_replicate_same width c 0

  held_unread : (q : Place) → q.begin ≡ n → q.first ≡ no_reads → q.last ≡ no_reads → HeldSound z n q
  held_unread q begins first last = (omega arith, (omega arith, λ c h. inl (rw first (no_read c), rw last (no_read c))))

  pub fits_begun : room_taken z b + 2 ≤ most_records → Fits z b p (begun p n)
  unfolding begun
  fits_begun room =
      record {
        alone = held_place z n (begun p n) (omega arith) (omega arith) (held_unread (begun p n) refl refl refl) (omega arith) (λ l. refl) (λ e. omega arith);
        begin = λ h. inl refl;
        commit = never;
        room = rw free (omega arith);
      }

  pub fits_posted : (c : ℕ) → room_taken z b + 1 ≤ most_records → Fits z b p (posted p c n)
  unfolding posted
  fits_posted c room =
      record {
        alone =
            held_place z n (posted p c n) (omega arith) (omega arith) (held_unread (posted p c n) refl refl refl) (omega arith) (λ l. omega arith)
            (λ e. omega arith);
        begin = λ h. inl refl;
        commit = λ e. inl refl;
        room = rw free (omega arith);
      }

-- the first read once there is one at record n
kept_ordered : (begin first last n : ℕ) → begin ≤ n → ((first ≡ 0) × (last ≡ 0)) ⊎ ((begin ≤ first) × ((first ≤ last) × (last ≤ n)))
    → (begin ≤ first_kept first n) × (first_kept first n ≤ n)
kept_ordered begin first last n h =
    split (eqb first 0) (λ e r. rw e (h, omega arith))
    (λ e r. rw e (⊎_elim (λ none. absurd (eqb-false first 0 e none.0)) (λ some. (some.0, omega arith)) r))

-- live places: freed, left, marked, read-marked and sealed
module _ (z : Size) (b : Books) (p : Place) (s : SoundPlace z b.records p) (live : p.status ≡ 1) where
  abbrev next : ℕ
  next = b.records + 1

  is_held_here : is_held p ≡ true
  is_held_here = (held_says p).1 (inl live)

  as_held : HeldSound z next p
  as_held = held_more z b.records p (held_of_place z b.records p is_held_here s)

  unsealed : p.commit ≡ 0
  unsealed = s.live_unsealed (rw live)

  pub fits_freed : room_taken z b ≤ most_records → Fits z b p (freed p)
  unfolding freed
  fits_freed room =
      record {
        alone = let blank = blank_freed z p in clear_place z next (freed p) blank.0 blank.1;
        begin = never;
        commit = never;
        room = rw live (omega arith);
      }

  pub fits_same : room_taken z b + 1 ≤ most_records → Fits z b p p
  fits_same room =
      record {
        alone = held_place z next p (omega arith) (omega arith) as_held (omega (arith, unsealed)) (λ l. unsealed) (λ e. omega arith);
        begin = λ h. inr (h, refl);
        commit = λ e. absurd (not_two live e);
        room = rw live (omega arith);
      }

  pub fits_marked : (c : ℕ) → room_taken z b + 1 ≤ most_records → Fits z b p (marked p c)
  unfolding marked
  fits_marked c room =
      record {
        alone = held_place z next (marked p c) (omega arith) (omega arith) as_held (omega (arith, unsealed)) (λ l. unsealed) (λ e. omega arith);
        begin = λ h. inr (h, refl);
        commit = λ e. absurd (not_two live e);
        room = rw live (omega arith);
      }

  pub fits_sealed : room_taken z b ≤ most_records → Fits z b p (sealed p next)
  unfolding sealed
  fits_sealed room =
      record {
        alone = held_place z next (sealed p next) (omega arith) (omega arith) as_held (omega arith) (λ l. omega arith) (λ e. as_held.1.0);
        begin = λ h. inr (is_held_here, refl);
        commit = λ e. inl refl;
        room = rw live (omega arith);
      }

  module _ (c : ℕ) (w : Wide p) (inside : c < width) where
    -- the reads of that cell, and of any other
    first_here : first_read (read_marked p c next) c ≡ first_kept (first_read p c) next
    unfolding read_marked
    first_here = get_or-set_same p.first c _ 0 (omega (arith, w.first))

    last_here : last_read (read_marked p c next) c ≡ next
    unfolding read_marked
    last_here = get_or-set_same p.last c next 0 (omega (arith, w.last))

    reads_here : ReadsSound next p c → ReadsSound next (read_marked p c next) c
    unfolding read_marked
    reads_here r =
        let kept = kept_ordered p.begin (first_read p c) (last_read p c) next as_held.1.0 r in
        inr (rw (first_here, last_here) (kept.0, (kept.1, omega arith)))

    reads_other : (k : ℕ) → (k ≡ c → ⊥) → ReadsSound next p k → ReadsSound next (read_marked p c next) k
    unfolding read_marked
    reads_other k other r =
        let first = get_or-set_other p.first c k (first_kept (first_read p c) next) 0 other in
        let last = get_or-set_other p.last c k next 0 other in
        rw (first, last) r

    reads_after : (k : ℕ) → k < z.cells → ReadsSound next (read_marked p c next) k
    reads_after k h =
        equal_or_not k c (λ e. subst (ReadsSound next (read_marked p c next)) (sym e) (reads_here (as_held.1.1 c (omega arith))))
        (λ other. reads_other k other (as_held.1.1 k h))

    pub fits_read_marked : room_taken z b + 1 ≤ most_records → Fits z b p (read_marked p c next)
    unfolding read_marked
    fits_read_marked room =
        record {
          alone =
              held_place z next (read_marked p c next) (omega arith) (omega arith) (as_held.0, (as_held.1.0, reads_after)) (omega (arith, unsealed))
              (λ l. unsealed) (λ e. omega arith);
          begin = λ h. inr (h, refl);
          commit = λ e. absurd (not_two live e);
          room = rw live (omega arith);
        }

-- ---- the books after each call

-- the changed books: place i changed, and a record alone
module _ (z : Size) (b : Books) (i : ℕ) (s : Sound z b) (there : i < z.places) where
  pub sound_with_place : (p : Place) → Within z → Shaped b → Fits z b (place_at b i) p → Sound z (with_place b i p)
  unfolding with_place
  sound_with_place p w shape f =
      sound_after z b (with_place b i p) i there s (λ j h other. place_at_other b i j p other) refl
      (rw (place_at_same i p shape (omega (arith, w.places))) f)

  pub sound_with_record : Fits z b (place_at b i) (place_at b i) → Sound z (with_record b)
  unfolding with_record
  sound_with_record f = sound_after z b (with_record b) i there s (λ j h other. refl) refl f
