-- One record more: books stay sound whatever places changed, if each place is sound by itself, has the records that stood there, or is the one
-- place that has the new record, and the log has room. So they do if one place changed and what stands there now fits. Assumes nothing.
use Prim.Native.Nat.{ℕ, ◌+◌, ◌≤◌, ◌<◌}
use mathlib.Core.Path.{◌≡◌, refl, sym, ◌∙◌, ap}
use mathlib.Core.Logic.{◌⊎◌, inl, inr, ⊎_elim}
use mathlib.Core.Bool.{Bool, true, cond}
use native.Mathlib.Omega.{arith}
use Rattle.basics.proofs.Below.{count_changed}
use Rattle.rules.specs.declared.Place.{Place}
use Rattle.rules.specs.Sizes.{Size, most_records}
use Rattle.rules.specs.Books.{Books, place_at, is_live, is_committed, is_held, live_count, room_taken}
use Rattle.rules.specs.Sound.{SoundPlace, Sound}
use Rattle.rules.proofs.Books.Shape.{each_changed}
use Rattle.rules.proofs.Books.SoundnessSays.{Differ}

-- ---- any places changed

-- place j has, if it passes, the record that stood there; or it is place i and has record n
abbrev NewOrOld : (Place → Bool) → (Place → ℕ) → ℕ → ℕ → ℕ → Place → Place → Type 0
NewOrOld passes key n i j old new = passes new ≡ true → ((j ≡ i) × (key new ≡ n)) ⊎ ((passes old ≡ true) × (key new ≡ key old))

-- the books after one record more: place i alone may begin or commit with it
pub record Follows (z : Size) (b after : Books) (i : ℕ) : Type 0 where
  pub more : after.records ≡ b.records + 1
  pub room : room_taken z after ≤ most_records
  pub each : (j : ℕ) → j < z.places → SoundPlace z (b.records + 1) (place_at after j)
  pub begins : (j : ℕ) → j < z.places → NewOrOld is_held (λ p. p.begin) (b.records + 1) i j (place_at b j) (place_at after j)
  pub commits : (j : ℕ) → j < z.places → NewOrOld is_committed (λ p. p.commit) (b.records + 1) i j (place_at b j) (place_at after j)

module _ (z : Size) (b after : Books) (i : ℕ) (s : Sound z b) where
  -- records that differed still do
  still_apart : (passes : Place → Bool) (key : Place → ℕ) → Differ z b passes key → ((j : ℕ) → j < z.places → key (place_at b j) ≤ b.records)
      → ((j : ℕ) → j < z.places → NewOrOld passes key (b.records + 1) i j (place_at b j) (place_at after j)) → Differ z after passes key
  still_apart passes key apart counted stands j k h m p q e =
      ⊎_elim
      (λ new. ⊎_elim (λ also. new.0 ∙ sym also.0) (λ old. absurd (omega (arith, counted k m))) (stands k m q))
      (λ old.
      ⊎_elim (λ new. absurd (omega (arith, counted j h))) (λ also. apart j k h m old.0 also.0 (sym old.1 ∙ e ∙ also.1)) (stands k m q))
      (stands j h p)

  pub sound_follows : Follows z b after i → Sound z after
  sound_follows f =
      record {
        room = f.room;
        each = λ j h. rw f.more (f.each j h);
        begins_differ = still_apart is_held (λ p. p.begin) s.begins_differ (λ j h. (s.each j h).begin_counted) f.begins;
        commits_differ = still_apart is_committed (λ p. p.commit) s.commits_differ (λ j h. (s.each j h).commit_counted) f.commits;
      }

-- ---- one place changed

-- a sound place is sound with more records
sound_more : (z : Size) (n m : ℕ) (p : Place) → n ≤ m → SoundPlace z n p → SoundPlace z m p
sound_more z n m p h s =
    record {
      status_known = s.status_known;
      free_clear = s.free_clear;
      begin_counted = omega (arith, s.begin_counted);
      commit_counted = omega (arith, s.commit_counted);
      first_counted = λ c k. omega (arith, s.first_counted c k);
      last_counted = λ c k. omega (arith, s.last_counted c k);
      held_begun = s.held_begun;
      committed_sealed = s.committed_sealed;
      live_unsealed = s.live_unsealed;
      reads_ordered = s.reads_ordered;
      begin_first = s.begin_first;
    }

-- a place may stand where another stood, with one record more
pub record Fits (z : Size) (b : Books) (old new : Place) : Type 0 where
  -- it is sound by itself
  pub alone : SoundPlace z (b.records + 1) new
  -- its begin record and its commit record are the new record or those that stood there
  pub begin : is_held new ≡ true → (new.begin ≡ b.records + 1) ⊎ ((is_held old ≡ true) × (new.begin ≡ old.begin))
  pub commit : is_committed new ≡ true → (new.commit ≡ b.records + 1) ⊎ ((is_committed old ≡ true) × (new.commit ≡ old.commit))
  -- the log has room
  pub room : room_taken z b + 1 + cond (is_live new) 1 0 ≤ most_records + cond (is_live old) 1 0

-- books that differ from sound ones at place i alone, where a place stands that fits
module _ (z : Size) (b after : Books) (i : ℕ) (there : i < z.places) (s : Sound z b)
    (others : (j : ℕ) → j < z.places → (j ≡ i → ⊥) → place_at after j ≡ place_at b j) where
  live_changed : live_count z after + cond (is_live (place_at b i)) 1 0 ≡ live_count z b + cond (is_live (place_at after i)) 1 0
  unfolding live_count
  live_changed = count_changed _ _ z.places i there (λ j h other. ap is_live (others j h other))

  -- what holds of place i and what stood there, and of every place that stays as it was, holds of each
  each_place : (P : ℕ → Place → Place → Type 0) → P i (place_at b i) (place_at after i)
      → ((j : ℕ) → j < z.places → P j (place_at b j) (place_at b j)) → (j : ℕ) → j < z.places → P j (place_at b j) (place_at after j)
  each_place P here stays = each_changed b after i z.places others (λ j. P j (place_at b j)) (λ h. here) (λ j h other. stays j h)

  pub sound_after : after.records ≡ b.records + 1 → Fits z b (place_at b i) (place_at after i) → Sound z after
  unfolding room_taken
  sound_after more f =
      sound_follows z b after i s
      (record {
        more = more;
        room = omega (arith, live_changed, f.room);
        each =
            each_place (λ j old new. SoundPlace z (b.records + 1) new) f.alone
            (λ j h. sound_more z b.records (b.records + 1) (place_at b j) (omega arith) (s.each j h));
        begins = each_place (NewOrOld is_held (λ p. p.begin) (b.records + 1) i) (λ p. ⊎_elim (λ new. inl (refl, new)) inr (f.begin p)) (λ j h p. inr (p, refl));
        commits = each_place (NewOrOld is_committed (λ p. p.commit) (b.records + 1) i) (λ p. ⊎_elim (λ new. inl (refl, new)) inr (f.commit p)) (λ j h p. inr (p, refl));
      })
