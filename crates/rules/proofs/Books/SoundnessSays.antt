-- The test of soundness says what the clauses of soundness say. Assumes nothing.
use Prim.Native.Nat.{ℕ, ◌≤◌, ◌<◌}
use mathlib.Core.Path.{◌≡◌, sym}
use mathlib.Core.Logic.Iff
use mathlib.Core.Logic.{◌↔◌, ◌⊎◌, inl, inr, ⊎_elim}
use mathlib.Core.Bool.{Bool, true, false, ◌&&◌}
use lib.Dec.{eqb}
use borrow.Author.Tests.{eqb-true, eqb-false}
use native.Mathlib.Decide.{dec_lt}
use native.Mathlib.Omega.{arith}
use Rattle.rules.specs.declared.Place.{Place}
use Rattle.rules.specs.Sizes.{Size, most_records}
use Rattle.rules.specs.Books.{Books, place_at, is_free, is_live, is_committed, is_held, wrote, first_read, last_read, room_taken}
use Rattle.rules.specs.Sound.{cells_clear, is_clear, read_sound, reads_sound, held_sound, commit_sound, place_sound, differ, sound, SoundPlace, Sound}
use Rattle.basics.proofs.Bools.{never}
use Rattle.basics.proofs.Says.{eqb_says, leb_says, not_says, not_says_not, and_says, or_says, cond_says, all_says}

-- ---- one place

-- a held place is live or committed, so its status is not 0
pub held_says : (p : Place) → (is_held p ≡ true) ↔ ((p.status ≡ 1) ⊎ (p.status ≡ 2))
held_says p = or_says (eqb_says p.status 1) (eqb_says p.status 2)

pub held_status : (p : Place) → is_held p ≡ true → 1 ≤ p.status
held_status p e = ⊎_elim (λ (l : p.status ≡ 1). omega arith) (λ (c : p.status ≡ 2). omega arith) ((held_says p).0 e)

-- what the tests of a place's parts say
abbrev pub Clear : Size → Place → Type 0
Clear z p = (p.begin ≡ 0) × ((p.commit ≡ 0) × ((c : ℕ) → c < z.cells → (wrote p c ≡ false) × ((first_read p c ≡ 0) × (last_read p c ≡ 0))))

abbrev pub ReadsSound : ℕ → Place → ℕ → Type 0
ReadsSound records p c = ((first_read p c ≡ 0) × (last_read p c ≡ 0)) ⊎ ((p.begin ≤ first_read p c) × ((first_read p c ≤ last_read p c) × (last_read p c ≤ records)))

abbrev pub HeldSound : Size → ℕ → Place → Type 0
HeldSound z records p = (1 ≤ p.begin) × ((p.begin ≤ records) × ((c : ℕ) → c < z.cells → ReadsSound records p c))

-- the reads of a cell, as the clauses have them
abbrev ReadsOrdered : Place → ℕ → Type 0
ReadsOrdered p c = ((first_read p c ≡ 0) × (last_read p c ≡ 0)) ⊎ ((first_read p c ≤ last_read p c) × (p.begin ≤ first_read p c) × (p.begin ≤ last_read p c))

module _ (z : Size) (records : ℕ) (p : Place) where
  -- each test of a part says it
  clear_says : (is_clear z p ≡ true) ↔ Clear z p
  unfolding is_clear cells_clear
  clear_says =
      and_says (eqb_says p.begin 0)
      (and_says (eqb_says p.commit 0)
      (all_says _ z.cells λ c h. and_says (not_says (wrote p c)) (and_says (eqb_says (first_read p c) 0) (eqb_says (last_read p c) 0))))

  reads_say : (c : ℕ) → (reads_sound records p c ≡ true) ↔ ReadsSound records p c
  unfolding read_sound reads_sound
  reads_say c =
      or_says (and_says (eqb_says (first_read p c) 0) (eqb_says (last_read p c) 0))
      (and_says (leb_says p.begin (first_read p c)) (and_says (leb_says (first_read p c) (last_read p c)) (leb_says (last_read p c) records)))

  held_sound_says : (held_sound z records p ≡ true) ↔ HeldSound z records p
  unfolding held_sound
  held_sound_says =
      and_says (leb_says 1 p.begin) (and_says (leb_says p.begin records) (all_says _ z.cells λ c h. reads_say c))

  commit_sound_says : (commit_sound records p ≡ true) ↔ ((p.begin ≤ p.commit) × (p.commit ≤ records))
  unfolding commit_sound
  commit_sound_says = and_says (leb_says p.begin p.commit) (leb_says p.commit records)

  -- reads are sound exactly if they are counted and ordered
  reads_counted : (c : ℕ) → ReadsSound records p c → (first_read p c ≤ records) × (last_read p c ≤ records)
  reads_counted c = ⊎_elim (λ none. omega arith) (λ some. omega arith)

  reads_ordered_of : (c : ℕ) → ReadsSound records p c → ReadsOrdered p c
  reads_ordered_of c = ⊎_elim inl (λ some. inr (omega arith))

  reads_sound_of : (c : ℕ) → last_read p c ≤ records → ReadsOrdered p c → ReadsSound records p c
  reads_sound_of c counted = ⊎_elim inl (λ some. inr (omega arith))

  -- a free place is sound if it is clear
  pub clear_place : p.status ≡ 0 → Clear z p → SoundPlace z records p
  clear_place free s =
      record {
        status_known = omega arith;
        free_clear = λ e. (s.0, s.1.0, λ c h. let r = s.1.1 c h in (r.0, r.1.0, r.1.1));
        begin_counted = omega arith;
        commit_counted = omega arith;
        first_counted = λ c h. omega (arith, (s.1.1 c h).1.0);
        last_counted = λ c h. omega (arith, (s.1.1 c h).1.1);
        held_begun = λ e. omega (arith, held_status p e);
        committed_sealed = λ e. omega (arith, eqb-true p.status 2 e);
        live_unsealed = λ e. s.1.0;
        reads_ordered = λ c h. inl (s.1.1 c h).1;
        begin_first = λ e. omega arith;
      }

  -- a held place is sound if it is so as a held one, and its commit record is as its status asks
  pub held_place : 1 ≤ p.status → p.status ≤ 2 → HeldSound z records p → p.commit ≤ records → (p.status ≡ 1 → p.commit ≡ 0) → (p.status ≡ 2 → p.begin ≤ p.commit) → SoundPlace z records p
  held_place held known s counted live committed =
      record {
        status_known = known;
        free_clear = λ e. let free : p.status ≡ 0 = eqb-true p.status 0 e in absurd (omega arith);
        begin_counted = s.1.0;
        commit_counted = counted;
        first_counted = λ c h. (reads_counted c (s.1.1 c h)).0;
        last_counted = λ c h. (reads_counted c (s.1.1 c h)).1;
        held_begun = λ e. s.0;
        committed_sealed = λ e. omega (arith, committed (eqb-true p.status 2 e));
        live_unsealed = λ e. live (eqb-true p.status 1 e);
        reads_ordered = λ c h. reads_ordered_of c (s.1.1 c h);
        begin_first = λ e. committed (eqb-true p.status 2 e);
      }

  -- and so it is as a held one, if it is sound
  pub held_of_place : is_held p ≡ true → SoundPlace z records p → HeldSound z records p
  held_of_place e s = (s.held_begun e, (s.begin_counted, λ c h. reads_sound_of c (s.last_counted c h) (s.reads_ordered c h)))

  -- a place of each status
  free_says : is_free p ≡ true → (is_clear z p ≡ true) ↔ SoundPlace z records p
  free_says e =
      Iff.trans clear_says (
        clear_place (eqb-true p.status 0 e),
        λ s. let f = s.free_clear e in (f.0, (f.1, λ c h. let r = f.2 c h in (r.0, (r.1, r.2)))),
      )

  live_says : is_live p ≡ true → (held_sound z records p && eqb p.commit 0 ≡ true) ↔ SoundPlace z records p
  live_says e =
      let live : p.status ≡ 1 = eqb-true p.status 1 e in
      Iff.trans (and_says held_sound_says (eqb_says p.commit 0)) (
        λ s. held_place (omega arith) (omega arith) s.0 (omega arith) (λ l. s.1) (λ c. omega arith),
        λ s. (held_of_place ((held_says p).1 (inl live)) s, s.live_unsealed e),
      )

  committed_says : is_committed p ≡ true → (held_sound z records p && commit_sound records p ≡ true) ↔ SoundPlace z records p
  committed_says e =
      let committed : p.status ≡ 2 = eqb-true p.status 2 e in
      Iff.trans (and_says held_sound_says commit_sound_says) (
        λ s. held_place (omega arith) (omega arith) s.0 s.1.1 (λ l. omega arith) (λ c. s.1.0),
        λ s. (held_of_place ((held_says p).1 (inr committed)) s, (s.begin_first e, s.commit_counted)),
      )

  -- the test of a place says what the clauses say of it
  pub place_sound_says : (place_sound z records p ≡ true) ↔ SoundPlace z records p
  unfolding place_sound
  place_sound_says =
      cond_says (is_free p) free_says λ f.
      cond_says (is_live p) live_says λ l.
      cond_says (is_committed p) committed_says λ c.
      (never, λ s. absurd (omega (arith, s.status_known, eqb-false p.status 0 f, eqb-false p.status 1 l, eqb-false p.status 2 c)))

-- ---- the books

-- of the places that pass, no two have the same record
abbrev pub Differ : Size → Books → (Place → Bool) → (Place → ℕ) → Type 0
Differ z b passes key =
    (i j : ℕ) → i < z.places → j < z.places → passes (place_at b i) ≡ true → passes (place_at b j) ≡ true → key (place_at b i) ≡ key (place_at b j) → i ≡ j

module _ (z : Size) (b : Books) where
  module _ (passes : Place → Bool) (key : Place → ℕ) where
    -- two places pass and have the same record
    abbrev Alike : ℕ → ℕ → Type 0
    Alike i j = (passes (place_at b i) ≡ true) × ((passes (place_at b j) ≡ true) × (key (place_at b i) ≡ key (place_at b j)))

    -- two that are alike are one, if no place is like a lower one
    alike_is_same : ((i : ℕ) → i < z.places → (j : ℕ) → j < i → Alike i j → ⊥) → Differ z b passes key
    alike_is_same apart i j h k p q e =
        elim (dec_lt j i) [
          | yes below ↦ absurd (apart i h j below (p, (q, e)))
          | no above ↦ elim (dec_lt i j) [ yes below ↦ absurd (apart j k i below (q, (p, sym e))) | no other ↦ omega arith ]
        ]

    -- the test that records differ says so of any two places
    pub differ_says : (differ z b passes key ≡ true) ↔ Differ z b passes key
    unfolding differ
    differ_says =
        Iff.trans
        (all_says _ z.places λ i h. all_says _ i λ j k. not_says_not _ (and_says Iff.rfl (and_says Iff.rfl (eqb_says (key (place_at b i)) (key (place_at b j))))))
        (alike_is_same, λ same i h j k a. let e = same i j h (omega arith) a.0 a.1.0 a.1.1 in omega arith)

  -- the test of the books says what the clauses say
  pub sound_says : (sound z b ≡ true) ↔ Sound z b
  unfolding sound
  sound_says =
      Iff.trans
      (and_says (leb_says (room_taken z b) most_records)
      (and_says (all_says _ z.places λ i h. place_sound_says z b.records (place_at b i))
      (and_says (differ_says is_held (λ p. p.begin)) (differ_says is_committed (λ p. p.commit))))) (
        λ s. record { room = s.0; each = s.1.0; begins_differ = s.1.1.0; commits_differ = s.1.1.1 },
        λ s. (s.room, (s.each, (s.begins_differ, s.commits_differ))),
      )
