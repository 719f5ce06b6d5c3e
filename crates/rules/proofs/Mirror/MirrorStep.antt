-- One record more: what the events tell of a transaction that the record is not of, and of the one that it is of; the places that mirror the day
-- still do, and so the books do. Stated for any record and any new places, then for a change of its place alone. Assumes nothing.
use Prim.Native.Nat.{ℕ, suc, ◌+◌, ◌≤◌, ◌<◌}
use mathlib.Core.Path.{◌≡◌, refl, sym, ◌∙◌, ap, subst}
use mathlib.Core.Bool.{Bool, true, false, cond, ◌&&◌, ◌||◌}
use mathlib.Core.List.{List, [], ◌∷◌}
use lib.ListN.{length}
use lib.Dec.{eqb}
use native.Mathlib.Omega.{arith}
use borrow.Author.Tests.{eqb-true, eq-eqb, ne_eqb}
use Rattle.basics.specs.Lists.{any_in, member}
use Rattle.basics.proofs.Bools.{split, and_both, and_fails_left, or_false_left, or_false_right}
use Rattle.rules.specs.declared.Place.{Place}
use Rattle.rules.specs.declared.Record.{Record}
use Rattle.rules.specs.Sizes.{Size}
use Rattle.rules.specs.Books.{Books, Shaped, place_at, is_committed, is_held, wrote, first_read, last_read}
use Rattle.rules.specs.Sound.{Sound}
use Rattle.rules.specs.Kinds.{kind_starts, kind_commits, kind_writes, kind_judged_read}
use Rattle.rules.specs.Layout.{Seat, moved, seat, fits, fields_right, walks}
use Rattle.rules.specs.Day.{Event, whose, event, events, latest, commit_of, committed, wrote_cell}
use Rattle.rules.proofs.Mirror.Mirrors.{earliest, reads_it, Holds, Mirrors, HeldCommitted, CommittedAreHeld, Mirrored}
use Rattle.rules.proofs.Books.Shape.{each_changed}
use Rattle.rules.proofs.Books.SoundnessSays.{Clear, held_status}
use Rattle.rules.proofs.Log.Seats.{walks_earlier, fits_live, fits_uncommitted, moved_commits, seat_here, seat_other}
use Rattle.rules.proofs.Log.KindLaws.{commits_hold}
use Rattle.rules.proofs.Day.Events.{begin_bound, whose_starts, whose_others, whose_holds}
use Rattle.rules.proofs.Day.Commits.{begins_differ, latest_none}
use Rattle.rules.proofs.Day.Moments.{none_yet}
use Rattle.rules.proofs.Mirror.CommittedHeld.{committed_more}
use Rattle.rules.proofs.Day.PairsArise.{any_own, committed_other, committed_own, commit_of_other, wrote_other}

-- ---- a held place, in two parts

-- a seat stands as a held place does
pub record Sits (z : Size) (s : Seat) (p : Place) : Type 0 where
  pub begin : s.begin ≡ p.begin
  pub turn : s.turn ≡ p.turn
  pub cells : (c : ℕ) → c < z.cells → member c s.written ≡ wrote p c

-- the events tell of a transaction what a place holds
pub record Acts (z : Size) (es : List Event) (t : ℕ) (p : Place) : Type 0 where
  pub written : (c : ℕ) → c < z.cells → wrote_cell es t c ≡ wrote p c
  pub sealed : committed es t ≡ is_committed p
  pub commit : commit_of es t ≡ p.commit
  pub first : (c : ℕ) → c < z.cells → earliest (reads_it t c) es ≡ first_read p c
  pub last : (c : ℕ) → c < z.cells → latest (reads_it t c) es ≡ last_read p c

-- together they are what is asked of a held place
module _ (z : Size) (day : List Record) (i : ℕ) (p : Place) where
  holds_of : Sits z (seat day i) p → Acts z (events day) p.begin p → Holds z day i p
  holds_of s a =
      record {
        begin = s.begin;
        turn = s.turn;
        cells = s.cells;
        written = a.written;
        sealed = a.sealed;
        commit = a.commit;
        first = a.first;
        last = a.last;
      }

  pub sits : Holds z day i p → Sits z (seat day i) p
  sits h = record { begin = h.begin; turn = h.turn; cells = h.cells }

  pub acts : Holds z day i p → Acts z (events day) p.begin p
  acts h = record { written = h.written; sealed = h.sealed; commit = h.commit; first = h.first; last = h.last }

-- ---- the oldest and the newest event that passes

-- where there is none as yet, 0
pub zero_or : (n : ℕ) → cond (eqb n 0) 0 n ≡ n
zero_or n = split (eqb n 0) (λ t. rw t (sym (eqb-true n 0 t))) (λ t. rw t)

module _ (passes : Event → Bool) where
  -- past an event that does not pass the oldest stays
  earliest_past : (e : Event) (es : List Event) → passes e ≡ false → earliest passes (e ∷ es) ≡ earliest passes es
  unfolding earliest
  earliest_past e es f = rw f (zero_or (earliest passes es))

  -- so with the newest
  latest_past : (e : Event) (es : List Event) → passes e ≡ false → latest passes (e ∷ es) ≡ latest passes es
  unfolding latest
  latest_past e es f = rw f

  -- where none passes it is 0
  earliest_none : (es : List Event) → any_in passes es ≡ false → earliest passes es ≡ 0
  unfolding earliest any_in
  earliest_none [] q = refl
  earliest_none (e ∷ es) q =
      earliest_past e es (or_false_left (passes e) (any_in passes es) q) ∙ earliest_none es (or_false_right (passes e) (any_in passes es) q)

-- ---- one event more

-- past an event of another the events tell the same
acts_other : (z : Size) (es : List Event) (t : ℕ) (p : Place) (e : Event) → (e.who ≡ t → ⊥) → Acts z es t p → Acts z (e ∷ es) t p
acts_other z es t p e other a =
    record {
      written = λ c h. ap (λ f. f c) (wrote_other e es t other) ∙ a.written c h;
      sealed = committed_other e es t other ∙ a.sealed;
      commit = commit_of_other e es t other ∙ a.commit;
      first = λ c h. earliest_past (reads_it t c) e es (passed_over c) ∙ a.first c h;
      last = λ c h. latest_past (reads_it t c) e es (passed_over c) ∙ a.last c h;
    }
  where
    passed_over : (c : ℕ) → reads_it t c e ≡ false
    passed_over c = and_fails_left (eqb e.who t) _ (ne_eqb e.who t other)

-- what a place holds of a transaction changes as an event of a kind and a cell, of number n, changes what the events tell of it
pub record Changes (z : Size) (kind cell n : ℕ) (p q : Place) : Type 0 where
  pub written : (c : ℕ) → c < z.cells → (kind_writes kind && eqb cell c) || wrote p c ≡ wrote q c
  pub sealed : kind_commits kind || is_committed p ≡ is_committed q
  pub commit : cond (kind_commits kind) n p.commit ≡ q.commit
  pub first : (c : ℕ) → c < z.cells
      → cond (eqb (first_read p c) 0) (cond (kind_judged_read kind && eqb cell c) n 0) (first_read p c) ≡ first_read q c
  pub last : (c : ℕ) → c < z.cells → cond (kind_judged_read kind && eqb cell c) n (last_read p c) ≡ last_read q c

-- past an event of its own they tell what the changed place holds
acts_own : (z : Size) (es : List Event) (t : ℕ) (p q : Place) (e : Event) → e.who ≡ t → Changes z e.kind e.cell e.number p q
    → Acts z es t p → Acts z (e ∷ es) t q
unfolding wrote_cell commit_of latest earliest
acts_own z es t p q e own change a =
    record {
      written = λ c h.
          any_own e es t (λ x. kind_writes x.kind && eqb x.cell c) own
          ∙ ap (λ b. (kind_writes e.kind && eqb e.cell c) || b) (a.written c h)
          ∙ change.written c h;
      sealed = committed_own e es t own ∙ ap (λ b. kind_commits e.kind || b) a.sealed ∙ change.sealed;
      commit = rw (eq-eqb e.who t own, a.commit) change.commit;
      first = λ c h. rw (eq-eqb e.who t own, a.first c h) (change.first c h);
      last = λ c h. rw (eq-eqb e.who t own, a.last c h) (change.last c h);
    }

-- of a transaction that is yet to begin the events tell nothing
pub acts_new : (z : Size) (day : List Record) (t : ℕ) → length day < t → (p : Place) → p.status ≡ 0 → Clear z p → Acts z (events day) t p
unfolding wrote_cell committed commit_of
acts_new z day t later p free clear =
    record {
      written = λ c h. nobody _ ∙ sym (clear.1.1 c h).0;
      sealed = rw free (nobody _);
      commit = latest_none _ (events day) (nobody _) ∙ sym clear.1.0;
      first = λ c h. earliest_none _ (events day) (nobody _) ∙ sym (clear.1.1 c h).1.0;
      last = λ c h. latest_none _ (events day) (nobody _) ∙ sym (clear.1.1 c h).1.1;
    }
  where
    nobody : (test : Event → Bool) → any_in (λ x. eqb x.who t && test x) (events day) ≡ false
    nobody test = none_yet test day t later

-- ---- one record more, place by place

module _ (z : Size) (r : Record) (day : List Record) where
  -- the record's place, changed as its seat moves and as its event tells; n is the record's number
  pub mirrors_here : (n : ℕ) → n ≡ suc (length day) → (p q : Place) → let s = moved n r (seat day r.place) in
      s.status ≡ q.status → Sits z s q → whose day r ≡ q.begin → Acts z (events day) q.begin p → Changes z r.kind r.cell n p q
      → Mirrors z (r ∷ day) r.place q
  unfolding events event
  mirrors_here n number p q status sits own a change =
      let s = seat day r.place in
      let moves : seat (r ∷ day) r.place ≡ moved n r s = seat_here r day r.place refl ∙ ap (λ (k : ℕ). moved k r s) (sym number) in
      let change' = subst (λ (k : ℕ). Changes z r.kind r.cell k p q) number change in
      record {
        status = ap (λ x. x.status) moves ∙ status;
        holds = λ held.
            holds_of z (r ∷ day) r.place q (subst (λ (x : Seat). Sits z x q) (sym moves) sits)
            (acts_own z (events day) q.begin p q (event day r) own change' a);
      }

  module _ (walk : walks z (r ∷ day) ≡ true) where
    -- the record is not of a transaction that holds another place
    whose_elsewhere : (j : ℕ) → (r.place ≡ j → ⊥) → 1 ≤ (seat day j).status → whose day r ≡ (seat day j).begin → ⊥
    whose_elsewhere j other held q =
        let v = walks_earlier z r day walk in
        split (kind_starts r.kind) (λ k. omega (arith, whose_starts day r k, begin_bound day j)) λ k.
        let live = fits_live day r k v.1 in
        other (begins_differ z day v.0 r.place j (omega arith) held (sym (whose_others day r k) ∙ q))

    -- any other place
    mirrors_other : (j : ℕ) (p : Place) → (r.place ≡ j → ⊥) → Mirrors z day j p → Mirrors z (r ∷ day) j p
    unfolding events event
    mirrors_other j p other m =
        let stays = seat_other r day j other in
        record {
          status = ap (λ s. s.status) stays ∙ m.status;
          holds = λ held.
              let h = m.holds held in
              let taken : 1 ≤ (seat day j).status = rw m.status (held_status p held) in
              holds_of z (r ∷ day) j p (subst (λ (s : Seat). Sits z s p) (sym stays) (sits z day j p h))
              (acts_other z (events day) p.begin p (event day r) (λ q. whose_elsewhere j other taken (q ∙ sym h.begin)) (acts z day j p h));
        }

-- ---- one record more, as a whole

-- a record that commits seals the seat of its place for the transaction whose it is
commits_seat : (day : List Record) (r : Record) → kind_commits r.kind ≡ true → let s = moved (suc (length day)) r (seat day r.place) in
    (s.status ≡ 2) × (s.begin ≡ whose day r)
commits_seat day r k = (moved_commits (suc (length day)) r (seat day r.place) k, whose_holds day r (commits_hold r.kind k))

module _ (z : Size) (b : Books) (r : Record) (day : List Record) (m : Mirrored z b day) (right : fields_right z r ≡ true) (fit : fits day r ≡ true) where
  -- the day with the record walks
  walk : walks z (r ∷ day) ≡ true
  unfolding walks
  walk = and_both (walks z day) _ m.walking (and_both (fields_right z r) _ right fit)

  -- books with one record more, whatever places changed, mirror it if each place does and everybody who committed is held
  pub mirrored_step : (after : Books) → ((j : ℕ) → j < z.places → Mirrors z (r ∷ day) j (place_at after j)) → CommittedAreHeld z after (r ∷ day) → Shaped after
      → Sound z after → after.records ≡ b.records + 1 → Mirrored z after (r ∷ day)
  mirrored_step after places kept shape sound more =
      record { shape = shape; sound = sound; counted = omega (arith, m.counted); walking = walk; places = places; kept = kept }

-- books with one record more, changed at its place alone
module _ (z : Size) (b after : Books) (r : Record) (day : List Record) (m : Mirrored z b day) (there : r.place < z.places)
    (others : (j : ℕ) → j < z.places → (j ≡ r.place → ⊥) → place_at after j ≡ place_at b j) (right : fields_right z r ≡ true)
    (fit : fits day r ≡ true) (here : Mirrors z (r ∷ day) r.place (place_at after r.place)) where
  -- its place mirrors the day, and so does every other
  mirrors_all : (j : ℕ) → j < z.places → Mirrors z (r ∷ day) j (place_at after j)
  mirrors_all =
      each_changed b after r.place z.places others (Mirrors z (r ∷ day)) (λ h. here)
      (λ j h other. mirrors_other z r day (walk z b r day m right fit) j (place_at b j) (λ e. other (sym e)) (m.places j h))

  -- who was held committed is so still
  still_held : (t : ℕ) → HeldCommitted z b t → HeldCommitted z after t
  still_held t x =
      let stays = others x.at x.there elsewhere in
      record { at = x.at; there = x.there; done = rw stays x.done; named = rw stays x.named }
    where
      elsewhere : x.at ≡ r.place → ⊥
      elsewhere e =
          let status : (place_at b x.at).status ≡ 2 = eqb-true (place_at b x.at).status 2 x.done in
          fits_uncommitted day r fit ((m.places r.place there).status ∙ ap (λ k. (place_at b k).status) (sym e) ∙ status)

  -- and who commits with the record is held at its place
  held_here : kind_commits r.kind ≡ true → HeldCommitted z after (whose day r)
  held_here k =
      let s = commits_seat day r k in
      let moves = seat_here r day r.place refl in
      let q = place_at after r.place in
      let status : q.status ≡ 2 = sym here.status ∙ ap (λ x. x.status) moves ∙ s.0 in
      let held : is_held q ≡ true = rw status in
      record {
        at = r.place;
        there = there;
        done = eq-eqb q.status 2 status;
        named = sym (here.holds held).begin ∙ ap (λ x. x.begin) moves ∙ s.1;
      }

  -- so the books mirror the day with the record
  pub mirrored_more : Shaped after → Sound z after → after.records ≡ b.records + 1 → Mirrored z after (r ∷ day)
  mirrored_more = mirrored_step z b r day m right fit after mirrors_all (committed_more z b after r day m.kept still_held held_here)
