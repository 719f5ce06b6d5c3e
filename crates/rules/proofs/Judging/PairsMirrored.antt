-- Moment, company and pairs on the books are those of the day: what a held place holds is what the day tells of its transaction.
-- Rests on the mirror of the books in the day. Assumes nothing.
use Prim.Native.Nat.{ℕ, ◌≤◌, ◌<◌}
use mathlib.Core.Path.{◌≡◌, refl, sym, ◌∙◌, ap, ap₂}
use mathlib.Core.Logic.Iff
use mathlib.Core.Logic.{◌↔◌}
use mathlib.Core.Bool.{Bool, true, not, ◌&&◌, ◌||◌}
use mathlib.Core.List.{List, Memᴰ}
use lib.Dec.{ltb, leb, eqb}
use native.Mathlib.Omega.{arith}
use borrow.Author.Tests.{eqb-true, eq-eqb}
use Rattle.basics.specs.Below.{any_below, greatest_below}
use Rattle.basics.specs.Lists.{any_in}
use Rattle.basics.proofs.Bools.{same_tests, and_both}
use Rattle.basics.proofs.Below.{any_cong, greatest_at, greatest_bounded, greatest_cong}
use Rattle.basics.proofs.Lists.{any_in_of}
use Rattle.basics.proofs.Says.{eqb_says, leb_says, ltb_says, and_says, any_says, any_in_says}
use Rattle.rules.specs.declared.Place.{Place}
use Rattle.rules.specs.declared.Record.{Record}
use Rattle.rules.specs.Sizes.{Size}
use Rattle.rules.specs.Books.{Books, place_at, is_committed, is_held, wrote, first_read, last_read}
use Rattle.rules.specs.Judging.{latest_read, moment, company, real_time, write_write, write_read, read_write, precedes, stands_before}
use Rattle.rules.specs.Kinds.{kind_starts, kind_judged_read}
use Rattle.rules.specs.Layout.{walks}
use Rattle.rules.specs.Day.{Event, event, events, latest, is_transaction, moment_of, wrote_cell, company_of, day_real_time, day_write_write, day_write_read, day_read_write, day_before}
use Rattle.rules.proofs.Mirror.Mirrors.{earliest, reads_it, Holds, Mirrored}
use Rattle.rules.proofs.Log.Seats.{held_of_seat, seat_of_held}
use Rattle.rules.proofs.Books.SoundnessSays.{held_status}
use Rattle.rules.proofs.Day.Settled.{event_there, read_known}
use Rattle.rules.proofs.Day.EventNumbers.{latest_newest, latest_beyond, latest_within, earliest_before}

-- ---- the judged reads of a transaction

-- a judged read of the cell by the transaction, as a statement
abbrev ReadsIt : ℕ → ℕ → Event → Type 0
ReadsIt t c e = (e.who ≡ t) × ((kind_judged_read e.kind ≡ true) × (e.cell ≡ c))

reads_say : (t c : ℕ) (e : Event) → (reads_it t c e ≡ true) ↔ ReadsIt t c e
reads_say t c e = and_says (eqb_says e.who t) (and_says Iff.rfl (eqb_says e.cell c))

module _ (z : Size) (day : List Record) (w : walks z day ≡ true) (t : ℕ) where
  -- a judged read of any cell
  abbrev judged : Event → Bool
  judged e = eqb e.who t && kind_judged_read e.kind

  -- the latest of all is the greatest of the latest of each cell
  latest_of_cells : greatest_below (λ c. latest (reads_it t c) (events day)) z.cells ≡ latest judged (events day)
  latest_of_cells = omega (arith, upper, lower)
    where
      last_of : ℕ → ℕ
      last_of c = latest (reads_it t c) (events day)

      upper : greatest_below last_of z.cells ≤ latest judged (events day)
      upper =
          greatest_bounded last_of z.cells (latest judged (events day)) λ c h.
          latest_within (reads_it t c) day (latest judged (events day)) λ e m p.
          let r = (reads_say t c e).0 p in
          latest_newest judged day m (and_both (eqb e.who t) (kind_judged_read e.kind) (eq-eqb e.who t r.0) r.1.0)

      lower : latest judged (events day) ≤ greatest_below last_of z.cells
      lower =
          latest_within judged day (greatest_below last_of z.cells) λ e m p.
          let r = (and_says (eqb_says e.who t) Iff.rfl).0 p in
          let newest = latest_newest (reads_it t e.cell) day m ((reads_say t e.cell e).1 (r.0, (r.1, refl))) in
          omega (arith, newest, greatest_at last_of z.cells e.cell (read_known z day w m r.1))

  -- a judged read of one of some cells at some time: told cell by cell, or read by read
  reads_timed : (cells time found : ℕ → Bool) {Time : ℕ → Type 0} → ((n : ℕ) → (time n ≡ true) ↔ Time n)
      → ((c : ℕ) → (found c ≡ true) ↔ ((e : Event) × Memᴰ e (events day) × (reads_it t c e ≡ true) × Time e.number))
      → any_below (λ c. cells c && found c) z.cells
      ≡ any_in (λ e. eqb e.who t && (kind_judged_read e.kind && (time e.number && cells e.cell))) (events day)
  reads_timed cells time found {Time} says tells = same_tests _ _ (λ h. right.1 (by_read (left.0 h))) (λ h. left.1 (by_cell (right.0 h)))
    where
      ByCell : Type 0
      ByCell =
          (c : ℕ) × (c < z.cells)
          × ((cells c ≡ true) × ((e : Event) × Memᴰ e (events day) × (reads_it t c e ≡ true) × Time e.number))

      ByRead : Type 0
      ByRead =
          (e : Event) × Memᴰ e (events day)
          × ((e.who ≡ t) × ((kind_judged_read e.kind ≡ true) × (Time e.number × (cells e.cell ≡ true))))

      left : (any_below (λ c. cells c && found c) z.cells ≡ true) ↔ ByCell
      left = any_says (λ c. cells c && found c) z.cells λ c. and_says Iff.rfl (tells c)

      right : (any_in (λ e. eqb e.who t && (kind_judged_read e.kind && (time e.number && cells e.cell))) (events day) ≡ true) ↔ ByRead
      right =
          any_in_says (λ e. eqb e.who t && (kind_judged_read e.kind && (time e.number && cells e.cell))) (events day) λ e.
          and_says (eqb_says e.who t) (and_says Iff.rfl (and_says (says e.number) Iff.rfl))

      by_read : ByCell → ByRead
      by_read x =
          let y = x.2.1 in
          let r = (reads_say t x.0 y.0).0 y.2 in
          (y.0, y.1, (r.0, (r.1.0, (y.3, ap cells r.1.1 ∙ x.2.0))))

      by_cell : ByRead → ByCell
      by_cell y =
          let p = y.2 in
          let c = y.0.cell in
          (c, read_known z day w y.1 p.1.0, (p.1.1.1, (y.0, y.1, (reads_say t c y.0).1 (p.0, (p.1.0, refl)), p.1.1.0)))

  module _ (cells : ℕ → Bool) (n : ℕ) where
    -- one after record n, by the last of each cell
    reads_after : any_below (λ c. cells c && ltb n (latest (reads_it t c) (events day))) z.cells
        ≡ any_in (λ e. eqb e.who t && (kind_judged_read e.kind && (ltb n e.number && cells e.cell))) (events day)
    reads_after =
        reads_timed cells (ltb n) (λ c. ltb n (latest (reads_it t c) (events day))) (ltb_says n)
        (λ c. Iff.trans (ltb_says n (latest (reads_it t c) (events day))) (latest_beyond (reads_it t c) day n))

    -- one before record n, by the first of each cell
    reads_before : any_below (λ c. let first = earliest (reads_it t c) (events day) in cells c && (leb 1 first && ltb first n)) z.cells
        ≡ any_in (λ e. eqb e.who t && (kind_judged_read e.kind && (ltb e.number n && cells e.cell))) (events day)
    reads_before =
        let first_of : ℕ → ℕ = λ c. earliest (reads_it t c) (events day) in
        reads_timed cells (λ i. ltb i n) (λ c. leb 1 (first_of c) && ltb (first_of c) n) (λ i. ltb_says i n)
        (λ c. Iff.trans (and_says (leb_says 1 (first_of c)) (ltb_says (first_of c) n)) (earliest_before (reads_it t c) day n))

-- ---- one held place

module _ (z : Size) (day : List Record) (w : walks z day ≡ true) {i : ℕ} {p : Place} (h : Holds z day i p) where
  -- its last judged read is that of its transaction
  read_mirrored : latest_read z p ≡ latest (λ e. eqb e.who p.begin && kind_judged_read e.kind) (events day)
  unfolding latest_read
  read_mirrored = greatest_cong (last_read p) _ z.cells (λ c k. sym (h.last c k)) ∙ latest_of_cells z day w p.begin

  -- and so is its moment
  moment_held : moment z p ≡ moment_of (events day) p.begin
  unfolding moment moment_of
  moment_held = rw (h.sealed, h.commit, read_mirrored)

-- ---- two held places

module _ (z : Size) (day : List Record) (w : walks z day ≡ true) {i j : ℕ} {k m : Place} (hk : Holds z day i k) (hm : Holds z day j m) where
  -- each of the four relations is that of the transactions
  real_time_held : real_time k m ≡ day_real_time (events day) k.begin m.begin
  unfolding real_time day_real_time
  real_time_held = rw (hk.sealed, hk.commit)

  write_write_held : write_write z k m ≡ day_write_write z (events day) k.begin m.begin
  unfolding write_write day_write_write
  write_write_held =
      rw (hk.sealed, hk.commit, hm.sealed, hm.commit)
      (ap (λ b. is_committed k && (is_committed m && (ltb k.commit m.commit && b)))
      (any_cong (λ c. wrote k c && wrote m c) _ z.cells (λ c l. sym (ap₂ ◌&&◌ (hk.written c l) (hm.written c l)))))

  write_read_held : write_read z k m ≡ day_write_read (events day) k.begin m.begin
  unfolding write_read day_write_read
  write_read_held =
      rw (hk.sealed, hk.commit)
      (ap (λ b. is_committed k && b)
      (any_cong (λ c. wrote k c && ltb k.commit (last_read m c)) _ z.cells
      (λ c l. sym (ap₂ (λ a n. a && ltb k.commit n) (hk.written c l) (hm.last c l)))
      ∙ reads_after z day w m.begin (wrote_cell (events day) k.begin) k.commit))

  read_write_held : read_write z k m ≡ day_read_write (events day) k.begin m.begin
  unfolding read_write day_read_write
  read_write_held =
      rw (hm.sealed, hm.commit)
      (ap (λ b. is_committed m && b)
      (any_cong (λ c. wrote m c && (leb 1 (first_read k c) && ltb (first_read k c) m.commit)) _ z.cells
      (λ c l. sym (ap₂ (λ a n. a && (leb 1 n && ltb n m.commit)) (hm.written c l) (hk.first c l)))
      ∙ reads_before z day w k.begin (wrote_cell (events day) m.begin) m.commit))

  -- and so are the four together
  precedes_held : precedes z k m
      ≡ day_real_time (events day) k.begin m.begin
      || (day_write_write z (events day) k.begin m.begin
      || (day_write_read (events day) k.begin m.begin || day_read_write (events day) k.begin m.begin))
  unfolding precedes
  precedes_held = rw (real_time_held, write_write_held, write_read_held, read_write_held)

-- ---- the books and the day

module _ (z : Size) (b : Books) (day : List Record) (mirror : Mirrored z b day) where
  -- a held place's transaction is one of the day
  pub transaction_mirrored : (i : ℕ) → i < z.places → is_held (place_at b i) ≡ true → is_transaction (events day) (place_at b i).begin ≡ true
  unfolding is_transaction event
  transaction_mirrored i there held =
      let p = place_at b i in
      let its = mirror.places i there in
      let h = held_of_seat i z day mirror.walking (omega (arith, held_status p held, its.status)) in
      let e = event h.before h.start in
      let begins : e.number ≡ p.begin = omega (arith, seat_of_held i day h, (its.holds held).begin) in
      any_in_of (λ f. eqb f.number p.begin && kind_starts f.kind) (events day) (event_there day h.since h.before h.start h.split)
      (and_both (eqb e.number p.begin) (kind_starts e.kind) (eq-eqb e.number p.begin begins) h.starts)

  -- a held place's moment is that of its transaction
  moment_mirrored : (i : ℕ) → i < z.places → is_held (place_at b i) ≡ true → moment z (place_at b i) ≡ moment_of (events day) (place_at b i).begin
  moment_mirrored i there held = moment_held z day mirror.walking ((mirror.places i there).holds held)

  -- held places are one exactly if their transactions are
  same_place : (k m : ℕ) → k < z.places → m < z.places → is_held (place_at b k) ≡ true → is_held (place_at b m) ≡ true
      → eqb k m ≡ eqb (place_at b k).begin (place_at b m).begin
  same_place k m there_k there_m held_k held_m =
      same_tests (eqb k m) (eqb (place_at b k).begin (place_at b m).begin)
      (λ q. eq-eqb (place_at b k).begin (place_at b m).begin (ap (λ i. (place_at b i).begin) (eqb-true k m q)))
      (λ q. eq-eqb k m (mirror.sound.begins_differ k m there_k there_m held_k held_m (eqb-true (place_at b k).begin (place_at b m).begin q)))

  -- who stands before whom is as the day has it
  pub pairs_mirrored : (k m : ℕ) → k < z.places → m < z.places → is_held (place_at b k) ≡ true → is_held (place_at b m) ≡ true
      → stands_before z b k m ≡ day_before z (events day) (place_at b k).begin (place_at b m).begin
  unfolding stands_before day_before
  pairs_mirrored k m there_k there_m held_k held_m =
      ap₂ (λ same before. not same && before) (same_place k m there_k there_m held_k held_m)
      (precedes_held z day mirror.walking ((mirror.places k there_k).holds held_k) ((mirror.places m there_m).holds held_m))

  -- and so is who is of whose company
  pub company_mirrored : (i k : ℕ) → i < z.places → k < z.places → is_held (place_at b i) ≡ true → is_held (place_at b k) ≡ true
      → company z b i k ≡ company_of (events day) (place_at b i).begin (place_at b k).begin
  unfolding company company_of
  company_mirrored i k there_i there_k held_i held_k =
      let h = (mirror.places k there_k).holds held_k in
      let early = is_committed (place_at b k) && ltb (place_at b k).commit (moment_of (events day) (place_at b i).begin) in
      rw (transaction_mirrored k there_k held_k, h.sealed, h.commit, moment_mirrored i there_i held_i)
      (ap (λ same. same || early) (same_place k i there_k there_i held_k held_i))
