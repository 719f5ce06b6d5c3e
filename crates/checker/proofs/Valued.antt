-- Values by record number: the value in a record of a log is that of its event, so the records that a replay keeps have the values that the
-- day says; and an own read is of a cell that its transaction wrote. Assumes nothing.
use Prim.Native.Nat.{ℕ, zero, suc, ◌+◌, ◌*◌, ◌-◌, ◌≤◌}
use mathlib.Core.Path.{◌≡◌, refl, sym, ◌∙◌, ap, subst}
use mathlib.Core.Logic.{⊎_elim}
use mathlib.Core.Bool.{true, false, ◌&&◌, false≢true}
use mathlib.Core.List.Memᴰ
use mathlib.Core.List.{List, [], ◌∷◌, Memᴰ}
use native.Mathlib.Omega.{arith}
use lib.ListN.{length, take, drop}
use lib.Seq.{take-take, drop-drop}
use lib.Dec.{eqb}
use borrow.Author.Tests.{eq-eqb, not-true}
use Rattle.basics.specs.Bytes.{part}
use Rattle.basics.specs.Lists.{any_in, member}
use Rattle.basics.proofs.Bools.{split, clash, and_right, or_left, or_right}
use Rattle.basics.proofs.Lists.{member_nil, member_cases}
use Rattle.rules.specs.declared.Record.{Record}
use Rattle.rules.specs.declared.Size.{Size}
use Rattle.rules.specs.Sizes.{cell_bytes, record_bytes}
use Rattle.rules.specs.Kinds.{kind_commits, kind_writes, kind_own_read}
use Rattle.rules.specs.Daylog.{decode, bytes_at, day_of}
use Rattle.rules.specs.Layout.{Seat, begun_seat, used_seat, seat, walks}
use Rattle.rules.specs.Day.{Event, whose, event, events, latest, wrote_cell, written_value}
use Rattle.rules.proofs.Log.KindLaws.{own_reads_start_nothing}
use Rattle.rules.proofs.Replay.InTime.{table_by}
use Rattle.rules.proofs.Log.Seats.{walks_earlier, seat_by}
use Rattle.rules.proofs.Log.LivePlaces.{wrote_says}
use Rattle.rules.proofs.Log.LaidOut.{fits_says}
use Rattle.rules.proofs.Day.Events.{event_cases, whose_starts, whose_others}
use Rattle.rules.proofs.Log.StandingLog.{length_day_of}
use Rattle.check_explain.specs.Explained.{value_at, source}
use Rattle.checker.proofs.KeptMirrored.{latest_write, table_record, record_of, wrote_told}

-- ---- a record's bytes

-- a part of the front is one of the whole
part_of_front : (i n m : ℕ) (xs : List ℕ) → i + n ≤ m → take n (drop i (take m xs)) ≡ take n (drop i xs)
part_of_front zero n m xs h = take-take n m xs (omega arith)
part_of_front (suc i) n zero xs h = absurd (omega arith)
part_of_front (suc i) n (suc m) [] h = refl
part_of_front (suc i) n (suc m) (x ∷ xs) h = part_of_front i n m xs (omega arith)

-- the last eight bytes of a record are its value
pub value_of_bytes : (log : List ℕ) (n : ℕ) → (decode (bytes_at log n)).value ≡ value_at log (suc n)
unfolding decode bytes_at value_at part
value_of_bytes log n =
    let at : record_bytes * n + 8 ≡ record_bytes * suc n - cell_bytes = omega arith in
    part_of_front 8 8 record_bytes (drop (record_bytes * n) log) (omega arith)
    ∙ ap (take 8) (drop-drop 8 (record_bytes * n) log)
    ∙ ap (λ k. take 8 (drop k log)) at

-- ---- events

-- each event has the value of the record with its number
abbrev pub Valued : List ℕ → List Event → Type 0
Valued log es = (e : Event) → Memᴰ e es → e.value ≡ value_at log e.number

-- so it is with the first records of a log
valued_first : (log : List ℕ) (n : ℕ) → Valued log (events (day_of log n))
unfolding day_of events event
valued_first log zero e m = absurd (Memᴰ.not-nil m)
valued_first log (suc n) e m =
    ⊎_elim
    (λ q. ap (λ x. x.value) q ∙ value_of_bytes log n ∙ ap (λ k. value_at log (suc k)) (sym (length_day_of log n)) ∙ ap (λ x. value_at log x.number) (sym q))
    (valued_first log n e) (event_cases (decode (bytes_at log n)) (day_of log n) m)

pub valued : (log : List ℕ) (day : List Record) → day ≡ day_of log (length day) → Valued log (events day)
valued log day q = subst (λ (rs : List Record). Valued log (events rs)) (sym q) (valued_first log (length day))

-- ---- what is kept has the value that the day says

module _ (log : List ℕ) where
  -- the latest write
  latest_valued : (es : List Event) (k c : ℕ) → Valued log es → wrote_cell es k c ≡ true → value_at log (latest_write es k c) ≡ written_value es k c
  unfolding wrote_cell latest_write latest written_value any_in
  latest_valued [] k c h w = absurd (false≢true w)
  latest_valued (e ∷ es) k c h w =
      let writes = eqb e.who k && (kind_writes e.kind && eqb e.cell c) in
      split writes (λ t. rw t (sym (h e (Memᴰ.head refl)))) (λ f. rw f (latest_valued es k c (λ x m. h x (Memᴰ.tail m)) (rw f at w)))

  source_there : (opening : List ℕ) (n c : ℕ) → eqb n 0 ≡ false → source opening log (record_of n) c ≡ value_at log n
  source_there opening zero c e = absurd (false≢true (sym e))
  source_there opening (suc n) c e = refl

  pub write_valued : (opening : List ℕ) (day : List Record) (k c : ℕ) → Valued log (events day) → wrote_cell (events day) k c ≡ true
      → source opening log (record_of (latest_write (events day) k c)) c ≡ written_value (events day) k c
  write_valued opening day k c h w =
      let last = latest_write (events day) k c in
      source_there opening last c (not-true (eqb last 0) (sym (wrote_told day k c) ∙ w)) ∙ latest_valued (events day) k c h w

  -- the table
  pub table_valued : (opening order : List ℕ) (day : List Record) (c : ℕ) → Valued log (events day)
      → source opening log (record_of (table_record order (events day) c)) c ≡ table_by opening order (events day) c
  unfolding table_record table_by events event
  table_valued opening order [] c h = refl
  table_valued opening order (r ∷ day) c h =
      let who = whose day r in
      let commits = member who order && (kind_commits r.kind && wrote_cell (events (r ∷ day)) who c) in
      split commits
      (λ t.
      rw t
      (write_valued opening (r ∷ day) who c h
      (and_right (kind_commits r.kind) _ (and_right (member who order) (kind_commits r.kind && wrote_cell (events (r ∷ day)) who c) t))))
      (λ f. rw f (table_valued opening order day c (λ x m. h x (Memᴰ.tail m))))

-- ---- an own read

-- the cells of a seat are written by the transaction that holds it: so with one record more
module _ (c : ℕ) (r : Record) (day : List Record) (p : ℕ) where
  abbrev SeatWrote : List Record → Seat → Type 0
  SeatWrote rs q = member c q.written ≡ true → wrote_cell (events rs) q.begin c ≡ true

  wrote_older : SeatWrote day (seat day p) → SeatWrote (r ∷ day) (seat day p)
  unfolding wrote_cell any_in events event
  wrote_older known h = or_right (eqb (whose day r) (seat day p).begin && (kind_writes r.kind && eqb r.cell c)) _ (known h)

  wrote_newest : (k : ℕ) → whose day r ≡ k → kind_writes r.kind ≡ true → r.cell ≡ c → wrote_cell (events (r ∷ day)) k c ≡ true
  unfolding wrote_cell any_in events event
  wrote_newest k own writes q =
      or_left (eqb (whose day r) k && (kind_writes r.kind && eqb r.cell c)) _
      (rw (eq-eqb (whose day r) k own, writes) (eq-eqb r.cell c q))

  -- a seat that the record used: its cell is its own, the others were there
  wrote_used : (q : Seat) → whose day r ≡ q.begin → (member c q.written ≡ true → wrote_cell (events (r ∷ day)) q.begin c ≡ true)
      → SeatWrote (r ∷ day) (used_seat r q)
  wrote_used q own known h =
      split (kind_writes r.kind)
      (λ w. ⊎_elim (λ e. wrote_newest q.begin own w (sym e)) known (member_cases c r.cell q.written (rw w at h)))
      (λ w. known (rw w at h))

  wrote_more : SeatWrote day (seat day p) → SeatWrote (r ∷ day) (seat (r ∷ day) p)
  wrote_more known =
      seat_by r day p (SeatWrote (r ∷ day)) (λ other. wrote_older known) λ here.
      record {
        on_free = λ f h. absurd (clash h (member_nil c));
        on_start = λ k. wrote_used (begun_seat (suc (length day)) r) (whose_starts day r k) (λ h. absurd (clash h (member_nil c)));
        on_other = λ k f. wrote_used (seat day p) (whose_others day r k ∙ ap (λ i. (seat day i).begin) here) (wrote_older known);
      }

-- and so with a day
seat_wrote : (c : ℕ) (day : List Record) (p : ℕ) → member c (seat day p).written ≡ true → wrote_cell (events day) (seat day p).begin c ≡ true
unfolding seat
seat_wrote c [] p h = absurd (clash h (member_nil c))
seat_wrote c (r ∷ day) p h = wrote_more c r day p (seat_wrote c day p) h

-- an own read is of a cell that its transaction wrote
pub own_read_wrote : (z : Size) (r : Record) (day : List Record) → walks z (r ∷ day) ≡ true → kind_own_read r.kind ≡ true
    → wrote_cell (events day) (whose day r) r.cell ≡ true
own_read_wrote z r day w q =
    let v = walks_earlier z r day w in
    let quiet = own_reads_start_nothing r.kind q in
    let fits = (fits_says z day r v.0).0 v.1 in
    let live = fits.others_live quiet in
    ap (λ k. wrote_cell (events day) k r.cell) (whose_others day r quiet)
    ∙ seat_wrote r.cell day r.place ((wrote_says r.cell live).1 (fits.own_read_wrote q live))
