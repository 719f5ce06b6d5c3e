-- What a replay keeps mirrors one record more of the day once it has followed that record. Assumes nothing.
use Prim.Native.Nat.{ℕ, zero, suc, ◌≤◌, ◌<◌}
use mathlib.Core.Path.{◌≡◌, refl, sym, ◌∙◌, ap, ap₂, subst}
use mathlib.Core.Bool.{Bool, true, false, not, cond, ◌&&◌, ◌||◌}
use mathlib.Core.List.{List, ◌∷◌}
use native.Mathlib.Nat.{le_refl}
use native.Mathlib.Omega.{arith}
use lib.ListN.{length, get_or, set}
use lib.Seq.{get_or-set_same, get_or-set_other}
use lib.Dec.{ltb, eqb}
use borrow.Author.Tests.{eqb-true, ne_eqb, ltb-true, lt-ltb}
use Rattle.std.proofs.Common.{Option, Some, None, is_some}
use Rattle.std.proofs.lemmas.Option.{IfSome_then}
use Rattle.basics.specs.Lists.{any_in, distinct}
use Rattle.basics.proofs.Bools.{split, eqb_swap, and_right, and_fails_right, cond_or}
use Rattle.rules.specs.declared.Record.{Record}
use Rattle.rules.specs.declared.Size.{Size}
use Rattle.rules.specs.Sizes.{Within, width}
use Rattle.rules.specs.Kinds.{kind_starts, kind_commits, kind_writes, kind_judged_read, kind_sets_moment, kind_has_cell}
use Rattle.rules.specs.Layout.{Seat, seat, walks}
use Rattle.rules.specs.Day.{whose, event, events, latest, commit_of, wrote_cell}
use Rattle.rules.proofs.Replay.InTime.{read_cell, has_stranger}
use Rattle.rules.proofs.Log.Seats.{LiveSeat, walks_earlier, fits_live, seat_by}
use Rattle.rules.proofs.Day.Moments.{moment_more}
use Rattle.check_list.specs.Listed.{position}
use Rattle.check_list.proofs.Positions.{position_found, position_member, position_only}
use Rattle.check_replay.specs.declared.state.Listed.{Listed}
use Rattle.check_replay.specs.declared.state.Replay.{Replay}
use Rattle.check_replay.specs.Kept.{nobody, holder_after, record_or_none, wrote_in, noted, listed_after, laid, table_after, followed}
use Rattle.check_replay.proofs.Writes.{noted_wrote}
use Rattle.check_explain.specs.Explained.{Past, PastRecord, PastWrites}
use Rattle.checker.proofs.Arrays.{get_or_set_if, length_set_if, set_each_if, laid_length, laid_each, laid_at}
use Rattle.checker.proofs.KeptMirrored.{latest_write, table_record, record_of, Mirrors, walks_fields, wrote_told}

-- ---- a listed transaction

-- the record that is noted is the one with the number, and one of the first n
record_noted : (n : ℕ) → record_of n ≡ record_or_none n
record_noted zero = refl
record_noted (suc n) = rw (ne_eqb (suc n) 0 (λ e. omega arith)) refl

number_past : (n : ℕ) → PastRecord n (record_or_none n)
number_past zero = tt
number_past (suc n) = rw (ne_eqb (suc n) 0 (λ e. omega arith)) (omega arith, le_refl (suc n))

-- what is kept of it, where the record is noted or not
module _ (n : ℕ) (r : Record) where
  noted_if : Bool → Listed → Listed
  noted_if b own = cond b (noted n r own) own

  commit_noted : (b : Bool) (own : Listed) → (noted_if b own).commit ≡ cond (b && kind_commits r.kind) (record_or_none n) own.commit
  unfolding noted_if noted
  commit_noted true own = refl
  commit_noted false own = refl

  wrote_noted : (b : Bool) (own : Listed) (c : ℕ) → c < length own.wrote
      → wrote_in (noted_if b own) c ≡ cond (b && (kind_writes r.kind && eqb r.cell c)) (record_or_none n) (wrote_in own c)
  unfolding noted_if
  wrote_noted true own c h = noted_wrote n r own c h
  wrote_noted false own c h = refl

  read_noted : (b : Bool) (own : Listed) (c : ℕ) → c < length own.read
      → get_or (noted_if b own).read c false ≡ cond (b && (kind_judged_read r.kind && eqb r.cell c)) true (get_or own.read c false)
  unfolding noted_if noted
  read_noted true own c h = rw (eqb_swap r.cell c) (get_or_set_if (kind_judged_read r.kind) own.read r.cell c true false h)
  read_noted false own c h = refl

  wrote_length_noted : (b : Bool) (own : Listed) → length (noted_if b own).wrote ≡ length own.wrote
  unfolding noted_if noted
  wrote_length_noted true own = length_set_if (kind_writes r.kind) own.wrote r.cell n
  wrote_length_noted false own = refl

  read_length_noted : (b : Bool) (own : Listed) → length (noted_if b own).read ≡ length own.read
  unfolding noted_if noted
  read_length_noted true own = length_set_if (kind_judged_read r.kind) own.read r.cell true
  read_length_noted false own = refl

  past_noted : (own : Listed) → PastWrites n own → PastWrites n (noted n r own)
  unfolding noted
  past_noted own k = set_each_if (λ w. PastRecord n (record_or_none w)) (kind_writes r.kind) own.wrote r.cell n 0 (number_past n) k

-- a record, none for 0, by a test
record_if : (b : Bool) (n old : ℕ) → record_of (cond b n old) ≡ cond b (record_or_none n) (record_of old)
record_if true n old = record_noted n
record_if false n old = refl

-- the later of two, where there is one
record_or : (w old : ℕ) → cond (is_some (record_of w)) (record_of w) (record_of old) ≡ record_of (cond (not (eqb w 0)) w old)
record_or zero old = refl
record_or (suc w) old = rw (ne_eqb (suc w) 0 (λ e. omega arith))

some_if : (b : Bool) (i : ℕ) → is_some (cond b (Some i) None) ≡ b
some_if true i = refl
some_if false i = refl

-- the listed ones after a record, and the table, by whether its transaction is listed
listed_if : (b : Bool) (n : ℕ) (r : Record) (at : ℕ) (listed : List Listed)
    → listed_after n r (cond b (Some at) None) listed ≡ cond b (set listed at (noted n r (get_or listed at nobody))) listed
listed_if true n r at listed = refl
listed_if false n r at listed = refl

table_if : (b : Bool) (z : Size) (r : Record) (at : ℕ) (listed : List Listed) (table : List (Option ℕ))
    → table_after z r (cond b (Some at) None) listed table ≡ cond (b && kind_commits r.kind) (laid z (get_or listed at nobody) table) table
table_if true z r at listed table = refl
table_if false z r at listed table = refl

-- where it is listed, commits and wrote, the table has its latest write
laid_or : (b commits wrote : Bool) (after table : List (Option ℕ)) (c last old : ℕ)
    → (b ≡ true → get_or after c None ≡ record_of (cond wrote last old)) → get_or table c None ≡ record_of old
    → get_or (cond (b && commits) after table) c None ≡ record_of (cond (b && (commits && wrote)) last old)
laid_or true true wrote after table c last old h k = h refl
laid_or true false wrote after table c last old h k = k
laid_or false commits wrote after table c last old h k = k

length_laid_if : (b : Bool) (z : Size) (own : Listed) (table : List (Option ℕ)) → length (cond b (laid z own table) table) ≡ length table
length_laid_if true z own table = laid_length own z table
length_laid_if false z own table = refl

past_laid_if : (b : Bool) (n : ℕ) (z : Size) (own : Listed) (table : List (Option ℕ)) → PastWrites n own → Past n table → Past n (cond b (laid z own table) table)
past_laid_if true n z own table h k = laid_each own z table (PastRecord n) h k
past_laid_if false n z own table h k = k

-- the records of a shorter day are those of a longer
past_longer : (n : ℕ) (o : Option ℕ) → PastRecord n o → PastRecord (suc n) o
past_longer n o h = IfSome_then o h (λ w k. (k.0, omega arith))

-- ---- one record more

-- a record's cell is within the arrays
pub cell_within : (z : Size) (r : Record) (day : List Record) → Within z → walks z (r ∷ day) ≡ true → r.cell < width
cell_within z r day within w =
    let fields = walks_fields z r day w in
    split (kind_has_cell r.kind) (λ k. omega (arith, fields.cell_known k, within.cells)) (λ k. omega (arith, fields.cell_unused k))

module _ (z : Size) (t : ℕ) (order : List ℕ) (within : Within z) (once : distinct order ≡ true) (few : length order ≤ width) (day : List Record) (s : Replay)
    (r : Record) (m : Mirrors z t order day s) (w : walks z (r ∷ day) ≡ true) where
  -- the record's number, its transaction, where that stands in the list, and whether it does
  abbrev n : ℕ
  n = suc (length day)

  abbrev who : ℕ
  who = whose day r

  abbrev at : ℕ
  at = position order who

  abbrev listed : Bool
  listed = ltb at (length order)

  -- a position is the transaction's only if it is listed
  listed_there : (i : ℕ) → i < length order → eqb i at ≡ true → listed ≡ true
  listed_there i h e = lt-ltb at (length order) (omega (arith, eqb-true i at e))

  abbrev place : Option ℕ
  place = cond listed (Some at) None

  -- what is kept behind it
  abbrev s' : Replay
  s' = followed z n r place (eqb who t) s

  -- by place
  holders_more : (p : ℕ) → p < z.places → 1 ≤ (seat (r ∷ day) p).status → get_or s'.holder p 0 ≡ (seat (r ∷ day) p).begin
  unfolding followed
  holders_more p h =
      seat_by r day p (λ (q : Seat). 1 ≤ q.status → get_or (holder_after n r s.holder) p 0 ≡ q.begin)
      (λ other k. elsewhere other ∙ m.holders p h k) λ here.
      record {
        on_free = λ f l. absurd (omega arith);
        on_start = λ k l. starting here k;
        on_other = λ k f l. going_on k ∙ m.holders p h (live here k);
      }
    where
      elsewhere : (r.place ≡ p → ⊥) → get_or (holder_after n r s.holder) p 0 ≡ get_or s.holder p 0
      elsewhere other =
          split (kind_starts r.kind) (λ k. rw k (get_or-set_other s.holder r.place p n 0 (λ q. other (sym q)))) (λ k. rw k)

      starting : r.place ≡ p → kind_starts r.kind ≡ true → get_or (holder_after n r s.holder) p 0 ≡ n
      starting here k =
          rw k (ap (λ i. get_or (set s.holder i n) p 0) here ∙ get_or-set_same s.holder p n 0 (omega (arith, m.holder_length, within.places)))

      going_on : kind_starts r.kind ≡ false → get_or (holder_after n r s.holder) p 0 ≡ get_or s.holder p 0
      going_on k = rw k

      live : r.place ≡ p → kind_starts r.kind ≡ false → 1 ≤ (seat day p).status
      live here k = let l = subst (λ (q : ℕ). LiveSeat r.turn (seat day q)) here (fits_live day r k (walks_earlier z r day w).1) in omega arith

  -- what is kept of one listed transaction
  row_more : (i : ℕ) → i < width → get_or s'.listed i nobody ≡ noted_if n r (listed && eqb i at) (get_or s.listed i nobody)
  unfolding followed noted_if
  row_more i h =
      rw (listed_if listed n r at s.listed)
      (get_or_set_if listed s.listed at i (noted n r (get_or s.listed at nobody)) nobody (omega (arith, m.listed_length))
      ∙ split (listed && eqb i at)
      (λ e. rw e (ap (λ j. noted n r (get_or s.listed j nobody)) (sym (eqb-true i at (and_right listed (eqb i at) e)))))
      (λ e. rw e))

  own_more : (i : ℕ) → i < length order → get_or s'.listed i nobody ≡ noted_if n r (eqb i at) (get_or s.listed i nobody)
  own_more i h =
      row_more i (omega arith)
      ∙ ap (λ b. noted_if n r b (get_or s.listed i nobody))
      (split (eqb i at) (λ e. rw (e, listed_there i h e)) (λ e. rw e (and_fails_right listed false refl)))

  -- by position
  commits_more : (i : ℕ) → i < length order → (get_or s'.listed i nobody).commit ≡ record_of (commit_of (events (r ∷ day)) (get_or order i 0))
  unfolding commit_of latest events event
  commits_more i h =
      let test = eqb i at && kind_commits r.kind in
      rw (position_only order who i once h)
      (ap (λ own. own.commit) (own_more i h)
      ∙ commit_noted n r (eqb i at) (get_or s.listed i nobody)
      ∙ ap (cond test (record_or_none n)) (m.commits i h)
      ∙ sym (record_if test n (commit_of (events day) (get_or order i 0))))

  -- by position and cell
  module _ (i c : ℕ) (h : i < length order) (k : c < z.cells) where
    writes_more : wrote_in (get_or s'.listed i nobody) c ≡ record_of (latest_write (events (r ∷ day)) (get_or order i 0) c)
    unfolding latest_write latest events event
    writes_more =
        let test = eqb i at && (kind_writes r.kind && eqb r.cell c) in
        rw (position_only order who i once h)
        (ap (λ own. wrote_in own c) (own_more i h)
        ∙ wrote_noted n r (eqb i at) (get_or s.listed i nobody) c (omega (arith, m.wrote_length i (omega arith), within.cells))
        ∙ ap (cond test (record_or_none n)) (m.writes i c h k)
        ∙ sym (record_if test n (latest_write (events day) (get_or order i 0) c)))

    reads_more : get_or (get_or s'.listed i nobody).read c false ≡ read_cell (events (r ∷ day)) (get_or order i 0) c
    unfolding read_cell any_in events event
    reads_more =
        let test = eqb i at && (kind_judged_read r.kind && eqb r.cell c) in
        rw (position_only order who i once h)
        (ap (λ own. get_or own.read c false) (own_more i h)
        ∙ read_noted n r (eqb i at) (get_or s.listed i nobody) c (omega (arith, m.read_length i (omega arith), within.cells))
        ∙ ap (cond test true) (m.reads i c h k)
        ∙ cond_or test (read_cell (events day) (get_or order i 0) c))

  -- by cell
  tables_more : (c : ℕ) → c < z.cells → get_or s'.table c None ≡ record_of (table_record order (events (r ∷ day)) c)
  unfolding followed table_record events event
  tables_more c h =
      rw (← position_member order who)
      (ap (λ table. get_or table c None) (table_if listed z r at s'.listed s.table)
      ∙ laid_or listed (kind_commits r.kind) (wrote_cell (events (r ∷ day)) who c) (laid z (get_or s'.listed at nobody) s.table) s.table c
      (latest_write (events (r ∷ day)) who c) (table_record order (events day) c) (λ l. committing (ltb-true at (length order) l)) (m.tables c h))
    where
      committing : at < length order
          → get_or (laid z (get_or s'.listed at nobody) s.table) c None
          ≡ record_of (cond (wrote_cell (events (r ∷ day)) who c) (latest_write (events (r ∷ day)) who c) (table_record order (events day) c))
      committing l =
          let last = latest_write (events (r ∷ day)) who c in
          let old = table_record order (events day) c in
          let own = get_or s'.listed at nobody in
          let here : wrote_in own c ≡ record_of last =
          writes_more at c l h ∙ ap (λ k. record_of (latest_write (events (r ∷ day)) k c)) (position_found order who l) in
          laid_at own z s.table c h (omega (arith, m.table_length, within.cells))
          ∙ ap₂ (λ (x y : Option ℕ). cond (is_some x) x y) here (m.tables c h)
          ∙ record_or last old
          ∙ ap (λ b. record_of (cond b last old)) (sym (wrote_told (r ∷ day) who c))

  -- whether somebody unlisted has committed
  strangers_more : s'.stranger ≡ has_stranger order (events (r ∷ day))
  unfolding followed has_stranger any_in events event
  strangers_more =
      ap₂ (λ (b old : Bool). (kind_commits r.kind && not b) || old) (some_if listed at ∙ position_member order who) m.strangers

  -- the records that are named are of the day
  past_rows : (i : ℕ) → PastWrites n (get_or s'.listed i nobody)
  unfolding followed
  past_rows =
      let older : (i : ℕ) → PastWrites n (get_or s.listed i nobody) =
      λ i c. past_longer (length day) (wrote_in (get_or s.listed i nobody) c) (m.past.1 i c) in
      rw (listed_if listed n r at s.listed)
      (set_each_if (PastWrites n) listed s.listed at (noted n r (get_or s.listed at nobody)) nobody
      (past_noted n r (get_or s.listed at nobody) (older at)) older)

  past_table : Past n s'.table
  unfolding followed
  past_table =
      rw (table_if listed z r at s'.listed s.table)
      (past_laid_if (listed && kind_commits r.kind) n z (get_or s'.listed at nobody) s.table (past_rows at)
      (λ c. past_longer (length day) (get_or s.table c None) (m.past.0 c)))

  -- what is kept mirrors one record more
  pub mirrors_more : Mirrors z t order (r ∷ day) s'
  unfolding followed
  mirrors_more =
      record {
        holders = holders_more;
        commits = commits_more;
        writes = writes_more;
        reads = reads_more;
        tables = tables_more;
        at_moment = ap (cond (eqb who t && kind_sets_moment r.kind) n) m.at_moment ∙ sym (moment_more z t r day w);
        strangers = strangers_more;
        past = (past_table, past_rows);
        holder_length = length_set_if (kind_starts r.kind) s.holder r.place n ∙ m.holder_length;
        listed_length = ap length (listed_if listed n r at s.listed) ∙ length_set_if listed s.listed at (noted n r (get_or s.listed at nobody)) ∙ m.listed_length;
        wrote_length = λ i h.
            ap (λ own. length own.wrote) (row_more i h) ∙ wrote_length_noted n r (listed && eqb i at) (get_or s.listed i nobody) ∙ m.wrote_length i h;
        read_length = λ i h.
            ap (λ own. length own.read) (row_more i h) ∙ read_length_noted n r (listed && eqb i at) (get_or s.listed i nobody) ∙ m.read_length i h;
        table_length = ap length (table_if listed z r at s'.listed s.table)
            ∙ length_laid_if (listed && kind_commits r.kind) z (get_or s'.listed at nobody) s.table ∙ m.table_length;
      }
