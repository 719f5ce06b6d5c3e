-- Document 01, "Step rules" and "Numbers given back": each call's reasons in the order of their numbers, and what it does if none applies.
-- Reasons look at the books and at the lengths of what is lent, never at its bytes.
use Rattle.std.specs.Prelude.{ℕ, ◌+◌, not, cond, ◌||◌, List, [], ◌∷◌, ◌++◌, length, ltb, leb, eqb}
use Rattle.basics.specs.Below.{any_below}
use Rattle.rules.specs.Sizes.{Size, cell_bytes, table_bytes, drafts_bytes, log_bytes, order_numbers, most_records}
use Rattle.rules.specs.Books.{Books, place_at, is_live, wrote, freed, begun, posted, marked, read_marked, sealed, with_place, with_record, number_of, opened, closed, lowest_free, no_free, live_count}
use Rattle.rules.specs.declared.Caller.TheVariants.{Reads, Writes, Commits, GivesUp, Orders}
use Rattle.rules.specs.Handles.{handle_of, place_of, Caller, is_stale, is_ended}
use Rattle.rules.specs.Sound.{sound}
use Rattle.rules.specs.Judging.{has_cycle, given_order}
use Rattle.rules.specs.Numbers.{granted, lent, unsound, stale, ended, no_cell, full, log_full, busy, Reason, ◌if◌, wrong}
use Rattle.rules.specs.Cells.{cell_of, with_cell, draft_of, with_draft, laid_over}
use Rattle.rules.specs.Kinds.{begin_kind, judged_read_kind, own_read_kind, write_kind, commit_kind, give_up_kind, read_conflict_kind, commit_conflict_kind, post_kind}
use Rattle.rules.specs.Daylog.{no_value}
use Rattle.rules.specs.State.{State, empty, Outcome, nothing, closes, opens, unless_refused, recorded, shown_draft, shown_cell, with_books, record_at}
use Rattle.rules.specs.Judged.{Judged, judged_of}

-- ---- reasons that several calls share

-- 2: books not sound
unfoldable pub soundness_reason : Size → Books → Reason
soundness_reason z b = unsound if not (sound z b)

-- 3 and 4: the handle, for each of the five calls that take one (order never meets 4)
unfoldable pub handle_reasons : Size → Caller → Books → ℕ → List Reason
handle_reasons z who b h = (stale if is_stale z b h) ∷ (ended if is_ended z who b h) ∷ []

-- 5: cell 32 or more
unfoldable pub cell_reason : Size → ℕ → Reason
cell_reason z c = no_cell if leb z.cells c

-- 2 to 5: books, handle and cell, for write, read and show
unfoldable pub handle_cell_reasons : Size → Caller → Books → ℕ → ℕ → List Reason
handle_cell_reasons z who b h c = soundness_reason z b ∷ (handle_reasons z who b h ++ (cell_reason z c ∷ []))

-- 7: records after the call plus live ones after it would pass 4,000
unfoldable pub room_reason : ℕ → ℕ → Reason
room_reason records_after live_after = log_full if ltb most_records (records_after + live_after)

-- ---- Open gives books with every place free, turns 0, no records. It never refuses.

unfoldable pub open_rule : State → Outcome
open_rule s = record { number = granted; answer = 0; order = []; shown = empty; after = with_books s opened; entry = opens }

module _ (z : Size) where
  -- ---- Begin takes the lowest free place and answers the handle.

  unfoldable pub begin_reasons : ℕ → Books → List Reason
  begin_reasons log_length b =
      (lent if wrong log_length log_bytes)
      ∷ soundness_reason z b
      ∷ (full if no_free z b)
      ∷ room_reason (b.records + 1) (live_count z b + 1)
      ∷ []

  unfoldable pub begin_of : State → Outcome
  begin_of s =
      let b = s.books in
      let i = lowest_free z b in
      let p = begun (place_at b i) (number_of b) in
      recorded granted (handle_of i p.turn) (with_books s (with_place b i p)) (record_at begin_kind i p 0 no_value)

  unfoldable pub begin_rule : ℕ → State → Outcome
  begin_rule log_length s = unless_refused (begin_reasons log_length s.books) s (begin_of s)

  -- ---- Write puts 8 bytes in the place's draft of that cell and marks the cell written. It is not judged.

  unfoldable pub write_reasons : ℕ → ℕ → ℕ → Books → ℕ → ℕ → List Reason
  write_reasons value_length drafts_length log_length b h c =
      (lent if (wrong value_length cell_bytes || (wrong drafts_length (drafts_bytes z) || wrong log_length log_bytes)))
      ∷ (handle_cell_reasons z Writes b h c ++ (room_reason (b.records + 1) (live_count z b) ∷ []))

  unfoldable pub write_of : State → ℕ → ℕ → List ℕ → Outcome
  write_of s i c value =
      let b = s.books in
      let p = place_at b i in
      recorded granted 0
      (record { books = with_place b i (marked p c); table = s.table; drafts = with_draft z i c value s.drafts })
      (record_at write_kind i p c value)

  unfoldable pub write_rule : ℕ → State → ℕ → ℕ → List ℕ → Outcome
  write_rule log_length s h c value =
      unless_refused (write_reasons (length value) (length s.drafts) log_length s.books h c) s (write_of s (place_of h) c value)

  -- ---- Read of a cell the transaction has written shows its draft and is not judged. Any other read shows the table's 8 bytes and is judged.

  -- 7 is counted as if granted
  unfoldable pub read_reasons : ℕ → ℕ → ℕ → Books → ℕ → ℕ → List Reason
  read_reasons table_length drafts_length log_length b h c =
      (lent if (wrong table_length (table_bytes z) || (wrong drafts_length (drafts_bytes z) || wrong log_length log_bytes)))
      ∷ (handle_cell_reasons z Reads b h c ++ (room_reason (b.records + 1) (live_count z b) ∷ []))

  -- a read of a written cell: its draft is recorded
  unfoldable pub own_read_of : State → ℕ → ℕ → Outcome
  own_read_of s i c =
      recorded granted 0 (with_books s (with_record s.books)) (record_at own_read_kind i (place_at s.books i) c (draft_of z s.drafts i c))

  -- any other read, granted: the table's value is recorded
  abbrev pub judged_read : State → ℕ → ℕ → Judged
  judged_read s i c =
      record {
        kind = judged_read_kind;
        cell = c;
        value = cell_of s.table c;
        place = read_marked (place_at s.books i) c (number_of s.books);
        table = s.table;
        drafts = s.drafts;
        back = read_conflict_kind;
      }

  abbrev pub judged_read_of : State → ℕ → ℕ → Outcome
  judged_read_of s i c = judged_of z s i (judged_read s i c)

  unfoldable pub read_of : State → ℕ → ℕ → Outcome
  read_of s i c = cond (wrote (place_at s.books i) c) (own_read_of s i c) (judged_read_of s i c)

  unfoldable pub read_rule : ℕ → State → ℕ → ℕ → Outcome
  read_rule log_length s h c =
      unless_refused (read_reasons (length s.table) (length s.drafts) log_length s.books h c) s (read_of s (place_of h) c)

  -- Showing takes the new books and the read's number. It shows an empty part unless that is 0 and a read would meet none of 1 to 5.
  unfoldable pub show_reasons : ℕ → ℕ → Books → ℕ → ℕ → ℕ → List Reason
  show_reasons table_length drafts_length b given h c =
      (given if not (eqb given granted))
      ∷ (lent if (wrong table_length (table_bytes z) || wrong drafts_length (drafts_bytes z)))
      ∷ handle_cell_reasons z Reads b h c

  unfoldable pub show_of : State → ℕ → ℕ → Outcome
  show_of s i c =
      record {
        number = granted;
        answer = 0;
        order = [];
        shown = cond (wrote (place_at s.books i) c) (shown_draft z i c) (shown_cell c);
        after = s;
        entry = nothing;
      }

  unfoldable pub show_rule : State → ℕ → ℕ → ℕ → Outcome
  show_rule s given h c =
      unless_refused (show_reasons (length s.table) (length s.drafts) s.books given h c) s (show_of s (place_of h) c)

  -- ---- Commit is judged as if granted. Granted, the written cells' drafts go into the table and the place becomes committed.

  unfoldable pub commit_reasons : ℕ → ℕ → ℕ → Books → ℕ → List Reason
  commit_reasons table_length drafts_length log_length b h =
      (lent if (wrong table_length (table_bytes z) || (wrong drafts_length (drafts_bytes z) || wrong log_length log_bytes)))
      ∷ soundness_reason z b
      ∷ handle_reasons z Commits b h

  -- granted: the written cells' drafts go into the table
  abbrev pub judged_commit : State → ℕ → Judged
  judged_commit s i =
      let p = place_at s.books i in
      record {
        kind = commit_kind;
        cell = 0;
        value = no_value;
        place = sealed p (number_of s.books);
        table = laid_over z (wrote p) (draft_of z s.drafts i) s.table;
        drafts = s.drafts;
        back = commit_conflict_kind;
      }

  abbrev pub judged_commit_of : State → ℕ → Outcome
  judged_commit_of s i = judged_of z s i (judged_commit s i)

  unfoldable pub commit_rule : ℕ → State → ℕ → Outcome
  commit_rule log_length s h =
      unless_refused (commit_reasons (length s.table) (length s.drafts) log_length s.books h) s (judged_commit_of s (place_of h))

  -- ---- Give up frees the place.

  unfoldable pub give_up_reasons : ℕ → Books → ℕ → List Reason
  give_up_reasons log_length b h = (lent if wrong log_length log_bytes) ∷ soundness_reason z b ∷ handle_reasons z GivesUp b h

  unfoldable pub give_up_of : State → ℕ → Outcome
  give_up_of s i =
      let b = s.books in
      let p = place_at b i in
      recorded granted 0 (with_books s (with_place b i (freed p))) (record_at give_up_kind i p 0 no_value)

  unfoldable pub give_up_rule : ℕ → State → ℕ → Outcome
  give_up_rule log_length s h = unless_refused (give_up_reasons log_length s.books h) s (give_up_of s (place_of h))

  -- ---- Post is begin, write and commit in one record. It writes the table, leaves the drafts, answers the handle, and is never judged.

  unfoldable pub post_reasons : ℕ → ℕ → ℕ → Books → ℕ → List Reason
  post_reasons value_length table_length log_length b c =
      (lent if (wrong value_length cell_bytes || (wrong table_length (table_bytes z) || wrong log_length log_bytes)))
      ∷ soundness_reason z b
      ∷ cell_reason z c
      ∷ (full if no_free z b)
      ∷ room_reason (b.records + 1) (live_count z b)
      ∷ []

  unfoldable pub post_of : State → ℕ → List ℕ → Outcome
  post_of s c value =
      let b = s.books in
      let i = lowest_free z b in
      let p = posted (place_at b i) c (number_of b) in
      recorded granted (handle_of i p.turn)
      (record { books = with_place b i p; table = with_cell c value s.table; drafts = s.drafts })
      (record_at post_kind i p c value)

  unfoldable pub post_rule : ℕ → State → ℕ → List ℕ → Outcome
  post_rule log_length s c value =
      unless_refused (post_reasons (length value) (length s.table) log_length s.books c) s (post_of s c value)

  -- ---- Order answers a count n and puts the transaction's order into the first n numbers of the order buffer. It adds no record.

  -- the second reason for 2 comes after 3
  unfoldable pub order_reasons : ℕ → Books → ℕ → List Reason
  order_reasons buffer_length b h =
      (lent if wrong buffer_length (order_numbers z))
      ∷ soundness_reason z b
      ∷ (handle_reasons z Orders b h ++ ((unsound if has_cycle z b (place_of h)) ∷ []))

  unfoldable pub order_of : State → ℕ → Outcome
  order_of s i =
      let order = given_order z s.books i in
      record { number = granted; answer = length order; order = order; shown = empty; after = s; entry = nothing }

  unfoldable pub order_rule : ℕ → State → ℕ → Outcome
  order_rule buffer_length s h = unless_refused (order_reasons buffer_length s.books h) s (order_of s (place_of h))

  -- ---- Close writes the trailer just after the last record, frees every place, keeps turns, sets records to 0.

  unfoldable pub close_reasons : ℕ → Books → List Reason
  close_reasons log_length b =
      (lent if wrong log_length log_bytes)
      ∷ soundness_reason z b
      ∷ (busy if any_below (λ i. is_live (place_at b i)) z.places)
      ∷ []

  -- `total` is the number of commits and posts among the records of the lent log
  unfoldable pub close_of : ℕ → State → Outcome
  close_of total s =
      record {
        number = granted;
        answer = 0;
        order = [];
        shown = empty;
        after = with_books s (closed s.books);
        entry = closes s.books.records total;
      }

  unfoldable pub close_rule : ℕ → ℕ → State → Outcome
  close_rule log_length total s = unless_refused (close_reasons log_length s.books) s (close_of total s)
