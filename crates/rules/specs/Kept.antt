-- What is proved of calls one after the other: what is known when no reason applies, and what every call keeps. The types of the theorems.
use Rattle.std.specs.Prelude.{◌≡◌, ℕ, ◌+◌, ◌*◌, ◌≤◌, ◌<◌, true, false, not, length}
use mathlib.Core.List.{List, [], Memᴰ}
use Rattle.basics.specs.Bytes.{part}
use Rattle.rules.specs.declared.Record.{Record}
use Rattle.rules.specs.Sizes.{Size, Within, cell_bytes, table_bytes, drafts_bytes, log_bytes, record_bytes, order_numbers, most_records, handles}
use Rattle.rules.specs.Books.{live_status, Books, Shaped, place_at, is_live, is_held, lowest_free, room_taken}
use Rattle.rules.specs.Handles.{place_of, turn_of, good_handle, is_stale}
use Rattle.rules.specs.Sound.{sound, Sound}
use Rattle.rules.specs.Judging.{has_cycle}
use Rattle.rules.specs.Numbers.{granted, first_reason}
use Rattle.rules.specs.State.{State, log_after, adds, shown_bytes, Outcome, state_of}
use Rattle.rules.specs.Calls.{Call, Read, Show, Close, Lending, issued}
use Rattle.rules.specs.Daylog.{commit_total, commits_in, day_bytes, standing}
use Rattle.rules.specs.Run.{Machine, outcome, new_day, after_call, fresh}
use Rattle.rules.specs.Steps.{begin_reasons, write_reasons, read_reasons, show_reasons, commit_reasons, give_up_reasons, post_reasons, order_reasons, close_reasons, open_rule, begin_rule, write_rule, read_rule, show_rule, commit_rule, give_up_rule, post_rule, order_rule, close_rule}

-- ---- what is known when no reason applies

-- a good handle of sound books
pub record HeldCaller (z : Size) (b : Books) (h : ℕ) : Type 0 where
  pub books : Sound z b
  pub below : h < handles
  pub place : place_of h < z.places
  pub held : is_held (place_at b (place_of h)) ≡ true
  pub turn : (place_at b (place_of h)).turn ≡ turn_of h

-- a handle of a live transaction of sound books
pub record LiveCaller (z : Size) (b : Books) (h : ℕ) : Type 0 where
  pub books : Sound z b
  pub below : h < handles
  pub place : place_of h < z.places
  pub live : (place_at b (place_of h)).status ≡ live_status
  pub turn : (place_at b (place_of h)).turn ≡ turn_of h

pub record BeginAsked (z : Size) (log_length : ℕ) (b : Books) : Type 0 where
  pub log_right : log_length ≡ log_bytes
  pub books : Sound z b
  pub free : lowest_free z b < z.places
  pub room : room_taken z b + 2 ≤ most_records

pub record WriteAsked (z : Size) (value_length drafts_length log_length : ℕ) (b : Books) (h c : ℕ) : Type 0 where
  pub value_right : value_length ≡ cell_bytes
  pub drafts_right : drafts_length ≡ drafts_bytes z
  pub log_right : log_length ≡ log_bytes
  pub caller : LiveCaller z b h
  pub cell : c < z.cells
  pub room : room_taken z b + 1 ≤ most_records

pub record ReadAsked (z : Size) (table_length drafts_length log_length : ℕ) (b : Books) (h c : ℕ) : Type 0 where
  pub table_right : table_length ≡ table_bytes z
  pub drafts_right : drafts_length ≡ drafts_bytes z
  pub log_right : log_length ≡ log_bytes
  pub caller : LiveCaller z b h
  pub cell : c < z.cells
  pub room : room_taken z b + 1 ≤ most_records

pub record ShowAsked (z : Size) (table_length drafts_length : ℕ) (b : Books) (given h c : ℕ) : Type 0 where
  pub read_granted : given ≡ granted
  pub table_right : table_length ≡ table_bytes z
  pub drafts_right : drafts_length ≡ drafts_bytes z
  pub caller : LiveCaller z b h
  pub cell : c < z.cells

pub record CommitAsked (z : Size) (table_length drafts_length log_length : ℕ) (b : Books) (h : ℕ) : Type 0 where
  pub table_right : table_length ≡ table_bytes z
  pub drafts_right : drafts_length ≡ drafts_bytes z
  pub log_right : log_length ≡ log_bytes
  pub caller : LiveCaller z b h

pub record GiveUpAsked (z : Size) (log_length : ℕ) (b : Books) (h : ℕ) : Type 0 where
  pub log_right : log_length ≡ log_bytes
  pub caller : LiveCaller z b h

pub record PostAsked (z : Size) (value_length table_length log_length : ℕ) (b : Books) (c : ℕ) : Type 0 where
  pub value_right : value_length ≡ cell_bytes
  pub table_right : table_length ≡ table_bytes z
  pub log_right : log_length ≡ log_bytes
  pub books : Sound z b
  pub cell : c < z.cells
  pub free : lowest_free z b < z.places
  pub room : room_taken z b + 1 ≤ most_records

pub record OrderAsked (z : Size) (buffer_length : ℕ) (b : Books) (h : ℕ) : Type 0 where
  pub buffer_right : buffer_length ≡ order_numbers z
  pub caller : HeldCaller z b h
  pub no_cycle : has_cycle z b (place_of h) ≡ false

pub record CloseAsked (z : Size) (log_length : ℕ) (b : Books) : Type 0 where
  pub log_right : log_length ≡ log_bytes
  pub books : Sound z b
  pub nobody_live : (i : ℕ) → i < z.places → is_live (place_at b i) ≡ false

-- for every call, over any books and lengths; and of sound books a handle is good exactly if it is not stale
pub record ReasonsAsked : Type 0 where
  pub of_begin : (z : Size) (log_length : ℕ) (b : Books) → first_reason (begin_reasons z log_length b) ≡ granted → BeginAsked z log_length b
  pub of_write : (z : Size) (value_length drafts_length log_length : ℕ) (b : Books) (h c : ℕ) → first_reason (write_reasons z value_length drafts_length log_length b h c) ≡ granted
      → WriteAsked z value_length drafts_length log_length b h c
  pub of_read : (z : Size) (table_length drafts_length log_length : ℕ) (b : Books) (h c : ℕ) → first_reason (read_reasons z table_length drafts_length log_length b h c) ≡ granted
      → ReadAsked z table_length drafts_length log_length b h c
  pub of_show : (z : Size) (table_length drafts_length : ℕ) (b : Books) (given h c : ℕ)
      → first_reason (show_reasons z table_length drafts_length b given h c) ≡ granted → ShowAsked z table_length drafts_length b given h c
  pub of_commit : (z : Size) (table_length drafts_length log_length : ℕ) (b : Books) (h : ℕ) → first_reason (commit_reasons z table_length drafts_length log_length b h) ≡ granted
      → CommitAsked z table_length drafts_length log_length b h
  pub of_give_up : (z : Size) (log_length : ℕ) (b : Books) (h : ℕ) → first_reason (give_up_reasons z log_length b h) ≡ granted → GiveUpAsked z log_length b h
  pub of_post : (z : Size) (value_length table_length log_length : ℕ) (b : Books) (c : ℕ) → first_reason (post_reasons z value_length table_length log_length b c) ≡ granted
      → PostAsked z value_length table_length log_length b c
  pub of_order : (z : Size) (buffer_length : ℕ) (b : Books) (h : ℕ) → first_reason (order_reasons z buffer_length b h) ≡ granted → OrderAsked z buffer_length b h
  pub of_close : (z : Size) (log_length : ℕ) (b : Books) → first_reason (close_reasons z log_length b) ≡ granted → CloseAsked z log_length b
  pub good : (z : Size) (b : Books) (h : ℕ) → Sound z b → good_handle z b h ≡ not (is_stale z b h)

-- ---- what every call keeps

-- the arrays stay as wide as they are declared, and sound books stay sound, whatever the call and what it is lent
pub record SoundnessKept : Type 0 where
  pub shape : (z : Size) (l : Lending) (c : Call) (s : State) → Shaped s.books → Shaped (issued z l c s).after.books
  pub soundness : (z : Size) (l : Lending) (c : Call) (s : State) → Within z → Shaped s.books → sound z s.books ≡ true
      → sound z (issued z l c s).after.books ≡ true

-- ---- what is shown after a read

-- the outcome of a read adds a record, and show gives the value in it on the state after the read
pub record ShowsRecorded (z : Size) (l : Lending) (h c : ℕ) (o : Outcome) : Type 0 where
  pub recorded : Record
  pub added : o.entry ≡ adds recorded
  pub value : shown_bytes o.after.drafts o.after.table (issued z l (Show granted h c) o.after).shown ≡ recorded.value

-- so it is after every granted read
abbrev pub ShownIsRecorded : Type 0
ShownIsRecorded =
    (z : Size) (l : Lending) (h c : ℕ) (s : State) → Within z → Shaped s.books → (issued z l (Read h c) s).number ≡ granted
    → ShowsRecorded z l h c (issued z l (Read h c) s)

-- ---- what a call is not lent

-- two outcomes agree in all but the buffers
pub record AsLent (o narrow : Outcome) : Type 0 where
  pub number : o.number ≡ narrow.number
  pub answer : o.answer ≡ narrow.answer
  pub order : o.order ≡ narrow.order
  pub shown : o.shown ≡ narrow.shown
  pub books : o.after.books ≡ narrow.after.books
  pub entry : o.entry ≡ narrow.entry

-- a call leaves the table, or the drafts
abbrev pub TableStays : State → Outcome → Type 0
TableStays s o = o.after.table ≡ s.table

abbrev pub DraftsStay : State → Outcome → Type 0
DraftsStay s o = o.after.drafts ≡ s.drafts

-- a call that is lent neither: its outcome is that on the books alone
pub record NeitherLent (s : State) (o narrow : Outcome) : Type 0 where
  pub agrees : AsLent o narrow
  pub table : TableStays s o
  pub drafts : DraftsStay s o

-- what a call is not lent is of no concern to its rule, and stays
pub record Unlent : Type 0 where
  pub of_open : (s : State) → NeitherLent s (open_rule s) (open_rule (state_of s.books [] []))
  pub of_begin : (z : Size) (log_length : ℕ) (s : State) → NeitherLent s (begin_rule z log_length s) (begin_rule z log_length (state_of s.books [] []))
  pub of_give_up : (z : Size) (log_length : ℕ) (s : State) (h : ℕ)
      → NeitherLent s (give_up_rule z log_length s h) (give_up_rule z log_length (state_of s.books [] []) h)
  pub of_order : (z : Size) (buffer_length : ℕ) (s : State) (h : ℕ)
      → NeitherLent s (order_rule z buffer_length s h) (order_rule z buffer_length (state_of s.books [] []) h)
  pub of_close : (z : Size) (log_length total : ℕ) (s : State)
      → NeitherLent s (close_rule z log_length total s) (close_rule z log_length total (state_of s.books [] []))
  -- a write is lent the drafts, a post the table
  pub of_write : (z : Size) (log_length : ℕ) (s : State) (h c : ℕ) (value : List ℕ)
      → AsLent (write_rule z log_length s h c value) (write_rule z log_length (state_of s.books [] s.drafts) h c value)
  pub write_drafts : (z : Size) (log_length : ℕ) (s : State) (h c : ℕ) (value : List ℕ)
      → (write_rule z log_length s h c value).after.drafts ≡ (write_rule z log_length (state_of s.books [] s.drafts) h c value).after.drafts
  pub write_table : (z : Size) (log_length : ℕ) (s : State) (h c : ℕ) (value : List ℕ) → TableStays s (write_rule z log_length s h c value)
  pub of_post : (z : Size) (log_length : ℕ) (s : State) (c : ℕ) (value : List ℕ)
      → AsLent (post_rule z log_length s c value) (post_rule z log_length (state_of s.books s.table []) c value)
  pub post_table : (z : Size) (log_length : ℕ) (s : State) (c : ℕ) (value : List ℕ)
      → (post_rule z log_length s c value).after.table ≡ (post_rule z log_length (state_of s.books s.table []) c value).after.table
  pub post_drafts : (z : Size) (log_length : ℕ) (s : State) (c : ℕ) (value : List ℕ) → DraftsStay s (post_rule z log_length s c value)
  -- a read is lent both and leaves both, a commit leaves the drafts, a show leaves all
  pub read_table : (z : Size) (log_length : ℕ) (s : State) (h c : ℕ) → TableStays s (read_rule z log_length s h c)
  pub read_drafts : (z : Size) (log_length : ℕ) (s : State) (h c : ℕ) → DraftsStay s (read_rule z log_length s h c)
  pub commit_drafts : (z : Size) (log_length : ℕ) (s : State) (h : ℕ) → DraftsStay s (commit_rule z log_length s h)
  pub show_all : (z : Size) (s : State) (given h c : ℕ) → (show_rule z s given h c).after ≡ s

-- ---- the lent log and the day

-- what a call on the machine is lent, by the lent log's bytes and the length of the order buffer
abbrev pub lent_with : List ℕ → ℕ → Machine → Lending
lent_with log buffer m = record { log = length log; buffer = buffer; total = commits_in log m.state.books.records }

-- the log holds the day: as many records as the books count, in their order, in the bytes in use
pub record Joined (m : Machine) (log : List ℕ) : Type 0 where
  pub counted : m.state.books.records ≡ length m.day
  pub in_use : part 0 (record_bytes * length m.day) log ≡ day_bytes m.day
  pub whole : length log ≡ log_bytes
  -- every record has a value of 8 bytes, so 16 bytes in all
  pub values : (r : Record) → Memᴰ r m.day → length r.value ≡ cell_bytes

pub record LogJoinsDay : Type 0 where
  -- a new day, with no record, is joined to any log of the right length
  pub new : (s : State) (log : List ℕ) → s.books.records ≡ 0 → length log ≡ log_bytes → Joined (new_day s) log
  pub fresh_books : (z : Size) (log : List ℕ) → length log ≡ log_bytes → Joined (fresh z) log
  -- the commits and posts among the log's records are the day's, so a call that is lent the log meets the machine's own outcome
  pub total : (m : Machine) (log : List ℕ) → Joined m log → commits_in log m.state.books.records ≡ commit_total m.day
  pub own_outcome : (z : Size) (c : Call) (m : Machine) (log : List ℕ) → Joined m log
      → issued z (lent_with log (order_numbers z) m) c m.state ≡ outcome z c m
  -- the log after a call is joined to the machine after it, whatever the call and the lengths of table, drafts and buffer
  pub after : (z : Size) (buffer : ℕ) (c : Call) (m : Machine) (log : List ℕ) → Joined m log
      → let o = issued z (lent_with log buffer m) c m.state in Joined (after_call m o) (log_after m.state.books.records o.entry log)
  -- after a granted close the log stands: the day's records and a true trailer
  pub closed : (z : Size) (buffer : ℕ) (m : Machine) (log : List ℕ) → Joined m log
      → let o = issued z (lent_with log buffer m) Close m.state in o.number ≡ granted
      → part 0 (record_bytes * length m.day + record_bytes) (log_after m.state.books.records o.entry log) ≡ standing m.day
