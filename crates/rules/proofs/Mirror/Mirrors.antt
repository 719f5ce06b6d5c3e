-- What the books, the table and the drafts of a run have to do with the day's records: each held place mirrors its transaction, the table is as
-- the commits left it, the drafts as the writes did, and every read was shown the value of its time. Definitions only; that every call keeps
-- them is in Mirrored and Valued.
use Prim.Native.Nat.{ℕ, ◌<◌}
use mathlib.Core.Path.{◌≡◌}
use mathlib.Core.Bool.{Bool, true, cond, ◌&&◌}
use mathlib.Core.List.{List, [], ◌∷◌}
use lib.ListN.{length}
use lib.Dec.{eqb}
use Rattle.basics.specs.Bytes.{AreBytes}
use Rattle.basics.specs.Lists.{member}
use Rattle.rules.specs.declared.Place.{Place}
use Rattle.rules.specs.declared.Record.{Record}
use Rattle.rules.specs.Sizes.{Size, table_bytes, drafts_bytes}
use Rattle.rules.specs.Books.{Books, Shaped, place_at, is_live, is_committed, is_held, wrote, first_read, last_read}
use Rattle.rules.specs.Sound.{Sound}
use Rattle.rules.specs.Cells.{cell_of, draft_of}
use Rattle.rules.specs.Kinds.{kind_judged_read}
use Rattle.rules.specs.Daylog.{AllProper}
use Rattle.rules.specs.Layout.{seat, walks}
use Rattle.rules.specs.Day.{Event, events, latest, commit_of, committed, wrote_cell, written_value}
use Rattle.rules.specs.Run.{Machine}
use Rattle.rules.specs.History.{last_write, Legal}

-- the number of the oldest event that passes; 0 if none does
unfoldable pub earliest : (Event → Bool) → List Event → ℕ
earliest passes [] = 0
earliest passes (e ∷ earlier) = let older = earliest passes earlier in cond (eqb older 0) (cond (passes e) e.number 0) older

-- a judged read of the cell by the transaction
abbrev pub reads_it : ℕ → ℕ → Event → Bool
reads_it t c e = eqb e.who t && (kind_judged_read e.kind && eqb e.cell c)

-- ---- a place and its transaction

-- a held place holds what the day tells of its transaction
pub record Holds (z : Size) (day : List Record) (i : ℕ) (p : Place) : Type 0 where
  pub begin : (seat day i).begin ≡ p.begin
  pub turn : (seat day i).turn ≡ p.turn
  pub cells : (c : ℕ) → c < z.cells → member c (seat day i).written ≡ wrote p c
  pub written : (c : ℕ) → c < z.cells → wrote_cell (events day) p.begin c ≡ wrote p c
  pub sealed : committed (events day) p.begin ≡ is_committed p
  pub commit : commit_of (events day) p.begin ≡ p.commit
  pub first : (c : ℕ) → c < z.cells → earliest (reads_it p.begin c) (events day) ≡ first_read p c
  pub last : (c : ℕ) → c < z.cells → latest (reads_it p.begin c) (events day) ≡ last_read p c

-- a place stands as its seat, and if it is held holds its transaction
pub record Mirrors (z : Size) (day : List Record) (i : ℕ) (p : Place) : Type 0 where
  pub status : (seat day i).status ≡ p.status
  pub holds : is_held p ≡ true → Holds z day i p

-- a committed place holds the transaction
pub record HeldCommitted (z : Size) (b : Books) (t : ℕ) : Type 0 where
  pub at : ℕ
  pub there : at < z.places
  pub done : is_committed (place_at b at) ≡ true
  pub named : (place_at b at).begin ≡ t

-- everybody who committed that day is held
unfoldable pub CommittedAreHeld : Size → Books → List Record → Type 0
CommittedAreHeld z b day = (t : ℕ) → committed (events day) t ≡ true → HeldCommitted z b t

-- ---- the books and the day

pub record Mirrored (z : Size) (b : Books) (day : List Record) : Type 0 where
  pub shape : Shaped b
  pub sound : Sound z b
  pub counted : b.records ≡ length day
  pub walking : walks z day ≡ true
  pub places : (i : ℕ) → i < z.places → Mirrors z day i (place_at b i)
  pub kept : CommittedAreHeld z b day

-- ---- the bytes and the day

pub record Valued (z : Size) (m : Machine) : Type 0 where
  pub table_length : length m.state.table ≡ table_bytes z
  pub table_in_bytes : AreBytes m.state.table
  pub drafts_length : length m.state.drafts ≡ drafts_bytes z
  pub drafts_in_bytes : AreBytes m.state.drafts
  pub opening_length : length m.opening ≡ table_bytes z
  -- every record's fields fit into their bytes
  pub proper : AllProper m.day
  -- a cell of the table has the value last committed to it, or the opening value
  pub table : (c : ℕ) → c < z.cells → cell_of m.state.table c ≡ last_write m.opening (events m.day) c
  -- a live place's draft of a written cell has the value last written
  pub drafts : (i : ℕ) → i < z.places → is_live (place_at m.state.books i) ≡ true → (c : ℕ) → c < z.cells → wrote (place_at m.state.books i) c ≡ true
      → draft_of z m.state.drafts i c ≡ written_value (events m.day) (place_at m.state.books i).begin c
  -- every read of the day has the value of its time
  pub legal : Legal m.opening (events m.day)
