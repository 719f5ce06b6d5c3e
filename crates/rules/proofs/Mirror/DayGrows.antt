-- What keeps table, drafts and day in step: a new day, a day with one record more, and books with one place changed. Rests on the laws of
-- values last written and last committed. Assumes nothing.
use Prim.Native.Nat.{ℕ, ◌<◌}
use mathlib.Core.Path.{◌≡◌, refl, sym, ◌∙◌, ap}
use mathlib.Core.Logic.{◌≢◌, ⊎_elim}
use mathlib.Core.Bool.{true, false, false≢true}
use mathlib.Core.List.{List, ◌∷◌}
use lib.ListN.{length}
use native.Mathlib.Omega.{arith}
use Rattle.basics.specs.Bytes.{AreBytes}
use Rattle.basics.proofs.Bools.{clash}
use Rattle.basics.proofs.Bytes.{zeros_are_bytes}
use Rattle.basics.proofs.Each.{each_none, each_cons, every_none, every_more}
use Rattle.basics.proofs.Elements.{get_or_replicate_all, get_or_replicate_same, get_or_map_all}
use Rattle.rules.specs.declared.Place.{Place}
use Rattle.rules.specs.declared.Record.{Record}
use Rattle.rules.specs.Sizes.{Size, Within, cell_bytes, table_bytes, drafts_bytes, turns, width}
use Rattle.rules.specs.Books.{Books, Shaped, place_at, no_place, is_live, wrote, freed, begun, posted, read_marked, sealed, with_place, opened, closed}
use Rattle.rules.specs.Cells.{cell_of, draft_of}
use Rattle.rules.specs.Kinds.{kind_commits, kind_writes, kind_judged_read, kind_own_read}
use Rattle.rules.specs.Daylog.{Proper, no_value}
use Rattle.rules.specs.State.{State, adds, with_books, record_at}
use Rattle.rules.specs.Day.{Event, whose, event, events, written_value}
use Rattle.rules.specs.Run.{Machine, new_day, moved_on}
use Rattle.rules.specs.Runs.{DayStarts}
use Rattle.rules.specs.History.{last_write}
use Rattle.rules.proofs.Books.Shape.{place_at_same, place_at_other, each_changed}
use Rattle.rules.proofs.Day.LastWrites.{value_past, last_past}
use Rattle.rules.proofs.Mirror.Mirrors.{Valued}

-- ---- a new day

-- nobody is live in books just opened, or closed, or at the start of a day
abbrev pub NobodyLive : Books → Type 0
NobodyLive b = (i : ℕ) → is_live (place_at b i) ≡ false

pub nobody_opened : NobodyLive opened
unfolding opened freed
nobody_opened i = get_or_replicate_all (λ p. is_live p ≡ false) width i (freed no_place) no_place refl refl

pub nobody_closed : (b : Books) → NobodyLive (closed b)
unfolding closed freed
nobody_closed b i = get_or_map_all (λ p. is_live p ≡ false) freed b.places i no_place refl (λ p. refl)

pub nobody_at_start : (b : Books) → DayStarts b → NobodyLive b
nobody_at_start b = ⊎_elim (λ e. rw e nobody_opened) (λ x. rw x.2 (nobody_closed x.0))

module _ (z : Size) (s : State) (whole : length s.table ≡ table_bytes z) (in_bytes : AreBytes s.table) (drafts : length s.drafts ≡ drafts_bytes z)
    (drafts_in_bytes : AreBytes s.drafts) (nobody : NobodyLive s.books) where
  -- a day without records has no draft and no read, and the table is the opening table
  pub valued_new_day : Valued z (new_day s)
  unfolding new_day events last_write
  valued_new_day =
      record {
        table_length = whole;
        table_in_bytes = in_bytes;
        drafts_length = drafts;
        drafts_in_bytes = drafts_in_bytes;
        opening_length = whole;
        proper = every_none Proper;
        table = λ c h. refl;
        drafts = λ i h live. absurd (clash live (nobody i));
        legal = each_none _;
      }

-- ---- one record more

-- the drafts of a live place have the values last written, and so have those of all live places
abbrev pub DraftRight : Size → List ℕ → List Event → ℕ → Place → Type 0
DraftRight z drafts es i p =
    is_live p ≡ true → (c : ℕ) → c < z.cells → wrote p c ≡ true → draft_of z drafts i c ≡ written_value es p.begin c

abbrev pub DraftsRight : Size → Books → List ℕ → List Event → Type 0
DraftsRight z b drafts es = (i : ℕ) → i < z.places → DraftRight z drafts es i (place_at b i)

-- the cells of the table have the values last committed
abbrev pub TableRight : Size → List ℕ → List ℕ → List Event → Type 0
TableRight z opening table es = (c : ℕ) → c < z.cells → cell_of table c ≡ last_write opening es c

-- a record that is a read has the value of its time
pub record ReadsRight (m : Machine) (r : Record) : Type 0 where
  pub judged : kind_judged_read r.kind ≡ true → r.value ≡ last_write m.opening (events m.day) r.cell
  pub own : kind_own_read r.kind ≡ true → r.value ≡ written_value (events m.day) (whose m.day r) r.cell

-- a record that is no read
pub reads_nothing : (m : Machine) (r : Record) → kind_judged_read r.kind ≡ false → kind_own_read r.kind ≡ false → ReadsRight m r
reads_nothing m r j o = record { judged = λ t. absurd (clash t j); own = λ t. absurd (clash t o) }

-- a live place with a written cell was live before with the same transaction, and had written the cell
abbrev pub StaysLive : Place → Place → Type 0
StaysLive p q = is_live q ≡ true → (c : ℕ) → wrote q c ≡ true → (is_live p ≡ true) × (q.begin ≡ p.begin) × (wrote p c ≡ true)

abbrev pub AsBefore : Size → Books → Books → Type 0
AsBefore z b after = (i : ℕ) → i < z.places → StaysLive (place_at b i) (place_at after i)

module _ (z : Size) (m : Machine) (valued : Valued z m) (r : Record) where
  abbrev day : List Record
  day = m.day

  abbrev more : List Event
  more = event day r ∷ events day

  -- table and drafts of the right lengths and in bytes, with the right values, and a record that fits and is right if it is a read
  pub valued_adds : (s : State) → Proper r → ReadsRight m r → (length s.table ≡ table_bytes z) × AreBytes s.table
      → (length s.drafts ≡ drafts_bytes z) × AreBytes s.drafts → TableRight z m.opening s.table more → DraftsRight z s.books s.drafts more
      → Valued z (moved_on m s (adds r))
  unfolding moved_on events event
  valued_adds s fit reads whole drafts table_right drafts_right =
      record {
        table_length = whole.0;
        table_in_bytes = whole.1;
        drafts_length = drafts.0;
        drafts_in_bytes = drafts.1;
        opening_length = valued.opening_length;
        proper = every_more Proper r day fit valued.proper;
        table = table_right;
        drafts = drafts_right;
        legal = (each_cons _ (event day r) (events day)).1 ((reads.judged, reads.own), valued.legal);
      }

  -- a record that commits nothing leaves the table right
  pub table_past : kind_commits r.kind ≡ false → TableRight z m.opening m.state.table more
  unfolding event
  table_past k c h = valued.table c h ∙ sym (last_past (event day r) (events day) m.opening c k)

  -- one that writes nothing of the live places' transactions leaves the drafts right
  pub drafts_past : (b : Books) → AsBefore z m.state.books b
      → ((i : ℕ) → i < z.places → is_live (place_at m.state.books i) ≡ true → (c : ℕ)
      → let t = (place_at m.state.books i).begin in written_value more t c ≡ written_value (events day) t c)
      → DraftsRight z b m.state.drafts more
  drafts_past b same past i h live c d w =
      let s = same i h live c w in
      valued.drafts i h s.0 c d s.2 ∙ sym (past i h s.0 c) ∙ ap (λ (t : ℕ). written_value more t c) (sym s.1)

  -- one that does neither, on table and drafts as they were
  pub valued_quiet : (b : Books) → Proper r → ReadsRight m r → kind_commits r.kind ≡ false → kind_writes r.kind ≡ false → AsBefore z m.state.books b
      → Valued z (moved_on m (with_books m.state b) (adds r))
  unfolding event
  valued_quiet b fit reads k w same =
      valued_adds (with_books m.state b) fit reads (valued.table_length, valued.table_in_bytes) (valued.drafts_length, valued.drafts_in_bytes)
      (table_past k) (drafts_past b same (λ i h live c. value_past (event day r) (events day) (place_at m.state.books i).begin c w))

-- ---- one place changed

-- a place that is as it was
pub stays_same : (p : Place) → StaysLive p p
stays_same p live c w = (live, refl, w)

-- what is freed, sealed or posted is not live; what is begun wrote nothing; a judged read changes neither
pub stays_freed : (p q : Place) → StaysLive p (freed q)
unfolding freed
stays_freed p q live = absurd (false≢true live)

pub stays_sealed : (p q : Place) (n : ℕ) → StaysLive p (sealed q n)
unfolding sealed
stays_sealed p q n live = absurd (false≢true live)

pub stays_posted : (p q : Place) (c n : ℕ) → StaysLive p (posted q c n)
unfolding posted
stays_posted p q c n live = absurd (false≢true live)

pub stays_begun : (p q : Place) (n : ℕ) → StaysLive p (begun q n)
unfolding begun
stays_begun p q n live c w = absurd (clash w (get_or_replicate_same width c false))

pub stays_read_marked : (p : Place) (c n : ℕ) → StaysLive p (read_marked p c n)
unfolding read_marked
stays_read_marked p c n live d w = (live, refl, w)

-- with one such place the others are as before
pub changed_one : (z : Size) (b : Books) (i : ℕ) (p : Place) → Shaped b → i < width → StaysLive (place_at b i) p → AsBefore z b (with_place b i p)
changed_one z b i p shape inside here =
    each_changed b (with_place b i p) i z.places (λ j h other. place_at_other b i j p other) (λ j. StaysLive (place_at b j))
    (λ h. rw (place_at_same i p shape inside) here) (λ j h other. stays_same (place_at b j))

-- and the drafts are right if those of the changed place and of the others are
pub drafts_changed : (z : Size) (b : Books) (i : ℕ) (p : Place) (drafts : List ℕ) (es : List Event) → Shaped b → i < width → DraftRight z drafts es i p
    → ((j : ℕ) → j < z.places → j ≢ i → DraftRight z drafts es j (place_at b j)) → DraftsRight z (with_place b i p) drafts es
drafts_changed z b i p drafts es shape inside here =
    each_changed b (with_place b i p) i z.places (λ j h other. place_at_other b i j p other) (DraftRight z drafts es)
    (λ h. rw (place_at_same i p shape inside) here)

-- ---- a record's fields

-- an unused value is in bytes
pub zeros_in_bytes : AreBytes no_value
zeros_in_bytes = zeros_are_bytes cell_bytes

-- a record of a place with a right turn
pub proper_at : (z : Size) (kind i : ℕ) (p : Place) (c : ℕ) (value : List ℕ) → Within z → kind < 256 → i < z.places → p.turn < turns → c < 256
    → length value ≡ cell_bytes → AreBytes value → Proper (record_at kind i p c value)
proper_at z kind i p c value w k h t d l v =
    record {
      kind_small = k;
      place_small = omega (arith, w.places);
      cell_small = d;
      spare_small = omega arith;
      turn_small = t;
      gap_small = omega arith;
      value_length = l;
      value_bytes = v;
    }

-- the turn of a place just begun, or posted, is right
pub begun_turn : (p : Place) (n : ℕ) → (begun p n).turn < turns
unfolding begun
begun_turn p n = omega arith

pub posted_turn : (p : Place) (c n : ℕ) → (posted p c n).turn < turns
unfolding posted
posted_turn p c n = omega arith
