-- Document 01, "Books": books are sound exactly if ... First as a test, then as a record with a field for each clause.
use Rattle.std.specs.Prelude.{ℕ, ◌≤◌, ◌<◌, ◌≡◌, ◌⊎◌, Bool, true, false, not, cond, ◌&&◌, ◌||◌, List, get_or, leb, eqb}
use Rattle.basics.specs.Below.{all_below}
use Rattle.rules.specs.declared.Place.{Place}
use Rattle.rules.specs.Sizes.{Size, most_records}
use Rattle.rules.specs.Books.{Books, place_at, is_free, is_live, is_committed, is_held, wrote, first_read, last_read, room_taken}

-- ---- the test

-- no cell is written, and none was read
unfoldable pub cells_clear : Size → List Bool → List ℕ → List ℕ → Bool
cells_clear z written first last =
    all_below (λ c. not (get_or written c false) && (eqb (get_or first c 0) 0 && eqb (get_or last c 0) 0)) z.cells

-- zero in all but the turn
unfoldable pub is_clear : Size → Place → Bool
is_clear z p = eqb p.begin 0 && (eqb p.commit 0 && cells_clear z p.written p.first p.last)

-- first and last read of a cell: both 0, or begin ≤ first ≤ last ≤ records
unfoldable pub read_sound : ℕ → ℕ → ℕ → ℕ → Bool
read_sound records begin first last = (eqb first 0 && eqb last 0) || (leb begin first && (leb first last && leb last records))

-- the reads of a cell at a place
unfoldable pub reads_sound : ℕ → Place → ℕ → Bool
reads_sound records p c = read_sound records p.begin (first_read p c) (last_read p c)

-- a held place has a begin record, from 1 to the record count, and its reads are sound
unfoldable pub held_sound : Size → ℕ → Place → Bool
held_sound z records p = leb 1 p.begin && (leb p.begin records && all_below (reads_sound records p) z.cells)

-- a committed place has a commit record, from its begin to the record count
unfoldable pub commit_sound : ℕ → Place → Bool
commit_sound records p = leb p.begin p.commit && leb p.commit records

-- a place by its status: free, live (no commit record) or committed; any other status is unsound
unfoldable pub place_sound : Size → ℕ → Place → Bool
place_sound z records p =
    cond (is_free p) (is_clear z p)
    (cond (is_live p) (held_sound z records p && eqb p.commit 0)
    (cond (is_committed p) (held_sound z records p && commit_sound records p) false))

-- of the places that pass, no two have the same record
unfoldable pub differ : Size → Books → (Place → Bool) → (Place → ℕ) → Bool
differ z b passes key =
    all_below (λ i. all_below (λ j. not (passes (place_at b i) && (passes (place_at b j) && eqb (key (place_at b i)) (key (place_at b j))))) i) z.places

-- the books are sound
unfoldable pub sound : Size → Books → Bool
sound z b =
    leb (room_taken z b) most_records
    && (all_below (λ i. place_sound z b.records (place_at b i)) z.places
    && (differ z b is_held (λ p. p.begin) && differ z b is_committed (λ p. p.commit)))

-- ---- clause by clause

-- what the clauses say of one place
pub record SoundPlace (z : Size) (records : ℕ) (p : Place) : Type 0 where
  -- a place is free, live or committed
  pub status_known : p.status ≤ 2
  -- a free place has zero in all but its turn
  pub free_clear : is_free p ≡ true → (p.begin ≡ 0) × (p.commit ≡ 0) × ((c : ℕ) → c < z.cells → (wrote p c ≡ false) × (first_read p c ≡ 0) × (last_read p c ≡ 0))
  -- every non-zero record number is from 1 to the record count
  pub begin_counted : p.begin ≤ records
  pub commit_counted : p.commit ≤ records
  pub first_counted : (c : ℕ) → c < z.cells → first_read p c ≤ records
  pub last_counted : (c : ℕ) → c < z.cells → last_read p c ≤ records
  -- a held place has a begin record
  pub held_begun : is_held p ≡ true → 1 ≤ p.begin
  -- a committed place has a commit record, a live one has none
  pub committed_sealed : is_committed p ≡ true → 1 ≤ p.commit
  pub live_unsealed : is_live p ≡ true → p.commit ≡ 0
  -- first and last read are both 0, or first ≤ last and the begin record ≤ each of them
  pub reads_ordered : (c : ℕ) → c < z.cells → ((first_read p c ≡ 0) × (last_read p c ≡ 0)) ⊎ ((first_read p c ≤ last_read p c) × (p.begin ≤ first_read p c) × (p.begin ≤ last_read p c))
  -- begin record ≤ its commit
  pub begin_first : is_committed p ≡ true → p.begin ≤ p.commit

pub record Sound (z : Size) (b : Books) : Type 0 where
  -- records plus live ones are at most 4,000
  pub room : room_taken z b ≤ most_records
  -- each place by itself
  pub each : (i : ℕ) → i < z.places → SoundPlace z b.records (place_at b i)
  -- no two held places have the same begin record
  pub begins_differ : (i j : ℕ) → i < z.places → j < z.places → is_held (place_at b i) ≡ true → is_held (place_at b j) ≡ true → (place_at b i).begin ≡ (place_at b j).begin → i ≡ j
  -- no two committed places have the same commit record
  pub commits_differ : (i j : ℕ) → i < z.places → j < z.places → is_committed (place_at b i) ≡ true → is_committed (place_at b j) ≡ true → (place_at b i).commit ≡ (place_at b j).commit → i ≡ j
