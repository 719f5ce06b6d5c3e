-- What is proved of the rules: the types of the theorems, to be read without their proofs.
use Rattle.std.specs.Prelude.{◌≡◌, ◌↔◌, ◌≢◌, ◌⊎◌, ℕ, ◌≤◌, ◌<◌, true, List, [], ◌∷◌, length}
use Rattle.basics.specs.Bytes.{AreBytes}
use Rattle.basics.specs.Lists.{member, distinct, keeps}
use Rattle.basics.specs.Elimination.{TakesLowest}
use Rattle.rules.specs.declared.Record.{Record}
use Rattle.rules.specs.Sizes.{Size, record_bytes, most_records}
use Rattle.rules.specs.Books.{Books, place_at, is_held, freed, with_place}
use Rattle.rules.specs.Handles.{place_of}
use Rattle.rules.specs.Sound.{sound, Sound}
use Rattle.rules.specs.Judging.{stands_before, company, has_cycle, HasCycle, given_places}
use Rattle.rules.specs.Numbers.{granted, conflict, first_reason}
use Rattle.rules.specs.Kinds.{kind_known, kind_begins, kind_posts, kind_starts, kind_commits, kind_writes, kind_gives_up, kind_conflict, kind_frees, kind_judged_read, kind_own_read, kind_table_read, kind_judged, granted_kind, kind_moves_moment, kind_sets_moment, kind_has_value, kind_has_cell}
use Rattle.rules.specs.Daylog.{Proper, AllProper, no_value, encode, decode, standing, records_in, day_of}
use Rattle.rules.specs.State.{State, Outcome, nothing, adds, empty, record_at}
use Rattle.rules.specs.Layout.{walks, well_laid_out, WellLaidOut}
use Rattle.rules.specs.Judged.{Judged, books_granted}
use Rattle.rules.specs.Calls.{Call, Show, Order, Lending, issued, reasons_of, owns, IsJudged}
use Rattle.rules.specs.Run.{Machine, after_call}

-- the test of soundness says what the clauses say
abbrev pub SoundnessSays : Type 0
SoundnessSays = (z : Size) (b : Books) → (sound z b ≡ true) ↔ Sound z b

-- the walk over a log says what the layout rules say
abbrev pub LayoutSays : Type 0
LayoutSays = (z : Size) (log : List ℕ) → (well_laid_out z log ≡ true) ↔ WellLaidOut z log

-- what document 01 says of the kinds, by their numbers
pub record KindsSay : Type 0 where
  -- 1 begin, 2 judged read, 3 own read, 4 write, 5 commit, 6 give up, 7 Conflict at a read, 8 Conflict at commit, 9 post
  pub known : (k : ℕ) → (kind_known k ≡ true) ↔ ((1 ≤ k) × (k ≤ 9))
  pub begins : (k : ℕ) → kind_begins k ≡ member k (1 ∷ [])
  pub judged_read : (k : ℕ) → kind_judged_read k ≡ member k (2 ∷ [])
  pub own_read : (k : ℕ) → kind_own_read k ≡ member k (3 ∷ [])
  pub gives_up : (k : ℕ) → kind_gives_up k ≡ member k (6 ∷ [])
  pub conflict : (k : ℕ) → kind_conflict k ≡ member k (7 ∷ 8 ∷ [])
  pub posts : (k : ℕ) → kind_posts k ≡ member k (9 ∷ [])
  -- begin and post start a transaction, commit and post commit it, write and post write a cell
  pub starts : (k : ℕ) → kind_starts k ≡ member k (1 ∷ 9 ∷ [])
  pub commits : (k : ℕ) → kind_commits k ≡ member k (5 ∷ 9 ∷ [])
  pub writes : (k : ℕ) → kind_writes k ≡ member k (4 ∷ 9 ∷ [])
  -- kinds 6, 7, 8 free the place
  pub frees : (k : ℕ) → kind_frees k ≡ member k (6 ∷ 7 ∷ 8 ∷ [])
  -- kinds 2 and 7 name a cell that the transaction has not written
  pub table_read : (k : ℕ) → kind_table_read k ≡ member k (2 ∷ 7 ∷ [])
  -- reads that are granted and commits are judged; a Conflict at a read would have been a judged read, one at commit a commit
  pub judged : (k : ℕ) → kind_judged k ≡ member k (2 ∷ 5 ∷ [])
  pub read_granted : granted_kind 7 ≡ 2
  pub commit_granted : granted_kind 8 ≡ 5
  -- a judged read moves the moment; it is set by that, by begin, by commit and by post
  pub moves_moment : (k : ℕ) → kind_moves_moment k ≡ member k (2 ∷ [])
  pub sets_moment : (k : ℕ) → kind_sets_moment k ≡ member k (1 ∷ 2 ∷ 5 ∷ 9 ∷ [])
  -- cell is used in 2, 3, 4, 7, 9, value in 2, 3, 4, 9
  pub has_cell : (k : ℕ) → kind_has_cell k ≡ member k (2 ∷ 3 ∷ 4 ∷ 7 ∷ 9 ∷ [])
  pub has_value : (k : ℕ) → kind_has_value k ≡ member k (2 ∷ 3 ∷ 4 ∷ 9 ∷ [])

-- records, days and logs read back
pub record LogReadsBack : Type 0 where
  -- a record comes back from its bytes, and 16 bytes from their record
  pub record_back : (r : Record) → Proper r → decode (encode r) ≡ r
  pub bytes_back : (bytes : List ℕ) → length bytes ≡ record_bytes → AreBytes bytes → encode (decode bytes) ≡ bytes
  -- a day comes back from its log as it stands, and a well laid out log from its day
  pub day_back : (day : List Record) → AllProper day → day_of (standing day) (records_in (standing day)) ≡ day
  pub log_back : (z : Size) (log : List ℕ) → AreBytes log → well_laid_out z log ≡ true → standing (day_of log (records_in log)) ≡ log
  -- a day that the walk goes through stands in a well laid out log
  pub day_laid_out : (z : Size) (day : List Record) → walks z day ≡ true → length day ≤ most_records → AllProper day → well_laid_out z (standing day) ≡ true

-- two results of a call are equal
abbrev pub ResultsUnique : Type 0
ResultsUnique = (z : Size) (l : Lending) (c : Call) (s : State) (one other : Outcome) → one ≡ issued z l c s → other ≡ issued z l c s → one ≡ other

-- a refusal answers its number and nothing else, and changes nothing
pub record ChangesNothing (s : State) (o : Outcome) : Type 0 where
  pub no_answer : o.answer ≡ 0
  pub no_order : o.order ≡ []
  pub nothing_shown : o.shown ≡ empty
  pub state_stays : o.after ≡ s
  pub nothing_added : o.entry ≡ nothing

-- a call that only looks: the state stays and nothing is added
abbrev pub Looks : State → Outcome → Type 0
Looks s o = (o.after ≡ s) × (o.entry ≡ nothing)

pub record RefusalsChangeNothing : Type 0 where
  -- a refusal other than 9, whatever the call, the books and the buffers
  pub every_call : (z : Size) (l : Lending) (c : Call) (s : State) → (issued z l c s).number ≢ granted → (issued z l c s).number ≢ conflict → ChangesNothing s (issued z l c s)
  -- a show that shows nothing, whichever number the read gave
  pub showing : (z : Size) (l : Lending) (given h c : ℕ) (s : State) → (issued z l (Show given h c) s).number ≢ granted → ChangesNothing s (issued z l (Show given h c) s)
  -- order and show leave the state and the log, granted too
  pub looking : (z : Size) (l : Lending) (given h c : ℕ) (s : State) → Looks s (issued z l (Order h) s) × Looks s (issued z l (Show given h c) s)
  -- a machine stays as it is where a call changes nothing
  pub machine_stays : (m : Machine) (o : Outcome) → ChangesNothing m.state o → after_call m o ≡ m

-- Conflict ends the transaction at place i, frees its place and adds one record of the kind; it answers nothing else, and nothing else changes
pub record TurnsBack (s : State) (kind i c : ℕ) (o : Outcome) : Type 0 where
  pub no_answer : o.answer ≡ 0
  pub no_order : o.order ≡ []
  pub nothing_shown : o.shown ≡ empty
  pub place_freed : o.after.books ≡ with_place s.books i (freed (place_at s.books i))
  pub table_stays : o.after.table ≡ s.table
  pub drafts_stay : o.after.drafts ≡ s.drafts
  pub one_record : o.entry ≡ adds (record_at kind i (place_at s.books i) c no_value)

-- the call c, of the handle h, meets Conflict exactly if none of its reasons applies and, with itself counted as granted, the pairs contain a cycle
pub record JudgedConflict (z : Size) (l : Lending) (s : State) (c : Call) (h : ℕ) (j : Judged) : Type 0 where
  pub exactly : ((issued z l c s).number ≡ conflict) ↔ ((first_reason (reasons_of z l c s) ≡ granted) × HasCycle z (books_granted s.books (place_of h) j) (place_of h))
  pub turns_back : (issued z l c s).number ≡ conflict → TurnsBack s j.back (place_of h) j.cell (issued z l c s)

-- Conflict comes at the judged calls, and at no other call; but a show hands on the number that it is given
pub record Conflicts : Type 0 where
  pub at_judged : (z : Size) (l : Lending) (s : State) (c : Call) (h : ℕ) (j : Judged) → IsJudged z (owns s.books) s c h j → JudgedConflict z l s c h j
  pub at_no_other : (z : Size) (l : Lending) (s : State) (c : Call) → (issued z l c s).number ≡ conflict
      → ((h : ℕ) × (j : Judged) × IsJudged z (owns s.books) s c h j) ⊎ ((h cell : ℕ) × (c ≡ Show conflict h cell))

-- the list takes, again and again, among those of the company with nobody left before them, the one with the lowest begin record
abbrev pub TakesLowestBegin : Size → Books → ℕ → List ℕ → Type 0
TakesLowestBegin z b i = TakesLowest z.places (stands_before z b) (λ k. (place_at b k).begin) (company z b i)

-- the given order of the transaction at place i
pub record GivenOrder (z : Size) (b : Books) (i : ℕ) : Type 0 where
  -- the test says that the pairs contain a cycle
  pub cycle_told : (has_cycle z b i ≡ true) ↔ HasCycle z b i
  -- it gives everybody exactly if there is no cycle
  pub everybody : (HasCycle z b i → ⊥) ↔ ((k : ℕ) → k < z.places → company z b i k ≡ true → member k (given_places z b i) ≡ true)
  -- it gives nobody else, and nobody twice
  pub nobody_else : (k : ℕ) → member k (given_places z b i) ≡ true → (k < z.places) × (company z b i k ≡ true)
  pub nobody_twice : distinct (given_places z b i) ≡ true
  -- it keeps every pair
  pub pairs_kept : keeps (stands_before z b) (given_places z b i) ≡ true
  -- it takes the lowest begin record each time, and in sound books is the only one that does
  pub takes_lowest : TakesLowestBegin z b i (given_places z b i)
  pub only_one : Sound z b → i < z.places → is_held (place_at b i) ≡ true → (order : List ℕ) → TakesLowestBegin z b i order → order ≡ given_places z b i

abbrev pub GivenOrders : Type 0
GivenOrders = (z : Size) (b : Books) (i : ℕ) → GivenOrder z b i
