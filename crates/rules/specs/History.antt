-- Source document 000, sections 2 to 4, in its words and its order: histories, real-time order, sub-histories, legal histories, conflict
-- order, definition 5 (conflict opacity), conflict local opacity and definition 1 (permissiveness).
-- A history is the list of its events, the newest first. It differs from 000 as document 01 does: values need not be unique, so a read is held
-- to the value that its last write left and not to some write of that value; a transaction may read what it wrote itself; the local
-- sub-history runs to the last judged moment.
use Rattle.std.specs.Prelude.{ℕ, ◌≡◌, ◌↔◌, ◌⊎◌, ◌≢◌, Bool, true, cond, ◌&&◌, ◌||◌, eqb}
use mathlib.Core.List.{List, [], ◌∷◌, ◌++◌, Memᴰ}
use Rattle.basics.specs.Lists.{member, distinct}
use Rattle.rules.specs.declared.Record.{Record}
use Rattle.rules.specs.Sizes.{Size}
use Rattle.rules.specs.Cells.{cell_of}
use Rattle.rules.specs.Kinds.{kind_commits, kind_conflict, kind_frees, kind_writes, kind_judged_read, kind_own_read, kind_has_value, granted_kind}
use Rattle.rules.specs.Layout.{walks}
use Rattle.rules.specs.Day.{Event, events, is_transaction, wrote_cell, written_value, company_of}
use Rattle.rules.specs.Checker.{accepted}
use Rattle.rules.specs.Runs.{AfterRuns}

-- ---- histories

-- e <_H f: e comes before f
pub record Before (h : List Event) (e f : Event) : Type 0 where
  pub newer : List Event
  pub older : List Event
  pub split : h ≡ newer ++ older
  pub first : Memᴰ e older
  pub second : Memᴰ f newer

-- an event of T_k
abbrev pub Of : List Event → ℕ → Event → Type 0
Of h k e = Memᴰ e h × (e.who ≡ k)

-- T_k is in txns(H)
abbrev pub Txn : List Event → ℕ → Type 0
Txn h k = (e : Event) × Of h k e

-- c_k: T_k commits with e
abbrev pub Commits : List Event → ℕ → Event → Type 0
Commits h k e = Of h k e × (kind_commits e.kind ≡ true)

-- r_k(x, v): a granted judged read
abbrev pub Reads : List Event → ℕ → ℕ → Event → Type 0
Reads h k x e = Of h k e × (kind_judged_read e.kind ≡ true) × (e.cell ≡ x)

-- x is in Wset(T_k)
abbrev pub Writes : List Event → ℕ → ℕ → Type 0
Writes h k x = (w : Event) × Of h k w × (kind_writes w.kind ≡ true) × (w.cell ≡ x)

-- T_k is complete: it committed or aborted
abbrev pub Complete : List Event → ℕ → Type 0
Complete h k = (e : Event) × Of h k e × ((kind_commits e.kind || kind_frees e.kind) ≡ true)

-- ---- real-time order

-- every event of T_k comes before every event of T_m
abbrev pub Wholly : List Event → ℕ → ℕ → Type 0
Wholly h k m = (e f : Event) → Of h k e → Of h m f → Before h e f

-- T_k precedes T_m in the real-time order: it is complete, and its last event comes before T_m's first
abbrev pub RealTime : List Event → ℕ → ℕ → Type 0
RealTime h k m = Txn h m × Complete h k × Wholly h k m

-- t-sequential: no two transactions overlap (one that is incomplete counts as aborted at its last event, as in the completion of 000)
abbrev pub TSequential : List Event → Type 0
TSequential h = (k m : ℕ) → Txn h k → Txn h m → k ≢ m → Wholly h k m ⊎ Wholly h m k

-- ---- sub-histories

-- H.subhist(R)
unfoldable pub subhist : (ℕ → Bool) → List Event → List Event
subhist among [] = []
subhist among (e ∷ earlier) = let rest = subhist among earlier in cond (among e.who) (e ∷ rest) rest

-- H|T
unfoldable pub only : ℕ → List Event → List Event
only k h = subhist (λ m. eqb m k) h

-- the local sub-history of T_t: its events and those of all who committed before its last judged moment
unfoldable pub local : List Event → ℕ → List Event
local h t = subhist (company_of h t) h

-- ---- legal histories

-- the value of lastWrite: of the latest commit in these events of one who writes x, the value that it wrote last; T_0 wrote the opening table
unfoldable pub last_write : List ℕ → List Event → ℕ → List ℕ
last_write opening [] x = cell_of opening x
last_write opening (e ∷ earlier) x =
    let older = last_write opening earlier x in
    cond (kind_commits e.kind && wrote_cell (e ∷ earlier) e.who x) (written_value (e ∷ earlier) e.who x) older

-- a statement of each event and those before it
abbrev pub EachEvent : (List Event → Event → Type 0) → List Event → Type 0
EachEvent P h = (newer earlier : List Event) (e : Event) → h ≡ newer ++ (e ∷ earlier) → P earlier e

-- valid: each read has a value of x that T_0 or one who commits before the read wrote
abbrev pub Valid : List ℕ → List Event → Type 0
Valid opening h =
    EachEvent (λ earlier e. kind_judged_read e.kind ≡ true
    → (e.value ≡ cell_of opening e.cell)
    ⊎ ((w c : Event) × Commits earlier w.who c × Of h w.who w × (kind_writes w.kind ≡ true) × (w.cell ≡ e.cell) × (w.value ≡ e.value))) h

-- legal: each read has the value of its last write, and each own read that of the transaction's own last write
abbrev pub Legal : List ℕ → List Event → Type 0
Legal opening h =
    EachEvent (λ earlier e.
    (kind_judged_read e.kind ≡ true → e.value ≡ last_write opening earlier e.cell)
    × (kind_own_read e.kind ≡ true → e.value ≡ written_value earlier e.who e.cell)) h

-- ---- conflict order

-- w-w order: c_k <_H c_m, and a cell that both write
abbrev pub WriteWrite : List Event → ℕ → ℕ → Type 0
WriteWrite h k m = (x : ℕ) × (e f : Event) × Commits h k e × Commits h m f × Before h e f × Writes h k x × Writes h m x

-- w-r order: c_k <_H r_m(x, v), and T_k writes x
abbrev pub WriteRead : List Event → ℕ → ℕ → Type 0
WriteRead h k m = (x : ℕ) × (e f : Event) × Commits h k e × Reads h m x f × Before h e f × Writes h k x

-- r-w order: r_k(x, v) <_H c_m, and T_m writes x
abbrev pub ReadWrite : List Event → ℕ → ℕ → Type 0
ReadWrite h k m = (x : ℕ) × (e f : Event) × Reads h k x e × Commits h m f × Before h e f × Writes h m x

abbrev pub ConflictOrder : List Event → ℕ → ℕ → Type 0
ConflictOrder h k m = (k ≢ m) × (WriteWrite h k m ⊎ (WriteRead h k m ⊎ ReadWrite h k m))

-- ---- definition 5

-- the same events, each transaction's in their own order
abbrev pub Equivalent : List Event → List Event → Type 0
Equivalent s h = (k : ℕ) → only k s ≡ only k h

-- S is a t-sequential legal history, equivalent to H, that respects its real-time order and its conflict order
pub record Serializes (opening : List ℕ) (h s : List Event) : Type 0 where
  pub t_sequential : TSequential s
  pub legal : Legal opening s
  pub equivalent : Equivalent s h
  pub real_time : (k m : ℕ) → RealTime h k m → RealTime s k m
  pub conflict_order : (k m : ℕ) → ConflictOrder h k m → ConflictOrder s k m

-- H is conflict opaque: valid, and some S is as above
abbrev pub CoOpaque : List ℕ → List Event → Type 0
CoOpaque opening h = Valid opening h × ((s : List Event) × Serializes opening h s)

-- conflict local opacity: each transaction's local sub-history is conflict opaque
abbrev pub LocallyOpaque : List ℕ → List Event → Type 0
LocallyOpaque opening h = (t : ℕ) → is_transaction h t ≡ true → CoOpaque opening (local h t)

-- ---- what `accepted` says

-- the list has just the transactions of H, without repeats
pub record ListsAll (h : List Event) (order : List ℕ) : Type 0 where
  pub once : distinct order ≡ true
  pub all : (k : ℕ) → (member k order ≡ true) ↔ Txn h k

-- the transactions of a list one after the other, each with its events in their order
unfoldable pub in_turn : List Event → List ℕ → List Event
in_turn h [] = []
in_turn h (k ∷ later) = in_turn h later ++ only k h

pub record AcceptedSays : Type 0 where
  -- an accepted list, its transactions one after the other, is a t-sequential legal history as definition 5 asks for it, and no other list is
  pub of_list : (z : Size) (opening : List ℕ) (day : List Record) (t : ℕ) (order : List ℕ) → walks z day ≡ true → is_transaction (events day) t ≡ true
      → let h = local (events day) t in (accepted z opening (events day) t order ≡ true) ↔ (ListsAll h order × Serializes opening h (in_turn h order))
  -- some list is accepted exactly if the local sub-history is conflict opaque
  pub of_history : (z : Size) (opening : List ℕ) (day : List Record) (t : ℕ) → walks z day ≡ true → is_transaction (events day) t ≡ true
      → CoOpaque opening (local (events day) t) ↔ ((order : List ℕ) × (accepted z opening (events day) t order ≡ true))

-- ---- definition 1

-- the record of a call that met Conflict, turned into that of a granted one, with some value where the kind has one
abbrev pub as_granted : Record → List ℕ → Record
as_granted r value =
    let kind = granted_kind r.kind in
    record { kind = kind; place = r.place; cell = r.cell; spare = r.spare; turn = r.turn; gap = r.gap; value = cond (kind_has_value kind) value r.value }

-- H is permissive with respect to conflict local opacity: it has it, and with no Conflict turned into a grant would it, up to there
pub record Permissive (opening : List ℕ) (day : List Record) : Type 0 where
  pub has_it : LocallyOpaque opening (events day)
  pub no_grant : (newer earlier : List Record) (r : Record) (value : List ℕ) → day ≡ newer ++ (r ∷ earlier) → kind_conflict r.kind ≡ true
      → LocallyOpaque opening (events (as_granted r value ∷ earlier)) → ⊥

-- so is every day that a run writes
abbrev pub DaysPermissive : Type 0
DaysPermissive = AfterRuns (λ z m. Permissive m.opening m.day)
