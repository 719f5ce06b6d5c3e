-- What acceptance asks of a list, told record by record in the order of the log: the pairs that arise with a record, the table as the listed
-- transactions leave it, and who commits unlisted before the moment. Definitions only; their laws are in PairsInTime, ReadsInTime and
-- CompanyInTime, and that they say what `accepted` says is in Replayed.
use Prim.Native.Nat.{ℕ}
use mathlib.Core.Bool.{Bool, true, not, cond, ◌&&◌, ◌||◌}
use mathlib.Core.List.{List, [], ◌∷◌}
use lib.Dec.{ltb, eqb}
use Rattle.basics.specs.Below.{any_below}
use Rattle.basics.specs.Lists.{all_in, any_in, member, distinct, keeps}
use Rattle.basics.specs.Bytes.{same}
use Rattle.rules.specs.Sizes.{Size}
use Rattle.rules.specs.Cells.{cell_of}
use Rattle.rules.specs.Kinds.{kind_starts, kind_commits, kind_judged_read, kind_own_read, kind_sets_moment}
use Rattle.rules.specs.Day.{Event, commit_of, committed, moment_of, wrote_cell, written_value}

-- ---- pairs

-- K made a judged read of the cell
unfoldable pub read_cell : List Event → ℕ → ℕ → Bool
read_cell es k c = any_in (λ e. eqb e.who k && (kind_judged_read e.kind && eqb e.cell c)) es

-- K committed the cell
unfoldable pub committed_cell : List Event → ℕ → ℕ → Bool
committed_cell es k c = committed es k && wrote_cell es k c

-- with event e, K comes to stand before its transaction: real time as it starts, write then read as it reads, and as it commits
-- write then write and read then write
unfoldable pub arises : Size → List Event → Event → ℕ → Bool
arises z earlier e k =
    (kind_starts e.kind && committed earlier k)
    || ((kind_judged_read e.kind && committed_cell earlier k e.cell)
    || (kind_commits e.kind && any_below (λ c. wrote_cell (e ∷ earlier) e.who c && (committed_cell earlier k c || read_cell earlier k c)) z.cells))

-- no listed transaction comes to stand before one that is listed earlier
unfoldable pub pairs_in_time : Size → List ℕ → List Event → Bool
pairs_in_time z order [] = true
pairs_in_time z order (e ∷ earlier) = pairs_in_time z order earlier && keeps (λ k m. eqb e.who m && arises z earlier e k) order

-- ---- values

-- the value last committed to a cell by a listed transaction; else the opening value
unfoldable pub table_by : List ℕ → List ℕ → List Event → ℕ → List ℕ
table_by opening order [] c = cell_of opening c
table_by opening order (e ∷ earlier) c =
    let older = table_by opening order earlier c in
    cond (member e.who order && (kind_commits e.kind && wrote_cell (e ∷ earlier) e.who c)) (written_value (e ∷ earlier) e.who c) older

-- every judged read of a listed transaction has the value of the table at its time
unfoldable pub reads_in_time : List ℕ → List ℕ → List Event → Bool
reads_in_time opening order [] = true
reads_in_time opening order (e ∷ earlier) =
    reads_in_time opening order earlier
    && cond (member e.who order && kind_judged_read e.kind) (same e.value (table_by opening order earlier e.cell)) true

-- ---- company

-- somebody who is not listed has committed
unfoldable pub has_stranger : List ℕ → List Event → Bool
has_stranger order es = any_in (λ e. kind_commits e.kind && not (member e.who order)) es

-- nobody who is not listed committed before the moment of t
unfoldable pub no_stranger : ℕ → List ℕ → List Event → Bool
no_stranger t order [] = true
no_stranger t order (e ∷ earlier) =
    no_stranger t order earlier && cond (eqb e.who t && kind_sets_moment e.kind) (not (has_stranger order earlier)) true

-- a listed transaction is t or committed before the moment of t
unfoldable pub in_company : List Event → ℕ → ℕ → Bool
in_company es t k = eqb k t || (committed es k && ltb (commit_of es k) (moment_of es t))

-- ---- all of it, one event after the other

-- event e, behind the earlier ones, breaks nothing
unfoldable pub step_right : Size → List ℕ → ℕ → List ℕ → List Event → Event → Bool
step_right z opening t order earlier e =
    cond (eqb e.who t && kind_sets_moment e.kind) (not (has_stranger order earlier)) true
    && (keeps (λ k m. eqb e.who m && arises z earlier e k) order
    && (cond (member e.who order && kind_judged_read e.kind) (same e.value (table_by opening order earlier e.cell)) true
    && cond (member e.who order && kind_own_read e.kind) (same e.value (written_value earlier e.who e.cell)) true))

unfoldable pub replays : Size → List ℕ → ℕ → List ℕ → List Event → Bool
replays z opening t order [] = true
replays z opening t order (e ∷ earlier) = replays z opening t order earlier && step_right z opening t order earlier e

-- the list is accepted, told in time
unfoldable pub accepted_in_time : Size → List ℕ → List Event → ℕ → List ℕ → Bool
accepted_in_time z opening es t order =
    distinct order && (member t order && (all_in (in_company es t) order && replays z opening t order es))
