-- `cells::lay::lay` meets its contract. The loop's invariant: the drafts are laid over the first c cells, and the length stays.
-- Assumes nothing.
use mathlib.Core.Path.{◌≡◌}
use mathlib.Core.Bool.{Bool, false, cond}
use mathlib.Core.List.{List}
use Prim.Native.Nat.{ℕ}
use lib.ListN.{length, get_or}
use Rattle.basics.specs.Below.{run_below}
use Rattle.rules.specs.declared.Size.{Size}
use Rattle.rules.specs.Cells.{draft_of, with_cell}
use Rattle.cells.proofs.lay.lay.Given as goal

-- what becomes of a table at one cell
abbrev pub at_cell : Size → List Bool → List ℕ → ℕ → ℕ → List ℕ → List ℕ
at_cell z written drafts i c table = cond (get_or written c false) (with_cell c (draft_of z drafts i c) table) table

abbrev pub invariant-loop-c : goal.invariant-loop-c
invariant-loop-c l = (length l.table ≡ length l.initial.table) × (l.table ≡ run_below (at_cell l.z.size l.written l.drafts l.i) l.c l.initial.table)
