-- The table and the drafts as bytes. A cell has 8 bytes; the drafts hold every place's draft of every cell, place by place.
use Rattle.std.specs.Prelude.{ℕ, ◌+◌, ◌*◌, Bool, cond, List}
use Rattle.basics.specs.Below.{run_below}
use Rattle.basics.specs.Bytes.{part, splice}
use Rattle.rules.specs.Sizes.{Size, cell_bytes}

-- the 8 bytes of a cell
unfoldable pub cell_of : List ℕ → ℕ → List ℕ
cell_of table c = part (cell_bytes * c) cell_bytes table

-- the table with a value in a cell
unfoldable pub with_cell : ℕ → List ℕ → List ℕ → List ℕ
with_cell c value table = splice (cell_bytes * c) value table

-- where a place's draft of a cell stands, counted in cells
abbrev pub draft_cell : Size → ℕ → ℕ → ℕ
draft_cell z i c = i * z.cells + c

-- the 8 bytes of a place's draft of a cell
unfoldable pub draft_of : Size → List ℕ → ℕ → ℕ → List ℕ
draft_of z drafts i c = cell_of drafts (draft_cell z i c)

-- the drafts with a value in a place's draft of a cell
unfoldable pub with_draft : Size → ℕ → ℕ → List ℕ → List ℕ → List ℕ
with_draft z i c value drafts = with_cell (draft_cell z i c) value drafts

-- a draft set laid over a table: the written cells have the draft's values, the others stay
unfoldable pub laid_over : Size → (ℕ → Bool) → (ℕ → List ℕ) → List ℕ → List ℕ
laid_over z written draft table = run_below (λ c below. cond (written c) (with_cell c (draft c) below) below) z.cells table
