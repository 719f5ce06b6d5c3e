-- Laws of cells and drafts: what was put is found, elsewhere nothing changed, lengths and bytes stay; and of the drafts laid over a table.
-- Assumes nothing.
use Prim.Native.Nat.{ℕ, zero, suc, ◌+◌, ◌*◌, ◌≤◌, ◌<◌}
use mathlib.Core.Path.{◌≡◌, refl, sym, ◌∙◌, ap}
use mathlib.Core.Logic.{◌≢◌}
use mathlib.Core.Bool.{Bool, true, false, cond}
use mathlib.Core.List.{List}
use lib.ListN.{length}
use native.Mathlib.Nat.{suc-mul, mul-le-mul_right}
use native.Mathlib.Decide.{dec_lt}
use native.Mathlib.Omega.{arith}
use Rattle.basics.specs.Below.{run_below}
use Rattle.basics.specs.Bytes.{AreBytes}
use Rattle.basics.proofs.Bools.{split, below_more, cond_passes, cond_fails}
use Rattle.basics.proofs.Bytes.{bytes_part, bytes_splice, part_length, splice_length, part_splice, part_before, part_after}
use Rattle.rules.specs.Sizes.{Size, cell_bytes, drafts_bytes}
use Rattle.rules.specs.Cells.{cell_of, with_cell, draft_cell, draft_of, with_draft, laid_over}

-- ---- cells

-- so many cells
abbrev HasCells : ℕ → List ℕ → Type 0
HasCells n bytes = length bytes ≡ cell_bytes * n

module _ (n : ℕ) (bytes : List ℕ) (whole : HasCells n bytes) (c : ℕ) (there : c < n) where
  -- a cell has 8 bytes
  pub cell_length : length (cell_of bytes c) ≡ cell_bytes
  unfolding cell_of
  cell_length = part_length (cell_bytes * c) cell_bytes bytes (omega arith)

  module _ (value : List ℕ) (eight : length value ≡ cell_bytes) where
    -- as many cells as before, the cell with its value, the others as they were
    pub with_cell_length : HasCells n (with_cell c value bytes)
    unfolding with_cell
    with_cell_length = splice_length (cell_bytes * c) value bytes (omega arith) ∙ whole

    pub cell_put : cell_of (with_cell c value bytes) c ≡ value
    unfolding with_cell cell_of
    cell_put = part_splice (cell_bytes * c) value bytes (omega arith) cell_bytes eight

    pub cell_elsewhere : (d : ℕ) → d ≢ c → cell_of (with_cell c value bytes) d ≡ cell_of bytes d
    unfolding with_cell cell_of
    cell_elsewhere d other =
        elim (dec_lt d c) [
          | yes k ↦ part_before (cell_bytes * c) value bytes (omega arith) (cell_bytes * d) cell_bytes (omega arith)
          | no k ↦ part_after (cell_bytes * c) value bytes (omega arith) (cell_bytes * d) cell_bytes (omega arith)
        ]

-- a cell is in bytes, and what is put in bytes leaves bytes
pub cell_in_bytes : (bytes : List ℕ) (c : ℕ) → AreBytes bytes → AreBytes (cell_of bytes c)
unfolding cell_of
cell_in_bytes bytes c h = bytes_part (cell_bytes * c) cell_bytes bytes h

pub with_cell_in_bytes : (c : ℕ) (value bytes : List ℕ) → AreBytes value → AreBytes bytes → AreBytes (with_cell c value bytes)
unfolding with_cell
with_cell_in_bytes c value bytes h k = bytes_splice (cell_bytes * c) value bytes h k

-- ---- drafts

module _ (z : Size) (i c : ℕ) (cell : c < z.cells) where
  -- a place's draft of a cell is among all drafts
  draft_inside : i < z.places → draft_cell z i c < z.places * z.cells
  draft_inside place =
      let before : suc i * z.cells ≤ z.places * z.cells = mul-le-mul_right z.cells place in
      let next : suc i * z.cells ≡ i * z.cells + z.cells = suc-mul i z.cells in
      omega arith

  -- it is before those of all later places
  draft_before : (j d : ℕ) → i < j → draft_cell z i c < draft_cell z j d
  draft_before j d later =
      let before : suc i * z.cells ≤ j * z.cells = mul-le-mul_right z.cells later in
      let next : suc i * z.cells ≡ i * z.cells + z.cells = suc-mul i z.cells in
      omega arith

-- drafts of two places stand apart, and so do drafts of two cells
places_apart : (z : Size) (i c j d : ℕ) → c < z.cells → d < z.cells → i ≢ j → draft_cell z i c ≢ draft_cell z j d
places_apart z i c j d h k other e =
    elim (dec_lt i j) [
      | yes l ↦ omega (arith, draft_before z i c h j d l, e)
      | no l ↦ omega (arith, draft_before z j d k i c (omega arith), e)
    ]

cells_apart : (z : Size) (i c d : ℕ) → c ≢ d → draft_cell z i c ≢ draft_cell z i d
cells_apart z i c d other e = other (omega arith)

module _ (z : Size) (drafts : List ℕ) (whole : length drafts ≡ drafts_bytes z) (i c : ℕ) (place : i < z.places) (cell : c < z.cells) where
  abbrev all : ℕ
  all = z.places * z.cells

  -- a draft has 8 bytes
  pub draft_length : length (draft_of z drafts i c) ≡ cell_bytes
  unfolding draft_of
  draft_length = cell_length all drafts whole (draft_cell z i c) (draft_inside z i c cell place)

  module _ (value : List ℕ) (eight : length value ≡ cell_bytes) where
    -- as many drafts as before, the draft with its value, those of other places and of other cells as they were
    pub with_draft_length : length (with_draft z i c value drafts) ≡ drafts_bytes z
    unfolding with_draft
    with_draft_length = with_cell_length all drafts whole (draft_cell z i c) (draft_inside z i c cell place) value eight

    pub draft_put : draft_of z (with_draft z i c value drafts) i c ≡ value
    unfolding with_draft draft_of
    draft_put = cell_put all drafts whole (draft_cell z i c) (draft_inside z i c cell place) value eight

    pub draft_of_other : (j d : ℕ) → d < z.cells → j ≢ i → draft_of z (with_draft z i c value drafts) j d ≡ draft_of z drafts j d
    unfolding with_draft draft_of
    draft_of_other j d h other =
        cell_elsewhere all drafts whole (draft_cell z i c) (draft_inside z i c cell place) value eight (draft_cell z j d)
        (places_apart z j d i c h cell other)

    pub draft_elsewhere : (d : ℕ) → d ≢ c → draft_of z (with_draft z i c value drafts) i d ≡ draft_of z drafts i d
    unfolding with_draft draft_of
    draft_elsewhere d other =
        cell_elsewhere all drafts whole (draft_cell z i c) (draft_inside z i c cell place) value eight (draft_cell z i d) (cells_apart z i d c other)

-- a draft is in bytes, and what is put in bytes leaves bytes
pub draft_in_bytes : (z : Size) (drafts : List ℕ) (i c : ℕ) → AreBytes drafts → AreBytes (draft_of z drafts i c)
unfolding draft_of
draft_in_bytes z drafts i c h = cell_in_bytes drafts (draft_cell z i c) h

pub with_draft_in_bytes : (z : Size) (i c : ℕ) (value drafts : List ℕ) → AreBytes value → AreBytes drafts → AreBytes (with_draft z i c value drafts)
unfolding with_draft
with_draft_in_bytes z i c value drafts h k = with_cell_in_bytes (draft_cell z i c) value drafts h k

-- ---- drafts laid over a table

module _ (written : ℕ → Bool) (draft : ℕ → List ℕ) (table : List ℕ) where
  -- laid over the first k cells
  abbrev laid : ℕ → List ℕ
  laid k = run_below (λ c below. cond (written c) (with_cell c (draft c) below) below) k table

  -- one cell more: a written one takes its draft, another stays
  laid_written : (k : ℕ) → written k ≡ true → laid (suc k) ≡ with_cell k (draft k) (laid k)
  unfolding run_below
  laid_written k w = cond_passes _ _ w

  laid_unwritten : (k : ℕ) → written k ≡ false → laid (suc k) ≡ laid k
  unfolding run_below
  laid_unwritten k w = cond_fails _ _ w

  -- the bytes stay bytes
  laid_bytes : ((c : ℕ) → AreBytes (draft c)) → AreBytes table → (k : ℕ) → AreBytes (laid k)
  unfolding run_below
  laid_bytes h t zero = t
  laid_bytes h t (suc k) =
      let before = laid_bytes h t k in
      split (written k) (λ w. rw w (with_cell_in_bytes k (draft k) (laid k) (h k) before)) (λ w. rw w before)

  module _ (n : ℕ) (whole : HasCells n table) (eight : (c : ℕ) → c < n → length (draft c) ≡ cell_bytes) where
    -- as many cells as before
    laid_length : (k : ℕ) → k ≤ n → HasCells n (laid k)
    unfolding run_below
    laid_length zero h = whole
    laid_length (suc k) h =
        let before = laid_length k (omega arith) in
        split (written k) (λ w. rw w (with_cell_length n (laid k) before k (omega arith) (draft k) (eight k (omega arith)))) (λ w. rw w before)

    -- a step at one cell leaves the others
    laid_elsewhere : (k d : ℕ) → k < n → d ≢ k → cell_of (laid (suc k)) d ≡ cell_of (laid k) d
    laid_elsewhere k d h other =
        split (written k)
        (λ w.
        ap (λ (bytes : List ℕ). cell_of bytes d) (laid_written k w)
        ∙ cell_elsewhere n (laid k) (laid_length k (omega arith)) k h (draft k) (eight k h) d other)
        (λ w. ap (λ (bytes : List ℕ). cell_of bytes d) (laid_unwritten k w))

    -- a cell that is not reached stays
    laid_past : (k d : ℕ) → k ≤ n → k ≤ d → cell_of (laid k) d ≡ cell_of table d
    unfolding run_below
    laid_past zero d h j = refl
    laid_past (suc k) d h j = laid_elsewhere k d (omega arith) (λ e. omega arith) ∙ laid_past k d (omega arith) (omega arith)

    -- one that is reached has its draft if it is written, else it stays
    laid_at : (k d : ℕ) → k ≤ n → d < k → cell_of (laid k) d ≡ cond (written d) (draft d) (cell_of table d)
    laid_at zero d h j = absurd (omega arith)
    laid_at (suc k) d h j =
        below_more {n = k} j
        (λ b. laid_elsewhere k d (omega arith) (λ e. omega arith) ∙ laid_at k d (omega arith) b)
        (λ e. ap (λ (x : ℕ). cell_of (laid (suc k)) x) e ∙ last ∙ ap (λ (x : ℕ). cond (written x) (draft x) (cell_of table x)) (sym e))
      where
        last : cell_of (laid (suc k)) k ≡ cond (written k) (draft k) (cell_of table k)
        last =
            split (written k)
            (λ w.
            ap (λ (bytes : List ℕ). cell_of bytes k) (laid_written k w)
            ∙ cell_put n (laid k) (laid_length k (omega arith)) k (omega arith) (draft k) (eight k (omega arith))
            ∙ sym (cond_passes _ _ w))
            (λ w.
            ap (λ (bytes : List ℕ). cell_of bytes k) (laid_unwritten k w)
            ∙ laid_past k k (omega arith) (omega arith)
            ∙ sym (cond_fails _ _ w))

-- over all cells of a table: bytes stay bytes, and as many cells as before
module _ (z : Size) (written : ℕ → Bool) (draft : ℕ → List ℕ) (table : List ℕ) where
  pub laid_over_bytes : ((c : ℕ) → AreBytes (draft c)) → AreBytes table → AreBytes (laid_over z written draft table)
  unfolding laid_over
  laid_over_bytes h t = laid_bytes written draft table h t z.cells

  module _ (whole : HasCells z.cells table) (eight : (c : ℕ) → c < z.cells → length (draft c) ≡ cell_bytes) where
    pub laid_over_length : HasCells z.cells (laid_over z written draft table)
    unfolding laid_over
    laid_over_length = laid_length written draft table z.cells whole eight z.cells (omega arith)

    -- a written cell has its draft, another stays
    pub laid_over_at : (c : ℕ) → c < z.cells → cell_of (laid_over z written draft table) c ≡ cond (written c) (draft c) (cell_of table c)
    unfolding laid_over
    laid_over_at c h = laid_at written draft table z.cells whole eight z.cells c (omega arith) h
