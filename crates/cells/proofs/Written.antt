-- What a lent part leaves of the table and the drafts. Assumes nothing.
use mathlib.Core.Path.{◌≡◌, sym, ◌∙◌, ap}
use mathlib.Core.List.{List, ◌++◌}
use Prim.Native.Nat.{ℕ, ◌+◌, ◌-◌, ◌*◌}
use native.Mathlib.Omega.{arith}
use lib.ListN.{length, take, drop}
use Rattle.basics.specs.Bytes.{splice}
use Rattle.basics.proofs.Bytes.{splice_lent}
use Rattle.rules.specs.Sizes.{cell_bytes}
use Rattle.rules.specs.Cells.{with_cell}

-- a cell's bytes that were lent, and have come back as a value's
pub cell_written : (c : ℕ) (bytes value new : List ℕ) → new ≡ value → length new ≡ cell_bytes
    → take (cell_bytes * c) bytes ++ (new ++ drop (cell_bytes * c + cell_bytes - cell_bytes * c) (drop (cell_bytes * c) bytes)) ≡ with_cell c value bytes
unfolding with_cell
cell_written c bytes value new e l =
    let at = cell_bytes * c in
    sym (splice_lent at new bytes (at + cell_bytes) (omega arith)) ∙ ap (λ ys. splice at ys bytes) e
