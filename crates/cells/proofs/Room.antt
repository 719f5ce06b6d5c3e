-- A place's draft of a cell lies in the drafts. Assumes nothing.
use Prim.Native.Nat.{ℕ, ◌+◌, ◌*◌, ◌<◌, ◌≤◌}
use native.Mathlib.Nat.{mul-le-mul_right, suc-mul}
use native.Mathlib.Omega.{arith}
use Rattle.rules.specs.declared.Size.{Size}
use Rattle.rules.specs.Sizes.{cell_bytes, drafts_bytes}
use Rattle.rules.specs.Cells.{draft_cell}

-- the eight bytes of a place's draft of a cell are bytes of the drafts
pub draft_inside : (z : Size) {i c : ℕ} → i < z.places → c < z.cells → cell_bytes * draft_cell z i c + cell_bytes ≤ drafts_bytes z
draft_inside z {i} place cell = omega (arith, mul-le-mul_right z.cells place, suc-mul i z.cells)
