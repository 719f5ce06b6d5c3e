-- Whether a record of a listed transaction is explained by the list, told on what a replay keeps.
use Rattle.std.specs.Prelude.{ℕ, ◌*◌, ◌-◌, ◌≤◌, ◌<◌, ◌≡◌, Bool, true, not, cond, ◌&&◌, Option, Some, None, IfSome, List, get_or}
use Rattle.basics.specs.Bytes.{part, same}
use Rattle.rules.specs.declared.Record.{Record}
use Rattle.rules.specs.declared.Size.{Size}
use Rattle.rules.specs.Sizes.{cell_bytes, record_bytes, width}
use Rattle.rules.specs.Cells.{cell_of}
use Rattle.rules.specs.Kinds.{kind_judged_read, kind_own_read, kind_sets_moment}
use Rattle.check_replay.specs.declared.state.Listed.{Listed}
use Rattle.check_replay.specs.declared.state.Replay.{Replay}
use Rattle.check_replay.specs.Kept.{nobody, wrote_in}
use Rattle.check_later.specs.declared.later.Uses.TheVariants.{Commits}
use Rattle.check_later.specs.Later.{used_later, overtaken}

-- ---- what is asked

-- a record that is named is one of the first n
abbrev pub PastRecord : ℕ → Option ℕ → Type 0
PastRecord n o = IfSome o (λ w. (1 ≤ w) × (w ≤ n))

-- those of an array are, and those of a listed transaction's latest writes
abbrev pub Past : ℕ → List (Option ℕ) → Type 0
Past n xs = (i : ℕ) → PastRecord n (get_or xs i None)

abbrev pub PastWrites : ℕ → Listed → Type 0
PastWrites n own = (c : ℕ) → PastRecord n (wrote_in own c)

-- those that are kept are
abbrev pub PastOnly : ℕ → Replay → Type 0
PastOnly n s = Past n s.table × ((i : ℕ) → PastWrites n (get_or s.listed i nobody))

-- a record's cell is within the arrays, and one of the table's where it is read
pub record CellRight (z : Size) (r : Record) : Type 0 where
  pub within : r.cell < width
  pub judged_read : kind_judged_read r.kind ≡ true → r.cell < z.cells
  pub own_read : kind_own_read r.kind ≡ true → r.cell < z.cells

-- ---- values

-- the value in record number n of a log
unfoldable pub value_at : List ℕ → ℕ → List ℕ
value_at log n = part (record_bytes * n - cell_bytes) cell_bytes log

-- the value in the record that is named or, where none is, of the cell in the opening table
abbrev pub source : List ℕ → List ℕ → Option ℕ → ℕ → List ℕ
source opening log None c = cell_of opening c
source opening log (Some w) c = value_at log w

-- ---- a record

-- a judged read: nobody listed later has committed the cell, and the value is the table's
unfoldable pub read_explained : List ℕ → List ℕ → Replay → ℕ → ℕ → ℕ → ℕ → Bool
read_explained opening log s c n at count =
    not (used_later s.listed c Commits at count) && same (value_at log n) (source opening log (get_or s.table c None) c)

-- an own read: the value is that of the transaction's latest write of the cell
unfoldable pub own_explained : List ℕ → List ℕ → Listed → ℕ → ℕ → Bool
own_explained opening log own c n = same (value_at log n) (source opening log (wrote_in own c) c)

-- record number n, r, of the transaction listed at a position
unfoldable pub explained : Size → List ℕ → List ℕ → Replay → Record → ℕ → ℕ → ℕ → Bool → Bool
explained z opening log s r n at count named =
    not ((named && kind_sets_moment r.kind) && s.stranger)
    && cond (kind_judged_read r.kind) (read_explained opening log s r.cell n at count)
    (cond (kind_own_read r.kind) (own_explained opening log (get_or s.listed at nobody) r.cell n) (not (overtaken z s.listed r.kind r.cell at count)))
