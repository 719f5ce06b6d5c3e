-- Who is listed later than a position, and has already done what would put it before the one that stands there, told on the commits,
-- the writes and the judged reads that a replay keeps.
use Rattle.std.specs.Prelude.{ℕ, Bool, true, false, cond, ◌&&◌, ◌||◌, is_some, List, get_or, ltb}
use Rattle.basics.specs.Below.{any_below}
use Rattle.rules.specs.declared.Size.{Size}
use Rattle.rules.specs.Kinds.{kind_posts, kind_starts, kind_commits}
use Rattle.check_replay.specs.declared.state.Listed.{Listed}
use Rattle.check_replay.specs.Kept.{nobody, wrote_in}
use Rattle.check_later.specs.declared.later.Uses.{Uses}
use Rattle.check_later.specs.declared.later.Uses.TheVariants.{Commits, CommitsAndReads}

-- whether judged reads count
abbrev pub reads_count : Uses → Bool
reads_count Commits = false
reads_count CommitsAndReads = true

-- a listed transaction has committed the cell or, where reads count, made a judged read of it
abbrev pub used : Uses → ℕ → Listed → Bool
used uses c own = (is_some own.commit && is_some (wrote_in own c)) || (reads_count uses && get_or own.read c false)

-- somebody listed later has committed
unfoldable pub committed_later : List Listed → ℕ → ℕ → Bool
committed_later listed at count = any_below (λ i. ltb at i && is_some (get_or listed i nobody).commit) count

-- somebody listed later has used the cell
unfoldable pub used_later : List Listed → ℕ → Uses → ℕ → ℕ → Bool
used_later listed c uses at count = any_below (λ i. ltb at i && used uses c (get_or listed i nobody)) count

-- the one at the position has written the cell, and somebody listed later has used it
abbrev pub written_used : List Listed → ℕ → ℕ → ℕ → Bool
written_used listed at count c = is_some (wrote_in (get_or listed at nobody) c) && used_later listed c CommitsAndReads at count

-- and so with one of the cells
unfoldable pub any_used_later : Size → List Listed → ℕ → ℕ → Bool
any_used_later z listed at count = any_below (written_used listed at count) z.cells

-- with a record of the kind, somebody who comes to stand before the one at the position
unfoldable pub overtaken : Size → List Listed → ℕ → ℕ → ℕ → ℕ → Bool
overtaken z listed kind c at count =
    cond (kind_posts kind) (committed_later listed at count || used_later listed c CommitsAndReads at count)
    (cond (kind_starts kind) (committed_later listed at count)
    (cond (kind_commits kind) (any_used_later z listed at count) false))
